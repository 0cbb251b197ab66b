-- what is read is the front of what is left
use Rattle.std.proofs.Common.{sym}
use Rattle.std.proofs.lemmas.List.{drop-drop, take-append-drop}
use Rattle.gc_io.proofs.unread.Unread.read.Goals as goal

pub returns-clause-bytes : goal.returns-clause-bytes
returns-clause-bytes c =
    let count = c.min-count.result in
    let rest = drop-drop count c.self.inside.start c.self.inside.bytes.items in
    rw (c.copy_front.ensures.copied, c.left-left.ensures, ← rest, c.self.view_is) (sym (take-append-drop count c.args.self.now))
