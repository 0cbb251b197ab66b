use Rattle.std.proofs.Common.{◌∙◌, ap, arith}
use Rattle.std.specs.Prelude.{slice_set}
use Rattle.gc_layout.specs.Head.{head_word}
use Rattle.gc_solo.proofs.Fresh.{vec-fresh}
use Rattle.gc_solo.proofs.heap.Heap.write_fresh.Goals as goal

pub returns-clause-written : goal.returns-clause-written
returns-clause-written c =
    let words = c.args.self.now.words in
    let header = c.word.ensures ∙ ap head_word c.fresh.ensures in
    let size = c.args.size in
    vec-fresh words.items c.deref_mut.result.now c.fill.new.self _ words.len c.args.address size _ c.args.ty c.args.in_page words.ok.0
    (omega arith) (omega arith)
    (c.deref_mut.ensures.value ∙ ap (slice_set words.items c.args.address) header) (c.fill.ensures.after (λ y same. same))
