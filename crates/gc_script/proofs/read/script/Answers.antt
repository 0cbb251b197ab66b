use Rattle.std.proofs.Common.{sym, ◌∙◌}
use Rattle.gc_script.proofs.OneSpelling.{version-read}
use Rattle.gc_script.proofs.read.script.Goals as goal

pub new-requires-clause-read_back : goal.new-requires-clause-read_back
new-requires-clause-read_back c =
    version-read c.args.bytes.now c.in-Some.version.now _ _ c.in-Some.ensures.lines
    (rw c.as_slice.ensures at (sym c.eq.ensures ∙ c.if-eq.true)) c.in_ok-preamble-in-Some.ensures.parts
