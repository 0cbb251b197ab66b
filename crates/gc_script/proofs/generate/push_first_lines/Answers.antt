use Rattle.gc_script.specs.Generated.{table_lines}
use Rattle.gc_script.proofs.ListLemmas.{flat_map-range_more}
use Rattle.gc_script.proofs.generate.push_first_lines.Goals as goal

pub loop-mutator-preserved : goal.loop-mutator-preserved
loop-mutator-preserved c =
    flat_map-range_more table_lines c.loop-mutator.mutator c.args.lines.now c.loop-mutator.lines c.push_calls.new.lines
    c.loop-mutator.invariant
    (rw c.register-r15.ensures at c.in_ok-push_calls.ensures)
