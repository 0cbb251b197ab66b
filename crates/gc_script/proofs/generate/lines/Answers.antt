use Rattle.gc_script.specs.Generated.{first_lines, round_lines}
use Rattle.gc_script.proofs.ListLemmas.{flat_map-range_more}
use Rattle.gc_script.proofs.generate.lines.Goals as goal

pub loop-i-preserved : goal.loop-i-preserved
loop-i-preserved c =
    flat_map-range_more round_lines c.loop-i.i first_lines c.loop-i.lines c.push_round.new.lines c.loop-i.invariant
    c.in_ok-push_round.ensures
