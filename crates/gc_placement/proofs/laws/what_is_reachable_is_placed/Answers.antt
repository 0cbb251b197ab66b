use Rattle.gc_placement.proofs.Names.{reachable-placed}
use Rattle.gc_placement.proofs.laws.what_is_reachable_is_placed.Goals as goal

pub returns : goal.returns
returns c = reachable-placed
