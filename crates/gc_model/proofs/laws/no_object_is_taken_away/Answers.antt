use Rattle.gc_model.proofs.EveryStep.{entry-keeps}
use Rattle.gc_model.proofs.laws.no_object_is_taken_away.Goals as goal

pub returns : goal.returns
returns c = entry-keeps
