use Rattle.gc_model.proofs.EveryStep.{history-typed}
use Rattle.gc_model.proofs.laws.each_object_is_well_typed.Goals as goal

pub returns : goal.returns
returns c = history-typed
