use Rattle.gc_model.proofs.EveryStep.{history-sound}
use Rattle.gc_model.proofs.laws.each_name_is_an_objects.Goals as goal

pub returns : goal.returns
returns c = history-sound
