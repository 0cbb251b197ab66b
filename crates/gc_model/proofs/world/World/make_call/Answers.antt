use Rattle.std.proofs.Common.{◌∙◌, ap, sym, length}
use Rattle.gc_model.specs.Answer.{Answer}
use Rattle.gc_model.proofs.EveryStep.{effect-keeps}
use Rattle.gc_model.proofs.world.World.make_call.Goals as goal

-- each effect keeps the mutators
pub returns-in_default : goal.returns-in_default
returns-in_default c =
    let world = c.args.self.now.world in
    let made = c.make_other_call.ensures.made c.args.room in
    let same = effect-keeps c.args.self.now.types world c.args.t c.args.room c.args.c.now in
    record {
      types = c.make_other_call.ensures.types;
      made = made;
      mutators = sym (ap (λ (answer : Answer). length answer.world.mutators) made) ∙ same.mutators;
      no_memory = tt;
      only_new = tt;
      only_room = tt;
    }
