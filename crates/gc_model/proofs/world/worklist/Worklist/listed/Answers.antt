use Rattle.std.proofs.Common.{◌≡◌, ◌<◌, ℕ, IfSome, length, rules, slice_index}
use Rattle.gc_model.specs.Worklist.{IsListed}
use Rattle.gc_model.proofs.Worklist.{listed-there}
use Rattle.gc_model.proofs.world.worklist.Worklist.listed.Goals as goal

pub returns-clause-there : goal.returns-clause-there
returns-clause-there c =
    let listed : IsListed c.args.self.now = search rules in
    let is : IfSome c.copied.result (λ (number : ℕ). number ≡ slice_index c.args.self.now.listed c.args.index) = search rules in
    let below : IfSome c.copied.result (λ (number : ℕ). c.args.index < length c.args.self.now.listed) = search rules in
    listed-there c.args.self.now listed c.args.index c.copied.result is below
