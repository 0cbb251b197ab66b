use Rattle.std.proofs.Common.{◌≡◌}
use Rattle.gc_layout.specs.Places.{owner_of}
use Rattle.gc_layout.proofs.PlacesLemmas.{address-owner}
use Rattle.gc_layout.proofs.places.Places.owner.Goals as goal

-- the owner of a mutator's part is that mutator
pub returns-then-is_address-clause-exact : goal.returns-then-is_address-clause-exact
returns-then-is_address-clause-exact c = λ m part there inside address.
    let owner : owner_of c.args.self.now c.args.a ≡ m = address-owner c.args.self.now m c.args.a part inside address in cc
