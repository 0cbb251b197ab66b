use Rattle.std.proofs.Common.{subst}
use Rattle.gc_bay.specs.Bay.{IsBay}
use Rattle.gc_bay.proofs.ExtentLemmas.{fresh-next}
use Rattle.gc_bay.proofs.bay.Bay.bump.Goals as goal

-- what was given are the next words of the half
pub returns-clause-fresh : goal.returns-clause-fresh
returns-clause-fresh c =
    let is : IsBay c.args.self.now = subst IsBay c.self.view_is c.self.invariant.bay in
    fresh-next c.args.self.now c.args.size c.in_ok-a.a is c.in_ok-a.ensures.address
