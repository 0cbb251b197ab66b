-- The heap that was made shows the first world, and has no reports.
use Rattle.std.proofs.Common.{[], sym, subst}
use Rattle.gc_layout.specs.Places.{Layout}
use Rattle.gc_model.specs.World.{first_world}
use Rattle.gc_solo.specs.Kept.{ShowsBy, kept_of}
use Rattle.gc_solo.specs.Stands.{StandsFor}
use Rattle.gc_solo.proofs.Standing.{stands-none}
use Rattle.gc_solo.proofs.solo.Solo.make.Goals as goal

-- the heap stands for the empty history
stands : (c : goal.In_ok-make) → StandsFor (kept_of c.in_ok-make.field-0) []
stands c =
    let heap = c.in_ok-make.field-0 in
    let made = c.in_ok-make.ensures in
    let Shown : Layout → Type 0 = λ layout. ShowsBy (kept_of heap) made.shown.0 (first_world layout.mutators) in
    let shown : Shown heap.places = subst Shown (sym made.places) made.shown.1 in
    stands-none (kept_of heap) made.shown.0 shown made.reports

pub invariant_of-result : goal.invariant_of-result
invariant_of-result c = record { history = []; stands = stands c }

pub returns-clause-stands : goal.returns-clause-stands
returns-clause-stands c = stands c
