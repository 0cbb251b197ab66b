use Rattle.std.proofs.Common.{◌≡◌, take}
use Rattle.gc_locked.specs.Setup.{places_in}
use Rattle.gc_locked.proofs.plan.plan.Given as goal

-- the places of the lines so far
abbrev pub invariant-loop-index : goal.invariant-loop-index
invariant-loop-index l = l.places.items ≡ places_in l.t 0 (take l.index l.lines)
