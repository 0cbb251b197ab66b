-- What the workers do, seen by their passes; and the heap that a script is played on.
use Rattle.std.specs.Prelude.{◌≡◌, ℕ, [], ◌∷◌, length}
use Rattle.gc_layout.specs.Places.{Layout}
use Rattle.gc_model.specs.History.{Configuration}
use Rattle.gc_script.specs.Script.{Script}
use Rattle.gc_locked.specs.Locked.{IsPassOf, LockedHeap, PassView, number_of}
use Rattle.gc_locked.specs.Setup.{lines_of, plan_of}

-- the heap that a script is played on, with halves and pages as they were laid out
abbrev pub configuration_for : Layout → Script → Configuration
configuration_for layout script =
    record { types = script.preamble.types; mutators = layout.mutators; nursery = layout.nursery; pages = layout.pages }

-- a pass of this heap whose mutator made no call
pub record IsFresh (locked : LockedHeap) (pass : PassView) : Type 0 where
  pub own : IsPassOf locked pass
  pub made : pass.made ≡ 0

-- how many calls a mutator makes: its lines and one End
abbrev pub calls_planned : LockedHeap → ℕ → ℕ
calls_planned locked t = length (plan_of (lines_of locked.setup) t)

-- the pass after its mutator made them all
abbrev pub done_by : LockedHeap → PassView → PassView
done_by locked pass = record pass {
  made = calls_planned locked pass.mutator;
  carried = number_of locked.setup pass.mutator (calls_planned locked pass.mutator) ∷ [];
}
