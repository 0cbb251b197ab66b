-- A turn at the lock: what the seat holds before and after the call is made.
use Rattle.std.specs.Prelude.{◌≡◌, ℕ, ◌+◌, List, [], ◌∷◌, Bool, Some, slice_get}
use Rattle.gc_model.specs.declared.call.Call.{Call}
use Rattle.gc_locked.specs.declared.locked.Turn.{Turn}
use Rattle.gc_locked.specs.declared.locked.Turn.TheVariants.{Busy, Vain, Made}
use Rattle.gc_locked.specs.declared.setup.Setup.{Setup}
use Rattle.gc_locked.specs.Guarded.{GuardedHeap, IsEntered}
use Rattle.gc_locked.specs.Locked.{LockedHeap, PassView, number_of}
use Rattle.gc_locked.specs.Setup.{count_of, lines_of, places_of}

-- the seat holds a heap for which the call at this place is the mutator's next
pub record HoldsFor (setup : Setup) (t : ℕ) (place : ℕ) (held : List (ℕ × GuardedHeap)) : Type 0 where
  pub guarded : GuardedHeap
  pub held_is : held ≡ (0, guarded) ∷ []
  pub setup_is : guarded.setup ≡ setup
  pub next : slice_get (places_of (lines_of setup) t) (count_of t guarded.journal) ≡ Some place

-- the call was made on the heap that the seat held, and it holds what came of that
pub record HasMadeOn (before : GuardedHeap) (setup : Setup) (t : ℕ) (call : Call) (entered : Bool) (held : List (ℕ × GuardedHeap))
    : Type 0 where
  pub guarded : GuardedHeap
  pub held_is : held ≡ (0, guarded) ∷ []
  pub setup_is : guarded.setup ≡ setup
  pub made : IsEntered entered before guarded t call

-- how many calls a turn made
abbrev pub made_by : Turn → ℕ
made_by Made = 1
made_by Vain = 0
made_by Busy = 0

-- the pass, after so many more calls that its number says
abbrev pub counted_to : LockedHeap → PassView → ℕ → PassView
counted_to locked pass more = record pass { carried = number_of locked.setup pass.mutator (pass.made + more) ∷ [] }
