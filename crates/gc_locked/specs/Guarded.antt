-- What the lock guards: a heap of one thread, and the journal of what was called on it.
use Rattle.std.specs.Prelude.{◌≡◌, ℕ, ◌+◌, ◌<◌, ◌≤◌, List, [], ◌∷◌, ◌++◌, Bool, true, false, length, map, sum_by, take, drop, vec_capacity}
use Rattle.gc_model.specs.declared.call.Call.{Call}
use Rattle.gc_model.specs.declared.call.Call.TheVariants.{Await}
use Rattle.gc_model.specs.declared.call.Line.{Line}
use Rattle.gc_model.specs.declared.entry.Entry.TheVariants.{Made, Run}
use Rattle.gc_model.specs.declared.entry.RunReport.{RunReport}
use Rattle.gc_model.specs.declared.reply.Reply.{Reply}
use Rattle.gc_model.specs.declared.reply.Reply.TheVariants.{Nil}
use Rattle.gc_model.specs.History.{History, allowance_of, calls_of}
use Rattle.gc_solo.specs.Kept.{IsSameHeap, Kept}
use Rattle.gc_solo.specs.Stands.{StandsFor}
use Rattle.gc_locked.specs.declared.guarded.Guarded.TheInside.{Inside}
use Rattle.gc_locked.specs.declared.setup.Setup.{Setup}
use Rattle.gc_locked.specs.Order.{IsKept, journal_of}
use Rattle.gc_locked.specs.Setup.{allowance_of_lines, count_of, entries_by, heap_of, lines_of, mutators_of, plan_of, sum_below}

-- the heap, the journal, for how many entries it has memory, and what both were made for
pub record GuardedHeap : Type 0 where
  pub heap : Kept
  pub journal : History
  pub capacity : ℕ
  pub setup : Setup

-- what the fields stand for
abbrev pub guarded_of : Inside → GuardedHeap
guarded_of guarded = record {
  heap = guarded.solo;
  journal = journal_of (lines_of guarded.setup) guarded.replies.items guarded.solo.reports guarded.order.items;
  capacity = vec_capacity guarded.order;
  setup = guarded.setup;
}

-- the calls of a mutator that a history doesn't have yet
abbrev pub calls_left : List Line → History → ℕ → List Call
calls_left lines journal t = drop (count_of t journal) (plan_of lines t)

-- the weight of the calls of all mutators that a history doesn't have yet
abbrev pub weight_left : (Call → ℕ) → Setup → History → ℕ
weight_left weight setup journal = sum_below (λ t. sum_by weight (calls_left (lines_of setup) journal t)) (mutators_of setup)

-- the heap stands for the journal; of each mutator the journal has the first calls of its plan; and the report places and
-- the journal's memory that are left are enough for the calls that it doesn't have yet
pub record StandsForItsJournal (guarded : GuardedHeap) : Type 0 where
  pub stands : StandsFor guarded.heap guarded.journal
  pub same : IsSameHeap (heap_of guarded.setup) guarded.heap
  pub calls : (t : ℕ) → t < mutators_of guarded.setup
      → calls_of t guarded.journal ≡ take (count_of t guarded.journal) (plan_of (lines_of guarded.setup) t)
  pub reports : weight_left allowance_of guarded.setup guarded.journal ≤ guarded.heap.room
  pub memory : length guarded.journal + weight_left entries_by guarded.setup guarded.journal ≤ guarded.capacity
  pub places : length guarded.heap.reports + guarded.heap.room ≡ allowance_of_lines (lines_of guarded.setup)

-- that is so, the journal is kept by places, and these are few enough to be counted
pub record IsGuarded (guarded : Inside) : Type 0 where
  pub heap : StandsForItsJournal (guarded_of guarded)
  pub kept : IsKept (mutators_of guarded.setup) (lines_of guarded.setup) guarded.replies.items guarded.solo.reports guarded.order.items
  pub few_mutators : mutators_of guarded.setup < 256
  pub few : length guarded.replies.items + allowance_of_lines (lines_of guarded.setup) < 4294967296

-- the entries of a call: the collections that it brought, and the call with its reply
abbrev pub entries_of : List RunReport → ℕ → Call → Reply → History
entries_of runs t call reply = map Run runs ++ Made t call reply ∷ []

-- the call entered the journal, with the collections that it brought and its reply
pub record HasEntered (old new : GuardedHeap) (t : ℕ) (call : Call) : Type 0 where
  pub runs : List RunReport
  pub reply : Reply
  pub journal : new.journal ≡ old.journal ++ entries_of runs t call reply

-- whether a call is an Await that found nothing, which may be asked again
abbrev pub asks_again : Call → Reply → Bool
asks_again (Await into place) Nil = true
asks_again call reply = false

-- an Await found nothing and is to be asked again: it doesn't enter the journal
pub record IsInVain (old new : GuardedHeap) (call : Call) : Type 0 where
  pub reply : Reply
  pub again : asks_again call reply ≡ true
  pub journal : new.journal ≡ old.journal

-- whether the call entered the journal
abbrev pub IsEntered : Bool → GuardedHeap → GuardedHeap → ℕ → Call → Type 0
IsEntered true old new t call = HasEntered old new t call
IsEntered false old new t call = IsInVain old new call
