-- A locked heap and its passes: one for each mutator, which knows how many calls that made.
use Rattle.std.specs.Prelude.{◌≡◌, ℕ, suc, ◌<◌, ◌≤◌, ◌==◌, true, List, [], ◌∷◌, All, filter, length, map, slice_get, Some, take}
use Rattle.std.specs.List.{list_any}
use Rattle.atomic_table.specs.Seated.{TableId}
use Rattle.gc_layout.specs.declared.shape.Shape.{Shape}
use Rattle.gc_model.specs.declared.call.Line.{Line}
use Rattle.gc_model.specs.Answer.{IsFit}
use Rattle.gc_model.specs.History.{calls_of, is_collection}
use Rattle.gc_solo.specs.Stands.{configuration_of}
use Rattle.gc_locked.specs.declared.locked.Locked.TheInside as inside
use Rattle.gc_locked.specs.declared.pass.Pass.TheInside as pass_inside
use Rattle.gc_locked.specs.declared.setup.Setup.{Setup}
use Rattle.gc_locked.specs.declared.view.Carried.{Carried}
use Rattle.gc_locked.specs.Journal.{Entries}
use Rattle.gc_locked.specs.Rule.{free_view}
use Rattle.gc_locked.specs.Setup.{allowance_of_lines, heap_of, lines_of, mutators_of, places_of, plan_of}

-- which table it is, and what it was made for
pub record LockedHeap : Type 0 where
  pub table : TableId
  pub setup : Setup

-- the heap under the lock that this table is
abbrev pub locked_by : TableId → Setup → LockedHeap
locked_by table setup = record { table = table; setup = setup }

-- what the fields stand for
abbrev pub locked_of : inside.Inside → LockedHeap
locked_of locked = locked_by locked.table.shared.table_id locked.table.shared.key

-- the lines are fit for the heap
abbrev pub AreFit : List Shape → ℕ → List Line → Type 0
AreFit types mutators lines = All (λ line. IsFit types mutators line.mutator line.call) lines

-- the table has one word and one place; there is a mutator; the lines are kept, are fit and not too many; and of each mutator it is
-- known at which places its calls stand
pub record IsLocked (locked : inside.Inside) : Type 0 where
  pub words : locked.table.shared.table_id.words ≡ 1
  pub slots : locked.table.shared.table_id.slots ≡ 1
  pub some : 0 < mutators_of locked.table.shared.key
  pub fit : AreFit (heap_of locked.table.shared.key).types (mutators_of locked.table.shared.key) (lines_of locked.table.shared.key)
  pub few : length (lines_of locked.table.shared.key) ≤ 16777216
  pub kept : locked.lines.items ≡ lines_of locked.table.shared.key
  pub plans : (t : ℕ) → t < mutators_of locked.table.shared.key
      → slice_get (map (λ plan. plan.items) locked.plans.items) t ≡ Some (places_of (lines_of locked.table.shared.key) t)

-- a pass: its table, its mutator, how many calls that made, and the number that its seat carries
pub record PassView : Type 0 where
  pub table : TableId
  pub mutator : ℕ
  pub made : ℕ
  pub carried : List Carried

-- what the fields stand for
abbrev pub pass_of : pass_inside.Inside → PassView
pass_of pass = record { table = pass.seat.table_id; mutator = pass.mutator; made = pass.made; carried = pass.seat.me.0.carried }

-- its seat has neither the lock nor the heap
pub record IsPass (pass : pass_inside.Inside) : Type 0 where
  pub seat : pass.seat.me ≡ (free_view pass.seat.me.0.carried, [])

-- a mutator's number, as it is carried
abbrev pub number_of : Setup → ℕ → ℕ → Carried
number_of setup mutator made = record { setup = setup; mutator = mutator; made = made }

-- the pass is one of this heap's
pub record IsPassOf (locked : LockedHeap) (pass : PassView) : Type 0 where
  pub table : pass.table ≡ locked.table
  pub there : pass.mutator < mutators_of locked.setup
  pub carried : pass.carried ≡ number_of locked.setup pass.mutator pass.made ∷ []

-- passes of this heap, from a mutator on, none of which made a call
abbrev pub ArePassesFrom : LockedHeap → ℕ → List PassView → Type 0
ArePassesFrom locked first [] = Unit {0}
ArePassesFrom locked first (pass ∷ passes) =
    IsPassOf locked pass × (pass.mutator ≡ first) × (pass.made ≡ 0) × ArePassesFrom locked (suc first) passes

-- one pass for each mutator, in their order, and none made a call
pub record AreFirstPasses (locked : LockedHeap) (passes : List PassView) : Type 0 where
  pub count : length passes ≡ mutators_of locked.setup
  pub own : ArePassesFrom locked 0 passes

-- all passes of the heap: each is one of its own, and each mutator has one
pub record AreAllPasses (locked : LockedHeap) (passes : List PassView) : Type 0 where
  pub own : All (IsPassOf locked) passes
  pub each : (t : ℕ) → t < mutators_of locked.setup → list_any (λ pass. pass.mutator == t) passes ≡ true

-- the journal has of the pass's mutator the first calls of its plan, as many as it made
abbrev pub HasCallsOf : LockedHeap → Entries → PassView → Type 0
HasCallsOf locked journal pass = calls_of pass.mutator journal.entries ≡ take pass.made (plan_of (lines_of locked.setup) pass.mutator)

-- what a locked heap hands back: its configuration is the heap's, it has the calls of each pass, and no more collections
-- than the lines allow
pub record IsFinished (locked : LockedHeap) (passes : List PassView) (journal : Entries) : Type 0 where
  pub configuration_is : configuration_of journal.heap ≡ configuration_of (heap_of locked.setup)
  pub calls : All (HasCallsOf locked journal) passes
  pub collections : length (filter is_collection journal.entries) ≤ allowance_of_lines (lines_of locked.setup)
