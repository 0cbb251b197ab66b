-- The rule of the lock: what holds of its word, of the place that it guards, and of what each pass knows, between any two
-- steps; and what a claim and a release tell.
use Rattle.std.specs.Prelude.{◌≡◌, ℕ, zero, suc, ◌<◌, ◌≤◌, ◌==◌, List, [], ◌∷◌, ◌++◌, All, IfSome, Option, None, Some, count_by, map, sum_by, take, drop}
use mathlib.Core.Option.{Option as Home, none, some}
use Rattle.atomic_table.specs.Table.{Me, State, Step}
use Rattle.gc_model.specs.History.{History}
use Rattle.gc_locked.specs.declared.setup.Setup.{Setup}
use Rattle.gc_locked.specs.declared.view.Carried.{Carried}
use Rattle.gc_locked.specs.declared.view.View.{View}
use Rattle.gc_locked.specs.Guarded.{GuardedHeap}
use Rattle.gc_locked.specs.Setup.{count_of, mutators_of}

-- 1 where a view has the lock
abbrev pub locks_by : Option History → ℕ
locks_by None = 0
locks_by (Some before) = 1

abbrev pub locks : View → ℕ
locks view = locks_by view.lock

-- how often a list of numbers has this mutator's
abbrev pub times_in : ℕ → List Carried → ℕ
times_in t carried = count_by (λ number. number.mutator == t) carried

-- how often a view carries it
abbrev pub times_carried : ℕ → View → ℕ
times_carried t view = times_in t view.carried

-- the word is 0 or 1: 1 exactly where one view has the lock
pub record IsLockWord (words : List ℕ) (views : List View) : Type 0 where
  pub word : words ≡ sum_by locks views ∷ []
  pub one : sum_by locks views ≤ 1

-- each mutator's number is carried by one view
abbrev pub AreCarriedOnce : List View → Type 0
AreCarriedOnce views = (t : ℕ) → sum_by (times_carried t) views ≤ 1

-- a number that a view carries: it is a mutator's, and the history has as many calls of it
pub record IsNumberIn (setup : Setup) (history : History) (number : Carried) : Type 0 where
  pub setup_is : number.setup ≡ setup
  pub there : number.mutator < mutators_of setup
  pub counted : number.made ≡ count_of number.mutator history

-- who has the lock knows the history as it was when it took it, and carries some number
abbrev pub IsLockOf : History → List Carried → Option History → Type 0
IsLockOf history carried lock = IfSome lock (λ before. (before ≡ history) × ¬ (carried ≡ []))

-- what a view says agrees with the history
pub record Agrees (setup : Setup) (history : History) (view : View) : Type 0 where
  pub numbers : All (IsNumberIn setup history) view.carried
  pub lock : IsLockOf history view.carried view.lock

-- the heap is at home, and the history is its journal
pub record IsAtHome (setup : Setup) (history : History) (homes : List (Home GuardedHeap)) : Type 0 where
  pub guarded : GuardedHeap
  pub home : homes ≡ some guarded ∷ []
  pub journal : guarded.journal ≡ history
  pub setup_is : guarded.setup ≡ setup

-- where nobody has the lock it is, and where somebody has it, the place is empty
abbrev pub IsPlace : Setup → History → ℕ → List (Home GuardedHeap) → Type 0
IsPlace setup history zero homes = IsAtHome setup history homes
IsPlace setup history (suc locked) homes = homes ≡ none ∷ []

-- the rule: there is a history, with which all views agree, and which is the journal where nobody has the lock
pub record IsRuled (setup : Setup) (state : State GuardedHeap View) : Type 0 where
  pub history : History
  pub word : IsLockWord state.words state.views
  pub once : AreCarriedOnce state.views
  pub agree : All (Agrees setup history) state.views
  pub place : IsPlace setup history (sum_by locks state.views) state.homes

-- ---- views

-- the numbers of so many mutators from one on, which have made no call
abbrev pub numbers_from : Setup → ℕ → ℕ → List Carried
numbers_from setup first zero = []
numbers_from setup first (suc more) = record { setup = setup; mutator = first; made = 0 } ∷ numbers_from setup (suc first) more

-- a view of these numbers, without the lock
abbrev pub free_view : List Carried → View
free_view carried = record { carried = carried; lock = None }

-- the first view carries all numbers
abbrev pub first_view : Setup → View
first_view setup = free_view (numbers_from setup 0 (mutators_of setup))

-- a view is cut in two: the second has the first number
abbrev pub others : View → View
others view = record view { carried = drop 1 view.carried }

abbrev pub first_alone : View → View
first_alone view = free_view (take 1 view.carried)

-- two views are made one, and the second carries nothing afterwards
abbrev pub both_of : View → View → View
both_of view other = record view { carried = other.carried ++ view.carried }

abbrev pub spent_view : View
spent_view = free_view []

-- ---- what a step tells

-- each number agrees with a heap that was found
abbrev pub AreNumbersOf : GuardedHeap → List Carried → Type 0
AreNumbersOf guarded carried = All (IsNumberIn guarded.setup guarded.journal) carried

-- the lock was claimed: the view knows the journal, and the seat holds the heap
pub record HasClaimed (before after : Me GuardedHeap View) : Type 0 where
  pub guarded : GuardedHeap
  pub view : after.0 ≡ record { carried = before.0.carried; lock = Some guarded.journal }
  pub holds : after.1 ≡ (0, guarded) ∷ []
  pub numbers : AreNumbersOf guarded before.0.carried

-- where 0 was found it was, and else nothing changed
abbrev pub IsClaim : ℕ → Me GuardedHeap View → Me GuardedHeap View → Type 0
IsClaim zero before after = HasClaimed before after
IsClaim (suc found) before after = after ≡ before

abbrev pub claims : Step GuardedHeap → Me GuardedHeap View → ℕ → Me GuardedHeap View → Type 0
claims step before found after = IsClaim found before after

-- a number, after its mutator's calls in a journal were counted
abbrev pub counted_in : History → Carried → Carried
counted_in journal number = record number { made = count_of number.mutator journal }

-- the lock was released: the numbers are counted in the journal that was put back
abbrev pub IsRelease : List (ℕ × GuardedHeap) → View → Me GuardedHeap View → Type 0
IsRelease [] view after = after ≡ (view, [])
IsRelease (held ∷ more) view after = after ≡ (free_view (map (counted_in held.1.journal) view.carried), [])

abbrev pub releases : Step GuardedHeap → Me GuardedHeap View → ℕ → Me GuardedHeap View → Type 0
releases step before stored after = IsRelease before.1 before.0 after
