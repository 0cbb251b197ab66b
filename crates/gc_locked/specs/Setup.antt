-- What a locked heap is made for: its heap as it was made, and the lines that are to be played.
use Rattle.std.specs.Prelude.{ℕ, zero, suc, ◌+◌, ◌-◌, List, [], ◌∷◌, ◌++◌, length, if◌then◌else◌, Option, None, Some, slice_get, sum_by}
use Rattle.gc_model.specs.declared.call.Call.{Call}
use Rattle.gc_model.specs.declared.call.Call.TheVariants.{End}
use Rattle.gc_model.specs.declared.call.Line.{Line}
use Rattle.gc_model.specs.History.{History, allowance_of, calls_in, calls_of, is_line_of}
use Rattle.gc_solo.specs.Kept.{Kept}
use Rattle.gc_locked.specs.declared.setup.Setup.{Setup}

-- the heap as it was made
abbrev pub heap_of : Setup → Kept
heap_of setup = setup.heap.value

-- the lines of all mutators
abbrev pub lines_of : Setup → List Line
lines_of setup = setup.lines.value.items

-- how many mutators there are
abbrev pub mutators_of : Setup → ℕ
mutators_of setup = (heap_of setup).layout.mutators

-- what a mutator calls: its lines in their order, and one End
abbrev pub plan_of : List Line → ℕ → List Call
plan_of lines t = calls_in t lines ++ End ∷ []

-- ---- places: each line has one, in their order, and behind the lines each mutator's End has one, in order of number

-- the call of a line, or End where there is none
abbrev pub call_or_end : Option Line → Call
call_or_end (Some line) = line.call
call_or_end None = End

-- the call at a place
abbrev pub call_at : List Line → ℕ → Call
call_at lines place = call_or_end (slice_get lines place)

-- the mutator of a line, or this one where there is none
abbrev pub mutator_or : ℕ → Option Line → ℕ
mutator_or end (Some line) = line.mutator
mutator_or end None = end

-- the mutator whose call stands at a place
abbrev pub mutator_at : List Line → ℕ → ℕ
mutator_at lines place = mutator_or (place - length lines) (slice_get lines place)

-- the places of a mutator's lines, of which the first of all stands at this place
abbrev pub places_in : ℕ → ℕ → List Line → List ℕ
places_in t first [] = []
places_in t first (line ∷ lines) =
    if is_line_of t line then first ∷ places_in t (suc first) lines else places_in t (suc first) lines

-- the places of a mutator's calls, in the order in which it makes them
abbrev pub places_of : List Line → ℕ → List ℕ
places_of lines t = places_in t 0 lines ++ (length lines + t) ∷ []

-- ---- counts

-- how many calls of a mutator a history has
abbrev pub count_of : ℕ → History → ℕ
count_of t history = length (calls_of t history)

-- how many collections the lines may bring
abbrev pub allowance_of_lines : List Line → ℕ
allowance_of_lines lines = sum_by (λ line. allowance_of line.call) lines

-- how many entries a call may bring: itself, and its collections
abbrev pub entries_by : Call → ℕ
entries_by call = 1 + allowance_of call

-- the sum over so many mutators
abbrev pub sum_below : (ℕ → ℕ) → ℕ → ℕ
sum_below part zero = 0
sum_below part (suc t) = sum_below part t + part t
