-- How a journal is kept: the order in which the calls were made, by their places, and at each place the reply. Behind the places of
-- all calls stand those of the reports, so a collection stands in the order as the place of its report.
use Rattle.std.specs.Prelude.{◌≡◌, ℕ, ◌+◌, ◌-◌, ◌<◌, ◌==◌, List, All, filter, length, map, take, Option, None, Some, slice_get, slice_index_or}
use Rattle.gc_model.specs.declared.call.Call.{Call}
use Rattle.gc_model.specs.declared.call.Line.{Line}
use Rattle.gc_model.specs.declared.entry.Entry.{Entry}
use Rattle.gc_model.specs.declared.entry.Entry.TheVariants.{Made, Run}
use Rattle.gc_model.specs.declared.entry.RunReport.{RunReport}
use Rattle.gc_model.specs.declared.entry.RunReport.TheVariants.{Minor}
use Rattle.gc_model.specs.declared.reply.Reply.{Reply}
use Rattle.gc_model.specs.History.{History}
use Rattle.gc_locked.specs.Setup.{call_at, mutator_at, places_of}

-- a call with its reply, where there is one, and else a collection
abbrev pub made_or_run : Option Reply → ℕ → Call → RunReport → Entry
made_or_run (Some reply) t call report = Made t call reply
made_or_run None t call report = Run report

-- the entry that a place stands for
abbrev pub entry_at : List Line → List Reply → List RunReport → ℕ → Entry
entry_at lines replies reports place =
    made_or_run (slice_get replies place) (mutator_at lines place) (call_at lines place)
    (slice_index_or reports (place - length replies) Minor)

-- the journal that is kept so
abbrev pub journal_of : List Line → List Reply → List RunReport → List ℕ → History
journal_of lines replies reports order = map (entry_at lines replies reports) order

-- of the order, a mutator's places
abbrev pub own_order : List Line → ℕ → List ℕ → List ℕ
own_order lines t order = filter (λ place. mutator_at lines place == t) order

-- each call of so many mutators has a place; each place in the order is a call's or a report's; and of each mutator the first of its
-- places are there, in their order
pub record IsKept (mutators : ℕ) (lines : List Line) (replies : List Reply) (reports : List RunReport) (order : List ℕ)
    : Type 0 where
  pub places : length replies ≡ length lines + mutators
  pub there : All (λ place. place < length replies + length reports) order
  pub firsts : (t : ℕ) → t < mutators
      → own_order lines t order ≡ take (length (own_order lines t order)) (places_of lines t)
