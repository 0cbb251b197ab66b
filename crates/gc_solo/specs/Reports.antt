-- The reports of a history.
use Rattle.std.specs.Prelude.{ℕ, ◌+◌, ◌≤◌, length, vec_capacity, List, Option, None, Some}
use Rattle.std.specs.List.{filter_map}
use Rattle.gc_model.specs.declared.entry.Entry.{Entry}
use Rattle.gc_model.specs.declared.entry.Entry.TheVariants.{Made, Run}
use Rattle.gc_model.specs.declared.entry.RunReport.{RunReport}
use Rattle.gc_model.specs.History.{History}
use Rattle.gc_solo.specs.declared.heap.book.Book.TheInside.{Inside}

-- the report of an entry, where it is a collection
abbrev pub report_of : Entry → Option RunReport
report_of (Made mutator call reply) = None
report_of (Run report) = Some report

-- the reports of all collections, in their order
abbrev pub reports_of : History → List RunReport
reports_of history = filter_map report_of history

-- reports in their order, and for how many more there is room
pub record ReportList : Type 0 where
  pub reports : List RunReport
  pub room : ℕ

-- the list that the fields stand for
abbrev pub list_of : Inside → ReportList
list_of book = record { reports = book.reports.items; room = book.room }

-- the room has its memory
pub record HasItsRoom (book : Inside) : Type 0 where
  pub memory : length book.reports.items + book.room ≤ vec_capacity book.reports
