-- The journal: the entries of a history, the heap that stands for it, the lines that were to be played, and the replies to them.
use Rattle.std.specs.Prelude.{◌≡◌, ◌<◌, ◌≤◌, List, [], length, take}
use Rattle.gc_model.specs.declared.call.Line.{Line}
use Rattle.gc_model.specs.declared.reply.Reply.{Reply}
use Rattle.gc_model.specs.History.{FitsScript, History, replies_by_line}
use Rattle.gc_solo.specs.Kept.{Kept}
use Rattle.gc_solo.specs.Stands.{StandsFor}
use Rattle.gc_locked.specs.declared.journal.Journal.TheInside.{Inside}
use Rattle.gc_locked.specs.Order.{IsKept, journal_of}

-- the entries in their order, the heap as it was left, the lines, and what stands at the place of each
pub record Entries : Type 0 where
  pub entries : History
  pub heap : Kept
  pub lines : List Line
  pub replies : List Reply

-- what the fields stand for
abbrev pub entries_of_journal : Inside → Entries
entries_of_journal journal = record {
  entries = journal_of journal.lines.items journal.replies.items journal.solo.reports journal.order.items;
  heap = journal.solo;
  lines = journal.lines.items;
  replies = take (length journal.lines.items) journal.replies.items;
}

-- where all lines were made, what stands at their places are the replies to them
abbrev pub AreAnswered : Entries → Type 0
AreAnswered journal = FitsScript journal.heap.layout.mutators journal.lines journal.entries
    → journal.replies ≡ replies_by_line journal.entries [] journal.lines

-- the heap stands for the entries, which are kept by places, and these are few; and where all lines were made, the replies to them
-- are known
pub record IsJournal (journal : Inside) : Type 0 where
  pub stands : StandsFor journal.solo (entries_of_journal journal).entries
  pub kept : IsKept journal.solo.layout.mutators journal.lines.items journal.replies.items journal.solo.reports journal.order.items
  pub few_mutators : journal.solo.layout.mutators < 256
  pub few_lines : length journal.lines.items ≤ 16777216
  pub answered : AreAnswered (entries_of_journal journal)
