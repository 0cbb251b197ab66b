-- What a run of the program read, played and printed.
use Rattle.std.specs.Prelude.{◌≡◌, ℕ, ◌+◌, ◌<◌, ◌≤◌, List, [], ◌++◌, length, filter, sum_by, take, true, Option, Some, IfSome}
use Rattle.gc_io.specs.Faults.{HasRisen}
use Rattle.gc_io.specs.Streams.{GivesUp, Appends, AppendsPrefix}
use Rattle.gc_layout.specs.Sizes.{largest_size}
use Rattle.gc_model.specs.declared.call.Line.{Line}
use Rattle.gc_model.specs.declared.reply.Reply.{Reply}
use Rattle.gc_model.specs.History.{Configuration, History, FitsScript, allowance_of, ends_of, is_collection, lines_in, replies_in}
use Rattle.gc_model.specs.Legal.{IsLegal}
use Rattle.gc_locked.specs.Journal.{Entries}
use Rattle.gc_script.specs.Generated.{generated}
use Rattle.gc_script.specs.Grammar.{IsScript, IsFirstFault}
use Rattle.gc_script.specs.Script.{Script}
use Rattle.gc_script.specs.Text.{most_bytes}
use Rattle.gc_script.specs.Written.{written}
use Rattle.gc_solo.specs.Kept.{Kept}
use Rattle.gc_solo.specs.Stands.{StandsFor, configuration_of}
use Rattle.gc_workers.specs.Workers.{configuration_for}
use Rattle.gc_cli.specs.declared.command.Request.{Request}
use Rattle.gc_cli.specs.declared.command.Request.TheVariants.{Drill, Make, Play, Run}
use Rattle.gc_cli.specs.declared.opts.Opts.{Opts}
use Rattle.gc_cli.specs.declared.status.Left.{Left}
use Rattle.gc_cli.specs.declared.status.Left.TheVariants.{Nothing, Solo, Journal}
use Rattle.gc_cli.specs.Command.{request_of}
use Rattle.gc_cli.specs.Text.{text_of}

-- the source, whose rest was one and is another, was read to its end, and gave these bytes, no more than a
-- script may have
pub record IsRead (old new : Option (List ℕ)) (bytes : List ℕ) : Type 0 where
  pub gave : GivesUp old new bytes
  pub ended : IfSome new (λ rest. rest ≡ [])
  pub few : length bytes ≤ most_bytes

-- the source was read to its end, and its bytes are a script
abbrev pub GivesScript : Option (List ℕ) → Option (List ℕ) → Type 0
GivesScript old new = (bytes : List ℕ) × (script : Script) × IsRead old new bytes × IsScript bytes script

-- the heap that a script is played on, by the options
abbrev pub heap_for : Opts → Script → Configuration
heap_for opts script =
    configuration_for (record { mutators = script.preamble.mutators; nursery = opts.nursery; pages = opts.pages }) script

-- one history of the graph, in which each mutator's lines stand once, in their order, and then its End
pub record IsHistoryOf (opts : Opts) (script : Script) (history : History) : Type 0 where
  pub legal : IsLegal (heap_for opts script) history
  pub fits : FitsScript script.preamble.mutators script.lines history

-- the script's lines stand in the order of the text, and then each mutator's End in order of number
abbrev pub IsInOrder : Script → History → Type 0
IsInOrder script history = lines_in history ≡ script.lines ++ ends_of script.preamble.mutators

-- a heap of one thread is the one that was asked for, and stands for this history
pub record IsHeapOf (kept : Kept) (configuration : Configuration) (history : History) : Type 0 where
  pub configuration_is : configuration_of kept ≡ configuration
  pub stands : StandsFor kept history

-- a journal is that of the heap that was asked for, it has these entries, and the heap stands for them
pub record IsJournalOf (journal : Entries) (configuration : Configuration) (history : History) : Type 0 where
  pub configuration_is : configuration_of journal.heap ≡ configuration
  pub stands : StandsFor journal.heap history
  pub entries_are : journal.entries ≡ history

-- a heap of one thread is left, and it is the one of this history
abbrev pub LeavesSolo : Left → Configuration → History → Type 0
LeavesSolo (Solo kept) configuration history = IsHeapOf kept configuration history
LeavesSolo left configuration history = ⊥

-- a journal is left, and it is the one of this history
abbrev pub LeavesJournal : Left → Configuration → History → Type 0
LeavesJournal (Journal journal) configuration history = IsJournalOf journal configuration history
LeavesJournal left configuration history = ⊥

-- what tells that a script was really played by a history, with these options
abbrev pub Witness : Type 1
Witness = Opts → Script → History → Type 0

-- one thread played it in the order of the text: so tells the heap that is left
pub record IsPlayedByOne (left : Left) (opts : Opts) (script : Script) (history : History) : Type 0 where
  pub heap : LeavesSolo left (heap_for opts script) history
  pub in_order : IsInOrder script history

-- a worker for each mutator played it, in the order of some schedule: so tells the journal that is left
abbrev pub IsPlayedByWorkers : Left → Witness
IsPlayedByWorkers left opts script history = LeavesJournal left (heap_for opts script) history

-- behind a history stand these entries, the calls of these lines in their order with no more collections than the lines
-- allow, and the heap stands for all of it
pub record HasMade (kept : Kept) (history more : History) (lines : List Line) : Type 0 where
  pub stands : StandsFor kept (history ++ more)
  pub in_order : lines_in more ≡ lines
  pub collections : length (filter is_collection more) ≤ sum_by (λ line. allowance_of line.call) lines

-- behind a history stand the script's lines in the order of the text, with these replies, and then the End of each
-- mutator, with no more collections than the lines allow; and the heap stands for all of it
pub record HasPlayed (kept : Kept) (script : Script) (replies : List Reply) (history more : History) : Type 0 where
  pub stands : StandsFor kept (history ++ more)
  pub in_order : lines_in more ≡ script.lines ++ ends_of script.preamble.mutators
  pub replies_are : replies ≡ take (length script.lines) (replies_in more)
  pub collections : length (filter is_collection more) ≤ sum_by (λ line. allowance_of line.call) script.lines

-- a script was played by this history, as what is left tells, and the sink got the text of it: the replies by line number, or
-- their summary, and where the options ask for them the reports behind
pub record Prints (opts : Opts) (written_old written_new : Option (List ℕ)) (IsPlayed : Witness) (script : Script)
    (history : History) : Type 0 where
  pub history_is : IsHistoryOf opts script history
  pub played : IsPlayed opts script history
  pub printed : Appends written_old written_new (text_of opts script history)

-- as before, but the sink got only the first bytes of the text, maybe none
pub record PrintsInPart (opts : Opts) (written_old written_new : Option (List ℕ)) (IsPlayed : Witness) (script : Script)
    (history : History) : Type 0 where
  pub history_is : IsHistoryOf opts script history
  pub played : IsPlayed opts script history
  pub printed : AppendsPrefix written_old written_new (text_of opts script history)

-- the source was read to its end, and its bytes are this script, which was played and printed
pub record Plays (opts : Opts) (rest_old rest_new written_old written_new : Option (List ℕ)) (IsPlayed : Witness)
    (bytes : List ℕ) (script : Script) (history : History) : Type 0 where
  pub read : IsRead rest_old rest_new bytes
  pub script_is : IsScript bytes script
  pub prints : Prints opts written_old written_new IsPlayed script history

-- as before, but only in part
pub record PlaysInPart (opts : Opts) (rest_old rest_new written_old written_new : Option (List ℕ)) (IsPlayed : Witness)
    (bytes : List ℕ) (script : Script) (history : History) : Type 0 where
  pub read : IsRead rest_old rest_new bytes
  pub script_is : IsScript bytes script
  pub prints : PrintsInPart opts written_old written_new IsPlayed script history

-- the options by which a generated script is played: these, and a summary
abbrev pub summarized : Opts → Opts
summarized opts = record opts { summary = true }

-- what was asked for was done: a script was read, played by one thread or by workers, and printed; or a generated one was
-- written, and no heap is left; or one was played, and its summary printed
abbrev pub HasDone : Request → Option (List ℕ) → Option (List ℕ) → Option (List ℕ) → Option (List ℕ) → Left → Type 0
HasDone (Play opts) rest_old rest_new written_old written_new left =
    (bytes : List ℕ) × (script : Script) × (history : History)
    × Plays opts rest_old rest_new written_old written_new (IsPlayedByOne left) bytes script history
HasDone (Run opts) rest_old rest_new written_old written_new left =
    (bytes : List ℕ) × (script : Script) × (history : History)
    × Plays opts rest_old rest_new written_old written_new (IsPlayedByWorkers left) bytes script history
HasDone (Make rounds) rest_old rest_new written_old written_new left =
    Appends written_old written_new (written (generated rounds)) × (left ≡ Nothing)
HasDone (Drill rounds opts) rest_old rest_new written_old written_new left =
    (history : History) × Prints (summarized opts) written_old written_new (IsPlayedByOne left) (generated rounds) history

-- as before, but the sink got only the first bytes of the text, maybe none
abbrev pub HasDoneInPart : Request → Option (List ℕ) → Option (List ℕ) → Option (List ℕ) → Option (List ℕ) → Left → Type 0
HasDoneInPart (Play opts) rest_old rest_new written_old written_new left =
    (bytes : List ℕ) × (script : Script) × (history : History)
    × PlaysInPart opts rest_old rest_new written_old written_new (IsPlayedByOne left) bytes script history
HasDoneInPart (Run opts) rest_old rest_new written_old written_new left =
    (bytes : List ℕ) × (script : Script) × (history : History)
    × PlaysInPart opts rest_old rest_new written_old written_new (IsPlayedByWorkers left) bytes script history
HasDoneInPart (Make rounds) rest_old rest_new written_old written_new left =
    AppendsPrefix written_old written_new (written (generated rounds)) × (left ≡ Nothing)
HasDoneInPart (Drill rounds opts) rest_old rest_new written_old written_new left =
    (history : History) × PrintsInPart (summarized opts) written_old written_new (IsPlayedByOne left) (generated rounds) history

-- the source was read to its end, and its bytes are no script: its first fault has this line and this cause
pub record IsNoScript (old new : Option (List ℕ)) (bytes : List ℕ) (line cause : ℕ) : Type 0 where
  pub read : IsRead old new bytes
  pub first : IsFirstFault bytes line cause

-- the source gave one byte more than a script may have, and was read no further
pub record IsTooLong (old new : Option (List ℕ)) (bytes : List ℕ) : Type 0 where
  pub gave : GivesUp old new bytes
  pub long : length bytes ≡ most_bytes + 1

-- the source gave these bytes, no more than a script may have, and then had a fault
pub record BreaksOff (old new : Option (List ℕ)) (faults_old faults_new : ℕ) (bytes : List ℕ) : Type 0 where
  pub gave : GivesUp old new bytes
  pub few : length bytes ≤ most_bytes
  pub fault : HasRisen faults_old faults_new

-- the source gave at least one byte more and no more than there was room for, and it stands behind the bytes so far
pub record TakesMore (old new : Option (List ℕ)) (room : ℕ) (bytes_old bytes_new : List ℕ) : Type 0 where
  pub piece : List ℕ
  pub gave : GivesUp old new piece
  pub some : 0 < length piece
  pub few : length piece ≤ room
  pub behind : bytes_new ≡ bytes_old ++ piece

-- the options are within their limits
pub record AreAllowed (opts : Opts) : Type 0 where
  pub least_half : largest_size ≤ opts.nursery
  pub most_half : opts.nursery ≤ 65536
  pub some_pages : 1 ≤ opts.pages
  pub most_pages : opts.pages ≤ 128

-- the rounds are within their limits
abbrev pub AreAllowedRounds : ℕ → Type 0
AreAllowedRounds rounds = (1 ≤ rounds) × (rounds ≤ 100000)

-- a script is read
abbrev pub ReadsScript : Request → Type 0
ReadsScript (Play opts) = Unit {0}
ReadsScript (Run opts) = Unit {0}
ReadsScript request = ⊥

-- the words ask for a script to be read and played, or they don't
abbrev pub AsksScript : List (List ℕ) → Type 0
AsksScript words = (request : Request) × (request_of words ≡ Some request) × ReadsScript request

abbrev pub AsksNoScript : List (List ℕ) → Type 0
AsksNoScript words = (request : Request) → request_of words ≡ Some request → ¬ ReadsScript request

-- what is asked for is within the limits
abbrev pub IsAllowed : Request → Type 0
IsAllowed (Play opts) = AreAllowed opts
IsAllowed (Run opts) = AreAllowed opts
IsAllowed (Make rounds) = AreAllowedRounds rounds
IsAllowed (Drill rounds opts) = AreAllowedRounds rounds × AreAllowed opts
