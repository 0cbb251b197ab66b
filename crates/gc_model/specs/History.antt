-- Histories: what the mutators called and were answered, and the collections.
use Rattle.std.specs.Prelude.{◌≡◌, ℕ, zero, suc, ◌<◌, ◌≤◌, List, [], ◌∷◌, ◌++◌, length, map, filter, fold, sum_by, Bool, true, false, ◌==◌, if◌then◌else◌, None, Some, Option, slice_index_or}
use Rattle.std.specs.List.{filter_map}
use Rattle.gc_layout.specs.declared.shape.Shape.{Shape}
use Rattle.gc_model.specs.declared.call.Call.{Call}
use Rattle.gc_model.specs.declared.call.Call.TheVariants.{New, Collect, End}
use Rattle.gc_model.specs.declared.call.Line.{Line}
use Rattle.gc_model.specs.declared.reply.Reply.{Reply}
use Rattle.gc_model.specs.declared.reply.Reply.TheVariants.{Done}
use Rattle.gc_model.specs.declared.entry.Entry.{Entry}
use Rattle.gc_model.specs.declared.entry.Entry.TheVariants.{Made, Run}
use Rattle.gc_model.specs.World.{World, first_world}
use Rattle.gc_model.specs.Answer.{answer}

-- the heap that was asked for: its types, its mutators, the words of a semispace half, and the pages of
-- 1024 words that each mutator has
pub record Configuration : Type 0 where
  pub types : List Shape
  pub mutators : ℕ
  pub nursery : ℕ
  pub pages : ℕ

abbrev pub History : Type 0
History = List Entry

-- whether the reply is Done
abbrev pub is_done : Reply → Bool
is_done Done = true
is_done reply = false

-- the world after one more entry: a collection changes nothing
abbrev pub world_after_entry : List Shape → World → Entry → World
world_after_entry types world (Made t call reply) = (answer types world t call (is_done reply)).world
world_after_entry types world (Run report) = world

-- the world after a history
abbrev pub world_after : Configuration → History → World
world_after heap history = fold (world_after_entry heap.types) (first_world heap.mutators) history

-- every entry of a history meets a condition in view of all entries before it
abbrev pub EachEntry : (History → Entry → Type 0) → History → History → Type 0
EachEntry P before [] = Unit {0}
EachEntry P before (entry ∷ entries) = P before entry × EachEntry P (before ++ entry ∷ []) entries

-- the call of an entry, where it is a mutator's own
abbrev pub own_call : ℕ → Entry → Option Call
own_call t (Made mutator call reply) = if mutator == t then Some call else None
own_call t (Run report) = None

-- a mutator's calls, in their order
abbrev pub calls_of : ℕ → History → List Call
calls_of t history = filter_map (own_call t) history

-- the reply of an entry, where it is a mutator's own
abbrev pub own_reply : ℕ → Entry → Option Reply
own_reply t (Made mutator call reply) = if mutator == t then Some reply else None
own_reply t (Run report) = None

-- the replies to a mutator's calls, in their order
abbrev pub replies_to : ℕ → History → List Reply
replies_to t history = filter_map (own_reply t) history

-- whether a line is a mutator's own
abbrev pub is_line_of : ℕ → Line → Bool
is_line_of t line = line.mutator == t

-- the replies to lines, of which some stand before: that to a mutator's n-th line is the reply to its n-th call
abbrev pub replies_by_line : History → List Line → List Line → List Reply
replies_by_line history before [] = []
replies_by_line history before (line ∷ lines) =
    slice_index_or (replies_to line.mutator history) (length (filter (is_line_of line.mutator) before)) Done
    ∷ replies_by_line history (before ++ line ∷ []) lines

-- the reply of an entry, where it is a call
abbrev pub made_reply : Entry → Option Reply
made_reply (Made mutator call reply) = Some reply
made_reply (Run report) = None

-- the replies to all calls, in their order
abbrev pub replies_in : History → List Reply
replies_in history = filter_map made_reply history

-- the line that an entry makes, where it is a call
abbrev pub made_line : Entry → Option Line
made_line (Made mutator call reply) = Some (record { mutator = mutator; call = call })
made_line (Run report) = None

-- the calls of all mutators, in their order
abbrev pub lines_in : History → List Line
lines_in history = filter_map made_line history

-- the End of each mutator, in order of number
abbrev pub ends_of : ℕ → List Line
ends_of zero = []
ends_of (suc mutators) = ends_of mutators ++ record { mutator = mutators; call = End } ∷ []

-- whether an entry is a collection
abbrev pub is_collection : Entry → Bool
is_collection (Made mutator call reply) = false
is_collection (Run report) = true

-- whether an entry is a mutator's own
abbrev pub is_own : ℕ → Entry → Bool
is_own t (Made mutator call reply) = mutator == t
is_own t (Run report) = false

-- the entries after the last one of a mutator's own
abbrev pub since_last : ℕ → History → History
since_last t history = fold (λ since entry. if is_own t entry then [] else since ++ entry ∷ []) [] history

-- the calls of a mutator's lines
abbrev pub calls_in : ℕ → List Line → List Call
calls_in t lines = map (λ line. line.call) (filter (is_line_of t) lines)

-- how many collections a call may bring
abbrev pub allowance_of : Call → ℕ
allowance_of (New into ty) = 2
allowance_of Collect = 1
allowance_of call = 0

-- a history fits a script's lines: each mutator's calls are its lines in their order and then one End, and
-- there are no more collections than the lines allow
pub record FitsScript (mutators : ℕ) (lines : List Line) (history : History) : Type 0 where
  pub calls : (t : ℕ) → t < mutators → calls_of t history ≡ calls_in t lines ++ End ∷ []
  pub collections : length (filter is_collection history) ≤ sum_by (λ line. allowance_of line.call) lines
