-- Legal histories, in five parts: replies are the graph's, the heap's size is kept, full only behind a full collection,
-- a collect follows a full collection, and full reports count the reachable.
use Rattle.std.specs.Prelude.{◌≡◌, ℕ, ◌∷◌, ◌++◌, ◌<◌, ◌+◌, ◌*◌, ◌≤◌, [], Bool, true, false, IsTrue}
use Rattle.std.specs.List.{list_any}
use Rattle.gc_layout.specs.Shape.{size_of}
use Rattle.gc_layout.specs.Sizes.{page_words}
use Rattle.gc_model.specs.declared.call.Call.TheVariants.{New, Collect}
use Rattle.gc_model.specs.declared.reply.Reply.TheVariants.{Done, Full}
use Rattle.gc_model.specs.declared.entry.Entry.{Entry}
use Rattle.gc_model.specs.declared.entry.Entry.TheVariants.{Made, Run}
use Rattle.gc_model.specs.declared.entry.RunReport.TheVariants as report
use Rattle.gc_model.specs.Answer.{answer, shape_at, IsFit}
use Rattle.gc_model.specs.History.{Configuration, History, EachEntry, is_collection, is_own, since_last, world_after}
use Rattle.gc_model.specs.Reach.{live, own_words}

-- a call is fit, and its reply is the graph's, with room for a new object or without
abbrev pub ReplyIsTheGraphs : Configuration → History → Entry → Type 0
ReplyIsTheGraphs heap before (Made t call reply) =
    IsFit heap.types heap.mutators t call × ((room : Bool) × (reply ≡ (answer heap.types (world_after heap before) t call room).reply))
ReplyIsTheGraphs heap before (Run report) = Unit {0}

-- the heap's size is kept: the reachable words and a new object fit it together
abbrev pub KeepsSize : Configuration → History → Entry → Type 0
KeepsSize heap before (Made t (New into ty) Done) =
    (live (world_after heap before)).words + size_of (shape_at heap.types ty.0) ≤ heap.mutators * (heap.nursery + page_words * heap.pages)
KeepsSize heap before entry = Unit {0}

-- where the last collection of a history is a full one, and none of a mutator's own entries stands behind it: the entries before
-- that collection, and those behind it
pub record EndsInFull (t : ℕ) (history : History) : Type 0 where
  pub front : History
  pub objects : ℕ
  pub words : ℕ
  pub back : History
  pub split : history ≡ front ++ Run (report.Full objects words) ∷ back
  pub last : list_any is_collection back ≡ false
  pub own : list_any (is_own t) back ≡ false

-- a new object is refused only where the last collection is a full one that stands after its mutator's previous entry, and the
-- reachable words that the mutator had made when it stood and the new object don't fit a half together
pub record HasNoPlaceLeft (heap : Configuration) (before : History) (t size : ℕ) : Type 0 where
  pub behind : EndsInFull t before
  pub full : heap.nursery < own_words (world_after heap behind.front) t + size

abbrev pub FullLeavesNoPlace : Configuration → History → Entry → Type 0
FullLeavesNoPlace heap before (Made t (New into ty) Full) = HasNoPlaceLeft heap before t (size_of (shape_at heap.types ty.0))
FullLeavesNoPlace heap before entry = Unit {0}

-- whether an entry is a full collection
abbrev pub is_full_collection : Entry → Bool
is_full_collection (Made mutator call reply) = false
is_full_collection (Run report.Minor) = false
is_full_collection (Run (report.Full objects words)) = true

-- a collect is done only after a full collection that stands after its mutator's previous entry
abbrev pub CollectFollowsFull : Configuration → History → Entry → Type 0
CollectFollowsFull heap before (Made t Collect Done) = IsTrue (list_any is_full_collection (since_last t before))
CollectFollowsFull heap before entry = Unit {0}

-- a full report counts the reachable objects and their words
abbrev pub ReportCountsReachable : Configuration → History → Entry → Type 0
ReportCountsReachable heap before (Run (report.Full objects words)) =
    live (world_after heap before) ≡ record { objects = objects; words = words }
ReportCountsReachable heap before entry = Unit {0}

-- a history that the heap may have: each entry meets each part in view of the entries before it
pub record IsLegal (heap : Configuration) (history : History) : Type 0 where
  pub replies : EachEntry (ReplyIsTheGraphs heap) [] history
  pub size : EachEntry (KeepsSize heap) [] history
  pub full : EachEntry (FullLeavesNoPlace heap) [] history
  pub collect : EachEntry (CollectFollowsFull heap) [] history
  pub reports : EachEntry (ReportCountsReachable heap) [] history

-- an entry that may stand behind a legal history: it meets each part in view of the entries before it
pub record MayFollow (heap : Configuration) (before : History) (entry : Entry) : Type 0 where
  pub replies : ReplyIsTheGraphs heap before entry
  pub size : KeepsSize heap before entry
  pub full : FullLeavesNoPlace heap before entry
  pub collect : CollectFollowsFull heap before entry
  pub reports : ReportCountsReachable heap before entry
