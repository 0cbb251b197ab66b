-- Histories, by their last entry: what holds of a history with one more entry behind it.
use Rattle.std.proofs.Common.{◌≡◌, ◌∙◌, ◌↔◌, ℕ, ◌+◌, ◌<◌, Bool, true, false, Option, None, Some, List, [], ◌∷◌, ◌++◌, All, length, length-append, filter, append_assoc, refl, ap, sym, subst}
use Rattle.std.proofs.lemmas.List.{append-nil}
use Rattle.std.proofs.lemmas.List.Elements.{All-cons, All-nil, filter-append, filter_map-append}
use Rattle.std.proofs.lemmas.List.Folds.{list_any-append}
use Rattle.std.proofs.lemmas.List.Sums.{fold_push}
use Rattle.std.proofs.lemmas.Bool.{or_right}
use Rattle.std.specs.Prelude.{if◌then◌else◌}
use Rattle.std.specs.List.{list_any}
use Rattle.gc_layout.specs.Shape.{size_of}
use Rattle.gc_layout.specs.declared.shape.TypeNo.{TypeNo}
use Rattle.gc_model.specs.declared.entry.RunReport.TheVariants as report_kind
use Rattle.std.specs.List.{cons_option}
use Rattle.gc_layout.specs.declared.shape.Shape.{Shape}
use Rattle.gc_model.specs.declared.call.Call.{Call}
use Rattle.gc_model.specs.declared.call.Call.TheVariants.{New, Collect}
use Rattle.gc_model.specs.declared.entry.Entry.{Entry}
use Rattle.gc_model.specs.declared.entry.Entry.TheVariants.{Made, Run}
use Rattle.gc_model.specs.declared.entry.RunReport.{RunReport}
use Rattle.gc_model.specs.declared.reply.Reply.{Reply}
use Rattle.gc_model.specs.declared.reply.Reply.TheVariants.{Done, Full}
use Rattle.gc_model.specs.Answer.{IsFit, Answer, answer, blocked_refusal, effect, shape_at, unless_refused}
use Rattle.gc_model.specs.History.{is_done, Configuration, History, EachEntry, calls_of, is_collection, is_own, since_last, lines_in, made_line, made_reply, own_call, own_reply, replies_in, replies_to, world_after, world_after_entry}
use Rattle.gc_model.specs.Laws.{IsFitEntry}
use Rattle.gc_model.specs.Legal.{IsLegal, MayFollow, ReplyIsTheGraphs, KeepsSize, FullLeavesNoPlace, CollectFollowsFull, ReportCountsReachable, is_full_collection}
use Rattle.gc_model.specs.Reach.{live, own_words}
use Rattle.gc_model.specs.World.{World, first_world, is_blocked}

-- the world after one more entry
pub world_after-more : (heap : Configuration) (history : History) (entry : Entry)
    → world_after heap (history ++ entry ∷ []) ≡ world_after_entry heap.types (world_after heap history) entry
world_after-more heap history entry = fold_push (world_after_entry heap.types) (first_world heap.mutators) history entry

-- whether there was room is told by the reply, as far as the call asks for it
effect-again : (types : List Shape) (world : World) (t : ℕ) (call : Call) (room : Bool)
    → (effect types world t (is_done (effect types world t room call).reply) call).world ≡ (effect types world t room call).world
effect-again types world t (New into ty) true = refl
effect-again types world t (New into ty) false = refl
effect-again types world t call room = refl

-- so it is where a call may be refused
unless_refused-again : (world : World) (refusal : Option Reply) (made : Bool → Answer) (room : Bool)
    → (made (is_done (made room).reply)).world ≡ (made room).world
    → (unless_refused world refusal (made (is_done (unless_refused world refusal (made room)).reply))).world
    ≡ (unless_refused world refusal (made room)).world
unless_refused-again world None made room same = same
unless_refused-again world (Some reply) made room same = refl

-- the call and its reply lead to the same world as the call and whether there was room
pub answer-again : (types : List Shape) (world : World) (t : ℕ) (call : Call) (room : Bool)
    → (answer types world t call (is_done (answer types world t call room).reply)).world ≡ (answer types world t call room).world
answer-again types world t call room =
    unless_refused-again world (blocked_refusal (is_blocked world t) call) (λ known. effect types world t known call) room
    (effect-again types world t call room)

-- the world after a call that was answered as the graph answers
pub world_after-made : (heap : Configuration) (history : History) (t : ℕ) (call : Call) (room : Bool)
    → world_after heap (history ++ Made t call (answer heap.types (world_after heap history) t call room).reply ∷ [])
    ≡ (answer heap.types (world_after heap history) t call room).world
world_after-made heap history t call room =
    let world = world_after heap history in
    world_after-more heap history (Made t call (answer heap.types world t call room).reply) ∙ answer-again heap.types world t call room

-- the world after a collection
pub world_after-run : (heap : Configuration) (history : History) (report : RunReport)
    → world_after heap (history ++ Run report ∷ []) ≡ world_after heap history
world_after-run heap history report = world_after-more heap history (Run report)

-- what holds of each entry of the longer history holds of each of the shorter one and of the last
pub each_entry-less : (P : History → Entry → Type 0) (before history : History) (entry : Entry)
    → EachEntry P before (history ++ entry ∷ []) → EachEntry P before history × P (before ++ history) entry
each_entry-less P before [] entry each = (tt, subst (λ (all : History). P all entry) (sym (append-nil before)) each.0)
each_entry-less P before (first ∷ history) entry each =
    let rest = each_entry-less P (before ++ first ∷ []) history entry each.1 in
    ((each.0, rest.0), subst (λ (all : History). P all entry) (append_assoc before (first ∷ []) history) rest.1)

-- and the other way round
pub each_entry-push : (P : History → Entry → Type 0) (before history : History) (entry : Entry)
    → EachEntry P before history → P (before ++ history) entry → EachEntry P before (history ++ entry ∷ [])
each_entry-push P before [] entry each last = (subst (λ (all : History). P all entry) (append-nil before) last, tt)
each_entry-push P before (first ∷ history) entry each last =
    let own = subst (λ (all : History). P all entry) (sym (append_assoc before (first ∷ []) history)) last in
    (each.0, each_entry-push P (before ++ first ∷ []) history entry each.1 own)

-- a condition holds of each entry of a history with one more entry exactly where it holds of each before and of the last
pub each_entry-more : (P : History → Entry → Type 0) (history : History) (entry : Entry)
    → EachEntry P [] (history ++ entry ∷ []) ↔ (EachEntry P [] history × P history entry)
each_entry-more P history entry =
    (each_entry-less P [] history entry, λ both. each_entry-push P [] history entry both.0 both.1)

-- an entry that may follow a legal history makes another one
pub legal-push : (heap : Configuration) (history : History) (entry : Entry) → IsLegal heap history → MayFollow heap history entry
    → IsLegal heap (history ++ entry ∷ [])
legal-push heap history entry legal last = record {
  replies = each_entry-push (ReplyIsTheGraphs heap) [] history entry legal.replies last.replies;
  size = each_entry-push (KeepsSize heap) [] history entry legal.size last.size;
  full = each_entry-push _ [] history entry legal.full last.full;
  collect = each_entry-push (CollectFollowsFull heap) [] history entry legal.collect last.collect;
  reports = each_entry-push (ReportCountsReachable heap) [] history entry legal.reports last.reports;
}

-- a legal history without its last entry is legal, and the last one may follow it
pub legal-less : (heap : Configuration) (history : History) (entry : Entry) → IsLegal heap (history ++ entry ∷ [])
    → IsLegal heap history × MayFollow heap history entry
legal-less heap history entry legal =
    let replies = each_entry-less (ReplyIsTheGraphs heap) [] history entry legal.replies in
    let size = each_entry-less (KeepsSize heap) [] history entry legal.size in
    let full = each_entry-less _ [] history entry legal.full in
    let collect = each_entry-less (CollectFollowsFull heap) [] history entry legal.collect in
    let reports = each_entry-less (ReportCountsReachable heap) [] history entry legal.reports in (
      record { replies = replies.0; size = size.0; full = full.0; collect = collect.0; reports = reports.0 },
      record { replies = replies.1; size = size.1; full = full.1; collect = collect.1; reports = reports.1 },
    )

-- no entry at all is a legal history
pub legal-none : (heap : Configuration) → IsLegal heap []
legal-none heap = record { replies = tt; size = tt; full = tt; collect = tt; reports = tt }

-- each call of a legal history is fit
fit-from : (heap : Configuration) (before history : History) → EachEntry (ReplyIsTheGraphs heap) before history
    → All (IsFitEntry heap.types heap.mutators) history
fit-from heap before [] each = All-nil (IsFitEntry heap.types heap.mutators)
fit-from heap before (Made t call reply ∷ history) each =
    let rest = fit-from heap (before ++ Made t call reply ∷ []) history each.1 in
    All-cons (IsFitEntry heap.types heap.mutators) (Made t call reply) history each.0.0 rest
fit-from heap before (Run report ∷ history) each =
    All-cons (IsFitEntry heap.types heap.mutators) (Run report) history tt (fit-from heap (before ++ Run report ∷ []) history each.1)

-- so it is
pub legal-fit : (heap : Configuration) (history : History) → IsLegal heap history → All (IsFitEntry heap.types heap.mutators) history
legal-fit heap history legal = fit-from heap [] history legal.replies

-- a mutator's calls, with one more entry
pub calls_of-more : (t : ℕ) (history : History) (entry : Entry)
    → calls_of t (history ++ entry ∷ []) ≡ calls_of t history ++ cons_option (own_call t entry) []
calls_of-more t history entry = filter_map-append (own_call t) history (entry ∷ [])

-- a mutator's replies
pub replies_to-more : (t : ℕ) (history : History) (entry : Entry)
    → replies_to t (history ++ entry ∷ []) ≡ replies_to t history ++ cons_option (own_reply t entry) []
replies_to-more t history entry = filter_map-append (own_reply t) history (entry ∷ [])

-- all lines
pub lines_in-more : (history : History) (entry : Entry)
    → lines_in (history ++ entry ∷ []) ≡ lines_in history ++ cons_option (made_line entry) []
lines_in-more history entry = filter_map-append made_line history (entry ∷ [])

-- all replies
pub replies_in-more : (history : History) (entry : Entry)
    → replies_in (history ++ entry ∷ []) ≡ replies_in history ++ cons_option (made_reply entry) []
replies_in-more history entry = filter_map-append made_reply history (entry ∷ [])

-- how many collections there are, behind a call
pub collections-call : (history : History) (t : ℕ) (call : Call) (reply : Reply)
    → length (filter is_collection (history ++ Made t call reply ∷ [])) ≡ length (filter is_collection history)
collections-call history t call reply =
    ap length (filter-append is_collection history (Made t call reply ∷ []) ∙ append-nil (filter is_collection history))

-- and behind a collection
pub collections-run : (history : History) (report : RunReport)
    → length (filter is_collection (history ++ Run report ∷ [])) ≡ length (filter is_collection history) + 1
collections-run history report =
    ap length (filter-append is_collection history (Run report ∷ [])) ∙ length-append (filter is_collection history) (Run report ∷ [])

-- the entry of a call may follow that is fit and answered as the graph answers it, where the heap's size is kept, and the rules
-- on full and on collects are met
pub call-follows : (heap : Configuration) (before : History) (t : ℕ) (call : Call) (reply : Reply) (room : Bool)
    → IsFit heap.types heap.mutators t call → reply ≡ (answer heap.types (world_after heap before) t call room).reply
    → KeepsSize heap before (Made t call reply) → FullLeavesNoPlace heap before (Made t call reply)
    → CollectFollowsFull heap before (Made t call reply) → MayFollow heap before (Made t call reply)
call-follows heap before t call reply room fit same size full collect =
    record { replies = (fit, (room, same)); size = size; full = full; collect = collect; reports = tt }

-- a minor collection may stand anywhere
pub minor-follows : (heap : Configuration) (before : History) → MayFollow heap before (Run report_kind.Minor)
minor-follows heap before = record { replies = tt; size = tt; full = tt; collect = tt; reports = tt }

-- a full one may where it counts what is reachable
pub full-follows : (heap : Configuration) (before : History) (objects words : ℕ)
    → live (world_after heap before) ≡ record { objects = objects; words = words }
    → MayFollow heap before (Run (report_kind.Full objects words))
full-follows heap before objects words counts = record { replies = tt; size = tt; full = tt; collect = tt; reports = counts }

-- what stands behind the last entry of a mutator's own, with one more entry that isn't its own
since_last-more : (t : ℕ) (history : History) (entry : Entry) → is_own t entry ≡ false
    → since_last t (history ++ entry ∷ []) ≡ since_last t history ++ entry ∷ []
since_last-more t history entry other =
    fold_push (λ since each. if is_own t each then [] else since ++ each ∷ []) [] history entry ∙ rw other refl

-- behind a full collection a new object may be refused that doesn't fit a half together with its mutator's reachable words
pub full-behind_full : (heap : Configuration) (before : History) (objects words t into : ℕ) (ty : TypeNo)
    → heap.nursery < own_words (world_after heap before) t + size_of (shape_at heap.types ty.0)
    → FullLeavesNoPlace heap (before ++ Run (report_kind.Full objects words) ∷ []) (Made t (New into ty) Full)
full-behind_full heap before objects words t into ty more = record {
  behind = record {
    front = before;
    objects = objects;
    words = words;
    back = [];
    split = refl;
    last = refl;
    own = refl;
  };
  full = more;
}

-- and a collect is done
pub collect-behind_full : (heap : Configuration) (before : History) (objects words t : ℕ)
    → CollectFollowsFull heap (before ++ Run (report_kind.Full objects words) ∷ []) (Made t Collect Done)
collect-behind_full heap before objects words t =
    let entry : Entry = Run (report_kind.Full objects words) in
    subst (λ (since : History). list_any is_full_collection since ≡ true) (sym (since_last-more t before entry refl))
    (list_any-append is_full_collection (since_last t before) (entry ∷ [])
    ∙ or_right (list_any is_full_collection (since_last t before)) true refl)
