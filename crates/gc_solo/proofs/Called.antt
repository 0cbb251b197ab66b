-- What a heap stands for after a call or a collection: its history, the collections, and the call.
use Rattle.std.proofs.Common.{◌*◌, ◌≡◌, ◌⊎◌, inl, inr, ◌∙◌, ℕ, suc, ◌+◌, ◌<◌, ◌≤◌, Bool, true, false, List, [], ◌∷◌, ◌++◌, length, map, Option, None, Some, append_assoc, slice_index_or, refl, sym, ap, subst, arith}
use Rattle.std.proofs.lemmas.List.{append-nil}
use Rattle.std.proofs.lemmas.List.Elements.{filter_map-append}
use Rattle.std.proofs.lemmas.Option.{none-some, same_Some}
use Rattle.gc_layout.specs.declared.shape.Shape.{Shape}
use Rattle.gc_layout.specs.declared.shape.TypeNo.{TypeNo}
use Rattle.gc_layout.specs.Places.{Layout}
use Rattle.gc_layout.specs.Shape.{size_of}
use Rattle.gc_layout.specs.Sizes.{page_words}
use Rattle.gc_model.specs.declared.call.Call.{Call}
use Rattle.gc_model.specs.declared.call.Call.TheVariants.{Collect, End, New, Unblock}
use Rattle.gc_model.specs.declared.entry.Entry.{Entry}
use Rattle.gc_model.specs.declared.entry.Entry.TheVariants.{Made, Run}
use Rattle.gc_model.specs.declared.entry.RunKind.{RunKind}
use Rattle.gc_model.specs.declared.entry.RunReport.{RunReport}
use Rattle.gc_model.specs.declared.reply.Reply.{Reply}
use Rattle.gc_model.specs.declared.reply.Reply.TheVariants.{Blocked, Done, Full, NotBlocked}
use Rattle.gc_model.specs.Answer.{Answer, IsFit, answer, blocked_refusal, effect, keeps, shape_at, unless_refused, with_new}
use Rattle.gc_model.specs.Graph.{object_at}
use Rattle.gc_model.specs.History.{Configuration, History, allowance_of, is_done, world_after, world_after_entry}
use Rattle.gc_model.specs.Legal.{CollectFollowsFull, FullLeavesNoPlace, IsLegal, KeepsSize, MayFollow}
use Rattle.gc_model.specs.Reach.{live, own_words}
use Rattle.gc_model.specs.World.{World, is_blocked}
use Rattle.gc_model.proofs.Makers.{history-made}
use Rattle.gc_model.proofs.Histories.{answer-again, call-follows, collect-behind_full, full-behind_full, full-follows, legal-push, minor-follows, world_after-more}
use Rattle.gc_placement.specs.Placement.{Placement}
use Rattle.gc_placement.proofs.Fits.{new-fits}
use Rattle.gc_placement.proofs.OwnWords.{half-own}
use Rattle.gc_solo.specs.Allocation.{HasMade, HasMadeBehindFull, HasMadeBehindMinor, HasNoPlace, IsAllocatedWhere, IsMadeBehind, IsMadeBehindMinor, IsMadeOrFull, fits_half, type_size}
use Rattle.gc_solo.specs.Collecting.{IsReportOf}
use Rattle.gc_solo.specs.Kept.{IsSameHeap, Kept, ShowsBy, Stays, memory_of}
use Rattle.gc_solo.specs.Made.{HasCollectedFull, IsCallMade, IsEffect, IsEffectUnlessRefused}
use Rattle.gc_solo.specs.Reports.{report_of, reports_of}
use Rattle.gc_solo.specs.Runs.{HasRun, first_kind}
use Rattle.gc_solo.specs.Stands.{HasCalled, IsAnswered, StandsFor, configuration_of}

-- ---- reports

-- a call more is no report more
pub reports-made : (history : History) (t : ℕ) (call : Call) (reply : Reply)
    → reports_of (history ++ Made t call reply ∷ []) ≡ reports_of history
reports-made history t call reply =
    filter_map-append report_of history (Made t call reply ∷ []) ∙ append-nil (reports_of history)

-- a collection more is one
pub reports-run : (history : History) (each : RunReport) → reports_of (history ++ Run each ∷ []) ≡ reports_of history ++ each ∷ []
reports-run history each = filter_map-append report_of history (Run each ∷ [])

-- ---- the heap stands for more

-- the configuration is as before where the types and the layout are
pub same-configuration : (old new : Kept) → IsSameHeap old new → configuration_of new ≡ configuration_of old
same-configuration old new same = rw (same.types, same.layout) refl

-- the heap stands for a history behind which the world is this one, and shows it by this placement
record StandsIn (kept : Kept) (history : History) (placement : Placement) (world : World) : Type 0 where
  legal : IsLegal (configuration_of kept) history
  world_is : world_after (configuration_of kept) history ≡ world
  shown : ShowsBy kept placement world
  reports : kept.reports ≡ reports_of history

-- so does each heap that stands for a history
stands-in : (kept : Kept) (history : History) → (stands : StandsFor kept history)
    → StandsIn kept history stands.placement (world_after (configuration_of kept) history)
stands-in kept history stands = record { legal = stands.legal; world_is = refl; shown = stands.shown; reports = stands.reports }

-- and that stands for the history
abbrev stands-for : (kept : Kept) (history : History) (placement : Placement) (world : World) → StandsIn kept history placement world
    → StandsFor kept history
stands-for kept history placement world stands = record {
  legal = stands.legal;
  placement = placement;
  shown = subst (ShowsBy kept placement) (sym stands.world_is) stands.shown;
  reports = stands.reports;
}

-- one entry more that may follow
stands-entry : (old new : Kept) (history : History) (entry : Entry) (before after : Placement) (world more : World)
    → StandsIn old history before world → IsSameHeap old new → MayFollow (configuration_of old) history entry
    → world_after_entry old.types world entry ≡ more → ShowsBy new after more → new.reports ≡ reports_of (history ++ entry ∷ [])
    → StandsIn new (history ++ entry ∷ []) after more
stands-entry old new history entry before after world more stands same follows is shown reports =
    let heap = configuration_of old in
    let all : History = history ++ entry ∷ [] in
    let configuration : configuration_of new ≡ heap = same-configuration old new same in
    record {
      legal = subst (λ (each : Configuration). IsLegal each all) (sym configuration) (legal-push heap history entry stands.legal follows);
      world_is = ap (λ (each : Configuration). world_after each all) configuration ∙ world_after-more heap history entry
          ∙ ap (λ (each : World). world_after_entry old.types each entry) stands.world_is ∙ is;
      shown = shown;
      reports = reports;
    }

-- ---- a collection more

-- a collection may follow that is reported as one of its kind
run-follows : (heap : Configuration) (history : History) (kind : RunKind) (report : RunReport)
    → IsReportOf kind (world_after heap history) report → MayFollow heap history (Run report)
run-follows heap history RunKind.Minor report is =
    subst (λ (each : RunReport). MayFollow heap history (Run each)) (sym is) (minor-follows heap history)
run-follows heap history RunKind.Full report is =
    let all = live (world_after heap history) in
    subst (λ (each : RunReport). MayFollow heap history (Run each)) (sym is) (full-follows heap history all.objects all.words refl)

-- so after a collection the heap stands for the history with it
run-in : (old new : Kept) (history : History) (kind : RunKind) (before after : Placement) (world : World) (report : RunReport)
    → StandsIn old history before world → HasRun kind old new before after world report
    → StandsIn new (history ++ Run report ∷ []) after world
run-in old new history kind before after world report stands run =
    stands-entry old new history (Run report) before after world world stands run.same
    (run-follows (configuration_of old) history kind report
    (subst (λ (each : World). IsReportOf kind each report) (sym stands.world_is) run.report_is)) refl run.shown
    (run.reports ∙ ap (λ (each : List RunReport). each ++ report ∷ []) stands.reports ∙ sym (reports-run history report))

-- whatever history a heap stood for, after a collection it stands for that one and the collection
pub stands-run : (old new : Kept) (history : History) (kind : RunKind) (after : Placement) (report : RunReport)
    → (before : StandsFor old history)
    → HasRun kind old new before.placement after (world_after (configuration_of old) history) report
    → (stands : StandsFor new (history ++ Run report ∷ []))
    × HasRun kind old new before.placement stands.placement (world_after (configuration_of old) history) report
stands-run old new history kind after report before run =
    let world = world_after (configuration_of old) history in (
      stands-for new (history ++ Run report ∷ []) after world
          (run-in old new history kind before.placement after world report (stands-in old history before) run),
      run,
    )

-- ---- a call more

-- after a call that was answered as the graph answers it the heap stands for the history with it
answered-in : (old new : Kept) (history : History) (t : ℕ) (call : Call) (reply : Reply) (room : Bool) (before after : Placement)
    (world : World) → StandsIn old history before world → Stays old new → IsFit old.types old.layout.mutators t call
    → reply ≡ (answer old.types world t call room).reply → ShowsBy new after (answer old.types world t call room).world
    → KeepsSize (configuration_of old) history (Made t call reply)
    → FullLeavesNoPlace (configuration_of old) history (Made t call reply)
    → CollectFollowsFull (configuration_of old) history (Made t call reply) → StandsFor new (history ++ Made t call reply ∷ [])
answered-in old new history t call reply room before after world stands stays fit same shown size full collect =
    let heap = configuration_of old in
    let made : Answer = answer old.types world t call room in
    stands-for new (history ++ Made t call reply ∷ []) after made.world
    (stands-entry old new history (Made t call reply) before after world made.world stands
    (record { types = stays.types; layout = stays.layout })
    (call-follows heap history t call reply room fit
    (subst (λ (each : World). reply ≡ (answer old.types each t call room).reply) (sym stands.world_is) same) size full collect)
    (ap (λ (each : Reply). (answer old.types world t call (is_done each)).world) same ∙ answer-again old.types world t call room)
    shown (stays.reports ∙ stands.reports ∙ sym (reports-made history t call reply)))

-- ---- the collections before a call

-- a heap that stood for a history stands for that one, some collections, at most so many, and a call with its reply
record HasCalledBehind (most : ℕ) (old new : Kept) (history : History) (t : ℕ) (call : Call) (reply : Reply) : Type 0 where
  runs : List RunReport
  allowed : length runs ≤ most
  reports : new.reports ≡ old.reports ++ runs
  stands : StandsFor new (history ++ (map Run runs ++ Made t call reply ∷ []))

-- no collection stands before the call
called-alone : (most : ℕ) (old new : Kept) (history : History) (t : ℕ) (call : Call) (reply : Reply) → new.reports ≡ old.reports
    → StandsFor new (history ++ Made t call reply ∷ []) → HasCalledBehind most old new history t call reply
called-alone most old new history t call reply reports stands = record {
  runs = [];
  allowed = omega arith;
  reports = reports ∙ sym (append-nil old.reports);
  stands = stands;
}

-- one collection more stands before it
called-behind : (most : ℕ) (old mid new : Kept) (history : History) (report : RunReport) (t : ℕ) (call : Call) (reply : Reply)
    → mid.reports ≡ old.reports ++ report ∷ [] → HasCalledBehind most mid new (history ++ Run report ∷ []) t call reply
    → HasCalledBehind (suc most) old new history t call reply
called-behind most old mid new history report t call reply reports called = record {
  runs = report ∷ called.runs;
  allowed = omega (arith, called.allowed);
  reports = called.reports ∙ ap (λ (each : List RunReport). each ++ called.runs) reports
      ∙ append_assoc old.reports (report ∷ []) called.runs;
  stands = subst (StandsFor new) (append_assoc history (Run report ∷ []) (map Run called.runs ++ Made t call reply ∷ [])) called.stands;
}

-- as many as are allowed
called-within : (most : ℕ) (old new : Kept) (history : History) (t : ℕ) (call : Call) (reply : Reply)
    → HasCalledBehind most old new history t call reply → HasCalledBehind (suc most) old new history t call reply
called-within most old new history t call reply called =
    record { runs = called.runs; allowed = omega (arith, called.allowed); reports = called.reports; stands = called.stands }

-- ---- a New

-- what is answered where nothing refuses the call
unrefused : (types : List Shape) (world : World) (t : ℕ) (call : Call) (room : Bool) → blocked_refusal (is_blocked world t) call ≡ None
    → answer types world t call room ≡ effect types world t room call
unrefused types world t call room none = ap (λ refusal. unless_refused world refusal (effect types world t room call)) none

-- a heap that stands for a history, and a call that is fit and that nothing refuses
record IsToMake (kept : Kept) (history : History) (placement : Placement) (world : World) (t : ℕ) (call : Call) : Type 0 where
  stands : StandsIn kept history placement world
  fit : IsFit kept.types kept.layout.mutators t call
  none : blocked_refusal (is_blocked world t) call ≡ None

-- so it is behind a collection
still-to_make : (old new : Kept) (history : History) (kind : RunKind) (before after : Placement) (world : World) (report : RunReport)
    (t : ℕ) (call : Call) → IsToMake old history before world t call → HasRun kind old new before after world report
    → IsToMake new (history ++ Run report ∷ []) after world t call
still-to_make old new history kind before after world report t call given run = record {
  stands = run-in old new history kind before after world report given.stands run;
  fit = rw (run.same.types, run.same.layout) given.fit;
  none = given.none;
}

-- a New that is done without a collection
called-done : (old new : Kept) (history : History) (placement : Placement) (world : World) (t into : ℕ) (ty : TypeNo)
    → IsToMake old history placement world t (New into ty) → HasMade old new placement world t into ty.0
    → StandsFor new (history ++ Made t (New into ty) Done ∷ [])
called-done old new history placement world t into ty given made =
    let heap = configuration_of old in
    let call : Call = New into ty in
    let is = unrefused old.types world t call true given.none in
    let fits = new-fits (memory_of old) (memory_of new) placement made.after world t into ty.0
    given.stands.shown.rest.shown.covers made.shown.rest.shown made.more made.placed in
    let Within : World → Layout → Type 0 =
    λ each layout.
    (live each).words + size_of (shape_at old.types ty.0) ≤ layout.mutators * (layout.nursery + page_words * layout.pages)
    in
    let size : KeepsSize heap history (Made t call Done) =
    subst (λ (each : World). Within each old.layout) (sym given.stands.world_is) (subst (Within world) made.same.layout fits) in
    answered-in old new history t call Done true placement made.after world given.stands made.same given.fit
    (sym (ap (λ (each : Answer). each.reply) is)) (subst (λ (each : Answer). ShowsBy new made.after each.world) (sym is) made.shown) size
    tt tt

-- a New that finds no place behind a full collection
called-full : (old mid : Kept) (history : History) (before after : Placement) (world : World) (report : RunReport) (t into : ℕ)
    (ty : TypeNo) → IsToMake old history before world t (New into ty) → HasRun RunKind.Full old mid before after world report
    → HasNoPlace mid t (type_size mid ty.0) → StandsFor mid ((history ++ Run report ∷ []) ++ Made t (New into ty) Full ∷ [])
called-full old mid history before after world report t into ty given run none =
    let heap = configuration_of mid in
    let call : Call = New into ty in
    let still = still-to_make old mid history RunKind.Full before after world report t call given run in
    let is = unrefused mid.types world t call false given.none in
    let AreMade : World → Type 0 =
    λ each. (number : ℕ) → number < length each.graph → (object_at each.graph number).maker ≡ None → number ≡ 0 in
    let made : AreMade world = subst AreMade given.stands.world_is (history-made (configuration_of old) history) in
    let used =
    half-own (memory_of old) (memory_of mid) before after world given.stands.shown.rest run.collected.collection made t given.fit.0 in
    let more : mid.layout.nursery < own_words world t + size_of (shape_at mid.types ty.0) = omega (arith, used, none.half) in
    let world_is : world_after heap history ≡ world =
    ap (λ (each : Configuration). world_after each history) (same-configuration old mid run.same) ∙ given.stands.world_is in
    let Follows : RunReport → Type 0 =
    λ each. FullLeavesNoPlace heap (history ++ Run each ∷ []) (Made t call Full) in
    let full : Follows report =
    subst Follows (sym run.report_is)
    (full-behind_full heap history (live world).objects (live world).words t into ty
    (subst (λ (each : World). mid.layout.nursery < own_words each t + size_of (shape_at mid.types ty.0)) (sym world_is) more)) in
    answered-in mid mid (history ++ Run report ∷ []) t call Full false after after world still.stands
    (record { types = refl; layout = refl; reports = refl; room = refl; due = refl }) still.fit
    (sym (ap (λ (each : Answer). each.reply) is)) (subst (λ (each : Answer). ShowsBy mid after each.world) (sym is) run.shown) tt full tt

-- a New behind a full collection, by its reply
called-either : (old mid new : Kept) (history : History) (before after : Placement) (world : World) (report : RunReport) (t into : ℕ)
    (ty : TypeNo) (reply : Reply) → IsToMake old history before world t (New into ty)
    → HasRun RunKind.Full old mid before after world report → IsMadeOrFull mid new after world t into ty.0 reply
    → HasCalledBehind 0 mid new (history ++ Run report ∷ []) t (New into ty) reply
called-either old mid new history before after world report t into ty Done given run made =
    called-alone 0 mid new (history ++ Run report ∷ []) t (New into ty) Done made.same.reports
    (called-done mid new (history ++ Run report ∷ []) after world t into ty
    (still-to_make old mid history RunKind.Full before after world report t (New into ty) given run) made)
called-either old mid new history before after world report t into ty Full given run made =
    called-alone 0 mid new (history ++ Run report ∷ []) t (New into ty) Full (ap (λ (each : Kept). each.reports) made.0)
    (subst (λ (each : Kept). StandsFor each ((history ++ Run report ∷ []) ++ Made t (New into ty) Full ∷ [])) (sym made.0)
    (called-full old mid history before after world report t into ty given run made.1))
called-either old mid new history before after world report t into ty reply given run made = absurd made

-- a New that brought a full collection as its last
called-behind_full : (old new : Kept) (history : History) (placement : Placement) (world : World) (t into : ℕ) (ty : TypeNo)
    (reply : Reply) → IsToMake old history placement world t (New into ty)
    → HasMadeBehindFull old new placement world t into ty.0 reply → HasCalledBehind 1 old new history t (New into ty) reply
called-behind_full old new history placement world t into ty reply given behind =
    called-behind 0 old behind.mid new history behind.report t (New into ty) reply behind.run.reports
    (called-either old behind.mid new history placement behind.after world behind.report t into ty reply given behind.run behind.made)

-- a New behind a minor collection, by whether the object fits the half then
called-behind_fit : (old new : Kept) (history : History) (placement : Placement) (world : World) (t into : ℕ) (ty : TypeNo)
    (reply : Reply) (fits : Bool) → IsToMake old history placement world t (New into ty)
    → IsMadeBehindMinor fits old new placement world t into ty.0 reply → HasCalledBehind 1 old new history t (New into ty) reply
called-behind_fit old new history placement world t into ty reply true given made =
    called-alone 1 old new history t (New into ty) reply made.1.same.reports
    (subst (λ (each : Reply). StandsFor new (history ++ Made t (New into ty) each ∷ [])) (sym made.0)
    (called-done old new history placement world t into ty given made.1))
called-behind_fit old new history placement world t into ty reply false given made =
    called-behind_full old new history placement world t into ty reply given made

-- a New by the kind of the first collection that it brought
called-behind_first : (old new : Kept) (history : History) (placement : Placement) (world : World) (t into : ℕ) (ty : TypeNo)
    (reply : Reply) (kind : RunKind) → IsToMake old history placement world t (New into ty)
    → IsMadeBehind kind old new placement world t into ty.0 reply → HasCalledBehind 2 old new history t (New into ty) reply
called-behind_first old new history placement world t into ty reply RunKind.Minor given behind =
    called-behind 1 old behind.mid new history behind.report t (New into ty) reply behind.run.reports
    (called-behind_fit behind.mid new (history ++ Run behind.report ∷ []) behind.after world t into ty reply
    (fits_half behind.mid t ty.0)
    (still-to_make old behind.mid history RunKind.Minor placement behind.after world behind.report t (New into ty) given behind.run)
    behind.made)
called-behind_first old new history placement world t into ty reply RunKind.Full given behind =
    called-within 1 old new history t (New into ty) reply
    (called-behind_full old new history placement world t into ty reply given behind)

-- a New, by whether the object fits the half
called-where : (old new : Kept) (history : History) (placement : Placement) (world : World) (t into : ℕ) (ty : TypeNo) (reply : Reply)
    (fits : Bool) → IsToMake old history placement world t (New into ty)
    → IsAllocatedWhere fits old new placement world t into ty.0 reply → HasCalledBehind 2 old new history t (New into ty) reply
called-where old new history placement world t into ty reply true given made =
    called-alone 2 old new history t (New into ty) reply made.1.same.reports
    (subst (λ (each : Reply). StandsFor new (history ++ Made t (New into ty) each ∷ [])) (sym made.0)
    (called-done old new history placement world t into ty given made.1))
called-where old new history placement world t into ty reply false given made =
    called-behind_first old new history placement world t into ty reply (first_kind old) given made

-- ---- a Collect

-- a Collect behind the full collection that it brought
called-collect : (old new : Kept) (history : History) (placement : Placement) (world : World) (t : ℕ) (reply : Reply)
    → IsToMake old history placement world t Collect → HasCollectedFull old new placement world reply
    → HasCalledBehind 1 old new history t Collect reply
called-collect old new history placement world t reply given collected =
    let heap = configuration_of new in
    let report = collected.report in
    let run = collected.run in
    let more : History = history ++ Run report ∷ [] in
    let still = still-to_make old new history RunKind.Full placement collected.after world report t Collect given run in
    let is = unrefused new.types world t Collect true given.none in
    let collect : CollectFollowsFull heap more (Made t Collect Done) =
    subst (λ (each : RunReport). CollectFollowsFull heap (history ++ Run each ∷ []) (Made t Collect Done)) (sym run.report_is)
    (collect-behind_full heap history (live world).objects (live world).words t) in
    called-behind 0 old new new history report t Collect reply run.reports
    (called-alone 0 new new more t Collect reply refl
    (subst (λ (each : Reply). StandsFor new (more ++ Made t Collect each ∷ [])) (sym collected.done)
    (answered-in new new more t Collect Done true collected.after collected.after world still.stands
    (record { types = refl; layout = refl; reports = refl; room = refl; due = refl }) still.fit
    (sym (ap (λ (each : Answer). each.reply) is)) (subst (λ (each : Answer). ShowsBy new collected.after each.world) (sym is) run.shown) tt
    tt collect)))

-- ---- any call that nothing refuses

-- a call whose effect is answered, and which brings no collection
called-answered : (most : ℕ) (old new : Kept) (history : History) (placement : Placement) (world : World) (t : ℕ) (call : Call)
    (reply : Reply) → IsToMake old history placement world t call → Stays old new
    → IsAnswered new reply (effect old.types world t true call) → KeepsSize (configuration_of old) history (Made t call reply)
    → FullLeavesNoPlace (configuration_of old) history (Made t call reply)
    → CollectFollowsFull (configuration_of old) history (Made t call reply) → HasCalledBehind most old new history t call reply
called-answered most old new history placement world t call reply given stays answered size full collect =
    let is = unrefused old.types world t call true given.none in
    called-alone most old new history t call reply stays.reports
    (answered-in old new history t call reply true placement answered.placement world given.stands stays given.fit
    (sym answered.reply_is ∙ sym (ap (λ (each : Answer). each.reply) is))
    (subst (λ (each : Answer). ShowsBy new answered.placement each.world) (sym is) answered.shown) size full collect)

-- by the call
called-unrefused : (old new : Kept) (history : History) (placement : Placement) (world : World) (t : ℕ) (call : Call) (reply : Reply)
    → IsToMake old history placement world t call → IsEffect old new placement world t call reply
    → HasCalledBehind (allowance_of call) old new history t call reply
called-unrefused old new history placement world t (New into ty) reply given made =
    called-where old new history placement world t into ty reply (fits_half old t ty.0) given made
called-unrefused old new history placement world t Collect reply given made =
    called-collect old new history placement world t reply given made
called-unrefused old new history placement world t call reply given made =
    called-answered 0 old new history placement world t call reply given made.0 made.1 tt tt tt

-- ---- a call that is refused

-- a call is refused for being blocked, or for not being so
refusal-is : (blocked : Bool) (call : Call) (refusal : Reply) → blocked_refusal blocked call ≡ Some refusal
    → (refusal ≡ Blocked) ⊎ (refusal ≡ NotBlocked)
refusal-is true Unblock refusal is = absurd (none-some refusal is)
refusal-is true End refusal is = absurd (none-some refusal is)
refusal-is true call refusal is = inl (same_Some refusal Blocked (sym is))
refusal-is false Unblock refusal is = inr (same_Some refusal NotBlocked (sym is))
refusal-is false call refusal is = absurd (none-some refusal is)

-- so as far as the heap's size and the rules on full and on collects go it may stand anywhere
record MayStand (heap : Configuration) (history : History) (entry : Entry) : Type 0 where
  size : KeepsSize heap history entry
  full : FullLeavesNoPlace heap history entry
  collect : CollectFollowsFull heap history entry

refused-stands : (heap : Configuration) (history : History) (t : ℕ) (call : Call) (refusal : Reply)
    → (refusal ≡ Blocked) ⊎ (refusal ≡ NotBlocked) → MayStand heap history (Made t call refusal)
refused-stands heap history t (New into ty) refusal (inl is) = rw is (record { size = tt; full = tt; collect = tt })
refused-stands heap history t (New into ty) refusal (inr is) = rw is (record { size = tt; full = tt; collect = tt })
refused-stands heap history t Collect refusal (inl is) = rw is (record { size = tt; full = tt; collect = tt })
refused-stands heap history t Collect refusal (inr is) = rw is (record { size = tt; full = tt; collect = tt })
refused-stands heap history t call refusal is = record { size = tt; full = tt; collect = tt }

-- a call that is refused changes nothing
called-refused : (old new : Kept) (history : History) (placement : Placement) (world : World) (t : ℕ) (call : Call)
    (reply refusal : Reply) → StandsIn old history placement world → IsFit old.types old.layout.mutators t call
    → blocked_refusal (is_blocked world t) call ≡ Some refusal → (reply ≡ refusal) × (new ≡ old)
    → HasCalledBehind (allowance_of call) old new history t call reply
called-refused old new history placement world t call reply refusal stands fit refused same =
    let heap = configuration_of old in
    let is : answer old.types world t call true ≡ keeps world refusal =
    ap (λ each. unless_refused world each (effect old.types world t true call)) refused in
    let may = refused-stands heap history t call refusal (refusal-is (is_blocked world t) call refusal refused) in
    called-alone (allowance_of call) old new history t call reply (ap (λ (each : Kept). each.reports) same.1)
    (subst (λ (each : Kept). StandsFor each (history ++ Made t call reply ∷ [])) (sym same.1)
    (subst (λ (each : Reply). StandsFor old (history ++ Made t call each ∷ [])) (sym same.0)
    (answered-in old old history t call refusal true placement placement world stands
    (record { types = refl; layout = refl; reports = refl; room = refl; due = refl }) fit (sym (ap (λ (each : Answer). each.reply) is))
    (subst (λ (each : Answer). ShowsBy old placement each.world) (sym is) stands.shown) may.size may.full may.collect)))

-- ---- any call

-- by the refusal
called-by_refusal : (old new : Kept) (history : History) (placement : Placement) (world : World) (t : ℕ) (call : Call) (reply : Reply)
    (refusal : Option Reply) → StandsIn old history placement world → IsFit old.types old.layout.mutators t call
    → blocked_refusal (is_blocked world t) call ≡ refusal → IsEffectUnlessRefused old new placement world t call reply refusal
    → HasCalledBehind (allowance_of call) old new history t call reply
called-by_refusal old new history placement world t call reply None stands fit refused made =
    called-unrefused old new history placement world t call reply (record { stands = stands; fit = fit; none = refused }) made
called-by_refusal old new history placement world t call reply (Some refusal) stands fit refused made =
    called-refused old new history placement world t call reply refusal stands fit refused made

-- whatever history a heap stood for, after a call it stands for that one, the collections that the call brought, and the call
pub stands-called : (old new : Kept) (history : History) (t : ℕ) (call : Call) (reply : Reply) → (before : StandsFor old history)
    → IsFit old.types old.layout.mutators t call
    → IsCallMade old new before.placement (world_after (configuration_of old) history) t call reply
    → HasCalled old new history t call reply
stands-called old new history t call reply before fit made =
    let world = world_after (configuration_of old) history in
    let called = called-by_refusal old new history before.placement world t call reply
    (blocked_refusal (slice_index_or old.blocked t false) call) (stands-in old history before) fit
    (ap (λ (blocked : Bool). blocked_refusal blocked call) (sym (before.shown.blocked t fit.0))) made in
    record { runs = called.runs; allowed = called.allowed; reports = called.reports; stands = called.stands }
