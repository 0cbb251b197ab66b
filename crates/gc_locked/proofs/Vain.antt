-- An Await that finds nothing changes nothing: the heap stands for the history as it was.
use Rattle.std.proofs.Common.{◌≡◌, ◌∙◌, ℕ, ◌≤◌, Bool, true, false, Option, None, Some, List, [], ◌∷◌, ◌++◌, length, map, refl, sym, ap, subst, arith}
use Rattle.std.proofs.lemmas.Bool.{true≢false}
use Rattle.std.proofs.lemmas.List.{append-nil}
use Rattle.gc_layout.specs.declared.shape.Shape.{Shape}
use Rattle.gc_model.specs.declared.call.Call.{Call}
use Rattle.gc_model.specs.declared.call.Call.TheVariants.{Await}
use Rattle.gc_model.specs.declared.entry.Entry.TheVariants.{Made, Run}
use Rattle.gc_model.specs.declared.entry.RunReport.{RunReport}
use Rattle.gc_model.specs.declared.reply.Reply.{Reply}
use Rattle.gc_model.specs.declared.reply.Reply.TheVariants.{Nil}
use Rattle.gc_model.specs.Answer.{blocked_refusal, effect, loads, unless_refused}
use Rattle.gc_model.specs.History.{Configuration, History, allowance_of, world_after}
use Rattle.gc_model.specs.Legal.{IsLegal}
use Rattle.gc_model.specs.World.{World, is_blocked, slot_at}
use Rattle.gc_model.proofs.Histories.{legal-less, world_after-more}
use Rattle.gc_solo.specs.Kept.{Kept, ShowsBy}
use Rattle.gc_solo.specs.Stands.{HasCalled, StandsFor, configuration_of}
use Rattle.gc_solo.proofs.Called.{reports-made}
use Rattle.gc_locked.specs.Guarded.{asks_again}

-- such a call brings no collection, and was answered with nothing
again-none : (call : Call) (reply : Reply) → asks_again call reply ≡ true → allowance_of call ≡ 0
again-none (Await into place) reply again = refl
again-none call reply again = absurd (true≢false (sym again))

-- what it loads is nothing, so the world stays
loads-nothing : (world : World) (t into : ℕ) (found : Option ℕ) → (loads world t into found).reply ≡ Nil
    → (loads world t into found).world ≡ world
loads-nothing world t into None nothing = refl
loads-nothing world t into (Some number) nothing = cc

-- unless it was refused, and then it does too
nothing-stays : (types : List Shape) (world : World) (t into place : ℕ) (room : Bool) (refusal : Option Reply)
    → (unless_refused world refusal (effect types world t room (Await into place))).reply ≡ Nil
    → (unless_refused world refusal (effect types world t room (Await into place))).world ≡ world
nothing-stays types world t into place room None nothing = loads-nothing world t into (slot_at world 0 place) nothing
nothing-stays types world t into place room (Some reply) nothing = refl

-- the world after it is the world before
vain-world : (heap : Configuration) (history : History) (t : ℕ) (call : Call) (reply : Reply) → asks_again call reply ≡ true
    → IsLegal heap (history ++ Made t call reply ∷ []) → world_after heap (history ++ Made t call reply ∷ []) ≡ world_after heap history
vain-world heap history t (Await into place) Nil again legal =
    let (fit, (room, same)) = (legal-less heap history (Made t (Await into place) Nil) legal).1.replies in
    let world = world_after heap history in
    world_after-more heap history (Made t (Await into place) Nil)
    ∙ nothing-stays heap.types world t into place false (blocked_refusal (is_blocked world t) (Await into place)) (sym same)
vain-world heap history t (Await into place) reply again legal = absurd (true≢false (sym again))
vain-world heap history t call reply again legal = absurd (true≢false (sym again))

-- no report is there
no-reports : (runs : List RunReport) → length runs ≤ 0 → runs ≡ []
no-reports [] few = refl
no-reports (run ∷ runs) few = absurd (omega arith)

-- so the heap stands for the history as it was
pub stands-vain : (old new : Kept) (history : History) (t : ℕ) (call : Call) (reply : Reply) → asks_again call reply ≡ true
    → HasCalled old new history t call reply → StandsFor new history × (new.reports ≡ old.reports)
stands-vain old new history t call reply again called =
    let heap = configuration_of new in
    let none = no-reports called.runs (omega (arith, called.allowed, again-none call reply again)) in
    let stands = subst
    (λ (runs : List RunReport). StandsFor new (history ++ (map Run runs ++ Made t call reply ∷ []))) none called.stands in (
      record {
        legal = (legal-less heap history (Made t call reply) stands.legal).0;
        placement = stands.placement;
        shown = subst (ShowsBy new stands.placement) (vain-world heap history t call reply again stands.legal) stands.shown;
        reports = stands.reports ∙ reports-made history t call reply;
      },
      called.reports ∙ ap (λ (runs : List RunReport). old.reports ++ runs) none ∙ append-nil old.reports,
    )
