-- The heap was ready for the call, and stands for its history, the collections and the call.
use Rattle.std.proofs.Common.{◌≡◌, ◌<◌, ◌++◌, ◌∷◌, ℕ, [], map, sym, subst}
use Rattle.gc_model.specs.declared.call.Call.{Call}
use Rattle.gc_model.specs.declared.entry.Entry.TheVariants.{Made, Run}
use Rattle.gc_model.specs.declared.reply.Reply.{Reply}
use Rattle.gc_model.specs.Answer.{IsFit}
use Rattle.gc_model.specs.History.{History, allowance_of, world_after}
use Rattle.gc_solo.specs.Kept.{Kept, kept_of}
use Rattle.gc_solo.specs.Made.{IsCallMade}
use Rattle.gc_solo.specs.Stands.{HasCalled, StandsFor, configuration_of}
use Rattle.gc_solo.proofs.Called.{stands-called}
use Rattle.gc_solo.proofs.ReportRoom.{KeepsPlaces, places-called}
use Rattle.gc_solo.proofs.Standing.{stands-ready}
use Rattle.gc_solo.proofs.solo.Solo.call.Goals as goal

pub call-requires-clause-ready : goal.call-requires-clause-ready
call-requires-clause-ready c =
    let kept = kept_of c.self.inside.heap in
    let held = c.self.invariant in
    let below = subst (λ (each : Kept). c.args.t < each.layout.mutators) (sym c.self.view_is) c.requires.fit.0 in
    record {
      placement = held.stands.placement;
      world = world_after (configuration_of kept) held.history;
      ready = stands-ready kept held.history c.args.t held.stands below;
    }

-- what is promised of a heap that holds this
abbrev IsPromised : Kept → Kept → ℕ → Call → Reply → Type 0
IsPromised old new t call reply =
    (history : History) → (before : StandsFor old history) → HasCalled old new history t call reply
    × IsCallMade old new before.placement (world_after (configuration_of old) history) t call reply

-- it is kept
promised : (c : goal.After-call)
    → IsPromised (kept_of c.self.inside.heap) (kept_of c.call.new.self) c.args.t c.args.c.now c.call.result
promised c history before =
    let kept = kept_of c.self.inside.heap in
    let new = kept_of c.call.new.self in
    let t = c.args.t in
    let call = c.args.c.now in
    let fit = subst (λ (each : Kept). IsFit each.types each.layout.mutators t call) (sym c.self.view_is) c.requires.fit in
    let made = c.call.ensures.made before.placement (world_after (configuration_of kept) history)
    (stands-ready kept history t before fit.0) in
    (stands-called kept new history t call c.call.result before fit made, made)

pub invariant_of-self : goal.invariant_of-self
invariant_of-self c =
    let held = c.self.invariant in
    let called = (promised c held.history held.stands).0 in
    record {
      history = held.history ++ (map Run called.runs ++ Made c.args.t c.args.c.now c.call.result ∷ []);
      stands = called.stands;
    }

pub returns-clause-stands : goal.returns-clause-stands
returns-clause-stands c =
    subst (λ (each : Kept). IsPromised each (kept_of c.call.new.self) c.args.t c.args.c.now c.call.result) c.self.view_is (promised c)

-- the places for reports
places : (c : goal.After-call) → KeepsPlaces (allowance_of c.args.c.now) (kept_of c.self.inside.heap) (kept_of c.call.new.self)
places c =
    let kept = kept_of c.self.inside.heap in
    let held = c.self.invariant in
    places-called kept (kept_of c.call.new.self) held.stands.placement (world_after (configuration_of kept) held.history) c.args.t
    c.args.c.now c.call.result (promised c held.history held.stands).1

pub returns-clause-room : goal.returns-clause-room
returns-clause-room c =
    (subst (λ (each : Kept). KeepsPlaces (allowance_of c.args.c.now) each (kept_of c.call.new.self)) c.self.view_is (places c)).room

pub returns-clause-places : goal.returns-clause-places
returns-clause-places c =
    (subst (λ (each : Kept). KeepsPlaces (allowance_of c.args.c.now) each (kept_of c.call.new.self)) c.self.view_is (places c)).places
