-- Each call makes one of the five steps. This is the one walk over the calls: what else every call keeps follows from it.
use Rattle.std.proofs.Common.{◌≡◌, ◌∙◌, ℕ, ◌<◌, Bool, true, false, Option, None, Some, List, All, length-set, replicate, Result, Ok, Err, inl, inr, refl, nat_lt, ◌==◌}
use Rattle.std.proofs.lemmas.Bool.{cond_both, ltb-true}
use Rattle.std.proofs.lemmas.List.{get_or_default}
use Rattle.std.proofs.lemmas.List.Elements.{All-replicate, All-set}
use Rattle.gc_layout.specs.declared.shape.Shape.{Shape}
use Rattle.gc_model.specs.declared.call.Call.{Call}
use Rattle.gc_model.specs.declared.call.Call.TheVariants.{New, Get, Put, Ask, Set, SwapIf, Same, CopyReg, ClearReg, Share, Take, Await, Safepoint, Block, Unblock, Collect, End}
use Rattle.gc_model.specs.declared.entry.Entry.{Entry}
use Rattle.gc_model.specs.declared.entry.Entry.TheVariants.{Made, Run}
use Rattle.gc_model.specs.declared.reply.Reply.{Reply}
use Rattle.gc_model.specs.declared.reply.Reply.TheVariants.{Full, Found, Range, Yes}
use Rattle.gc_model.specs.Answer.{Answer, keeps, does, blocked_refusal, base_object, unless_refused, on_owner, loads, swaps, effect, answer, with_new}
use Rattle.gc_model.specs.History.{is_done, world_after_entry}
use Rattle.gc_model.specs.Step.{IsAvailable, IsEntryStep, IsStep, as_nothing, by_register, by_slot, unchanged, mutator_changed, slot_changed, number_changed, object_added}
use Rattle.gc_model.specs.World.{World, is_blocked, mutator_at, named_by, slot_at, with_blocked, with_mutator, with_number, with_register}
use Rattle.gc_model.proofs.Typed.{has-slot, has-number, has-common_slot}

-- each register of a mutator names what the mutator can come by
own-available : (world : World) (t : ℕ) → All (IsAvailable world t) (mutator_at world t).registers
own-available world t reg d below = by_register reg (get_or_default (mutator_at world t).registers reg d None below)

-- a register comes to name what the mutator can come by
register-step : (types : List Shape) (t : ℕ) (call : Call) (room : Bool) (world : World) (reg : ℕ) (name : Option ℕ)
    → IsAvailable world t name → IsStep types t call room world (with_register world t reg name)
register-step types t call room world reg name available =
    let registers = (mutator_at world t).registers in
    mutator_changed _ refl (record {
      sixteen = λ sixteen. length-set registers reg name ∙ sixteen;
      names = All-set (IsAvailable world t) registers reg name available (own-available world t);
    })

-- a mutator is blocked, or unblocked
blocked-step : (types : List Shape) (t : ℕ) (call : Call) (room : Bool) (world : World) (blocked : Bool)
    → IsStep types t call room world (with_blocked world t blocked)
blocked-step types t call room world blocked =
    mutator_changed _ refl (record { sixteen = λ sixteen. sixteen; names = own-available world t })

-- a mutator ends
end-step : (types : List Shape) (t : ℕ) (call : Call) (room : Bool) (world : World)
    → IsStep types t call room world (with_mutator world t (record { registers = replicate 16 None; blocked = true }))
end-step types t call room world =
    mutator_changed _ refl (record { sixteen = λ _. refl; names = All-replicate (IsAvailable world t) 16 None (as_nothing refl) })

-- a slot that is nothing changes nothing, and else a register comes to name what it names
loads-step : (types : List Shape) (t : ℕ) (call : Call) (room : Bool) (world : World) (into : ℕ) (name : Option ℕ)
    → IsAvailable world t name → IsStep types t call room world (loads world t into name).world
loads-step types t call room world into None available = unchanged refl
loads-step types t call room world into (Some number) available = register-step types t call room world into (Some number) available

-- a refusal changes nothing, and else the call works on an object that the register names, at a place below its count
on_owner-step : (types : List Shape) (t : ℕ) (call : Call) (room : Bool) (world : World)
    (base : Option ℕ) (count : ℕ → ℕ) (place : ℕ) (made : ℕ → Answer)
    → ((number : ℕ) → base ≡ Some number → place < count number → IsStep types t call room world (made number).world)
    → IsStep types t call room world (on_owner world (base_object base count place) made).world
on_owner-step types t call room world None count place made each = unchanged refl
on_owner-step types t call room world (Some number) count place made each =
    cond_both (nat_lt place (count number)) (Ok number) (Err Range)
    (λ (owner : Result ℕ Reply). IsStep types t call room world (on_owner world owner made).world)
    (λ below. each number refl (ltb-true place (count number) below)) (λ _. unchanged refl)

-- a number is replaced, or nothing changes
swaps-step : (types : List Shape) (t : ℕ) (call : Call) (room : Bool) (world : World) (number place expected replacement there : ℕ)
    → IsStep types t call room world (with_number world number place replacement)
    → IsStep types t call room world (swaps world number place expected replacement there).world
swaps-step types t call room world number place expected replacement there replaced =
    cond_both (there == expected) (record { world = with_number world number place replacement; reply = Yes }) (keeps world (Found there))
    (λ (made : Answer). IsStep types t call room world made.world) (λ _. replaced) (λ _. unchanged refl)

-- each call makes a step
pub effect-step : (types : List Shape) (t : ℕ) (call : Call) (room : Bool) (world : World)
    → IsStep types t call room world (effect types world t room call).world
effect-step types t (New into ty) room world =
    cond_both room (does (with_new types world t into ty.0)) (keeps world Full)
    (λ (made : Answer). IsStep types t (New into ty) room world made.world)
    (λ is. object_added into ty refl refl is) (λ _. unchanged refl)
effect-step types t (Get into base place) room world =
    on_owner-step types t (Get into base place) room world (named_by world t base) _ place _ (λ number named below.
    loads-step types t (Get into base place) room world into (slot_at world number place) (by_slot number place (inr (base, named)) refl))
effect-step types t (Put base place value) room world =
    on_owner-step types t (Put base place value) room world (named_by world t base) _ place _ (λ number named below.
    slot_changed number place value refl (inr (base, named)) (λ ready. has-slot world t base number place ready.sound named below))
effect-step types t (Ask base place) room world =
    on_owner-step types t (Ask base place) room world (named_by world t base) _ place _ (λ number named below. unchanged refl)
effect-step types t (Set base place value) room world =
    on_owner-step types t (Set base place value) room world (named_by world t base) _ place _ (λ number named below.
    number_changed number place value refl (inr (base, named)) (λ ready. has-number world t base number place ready.sound named below))
effect-step types t (SwapIf base place expected replacement) room world =
    on_owner-step types t (SwapIf base place expected replacement) room world (named_by world t base) _ place _ (λ number named below.
    swaps-step types t (SwapIf base place expected replacement) room world number place expected replacement _
    (number_changed number place replacement refl (inr (base, named))
    (λ ready. has-number world t base number place ready.sound named below)))
effect-step types t (Same left right) room world = unchanged refl
effect-step types t (CopyReg into source) room world =
    register-step types t (CopyReg into source) room world into (named_by world t source) (by_register source refl)
effect-step types t (ClearReg reg) room world = register-step types t (ClearReg reg) room world reg None (as_nothing refl)
effect-step types t (Share place value) room world =
    slot_changed 0 place value refl (inl refl) (λ ready. has-common_slot types world place ready.sound ready.typed ready.fit.1)
effect-step types t (Take into place) room world =
    loads-step types t (Take into place) room world into (slot_at world 0 place) (by_slot 0 place (inl refl) refl)
effect-step types t (Await into place) room world =
    loads-step types t (Await into place) room world into (slot_at world 0 place) (by_slot 0 place (inl refl) refl)
effect-step types t Safepoint room world = unchanged refl
effect-step types t Block room world = blocked-step types t Block room world true
effect-step types t Unblock room world = blocked-step types t Unblock room world false
effect-step types t Collect room world = unchanged refl
effect-step types t End room world = end-step types t End room world

-- a refusal changes nothing
unless_refused-step : (types : List Shape) (t : ℕ) (call : Call) (room : Bool) (world : World) (refusal : Option Reply) (made : Answer)
    → IsStep types t call room world made.world → IsStep types t call room world (unless_refused world refusal made).world
unless_refused-step types t call room world None made step = step
unless_refused-step types t call room world (Some refusal) made step = unchanged refl

-- each answer makes a step
pub answer-step : (types : List Shape) (t : ℕ) (call : Call) (room : Bool) (world : World)
    → IsStep types t call room world (answer types world t call room).world
answer-step types t call room world =
    unless_refused-step types t call room world (blocked_refusal (is_blocked world t) call) (effect types world t room call)
    (effect-step types t call room world)

-- each entry makes a step
pub entry-step : (types : List Shape) (entry : Entry) (world : World) → IsEntryStep types entry world (world_after_entry types world entry)
entry-step types (Made t call reply) world = answer-step types t call (is_done reply) world
entry-step types (Run report) world = refl
