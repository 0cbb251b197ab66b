-- What every step keeps: the objects and their kinds, that each name is an object's, that each object has its type's
-- counts. So each answer and each entry keeps it, and it holds after every history.
use Rattle.std.proofs.Common.{◌≡◌, ◌∙◌, ℕ, Bool, Option, List, [], ◌∷◌, All, length, length-set, fold, inl, inr, refl, sym, subst}
use Rattle.std.proofs.lemmas.List.{length-replicate}
use Rattle.std.proofs.lemmas.List.Elements.{All-head, All-tail, All-weaker}
use Rattle.gc_layout.specs.declared.shape.Shape.{Shape}
use Rattle.gc_layout.specs.Types.{AreTypes}
use Rattle.gc_model.specs.declared.call.Call.{Call}
use Rattle.gc_model.specs.declared.entry.Entry.{Entry}
use Rattle.gc_model.specs.declared.entry.Entry.TheVariants.{Made, Run}
use Rattle.gc_model.specs.Answer.{Suits, effect, with_new}
use Rattle.gc_model.specs.History.{Configuration, History, is_done, world_after, world_after_entry}
use Rattle.gc_model.specs.Laws.{IsFitEntry, IsSound, IsThere, IsWellTyped, KeepsObjects}
use Rattle.gc_model.specs.Step.{IsAvailable, IsOwnChange, IsReady, IsStep, as_nothing, by_register, by_slot, unchanged, mutator_changed, slot_changed, number_changed, object_added}
use Rattle.gc_model.specs.World.{World, Mutator, first_world, fresh_mutator, named_by, with_mutator, with_number, with_slot}
use Rattle.gc_model.proofs.Objects.{new_kind, with_new-kinds, with_number-kinds, with_slot-kinds}
use Rattle.gc_model.proofs.Sound.{IsSoundMutator, first_world-sound, mutator_at-sound, named_by-there, slot-there, with_mutator-sound, with_new-sound, with_number-sound, with_slot-sound}
use Rattle.gc_model.proofs.Steps.{answer-step, effect-step}
use Rattle.gc_model.proofs.Typed.{first_world-typed, more-typed, new_kind-typed, same-typed}

-- a step keeps the objects
pub step-keeps : (types : List Shape) (t : ℕ) (call : Call) (room : Bool) (old new : World) → IsStep types t call room old new
    → KeepsObjects old new
step-keeps types t call room old new (unchanged is) =
    subst (KeepsObjects old) (sym is) (record { mutators = refl; objects = inl refl })
step-keeps types t call room old new (mutator_changed mutator is own) =
    subst (KeepsObjects old) (sym is) (record { mutators = length-set old.mutators t mutator; objects = inl refl })
step-keeps types t call room old new (slot_changed number place value is at_hand has) =
    subst (KeepsObjects old) (sym is)
    (record { mutators = refl; objects = inl (with_slot-kinds old number place (named_by old t value)) })
step-keeps types t call room old new (number_changed number place value is at_hand has) =
    subst (KeepsObjects old) (sym is) (record { mutators = refl; objects = inl (with_number-kinds old number place value) })
step-keeps types t call room old new (object_added into ty is call_is room_is) =
    subst (KeepsObjects old) (sym is) (record {
      mutators = length-set old.mutators t _;
      objects = inr (new_kind types t ty.0, with_new-kinds types old t into ty.0);
    })

-- so does each effect
pub effect-keeps : (types : List Shape) (world : World) (t : ℕ) (room : Bool) (call : Call)
    → KeepsObjects world (effect types world t room call).world
effect-keeps types world t room call = step-keeps types t call room world _ (effect-step types t call room world)

-- so does each entry
pub entry-keeps : (types : List Shape) (world : World) (entry : Entry) → KeepsObjects world (world_after_entry types world entry)
entry-keeps types world (Made t call reply) =
    step-keeps types t call (is_done reply) world _ (answer-step types t call (is_done reply) world)
entry-keeps types world (Run report) = record { mutators = refl; objects = inl refl }

-- in a sound world what a mutator can come by is there
available-there : (world : World) → IsSound world → (t : ℕ) (name : Option ℕ) → IsAvailable world t name → IsThere (length world.graph) name
available-there world sound t name (as_nothing is) = subst (IsThere (length world.graph)) (sym is) tt
available-there world sound t name (by_register reg is) = subst (IsThere (length world.graph)) (sym is) (named_by-there world sound t reg)
available-there world sound t name (by_slot number place at_hand is) =
    subst (IsThere (length world.graph)) (sym is) (slot-there world sound number place)

-- a mutator that changes by names that it can come by stays sound
own-sound : (world : World) → IsSound world → (t : ℕ) (mutator : Mutator) → IsOwnChange world t mutator
    → IsSoundMutator (length world.graph) mutator
own-sound world sound t mutator own = (
  own.sixteen (mutator_at-sound world sound t).0,
  All-weaker (IsAvailable world t) (IsThere (length world.graph)) (available-there world sound t) mutator.registers own.names,
)

-- a step keeps a world sound
pub step-sound : (types : List Shape) (t : ℕ) (call : Call) (room : Bool) (old new : World) → IsSound old
    → IsStep types t call room old new → IsSound new
step-sound types t call room old new sound (unchanged is) = subst IsSound (sym is) sound
step-sound types t call room old new sound (mutator_changed mutator is own) =
    subst IsSound (sym is) (with_mutator-sound old sound t mutator (own-sound old sound t mutator own))
step-sound types t call room old new sound (slot_changed number place value is at_hand has) =
    subst IsSound (sym is) (with_slot-sound old sound number place (named_by old t value) (named_by-there old sound t value))
step-sound types t call room old new sound (number_changed number place value is at_hand has) =
    subst IsSound (sym is) (with_number-sound old sound number place value)
step-sound types t call room old new sound (object_added into ty is call_is room_is) =
    subst IsSound (sym is) (with_new-sound types old sound t into ty.0)

-- so does each entry
pub entry-sound : (types : List Shape) (world : World) → IsSound world → (entry : Entry) → IsSound (world_after_entry types world entry)
entry-sound types world sound (Made t call reply) =
    step-sound types t call (is_done reply) world _ sound (answer-step types t call (is_done reply) world)
entry-sound types world sound (Run report) = sound

-- so entries after a sound world lead to a sound one
entries-sound : (types : List Shape) (history : History) (world : World) → IsSound world
    → IsSound (fold (world_after_entry types) world history)
entries-sound types [] world sound = sound
entries-sound types (entry ∷ history) world sound =
    entries-sound types history (world_after_entry types world entry) (entry-sound types world sound entry)

-- the world after a history is sound
pub history-sound : (heap : Configuration) (history : History) → IsSound (world_after heap history)
history-sound heap history = entries-sound heap.types history (first_world heap.mutators) (first_world-sound heap.mutators)

-- a step of a fit call keeps a world well typed
pub step-typed : (types : List Shape) (t : ℕ) (call : Call) (room : Bool) (old new : World) → IsReady types old t call
    → IsStep types t call room old new → IsWellTyped types new
step-typed types t call room old new ready (unchanged is) = subst (IsWellTyped types) (sym is) ready.typed
step-typed types t call room old new ready (mutator_changed mutator is own) =
    subst (IsWellTyped types) (sym is) (same-typed types old (with_mutator old t mutator) refl ready.typed)
step-typed types t call room old new ready (slot_changed number place value is at_hand has) =
    let after = with_slot old number place (named_by old t value) in
    subst (IsWellTyped types) (sym is)
    (same-typed types old after (with_slot-kinds old number place (named_by old t value)) ready.typed)
step-typed types t call room old new ready (number_changed number place value is at_hand has) =
    subst (IsWellTyped types) (sym is)
    (same-typed types old (with_number old number place value) (with_number-kinds old number place value) ready.typed)
step-typed types t call room old new ready (object_added into ty is call_is room_is) =
    let known = subst (Suits (length types)) call_is ready.fit.1 in
    subst (IsWellTyped types) (sym is)
    (more-typed types old (with_new types old t into ty.0) (new_kind types t ty.0) ready.sound.common
    (with_new-kinds types old t into ty.0) (new_kind-typed types t ty.0 known) ready.typed)

-- so does each fit entry
pub entry-typed : (types : List Shape) (world : World) → IsSound world → IsWellTyped types world → (entry : Entry)
    → IsFitEntry types (length world.mutators) entry → IsWellTyped types (world_after_entry types world entry)
entry-typed types world sound typed (Made t call reply) fit =
    step-typed types t call (is_done reply) world _ (record { sound = sound; typed = typed; fit = fit })
    (answer-step types t call (is_done reply) world)
entry-typed types world sound typed (Run report) fit = typed

-- so fit entries after a well-typed world lead to a well-typed one
entries-typed : (types : List Shape) (mutators : ℕ) (history : History) (world : World) → IsSound world → IsWellTyped types world
    → length world.mutators ≡ mutators → All (IsFitEntry types mutators) history
    → IsWellTyped types (fold (world_after_entry types) world history)
entries-typed types mutators [] world sound typed count fit = typed
entries-typed types mutators (entry ∷ history) world sound typed count fit =
    let own = subst (λ (each : ℕ). IsFitEntry types each entry) (sym count) (All-head (IsFitEntry types mutators) entry history fit) in
    let after = world_after_entry types world entry in
    entries-typed types mutators history after (entry-sound types world sound entry) (entry-typed types world sound typed entry own)
    ((entry-keeps types world entry).mutators ∙ count) (All-tail (IsFitEntry types mutators) entry history fit)

-- the world after a history of fit calls is well typed
pub history-typed : (heap : Configuration) (history : History) → AreTypes heap.types → All (IsFitEntry heap.types heap.mutators) history
    → IsWellTyped heap.types (world_after heap history)
history-typed heap history are_types fit =
    entries-typed heap.types heap.mutators history (first_world heap.mutators) (first_world-sound heap.mutators)
    (first_world-typed heap.types heap.mutators are_types) (length-replicate heap.mutators fresh_mutator) fit
