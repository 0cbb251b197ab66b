-- Who made the objects: each but the common one was made by a mutator.
use Rattle.std.proofs.Common.{◌≡◌, ◌∙◌, ℕ, ◌<◌, Bool, None, Some, Option, List, [], ◌∷◌, ◌++◌, fold, length, inl, inr, refl, ap, sym, subst, arith, slice_index_or}
use Rattle.std.proofs.lemmas.Bool.{cases_lt}
use Rattle.std.proofs.lemmas.List.{get_or-map, get_or_append_left, get_or_push, length-map, length_push}
use Rattle.std.proofs.lemmas.Option.{none-some}
use Rattle.gc_layout.specs.declared.shape.Shape.{Shape}
use Rattle.gc_model.specs.declared.call.Call.{Call}
use Rattle.gc_model.specs.declared.entry.Entry.{Entry}
use Rattle.gc_model.specs.declared.entry.Entry.TheVariants.{Made, Run}
use Rattle.gc_model.specs.Graph.{Graph, common_object, object_at}
use Rattle.gc_model.specs.History.{Configuration, History, is_done, world_after, world_after_entry}
use Rattle.gc_model.specs.Laws.{Kind, kind_of, kinds_of}
use Rattle.gc_model.specs.Step.{IsStep, unchanged, mutator_changed, slot_changed, number_changed, object_added}
use Rattle.gc_model.specs.World.{World, first_world, named_by}
use Rattle.gc_model.proofs.Objects.{new_kind, with_new-kinds, with_number-kinds, with_slot-kinds}
use Rattle.gc_model.proofs.Steps.{answer-step}

-- of these kinds the first alone can be of an object that nobody made
abbrev AreMadeKinds : List Kind → Type 0
AreMadeKinds kinds = (number : ℕ) → number < length kinds → (slice_index_or kinds number (kind_of common_object)).maker ≡ None → number ≡ 0

-- so it is where there is one more that was made
more-made : (kinds : List Kind) (kind : Kind) (t : ℕ) → kind.maker ≡ Some t → AreMadeKinds kinds → AreMadeKinds (kinds ++ kind ∷ [])
more-made kinds kind t own made number there nobody = elim (cases_lt number (length kinds)) [
  | inl before ↦
      made number before
      (ap (λ (each : Kind). each.maker) (sym (get_or_append_left kinds (kind ∷ []) (kind_of common_object) number before)) ∙ nobody)
  | inr behind ↦
      let last : number ≡ length kinds = omega (arith, behind, there, length_push kinds kind) in
      absurd (none-some t
      (sym nobody ∙ ap (λ (each : Kind). each.maker) (get_or_push kinds kind (kind_of common_object) number (sym last)) ∙ own))
]

-- a step keeps it
step-made : (types : List Shape) (t : ℕ) (call : Call) (room : Bool) (old new : World) → IsStep types t call room old new
    → AreMadeKinds (kinds_of old.graph) → AreMadeKinds (kinds_of new.graph)
step-made types t call room old new (unchanged is) made = subst (λ (world : World). AreMadeKinds (kinds_of world.graph)) (sym is) made
step-made types t call room old new (mutator_changed mutator is own) made =
    subst (λ (world : World). AreMadeKinds (kinds_of world.graph)) (sym is) made
step-made types t call room old new (slot_changed number place value is at_hand has) made =
    subst (λ (world : World). AreMadeKinds (kinds_of world.graph)) (sym is)
    (subst AreMadeKinds (sym (with_slot-kinds old number place (named_by old t value))) made)
step-made types t call room old new (number_changed number place value is at_hand has) made =
    subst (λ (world : World). AreMadeKinds (kinds_of world.graph)) (sym is)
    (subst AreMadeKinds (sym (with_number-kinds old number place value)) made)
step-made types t call room old new (object_added into ty is call_is room_is) made =
    subst (λ (world : World). AreMadeKinds (kinds_of world.graph)) (sym is)
    (subst AreMadeKinds (sym (with_new-kinds types old t into ty.0))
    (more-made (kinds_of old.graph) (new_kind types t ty.0) t refl made))

-- so does each entry
entry-made : (types : List Shape) (world : World) (entry : Entry) → AreMadeKinds (kinds_of world.graph)
    → AreMadeKinds (kinds_of (world_after_entry types world entry).graph)
entry-made types world (Made t call reply) made =
    step-made types t call (is_done reply) world _ (answer-step types t call (is_done reply) world) made
entry-made types world (Run report) made = made

-- and each history
entries-made : (types : List Shape) (history : History) (world : World) → AreMadeKinds (kinds_of world.graph)
    → AreMadeKinds (kinds_of (fold (world_after_entry types) world history).graph)
entries-made types [] world made = made
entries-made types (entry ∷ history) world made =
    entries-made types history (world_after_entry types world entry) (entry-made types world entry made)

-- the kind at a place is that of the object there
kind-at : (graph : Graph) (number : ℕ) → number < length graph
    → (slice_index_or (kinds_of graph) number (kind_of common_object)).maker ≡ (object_at graph number).maker
kind-at graph number there =
    ap (λ (each : Kind). each.maker) (get_or-map kind_of graph number common_object (kind_of common_object) there)

-- after each history, what nobody made is the common object
pub history-made : (heap : Configuration) (history : History) (number : ℕ) → number < length (world_after heap history).graph
    → (object_at (world_after heap history).graph number).maker ≡ None → number ≡ 0
history-made heap history number there nobody =
    let graph = (world_after heap history).graph in
    let first : AreMadeKinds (kinds_of (first_world heap.mutators).graph) = λ each below own. omega (arith, below) in
    entries-made heap.types history (first_world heap.mutators) first number (omega (arith, there, length-map graph kind_of))
    (kind-at graph number there ∙ nobody)
