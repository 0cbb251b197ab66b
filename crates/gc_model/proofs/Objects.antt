-- Objects and their kinds: a slot or a number that changes leaves each kind as it is, and a new object adds one.
use Rattle.std.proofs.Common.{◌≡◌, ℕ, Option, None, Some, List, [], ◌∷◌, ◌++◌, ap, arith, length-set}
use Rattle.std.proofs.Math.Seq.{map-set_same}
use Rattle.std.proofs.lemmas.List.{length-replicate, map-append}
use Rattle.gc_layout.specs.declared.shape.Shape.{Shape}
use Rattle.gc_layout.specs.Shape.{size_of}
use Rattle.gc_model.specs.Answer.{shape_at, with_new}
use Rattle.gc_model.specs.Graph.{common_object, fresh_object, object_at, object_size}
use Rattle.gc_model.specs.Laws.{Kind, kind_of, kinds_of}
use Rattle.gc_model.specs.World.{World, with_number, with_slot}

-- a slot that changes is still one slot
pub with_slot-kinds : (world : World) (number place : ℕ) (value : Option ℕ)
    → kinds_of (with_slot world number place value).graph ≡ kinds_of world.graph
with_slot-kinds world number place value =
    let object = object_at world.graph number in
    map-set_same kind_of world.graph number _ common_object
    (ap (λ (slots : ℕ). record (kind_of object) { slots = slots }) (length-set object.slots place value))

-- a number that changes is still one number
pub with_number-kinds : (world : World) (number place value : ℕ)
    → kinds_of (with_number world number place value).graph ≡ kinds_of world.graph
with_number-kinds world number place value =
    let object = object_at world.graph number in
    map-set_same kind_of world.graph number _ common_object
    (ap (λ (numbers : ℕ). record (kind_of object) { numbers = numbers }) (length-set object.numbers place value))

-- the kind of a new object
abbrev pub new_kind : List Shape → ℕ → ℕ → Kind
new_kind types t ty = kind_of (fresh_object ty (Some t) (shape_at types ty))

-- a new object stands behind the others
pub with_new-kinds : (types : List Shape) (world : World) (t into ty : ℕ)
    → kinds_of (with_new types world t into ty).graph ≡ kinds_of world.graph ++ new_kind types t ty ∷ []
with_new-kinds types world t into ty = map-append kind_of world.graph (fresh_object ty (Some t) (shape_at types ty) ∷ [])

-- a fresh object is as large as its shape says
pub fresh_object-size : (ty : ℕ) (maker : Option ℕ) (shape : Shape) → object_size (fresh_object ty maker shape) ≡ size_of shape
fresh_object-size ty maker shape =
    omega (arith, length-replicate {A = Option ℕ} shape.slots None, length-replicate {A = ℕ} shape.numbers 0)
