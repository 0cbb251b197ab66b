-- What addresses say of names, where the memory shows a world.
use Rattle.std.proofs.Common.{◌≡◌, ◌≢◌, ℕ, Option, None, Some, true, false, refl, ap, arith, eq-eqb}
use Rattle.std.proofs.lemmas.Bool.{ne_eqb}
use Rattle.gc_model.specs.Answer.{names_same, yes_or_no}
use Rattle.gc_model.specs.declared.reply.Reply.TheVariants.{No, Yes}
use Rattle.gc_model.specs.World.{World}
use Rattle.gc_placement.specs.Memory.{Memory}
use Rattle.gc_placement.specs.Placement.{Placement, IsNamePlaced, name_address}
use Rattle.gc_placement.specs.Shows.{Shows}
use Rattle.gc_placement.proofs.Extents.{word-within}
use Rattle.gc_placement.proofs.Names.{nothing-name, same-name}

-- no object is placed at address 0
pub placed-some : (memory : Memory) (placement : Placement) (world : World) → Shows memory placement world
    → (number : ℕ) → placement number ≢ Some 0
placed-some memory placement world shown number at =
    let within =
    word-within memory.layout memory.bay placement world.graph number 0 shown.bays shown.lying
    (record { address = 0; at = at; from = omega arith; to = omega arith }) in
    omega (arith, within.0)

-- two objects that are placed at one address are one
pub placed-own : (memory : Memory) (placement : Placement) (world : World) → Shows memory placement world
    → (i j a : ℕ) → placement i ≡ Some a → placement j ≡ Some a → i ≡ j
placed-own memory placement world shown i j a one other =
    shown.apart a i j (record { address = a; at = one; from = omega arith; to = omega arith })
    (record { address = a; at = other; from = omega arith; to = omega arith })

-- a placed name whose address is 0 names nothing
pub name-nothing : (memory : Memory) (placement : Placement) (world : World) (name : Option ℕ) → Shows memory placement world
    → IsNamePlaced placement name → name_address placement name ≡ 0 → name ≡ None
name-nothing memory placement world name shown = nothing-name placement name (placed-some memory placement world shown)

-- two placed names with one address are one
pub name-same : (memory : Memory) (placement : Placement) (world : World) (left right : Option ℕ) → Shows memory placement world
    → IsNamePlaced placement left → IsNamePlaced placement right → name_address placement left ≡ name_address placement right
    → left ≡ right
name-same memory placement world left right shown =
    same-name placement left right (placed-own memory placement world shown) (placed-some memory placement world shown)

-- a name is the same as itself
names_same-self : (name : Option ℕ) → names_same name name ≡ true
names_same-self None = refl
names_same-self (Some number) = eq-eqb number number refl

-- two names that aren't one are not the same
names_same-other : (left right : Option ℕ) → left ≢ right → names_same left right ≡ false
names_same-other None None differs = absurd (differs refl)
names_same-other None (Some right) differs = refl
names_same-other (Some left) None differs = refl
names_same-other (Some left) (Some right) differs = ne_eqb left right (λ same. differs (ap Some same))

-- one name
pub answer-yes : (left right : Option ℕ) → left ≡ right → yes_or_no (names_same left right) ≡ Yes
answer-yes left right same = rw (same, names_same-self right) refl

-- two names
pub answer-no : (left right : Option ℕ) → left ≢ right → yes_or_no (names_same left right) ≡ No
answer-no left right differs = rw (names_same-other left right differs) refl
