-- The graph's answer to a call: a refusal for being blocked, or what the call does. A call on a slot or a number of
-- an object that a register names works on that object, or is refused.
use Rattle.std.specs.Prelude.{ℕ, ◌<◌, List, length, replicate, Option, None, Some, Result, Ok, Err, slice_index_or, Bool, true, false, ◌==◌, nat_lt, if◌then◌else◌}
use Rattle.gc_layout.specs.declared.shape.Shape.{Shape}
use Rattle.gc_layout.specs.Shape.{common_shape}
use Rattle.gc_layout.specs.Sizes.{common_slots, register_count}
use Rattle.gc_model.specs.declared.call.Call.{Call}
use Rattle.gc_model.specs.declared.call.Call.TheVariants.{New, Get, Put, Ask, Set, SwapIf, Same, CopyReg, ClearReg, Share, Take, Await, Safepoint, Block, Unblock, Collect, End}
use Rattle.gc_model.specs.declared.reply.Reply.{Reply}
use Rattle.gc_model.specs.declared.reply.Reply.TheVariants.{Done, Full, Number, Yes, No, Found, Nil, NilBase, Range, Blocked, NotBlocked}
use Rattle.gc_model.specs.Graph.{fresh_object, object_at}
use Rattle.gc_model.specs.World.{World, named_by, slot_at, number_at, is_blocked, with_mutator, with_register, with_blocked, with_object, with_slot, with_number}

-- a reply, and the world after the call
pub record Answer : Type 0 where
  pub world : World
  pub reply : Reply

-- a call that changes nothing
abbrev pub keeps : World → Reply → Answer
keeps world reply = record { world = world; reply = reply }

-- a call that is done
abbrev pub does : World → Answer
does world = record { world = world; reply = Done }

-- the refusal for being blocked, or for not being blocked: a blocked mutator may only unblock or end, and only a
-- blocked one may unblock
abbrev pub blocked_refusal : Bool → Call → Option Reply
blocked_refusal true Unblock = None
blocked_refusal true End = None
blocked_refusal true call = Some Blocked
blocked_refusal false Unblock = Some NotBlocked
blocked_refusal false call = None

-- the object that a base names: refused where it names nothing, or where the place is at or above the object's count
abbrev pub base_object : Option ℕ → (ℕ → ℕ) → ℕ → Result ℕ Reply
base_object None count place = Err NilBase
base_object (Some number) count place = if nat_lt place (count number) then Ok number else Err Range

-- the object whose slot is meant, or the refusal
abbrev pub slot_owner : World → ℕ → ℕ → ℕ → Result ℕ Reply
slot_owner world t base place = base_object (named_by world t base) (λ number. length (object_at world.graph number).slots) place

-- the object whose number is meant, or the refusal
abbrev pub number_owner : World → ℕ → ℕ → ℕ → Result ℕ Reply
number_owner world t base place = base_object (named_by world t base) (λ number. length (object_at world.graph number).numbers) place

-- what is answered where nothing refuses the call
abbrev pub unless_refused : World → Option Reply → Answer → Answer
unless_refused world None made = made
unless_refused world (Some refusal) made = keeps world refusal

-- what is answered on the object that is meant, where nothing refuses the call
abbrev pub on_owner : World → Result ℕ Reply → (ℕ → Answer) → Answer
on_owner world (Ok number) made = made number
on_owner world (Err refusal) made = keeps world refusal

-- the shape of a type
abbrev pub shape_at : List Shape → ℕ → Shape
shape_at types ty = slice_index_or types ty common_shape

-- a register comes to name a new object of a type
abbrev pub with_new : List Shape → World → ℕ → ℕ → ℕ → World
with_new types world t into ty =
    with_register (with_object world (fresh_object ty (Some t) (shape_at types ty))) t into (Some (length world.graph))

-- what a slot names goes into a register; refused where the slot is nothing
abbrev pub loads : World → ℕ → ℕ → Option ℕ → Answer
loads world t into None = keeps world Nil
loads world t into (Some number) = does (with_register world t into (Some number))

-- a number is replaced where the expected one stands there, and else it is told
abbrev pub swaps : World → ℕ → ℕ → ℕ → ℕ → ℕ → Answer
swaps world number place expected replacement there =
    if there == expected then record { world = with_number world number place replacement; reply = Yes } else keeps world (Found there)

-- the answer to a comparison of two registers
abbrev pub yes_or_no : Bool → Reply
yes_or_no equal = if equal then Yes else No

-- whether two registers name the same object or are both nothing
abbrev pub names_same : Option ℕ → Option ℕ → Bool
names_same None None = true
names_same None (Some right) = false
names_same (Some left) None = false
names_same (Some left) (Some right) = left == right

-- what a call does where its mutator may make it; a New is Done exactly where there is room
abbrev pub effect : List Shape → World → ℕ → Bool → Call → Answer
effect types world t room (New into ty) = if room then does (with_new types world t into ty.0) else keeps world Full
effect types world t room (Get into base place) =
    on_owner world (slot_owner world t base place) (λ number. loads world t into (slot_at world number place))
effect types world t room (Put base place value) =
    on_owner world (slot_owner world t base place) (λ number. does (with_slot world number place (named_by world t value)))
effect types world t room (Ask base place) =
    on_owner world (number_owner world t base place) (λ number. keeps world (Number (number_at world number place)))
effect types world t room (Set base place value) =
    on_owner world (number_owner world t base place) (λ number. does (with_number world number place value))
effect types world t room (SwapIf base place expected replacement) =
    on_owner world (number_owner world t base place)
    (λ number. swaps world number place expected replacement (number_at world number place))
effect types world t room (Same left right) = keeps world (yes_or_no (names_same (named_by world t left) (named_by world t right)))
effect types world t room (CopyReg into source) = does (with_register world t into (named_by world t source))
effect types world t room (ClearReg reg) = does (with_register world t reg None)
effect types world t room (Share place value) = does (with_slot world 0 place (named_by world t value))
effect types world t room (Take into place) = loads world t into (slot_at world 0 place)
effect types world t room (Await into place) = loads world t into (slot_at world 0 place)
effect types world t room Safepoint = does world
effect types world t room Block = does (with_blocked world t true)
effect types world t room Unblock = does (with_blocked world t false)
effect types world t room Collect = does world
effect types world t room End = does (with_mutator world t (record { registers = replicate register_count None; blocked = true }))

-- the graph's answer; a New that no refusal meets is Done exactly where there is room
abbrev pub answer : List Shape → World → ℕ → Call → Bool → Answer
answer types world t call room = unless_refused world (blocked_refusal (is_blocked world t) call) (effect types world t room call)

-- a call's type is one of so many, and its place on the common object is below 16
abbrev pub Suits : ℕ → Call → Type 0
Suits types (New into ty) = ty.0 < types
Suits types (Share place value) = place < common_slots
Suits types (Take into place) = place < common_slots
Suits types (Await into place) = place < common_slots
Suits types call = Unit {0}

-- a fit call: the mutator is there, the type is known, and the place of the common object is below 16
abbrev pub IsFit : List Shape → ℕ → ℕ → Call → Type 0
IsFit types mutators t call = (t < mutators) × Suits (length types) call

-- the calls that make an object
abbrev pub IsNew : Call → Type 0
IsNew (New into ty) = Unit {0}
IsNew call = ⊥
