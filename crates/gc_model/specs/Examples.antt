-- Small cases of the answers, of what is live and of legal histories, worked by hand. The checker computes each.
use Rattle.std.specs.Prelude.{◌≡◌, ℕ, ◌∷◌, ◌++◌, List, [], true, map, replicate, refl}
use Rattle.std.proofs.Common.{sym, lit<, lit≤}
use Rattle.std.proofs.lemmas.Bool.{true≢false}
use Rattle.gc_layout.specs.declared.shape.Shape.{Shape}
use Rattle.gc_layout.specs.declared.shape.TypeNo.{TypeNo}
use Rattle.gc_layout.specs.Shape.{common_shape}
use Rattle.gc_model.specs.declared.call.Call.{Call}
use Rattle.gc_model.specs.declared.call.Call.TheVariants.{New, Get, Put, Ask, Set, SwapIf, Same, CopyReg, ClearReg, Share, Take, Await, Block, Unblock, Collect, End}
use Rattle.gc_model.specs.declared.call.Line.{Line}
use Rattle.gc_model.specs.declared.entry.Entry.TheVariants.{Made, Run}
use Rattle.gc_model.specs.declared.entry.RunReport.TheVariants as report
use Rattle.gc_model.specs.declared.reply.Reply.{Reply}
use Rattle.gc_model.specs.declared.reply.Reply.TheVariants.{Done, Number, Yes, No, Found, Nil, NilBase, Range, Blocked, NotBlocked}
use Rattle.gc_model.specs.Answer.{answer}
use Rattle.gc_model.specs.History.{Configuration, world_after}
use Rattle.gc_model.specs.Legal.{IsLegal}
use Rattle.gc_model.specs.Reach.{live, own_words}
use Rattle.gc_model.specs.World.{World, first_world}

-- the common object's type, boxes of one number, and pairs of two slots
abbrev pub sample_types : List Shape
sample_types = common_shape ∷ record { slots = 0; numbers = 1 } ∷ record { slots = 2; numbers = 0 } ∷ []

abbrev pub box : TypeNo
box = record { 0 = 1 }

abbrev pub pair : TypeNo
pair = record { 0 = 2 }

-- a line of a mutator
abbrev pub line_of : ℕ → Call → Line
line_of mutator call = record { mutator = mutator; call = call }

-- the replies to lines from a world on, where there is room for each new object
abbrev pub replies_from : World → List Line → List Reply
replies_from world [] = []
replies_from world (line ∷ lines) =
    let next = answer sample_types world line.mutator line.call true in next.reply ∷ replies_from next.world lines

-- the replies to lines of two mutators
abbrev pub replies_to : List Line → List Reply
replies_to lines = replies_from (first_world 2) lines

-- the replies to the calls of one mutator
abbrev pub replies_alone : List Call → List Reply
replies_alone calls = replies_from (first_world 1) (map (line_of 0) calls)

-- a number that was set is the number that is asked for
pub a_set_number_is_asked :
    replies_alone (New 0 box ∷ Set 0 0 42 ∷ Ask 0 0 ∷ []) ≡ Done ∷ Done ∷ Number 42 ∷ []
a_set_number_is_asked = refl

-- the largest number of 64 bits can be set
pub the_largest_number_fits :
    replies_alone (New 0 box ∷ Set 0 0 18446744073709551615 ∷ Ask 0 0 ∷ []) ≡ Done ∷ Done ∷ Number 18446744073709551615 ∷ []
the_largest_number_fits = refl

-- a register that names nothing is refused before the place is looked at
pub nothing_to_get_from :
    replies_alone (Get 1 0 0 ∷ Put 0 9 1 ∷ Ask 0 9 ∷ Set 0 9 1 ∷ SwapIf 0 9 0 1 ∷ []) ≡ replicate 5 NilBase
nothing_to_get_from = refl

-- a place above the slots is out of range, and a slot of a new object is nothing
pub range_comes_before_nil :
    replies_alone (New 0 pair ∷ Get 1 0 2 ∷ Get 1 0 1 ∷ Put 0 2 0 ∷ Ask 0 0 ∷ []) ≡ Done ∷ Range ∷ Nil ∷ Range ∷ Range ∷ []
range_comes_before_nil = refl

-- where a slot is nothing, the register stays
pub nil_leaves_the_register :
    replies_alone (New 0 pair ∷ New 1 box ∷ Set 1 0 7 ∷ Get 1 0 0 ∷ Ask 1 0 ∷ []) ≡ Done ∷ Done ∷ Done ∷ Nil ∷ Number 7 ∷ []
nil_leaves_the_register = refl

-- what was put into a slot is got from it, also after the register was cleared
pub what_was_put_is_got :
    replies_alone (New 0 pair ∷ New 1 box ∷ Set 1 0 7 ∷ Put 0 1 1 ∷ ClearReg 1 ∷ Get 2 0 1 ∷ Ask 2 0 ∷ Ask 1 0 ∷ [])
    ≡ replicate 6 Done ++ Number 7 ∷ NilBase ∷ []
what_was_put_is_got = refl

-- a blocked mutator may only unblock or end, and only a blocked one may unblock
pub blocked_mutators_are_refused :
    replies_alone (Block ∷ ClearReg 0 ∷ Block ∷ Ask 0 0 ∷ Unblock ∷ Unblock ∷ [])
    ≡ Done ∷ Blocked ∷ Blocked ∷ Blocked ∷ Done ∷ NotBlocked ∷ []
blocked_mutators_are_refused = refl

-- an ended mutator is blocked, its registers are nothing, and it may end again
pub an_ended_mutator_is_blocked :
    replies_alone (New 0 box ∷ End ∷ Ask 0 0 ∷ End ∷ Unblock ∷ Ask 0 0 ∷ [])
    ≡ Done ∷ Done ∷ Blocked ∷ Done ∷ Done ∷ NilBase ∷ []
an_ended_mutator_is_blocked = refl

-- a number is swapped only where the expected one stands there
pub only_the_expected_number_is_swapped :
    replies_alone (New 0 box ∷ SwapIf 0 0 5 6 ∷ SwapIf 0 0 0 6 ∷ Ask 0 0 ∷ Set 0 1 1 ∷ [])
    ≡ Done ∷ Found 0 ∷ Yes ∷ Number 6 ∷ Range ∷ []
only_the_expected_number_is_swapped = refl

-- a copied register is the same, another new object is not, and two empty registers are
pub copies_are_the_same :
    replies_alone (New 0 pair ∷ CopyReg 1 0 ∷ New 2 pair ∷ Same 0 1 ∷ Same 0 2 ∷ Same 3 4 ∷ Same 0 3 ∷ [])
    ≡ Done ∷ Done ∷ Done ∷ Yes ∷ No ∷ Yes ∷ No ∷ []
copies_are_the_same = refl

-- another mutator takes what was shared, in the place where it was shared
pub a_shared_object_is_taken :
    replies_to (line_of 0 (New 0 box) ∷ line_of 0 (Set 0 0 9) ∷ line_of 0 (Share 3 0) ∷ line_of 1 (Take 0 3) ∷ line_of 1 (Ask 0 0)
    ∷ line_of 1 (Take 1 4) ∷ line_of 1 (Await 1 3) ∷ line_of 1 (Same 0 1) ∷ [])
    ≡ Done ∷ Done ∷ Done ∷ Done ∷ Number 9 ∷ Nil ∷ Done ∷ Yes ∷ []
a_shared_object_is_taken = refl

-- a heap of these types with one mutator
abbrev pub sample_heap : Configuration
sample_heap = record { types = sample_types; mutators = 1; nursery = 64; pages = 1 }

-- the world after calls of mutator 0 that were all done
abbrev pub world_after_calls : List Call → World
world_after_calls calls = world_after sample_heap (map (λ call. Made 0 call Done) calls)

-- in the first world the common object alone is live
pub the_common_object_is_live : live (first_world 1) ≡ record { objects = 1; words = 18 }
the_common_object_is_live = refl

-- an object that a register names is live
pub a_named_object_is_live : live (world_after_calls (New 0 box ∷ [])) ≡ record { objects = 2; words = 21 }
a_named_object_is_live = refl

-- an object that no register and no live slot names isn't live
pub a_dropped_object_is_not_live :
    live (world_after_calls (New 0 box ∷ ClearReg 0 ∷ [])) ≡ record { objects = 1; words = 18 }
a_dropped_object_is_not_live = refl

-- two objects that name each other and that nothing else names aren't live
pub a_dropped_cycle_is_not_live :
    live (world_after_calls (New 0 pair ∷ New 1 pair ∷ Put 0 0 1 ∷ Put 1 0 0 ∷ ClearReg 0 ∷ ClearReg 1 ∷ []))
    ≡ record { objects = 1; words = 18 }
a_dropped_cycle_is_not_live = refl

-- what a live object names is live, and a blocked mutator's registers count
pub what_live_objects_name_is_live :
    live (world_after_calls (New 0 pair ∷ New 1 box ∷ Put 0 0 1 ∷ ClearReg 1 ∷ Block ∷ [])) ≡ record { objects = 3; words = 25 }
what_live_objects_name_is_live = refl

-- the common object is nobody's own
pub own_words_leave_out_the_common_object : own_words (world_after_calls (New 0 box ∷ [])) 0 ≡ 3
own_words_leave_out_the_common_object = refl

-- a collect that follows no full collection isn't legal
pub a_collect_alone_is_not_legal : IsLegal sample_heap (Made 0 Collect Done ∷ []) → ⊥
a_collect_alone_is_not_legal legal = true≢false (sym legal.collect.0)

-- a full collection between two calls of its mutator lets the second be a collect
pub a_collect_after_a_full_collection_is_legal :
    IsLegal sample_heap (Made 0 (New 0 box) Done ∷ Run (report.Full 2 21) ∷ Made 0 Collect Done ∷ [])
a_collect_after_a_full_collection_is_legal = record {
  replies = (((lit< tt, lit< tt), (true, refl)), (tt, (((lit< tt, tt), (true, refl)), tt)));
  size = (lit≤ tt, (tt, (tt, tt)));
  full = (tt, (tt, (tt, tt)));
  collect = (tt, (tt, (refl, tt)));
  reports = (tt, (refl, (tt, tt)));
}
