-- More cases of the definitions, worked by hand, which the checker computes: what is reached from other roots and where
-- not all belongs, each part of legality by its last entry, fitting, and what a step can't change.
use Rattle.std.specs.Prelude.{◌≡◌, ℕ, ◌<◌, ◌≤◌, ◌∷◌, ◌++◌, List, [], Bool, true, false, not, ◌==◌, Option, Some, None, map, length, refl}
use Rattle.std.proofs.Common.{arith, sym, ap, lit≤}
use Rattle.std.proofs.lemmas.Bool.{true≢false}
use Rattle.gc_model.specs.declared.call.Call.{Call}
use Rattle.gc_model.specs.declared.call.Call.TheVariants.{New, Get, Put, Ask, Same, ClearReg, Share, Take, Await, Safepoint, Block, Unblock, Collect, End}
use Rattle.gc_model.specs.declared.call.Line.{Line}
use Rattle.gc_model.specs.declared.entry.Entry.{Entry}
use Rattle.gc_model.specs.declared.entry.Entry.TheVariants.{Made, Run}
use Rattle.gc_model.specs.declared.entry.RunReport.TheVariants as report
use Rattle.gc_model.specs.declared.reply.Reply.TheVariants.{Done, Full, Number, Yes, NilBase, NotBlocked}
use Rattle.gc_model.specs.Answer.{answer, IsFit}
use Rattle.gc_model.specs.Examples.{sample_types, box, pair, line_of, world_after_calls}
use Rattle.gc_model.specs.Graph.{Graph}
use Rattle.gc_model.specs.History.{Configuration, History, FitsScript, world_after, calls_of, calls_in, lines_in, replies_in, replies_by_line, ends_of, allowance_of}
use Rattle.gc_model.specs.Legal.{KeepsSize, FullLeavesNoPlace, CollectFollowsFull, ReportCountsReachable}
use Rattle.gc_model.specs.Reach.{Tracing, every, is_reached_in, is_reached, live, own_words}
use Rattle.gc_model.specs.Step.{IsStep, unchanged, mutator_changed, slot_changed, number_changed, object_added}
use Rattle.gc_model.specs.World.{World, named_by}

-- an object of two slots, which another of two slots names, which a third names: objects 3, 2 and 1. Nothing names 4
abbrev chain : Graph
chain = (world_after_calls (New 0 pair ∷ New 1 pair ∷ New 2 pair ∷ New 3 pair ∷ Put 0 1 1 ∷ Put 1 0 2 ∷ [])).graph

-- all that is reached from one object
abbrev from : ℕ → Tracing
from number = record { graph = chain; roots = None ∷ Some number ∷ []; belongs = every }

-- what is reached from one object through others than this one
abbrev from_around : ℕ → ℕ → Tracing
from_around number left_out =
    record { graph = chain; roots = None ∷ Some number ∷ []; belongs = λ other. not (other == left_out) }

-- which of the objects 0 to 4 are so
abbrev each_of : (ℕ → Bool) → List Bool
each_of is = map is (0 ∷ 1 ∷ 2 ∷ 3 ∷ 4 ∷ [])

-- round 0 has the roots alone, and each further round what the members name
a_round_goes_one_slot_further :
    (each_of (is_reached_in (from 1) 0) ≡ false ∷ true ∷ false ∷ false ∷ false ∷ [])
    × ((each_of (is_reached_in (from 1) 1) ≡ false ∷ true ∷ true ∷ false ∷ false ∷ [])
    × (each_of (is_reached_in (from 1) 2) ≡ false ∷ true ∷ true ∷ true ∷ false ∷ []))
a_round_goes_one_slot_further = (refl, (refl, refl))

-- the common object isn't reached where it is no root, nor is what stands before the root
from_other_roots :
    (each_of (is_reached (from 1)) ≡ false ∷ true ∷ true ∷ true ∷ false ∷ [])
    × ((each_of (is_reached (from 2)) ≡ false ∷ false ∷ true ∷ true ∷ false ∷ [])
    × (each_of (is_reached (from 4)) ≡ false ∷ false ∷ false ∷ false ∷ true ∷ []))
from_other_roots = (refl, (refl, refl))

-- what doesn't belong isn't reached, nor is what only it names; so it is with a root
around_what_does_not_belong :
    (each_of (is_reached (from_around 1 2)) ≡ false ∷ true ∷ false ∷ false ∷ false ∷ [])
    × ((each_of (is_reached (from_around 1 3)) ≡ false ∷ true ∷ true ∷ false ∷ false ∷ [])
    × (each_of (is_reached (from_around 1 1)) ≡ false ∷ false ∷ false ∷ false ∷ false ∷ []))
around_what_does_not_belong = (refl, (refl, refl))

-- a heap of the sample types with two mutators
abbrev two_mutators : Configuration
two_mutators = record { types = sample_types; mutators = 2; nursery = 64; pages = 3 }

-- mutator 0 makes a box, and shares a pair that it then drops; mutator 1 makes a box and drops it, takes the pair, and
-- is blocked
abbrev shared_pair : History
shared_pair =
    Made 0 (New 0 box) Done ∷ Made 0 (New 1 pair) Done ∷ Made 0 (Share 15 1) Done ∷ Made 0 (ClearReg 1) Done
    ∷ Made 1 (New 0 box) Done ∷ Made 1 (ClearReg 0) Done ∷ Made 1 (New 2 pair) Done ∷ Made 1 Block Done ∷ []

-- what the common object names is live, and so is what a blocked mutator names; what it made and dropped isn't
what_is_shared_is_live : live (world_after two_mutators shared_pair) ≡ record { objects = 4; words = 29 }
what_is_shared_is_live = refl

-- a mutator's own words are of what it made and what is reachable, whoever names it
own_words_are_of_the_maker :
    (own_words (world_after two_mutators shared_pair) 0 ≡ 7)
    × (own_words (world_after two_mutators shared_pair) 1 ≡ 4)
own_words_are_of_the_maker = (refl, refl)

-- an end drops what its mutator's registers name, and leaves what is shared
an_end_drops_what_registers_name :
    live (world_after two_mutators (shared_pair ++ Made 0 End Done ∷ Made 1 End Done ∷ [])) ≡ record { objects = 2; words = 22 }
an_end_drops_what_registers_name = refl

-- a New that was answered with Full has made nothing
what_was_full_is_not_made : length (world_after two_mutators (Made 0 (New 0 box) Full ∷ [])).graph ≡ 1
what_was_full_is_not_made = refl

-- a fit call has a mutator below the count, a type below the count, and a place of the common object below 16
fit_calls :
    (IsFit sample_types 2 1 (New 0 box) ≡ ((1 < 2) × (1 < 3)))
    × ((IsFit sample_types 2 2 (Share 15 0) ≡ ((2 < 2) × (15 < 16)))
    × ((IsFit sample_types 2 0 (Take 0 16) ≡ ((0 < 2) × (16 < 16)))
    × ((IsFit sample_types 2 0 (Await 0 3) ≡ ((0 < 2) × (3 < 16)))
    × (IsFit sample_types 2 0 (Get 0 0 255) ≡ ((0 < 2) × Unit {0})))))
fit_calls = (refl, (refl, (refl, (refl, refl))))

-- the reachable words and the new object's are at most those of one half and all pages of each mutator: here 18, a box
-- of 3, and 2 * (64 + 1024 * 3)
the_size_counts_one_half_and_all_pages :
    (KeepsSize two_mutators [] (Made 1 (New 0 box) Done) ≡ (21 ≤ 6272))
    × ((KeepsSize two_mutators shared_pair (Made 0 (New 0 pair) Done) ≡ (33 ≤ 6272))
    × (KeepsSize two_mutators [] (Made 0 (New 0 box) Full) ≡ Unit {0}))
the_size_counts_one_half_and_all_pages = (refl, (refl, refl))

-- two mutators again, with halves of 6 words
abbrev small_halves : Configuration
small_halves = record { types = sample_types; mutators = 2; nursery = 6; pages = 3 }

-- a box that is reachable and a pair don't fit a half together: so full may be answered behind a full collection, whatever another
-- mutator did since
full_behind_a_full_collection :
    FullLeavesNoPlace small_halves (Made 0 (New 0 box) Done ∷ Run (report.Full 2 21) ∷ Made 1 Safepoint Done ∷ [])
    (Made 0 (New 1 pair) Full)
full_behind_a_full_collection =
    let own : own_words (world_after small_halves (Made 0 (New 0 box) Done ∷ [])) 0 ≡ 3 = refl in
    record {
      behind = record {
        front = Made 0 (New 0 box) Done ∷ [];
        objects = 2;
        words = 21;
        back = Made 1 Safepoint Done ∷ [];
        split = refl;
        last = refl;
        own = refl;
      };
      full = omega (arith, own);
    }

a_new_that_is_done_follows_anything : FullLeavesNoPlace two_mutators [] (Made 0 (New 0 pair) Done)
a_new_that_is_done_follows_anything = tt

-- a full report counts what is reachable where it stands
a_full_report_counts_the_reachable : ReportCountsReachable two_mutators shared_pair (Run (report.Full 4 29))
a_full_report_counts_the_reachable = refl

-- a full collection, of any numbers
abbrev full_run : Entry
full_run = Run (report.Full 1 18)

-- whether a Collect of mutator 0 may be done behind a history
abbrev may_collect : History → Type 0
may_collect before = CollectFollowsFull two_mutators before (Made 0 Collect Done)

-- a full collection behind the caller's previous entry, or behind none; others' entries and other collections between
-- don't matter
collects_behind_a_full_collection :
    may_collect (full_run ∷ [])
    × (may_collect (Made 0 Block Done ∷ Made 1 Safepoint Done ∷ full_run ∷ Made 1 Collect Done ∷ Run report.Minor ∷ [])
    × may_collect (Made 1 Safepoint Done ∷ full_run ∷ Made 1 Safepoint Done ∷ Made 1 Safepoint Done ∷ []))
collects_behind_a_full_collection = (refl, (refl, refl))

-- no minor one is enough, nor one before the caller's previous entry, whatever that is
no_minor_collection : may_collect (Made 0 Safepoint Done ∷ Run report.Minor ∷ []) → ⊥
no_minor_collection collect = true≢false (sym collect)

no_earlier_collection : may_collect (full_run ∷ Made 0 (Ask 0 0) NilBase ∷ []) → ⊥
no_earlier_collection collect = true≢false (sym collect)

no_collection_of_another_mutator : may_collect (full_run ∷ Made 0 Collect Done ∷ Made 1 Collect Done ∷ []) → ⊥
no_collection_of_another_mutator collect = true≢false (sym collect)

-- lines of two mutators, and a history in which the second goes first
abbrev two_lines : List Line
two_lines = line_of 0 (New 0 box) ∷ line_of 1 (Same 0 1) ∷ line_of 0 (Ask 0 0) ∷ line_of 0 Collect ∷ line_of 1 Unblock ∷ []

abbrev second_first : History
second_first =
    Made 1 (Same 0 1) Yes ∷ Made 1 Unblock NotBlocked ∷ Run report.Minor ∷ Made 0 (New 0 box) Done ∷ Made 1 End Done
    ∷ Made 0 (Ask 0 0) (Number 0) ∷ full_run ∷ Made 0 Collect Done ∷ Made 0 End Done ∷ []

-- each mutator's calls are its lines in their order, and then its end
each_mutators_calls_are_its_lines :
    (calls_of 0 second_first ≡ New 0 box ∷ Ask 0 0 ∷ Collect ∷ End ∷ [])
    × ((calls_of 1 second_first ≡ Same 0 1 ∷ Unblock ∷ End ∷ [])
    × ((calls_in 0 two_lines ≡ New 0 box ∷ Ask 0 0 ∷ Collect ∷ [])
    × (calls_in 1 two_lines ≡ Same 0 1 ∷ Unblock ∷ [])))
each_mutators_calls_are_its_lines = (refl, (refl, (refl, refl)))

-- replies stand in the order of the lines, or in that of the history
replies_stand_by_line :
    (replies_by_line second_first [] two_lines ≡ Done ∷ Yes ∷ Number 0 ∷ Done ∷ NotBlocked ∷ [])
    × (replies_in second_first ≡ Yes ∷ NotBlocked ∷ Done ∷ Done ∷ Number 0 ∷ Done ∷ Done ∷ [])
replies_stand_by_line = (refl, refl)

-- the calls of all mutators in their order, and the ends of three
lines_stand_in_their_order :
    (lines_in (Made 1 Block Done ∷ full_run ∷ Made 0 Block Done ∷ []) ≡ line_of 1 Block ∷ line_of 0 Block ∷ [])
    × (ends_of 3 ≡ line_of 0 End ∷ line_of 1 End ∷ line_of 2 End ∷ [])
lines_stand_in_their_order = (refl, refl)

-- a new object may bring two collections, a collect one, and no other call any
what_a_call_may_bring :
    map allowance_of (New 0 box ∷ Collect ∷ Safepoint ∷ Get 0 0 0 ∷ Await 0 0 ∷ Block ∷ Unblock ∷ End ∷ [])
    ≡ 2 ∷ 1 ∷ 0 ∷ 0 ∷ 0 ∷ 0 ∷ 0 ∷ 0 ∷ []
what_a_call_may_bring = refl

-- no more collections fit than the lines allow: here none
no_collection_is_too_many : FitsScript 0 (line_of 0 Safepoint ∷ []) (full_run ∷ []) → ⊥
no_collection_is_too_many fits = omega (arith, fits.collections)

-- as many as the lines allow fit: here three
three_collections_are_allowed :
    FitsScript 0 (line_of 0 (New 0 box) ∷ line_of 0 Collect ∷ []) (full_run ∷ Run report.Minor ∷ full_run ∷ [])
three_collections_are_allowed = record { calls = λ t below. absurd (omega (arith, below)); collections = lit≤ tt }

-- the world in which two mutators each have made a box
abbrev two_boxes : World
two_boxes = world_after two_mutators (Made 0 (New 0 box) Done ∷ Made 1 (New 0 box) Done ∷ [])

-- whether register 0 of mutator 1 names an object
abbrev names_something : Option ℕ → Bool
names_something None = false
names_something (Some number) = true

-- no step of mutator 0 clears a register of mutator 1
no_step_changes_others_registers : (call : Call) (room : Bool)
    → IsStep sample_types 0 call room two_boxes (answer sample_types two_boxes 1 (ClearReg 0) true).world → ⊥
no_step_changes_others_registers call room (unchanged same) = true≢false (ap (λ w. names_something (named_by w 1 0)) (sym same))
no_step_changes_others_registers call room (mutator_changed mutator same own) =
    true≢false (ap (λ w. names_something (named_by w 1 0)) (sym same))
no_step_changes_others_registers call room (slot_changed number place value same hand there) =
    true≢false (ap (λ w. names_something (named_by w 1 0)) (sym same))
no_step_changes_others_registers call room (number_changed number place value same hand there) =
    true≢false (ap (λ w. names_something (named_by w 1 0)) (sym same))
no_step_changes_others_registers call room (object_added into ty same new there) =
    true≢false (ap (λ w. names_something (named_by w 1 0)) (sym same))
