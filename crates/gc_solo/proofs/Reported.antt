-- The report of a full collection: the tallies of all mutators count what is reachable.
use Rattle.std.proofs.Common.{◌≡◌, ◌∙◌, ℕ, ◌+◌, ◌*◌, ◌^◌, ◌<◌, ◌≤◌, ◌&&◌, Bool, true, is_some, length, nat_lt, ap, arith, subst, sym}
use Rattle.std.proofs.lemmas.Bool.{and_left, and_parts}
use Rattle.gc_bay.specs.Bay.{Bay}
use Rattle.gc_layout.specs.Places.{Layout}
use Rattle.gc_model.specs.Graph.{Graph, object_at}
use Rattle.gc_model.specs.Reach.{live}
use Rattle.gc_model.specs.declared.entry.RunReport.{RunReport}
use Rattle.gc_placement.specs.Extents.{home_of}
use Rattle.gc_placement.specs.Marks.{is_found}
use Rattle.gc_placement.specs.Sums.{objects_where, words_where}
use Rattle.gc_placement.proofs.FullEnd.{found-live}
use Rattle.gc_placement.proofs.FullSums.{objects-below_all, objects-below_next, objects-below_none, words-below_all, words-below_next, words-below_none}
use Rattle.gc_placement.proofs.Names.{placed-from_test}
use Rattle.gc_solo.specs.Collecting.{Beginning, HasTracedAll}
use Rattle.gc_solo.specs.Kept.{Kept, bay_at}
use Rattle.gc_solo.proofs.FullWhole.{traced-full}

-- whether an object was kept
abbrev pub was_kept : (kept : Kept) (start : Beginning) → HasTracedAll kept start → ℕ → Bool
was_kept kept start all =
    is_found start.memory.layout start.placement all.traced.placement all.traced.collecting.marks

-- whether it lies in the region of a mutator below this one, too
abbrev pub was_kept_below : (kept : Kept) (start : Beginning) → HasTracedAll kept start → ℕ → ℕ → Bool
was_kept_below kept start all t number =
    was_kept kept start all number && nat_lt (home_of (object_at start.world.graph number).maker) t

-- so many objects of so many words were kept in the regions of the mutators below this one
pub record AreCountedTo (kept : Kept) (start : Beginning) (all : HasTracedAll kept start) (objects words t : ℕ) : Type 0 where
  pub objects_are : objects ≡ objects_where (was_kept_below kept start all t) start.world.graph
  pub words_are : words ≡ words_where (was_kept_below kept start all t) start.world.graph

-- below the first there is none
pub counted-none : (kept : Kept) (start : Beginning) (all : HasTracedAll kept start) → AreCountedTo kept start all 0 0 0
counted-none kept start all = record {
  objects_are = sym (objects-below_none (was_kept kept start all) start.world.graph);
  words_are = sym (words-below_none (was_kept kept start all) start.world.graph);
}

-- a mutator's tally adds its own
pub counted-more : (kept : Kept) (start : Beginning) (all : HasTracedAll kept start) (objects words t : ℕ) (bay : Bay)
    → AreCountedTo kept start all objects words t → t < kept.layout.mutators → bay ≡ bay_at kept.bays t
    → AreCountedTo kept start all (objects + bay.tally.objects) (words + bay.tally.words) (t + 1)
counted-more kept start all objects words t bay counted there is =
    let traced = traced-full kept start all in
    let below : t < start.memory.layout.mutators =
    omega (arith, there, ap (λ (layout : Layout). layout.mutators) traced.layout) in
    let counts = traced.marked.tallies t below in
    let graph = start.world.graph in
    let has = was_kept kept start all in
    record {
      objects_are = omega (
        arith,
        counted.objects_are,
        ap (λ (each : Bay). each.tally.objects) is,
        counts.objects,
        objects-below_next has graph t,
      );
      words_are = omega (
        arith,
        counted.words_are,
        ap (λ (each : Bay). each.tally.words) is,
        counts.words,
        words-below_next has graph t,
      );
    }

-- what is kept lies in some mutator's region
kept-home : (kept : Kept) (start : Beginning) (all : HasTracedAll kept start) (number : ℕ) → was_kept kept start all number ≡ true
    → home_of (object_at start.world.graph number).maker < start.memory.layout.mutators
kept-home kept start all number is =
    let place = placed-from_test all.traced.placement number (and_parts (is_some (all.traced.placement number)) _ is).0 in
    (traced-full kept start all).under_way.lying.home number place.address place.at

-- below the last and with it they are what is reachable
pub counted-all : (kept : Kept) (start : Beginning) (all : HasTracedAll kept start) (objects words t : ℕ)
    → AreCountedTo kept start all objects words t → t ≡ kept.layout.mutators
    → RunReport.Full objects words ≡ RunReport.Full ((live start.world).objects) ((live start.world).words)
counted-all kept start all objects words t counted last =
    let traced = traced-full kept start all in
    let graph = start.world.graph in
    let has = was_kept kept start all in
    let mutators = start.memory.layout.mutators in
    let count : t ≡ mutators = last ∙ ap (λ (layout : Layout). layout.mutators) traced.layout in
    let found = found-live traced in
    let homes = kept-home kept start all in
    let object_sum : objects ≡ (live start.world).objects =
    counted.objects_are ∙ ap (λ (u : ℕ). objects_where (was_kept_below kept start all u) graph) count
    ∙ objects-below_all has graph mutators homes ∙ found.0 in
    let word_sum : words ≡ (live start.world).words =
    counted.words_are ∙ ap (λ (u : ℕ). words_where (was_kept_below kept start all u) graph) count
    ∙ words-below_all has graph mutators homes ∙ found.1 in
    ap (λ (each : ℕ). RunReport.Full each words) object_sum ∙ ap (RunReport.Full ((live start.world).objects)) word_sum

-- ---- they are few

-- there are as many bays as mutators
pub all-bays : (kept : Kept) (start : Beginning) → HasTracedAll kept start → length kept.bays ≡ kept.layout.mutators
all-bays kept start all =
    let collecting = all.traced.collecting in
    collecting.bays ∙ ap (λ (layout : Layout). layout.mutators) (sym collecting.layout)

-- and each has its tally below 2 ^ 32
pub tally-few : (kept : Kept) (start : Beginning) (t : ℕ) (bay : Bay) → HasTracedAll kept start → t < kept.layout.mutators
    → bay ≡ bay_at kept.bays t → (t < 8) × ((bay.tally.objects < 2 ^ 32) × (bay.tally.words < 2 ^ 32))
tally-few kept start t bay all there is =
    let traced = traced-full kept start all in
    let below : t < start.memory.layout.mutators =
    omega (arith, there, ap (λ (layout : Layout). layout.mutators) traced.layout) in
    let own = traced.under_way.bays.each t below in
    let limits = traced.under_way.bays.limits in (
      omega (arith, below, limits.few_mutators),
      (
        subst (λ (each : Bay). each.tally.objects < 2 ^ 32) (sym is) own.objects,
        subst (λ (each : Bay). each.tally.words < 2 ^ 32) (sym is) own.words,
      ),
    )

-- so the tallies of so many bays are less than so many times that
pub counted-few : (kept : Kept) (start : Beginning) (objects words t : ℕ) (bay : Bay) → HasTracedAll kept start
    → t < length kept.bays → bay ≡ bay_at kept.bays t → objects ≤ t * 2 ^ 32 → words ≤ t * 2 ^ 32
    → (objects + bay.tally.objects ≤ (t + 1) * 2 ^ 32) × (words + bay.tally.words ≤ (t + 1) * 2 ^ 32)
counted-few kept start objects words t bay all there is few_objects few_words =
    let few = tally-few kept start t bay all (omega (arith, there, all-bays kept start all)) is in
    (omega (arith, few.1.0, few_objects), omega (arith, few.1.1, few_words))
