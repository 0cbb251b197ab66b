-- How a collection begins on a heap: the halves of all bays are flipped, in a full one lists and tallies are emptied too, and nothing
-- is treated yet.
use Rattle.std.proofs.Common.{◌≡◌, ◌≢◌, ◌∙◌, ◌⊎◌, inl, inr, ℕ, ◌+◌, ◌-◌, ◌<◌, ◌≤◌, List, [], Option, None, Some, false, length, refl, sym, ap, subst, arith, slice_set}
use Rattle.std.proofs.lemmas.Bool.{cases_eq}
use Rattle.std.proofs.lemmas.List.{get_or-set_other, get_or-set_same, length-set}
use Rattle.std.proofs.lemmas.Option.{none-some}
use Rattle.gc_bay.specs.Bay.{Bay, IsBay, no_tally}
use Rattle.gc_model.specs.declared.entry.RunKind.{RunKind}
use Rattle.gc_model.specs.World.{World}
use Rattle.gc_placement.specs.Holders.{IsListedFrom}
use Rattle.gc_placement.specs.Marks.{WaitsForMark}
use Rattle.gc_placement.specs.Moves.{old_part}
use Rattle.gc_placement.specs.Placement.{Placement}
use Rattle.gc_placement.proofs.FullBeginning.{AreFlippedFull, common-first, full-begins, marks-begin, no_marks, nothing_done}
use Rattle.gc_placement.proofs.MinorBeginning.{begin, done_first}
use Rattle.gc_placement.proofs.MinorSteps.{waiting-same}
use Rattle.gc_solo.specs.Collecting.{Beginning, HasBegun, IsCollecting, IsFlippedFull, Waits, at_list, beginning}
use Rattle.gc_solo.specs.Kept.{Kept, bay_at, memory_of, no_bay}
use Rattle.gc_solo.specs.Stands.{IsReadyFor}

-- the bay whose other half is the current one, of which nothing is used; in a full collection its remembered list and its tally
-- are empty too
abbrev pub flipped_bay : RunKind → Bay → Bay
flipped_bay RunKind.Minor bay = record bay { half = 1 - bay.half; used = 0 }
flipped_bay RunKind.Full bay = record bay { half = 1 - bay.half; used = 0; remembered = []; tally = no_tally }

-- so many bays are flipped, and the others are as before
pub record AreFlippedTo (kind : RunKind) (old new : List Bay) (limit : ℕ) : Type 0 where
  pub count : length new ≡ length old
  pub flips : (t : ℕ) → t < limit → bay_at new t ≡ flipped_bay kind (bay_at old t)
  pub are : (t : ℕ) → t < limit → IsBay (bay_at new t)
  pub others : (t : ℕ) → limit ≤ t → bay_at new t ≡ bay_at old t

-- at first none is
pub flipped_to-none : (kind : RunKind) (bays : List Bay) → AreFlippedTo kind bays bays 0
flipped_to-none kind bays = record {
  count = refl;
  flips = λ t below. absurd (omega (arith, below));
  are = λ t below. absurd (omega (arith, below));
  others = λ t above. refl;
}

-- one more is
pub flipped_to-more : (kind : RunKind) (old new : List Bay) (limit : ℕ) (read bay : Bay) → AreFlippedTo kind old new limit
    → limit < length new → read ≡ bay_at new limit → bay ≡ flipped_bay kind read → IsBay bay
    → AreFlippedTo kind old (slice_set new limit bay) (limit + 1)
flipped_to-more kind old new limit read bay flipped there is flip are =
    let here : bay_at (slice_set new limit bay) limit ≡ bay = get_or-set_same new limit bay no_bay there in
    let elsewhere : (t : ℕ) → t ≢ limit → bay_at (slice_set new limit bay) t ≡ bay_at new t =
    λ t differs. get_or-set_other new limit t bay no_bay differs in
    let own : bay ≡ flipped_bay kind (bay_at old limit) =
    flip ∙ ap (flipped_bay kind) (is ∙ flipped.others limit (omega arith)) in
    record {
      count = length-set new limit bay ∙ flipped.count;
      flips = λ t below. elim (cases_eq t limit) [
        | inl same ↦ rw same (here ∙ own)
        | inr differs ↦ elsewhere t differs ∙ flipped.flips t (omega (arith, below, differs))
      ];
      are = λ t below. elim (cases_eq t limit) [
        | inl same ↦ rw same (subst IsBay (sym here) are)
        | inr differs ↦ subst IsBay (sym (elsewhere t differs)) (flipped.are t (omega (arith, below, differs)))
      ];
      others = λ t above.
          elsewhere t (λ same. omega (arith, same, above)) ∙ flipped.others t (omega (arith, above));
    }

-- there are as many bays as mutators, and a few
pub flipped_to-few : (kind : RunKind) (kept : Kept) (placement : Placement) (world : World) (t limit : ℕ) (bays : List Bay)
    → IsReadyFor kept placement world t → AreFlippedTo kind kept.bays bays limit
    → (length bays ≡ kept.layout.mutators) × (length bays ≤ 8)
flipped_to-few kind kept placement world t limit bays ready flipped =
    let shows = ready.shows in
    let count : length bays ≡ kept.layout.mutators = flipped.count ∙ shows.bays in
    (count, omega (arith, count, shows.rest.shown.bays.limits.few_mutators))

-- ---- a minor collection

-- the remembered lists are as long as they were
pub flipped_to-listed : (old new : List Bay) (limit t : ℕ) → AreFlippedTo RunKind.Minor old new limit → t < limit
    → length (bay_at new t).remembered ≡ length (bay_at old t).remembered
flipped_to-listed old new limit t flipped below = ap (λ (bay : Bay). length bay.remembered) (flipped.flips t below)

-- it has begun once all bays are flipped
pub has-begun : (kept : Kept) (placement : Placement) (world : World) (t limit : ℕ) (bays : List Bay)
    → IsReadyFor kept placement world t → AreFlippedTo RunKind.Minor kept.bays bays limit → kept.layout.mutators ≤ limit
    → HasBegun (record kept { bays = bays }) (beginning RunKind.Minor (memory_of kept) placement world)
has-begun kept placement world t limit bays ready flipped all =
    let memory = memory_of kept in
    let start = beginning RunKind.Minor memory placement world in
    let after = old_part kept.layout placement in
    let done = done_first memory.word kept.layout placement in
    let rest = ready.shows.rest in
    let way = begin memory placement world (bay_at bays) rest (λ u there. flipped.flips u (omega (arith, there, all)))
    (λ u there. flipped.are u (omega (arith, there, all))) in
    let collecting : IsCollecting (record kept { bays = bays }) start after done (at_list 0 0) = record {
      rest = rest;
      sound = ready.sound;
      typed = ready.typed;
      types = refl;
      layout = refl;
      words = ready.shows.words;
      bays = flipped.count ∙ ready.shows.bays;
      marks = no_marks;
      under_way = waiting-same memory placement world memory.word (bay_at bays) after done
          (λ number place. IsListedFrom kept.layout.mutators memory.bay placement 0 0 number) (Waits start no_marks (at_list 0 0)) way
          (λ number place waits. inl (refl, waits))
          (λ number place waits. elim waits [
            | inl listed ↦ listed.1
            | inr (inl hand) ↦ absurd (none-some number hand.0)
            | inr (inr unmarked) ↦ absurd unmarked
          ]);
      marked = tt;
      in_hand = tt;
    } in
    record {
      placement = after;
      done = done;
      collecting = collecting;
      registers = (
        λ u other past. absurd (elim past [
          | inl before ↦ omega (arith, before)
          | inr here ↦ omega (arith, here.1)
        ]),
        λ u other past. refl,
      );
      common = refl;
    }

-- ---- a full collection

-- behind the last mutator no list has any
pub nothing-listed : (start : Beginning) (number : ℕ)
    → IsListedFrom start.memory.layout.mutators start.memory.bay start.placement start.memory.layout.mutators 0 number → ⊥
nothing-listed start number listed = elim listed.behind [
  | inl behind ↦ omega (arith, behind, listed.listed.mutator)
  | inr own ↦ omega (arith, own.0, listed.listed.mutator)
]

-- once all bays are flipped it has begun but for the mark of the common object
pub has-flipped : (kept : Kept) (placement : Placement) (world : World) (t limit : ℕ) (bays : List Bay)
    → IsReadyFor kept placement world t → AreFlippedTo RunKind.Full kept.bays bays limit → kept.layout.mutators ≤ limit
    → IsFlippedFull (record kept { bays = bays }) (beginning RunKind.Full (memory_of kept) placement world)
has-flipped kept placement world t limit bays ready flipped all =
    let memory = memory_of kept in
    let start = beginning RunKind.Full memory placement world in
    let after = old_part kept.layout placement in
    let rest = ready.shows.rest in
    let are : AreFlippedFull memory (bay_at bays) = record {
      flips = λ u there. flipped.flips u (omega (arith, there, all));
      are = λ u there. flipped.are u (omega (arith, there, all));
    } in
    let way = full-begins memory placement world (bay_at bays) rest are in
    let collecting : IsCollecting (record kept { bays = bays }) start after nothing_done (at_list kept.layout.mutators 0) = record {
      rest = rest;
      sound = ready.sound;
      typed = ready.typed;
      types = refl;
      layout = refl;
      words = ready.shows.words;
      bays = flipped.count ∙ ready.shows.bays;
      marks = no_marks;
      under_way = waiting-same memory placement world memory.word (bay_at bays) after nothing_done
          (λ number place. WaitsForMark RunKind.Full kept.layout placement no_marks number)
          (Waits start no_marks (at_list kept.layout.mutators 0)) way
          (λ number place waits. inr (inr waits))
          (λ number place waits. elim waits [
            | inl listed ↦ absurd (nothing-listed start number listed.1)
            | inr (inl hand) ↦ absurd (none-some number hand.0)
            | inr (inr unmarked) ↦ unmarked
          ]);
      marked = marks-begin memory placement world (bay_at bays) rest are;
      in_hand = tt;
    } in
    let common = common-first memory placement world rest in
    record {
      placement = after;
      done = nothing_done;
      collecting = collecting;
      registers = (
        λ u other past. absurd (elim past [
          | inl before ↦ omega (arith, before)
          | inr here ↦ omega (arith, here.1)
        ]),
        λ u other past. refl,
      );
      common = record { full = refl; at = common.0; page = common.1.0; unmarked = common.1.1.0; reached = common.1.1.1 };
    }
