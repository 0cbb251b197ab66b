-- After a full collection no more words of a mutator's half are used than the reachable objects have that it made.
use Rattle.std.proofs.Common.{◌≡◌, ◌∙◌, ℕ, ◌<◌, ◌≤◌, ◌&&◌, ◌==◌, Bool, true, All, List, [], ◌∷◌, is_some, filter, inl, inr, length, sum_by, None, Some, Option, refl, ap, sym, subst, arith, slice_index_or}
use Rattle.std.proofs.lemmas.Bool.{and_parts, false≢true, cases_Bool}
use Rattle.std.proofs.lemmas.List.Elements.{All-from_get_or, All-head, All-tail}
use Rattle.std.proofs.lemmas.List.FromFn.{get_or-enumerate_from, length-enumerate_from}
use Rattle.std.proofs.lemmas.List.Sums.{sum_by-cons}
use Rattle.std.specs.List.{enumerate_from}
use Rattle.gc_layout.specs.Places.{cell_address}
use Rattle.gc_model.specs.Graph.{Object, common_object, is_made_by, is_mutator, object_at}
use Rattle.gc_model.specs.Reach.{is_reachable, own_words}
use Rattle.gc_model.specs.World.{World}
use Rattle.gc_placement.specs.Extents.{home_of, is_home}
use Rattle.gc_placement.specs.Full.{IsFullCollection}
use Rattle.gc_placement.specs.Memory.{Memory}
use Rattle.gc_placement.specs.Minor.{was_young_and_kept}
use Rattle.gc_placement.specs.Placement.{Placement}
use Rattle.gc_placement.specs.Rest.{IsAtRest}
use Rattle.gc_placement.specs.Sums.{is_young, own_words_where}
use Rattle.gc_placement.proofs.MinorEnd.{common-in_page}
use Rattle.gc_placement.proofs.MovePlaces.{page-old}
use Rattle.gc_placement.proofs.Names.{placed-from_test}
use Rattle.gc_placement.proofs.Sums.{member_size}

-- each of these passes the one test, and then the other
abbrev PassBoth : (ℕ × Object → Bool) → (ℕ × Object → Bool) → (ℕ × Object → Bool) → ℕ × Object → Type 0
PassBoth has first second member = has member ≡ true → (first member ≡ true) × (second member ≡ true)

-- the words of those that have a property are at most those of the ones that pass two tests, one behind the other, where each of
-- them does
tests-le : (has first second : ℕ × Object → Bool) (members : List (ℕ × Object)) → All (PassBoth has first second) members
    → sum_by member_size (filter has members) ≤ sum_by member_size (filter second (filter first members))
tests-le has first second [] each = omega arith
tests-le has first second (member ∷ members) each =
    let own = All-head (PassBoth has first second) member members each in
    let rest = tests-le has first second members (All-tail (PassBoth has first second) member members each) in
    elim (cases_Bool (has member)) [
      | inl is ↦
          rw (is, (own is).0, (own is).1) (omega (
            arith,
            rest,
            sum_by-cons member_size member (filter has members),
            sum_by-cons member_size member (filter second (filter first members)),
          ))
      | inr isnt ↦ elim (cases_Bool (first member)) [
        | inl passes ↦ elim (cases_Bool (second member)) [
          | inl both ↦
              rw (isnt, passes, both)
              (omega (arith, rest, sum_by-cons member_size member (filter second (filter first members))))
          | inr one ↦ rw (isnt, passes, one) rest
        ]
        | inr fails ↦ rw (isnt, fails) rest
      ]
    ]

-- what lies in a mutator's region and isn't the common object was made by it
made-by_home : (t : ℕ) (object : Object) → (object.maker ≡ None → ⊥) → is_home t object ≡ true → is_made_by t object ≡ true
made-by_home t object some home = go object.maker some home where
  go : (maker : Option ℕ) → (maker ≡ None → ⊥) → home_of maker == t ≡ true → is_mutator t maker ≡ true
  go None some home = absurd (some refl)
  go (Some maker) some home = home

-- so it is
pub half-own : (old new : Memory) (before after : Placement) (world : World) → IsAtRest old before world
    → IsFullCollection old new before after world
    → ((number : ℕ) → number < length world.graph → (object_at world.graph number).maker ≡ None → number ≡ 0) → (t : ℕ)
    → t < old.layout.mutators → (new.bay t).used ≤ own_words world t
half-own old new before after world rest collection makers t there =
    let graph = world.graph in
    let shown = rest.shown in
    let kept = was_young_and_kept old before after in
    let first : ℕ × Object = (0, common_object) in
    let has : ℕ × Object → Bool = λ member. kept member.0 && is_home t (object_at graph member.0) in
    let reached : ℕ × Object → Bool = λ member. is_reachable world member.0 in
    let made : ℕ × Object → Bool = λ member. is_made_by t member.1 in
    let each : All (PassBoth has reached made) (enumerate_from 0 graph) =
    All-from_get_or (PassBoth has reached made) (enumerate_from 0 graph) first (λ number within.
    let below : number < length graph = omega (arith, within, length-enumerate_from 0 graph) in
    let member : slice_index_or (enumerate_from 0 graph) number first ≡ (number, object_at graph number) =
    get_or-enumerate_from 0 graph number first below ∙ ap (λ (n : ℕ). (n, object_at graph number)) (omega arith) in
    subst (PassBoth has reached made) (sym member) (λ is.
    let parts = and_parts (kept number) (is_home t (object_at graph number)) is in
    let was = and_parts (is_young old.layout before number) (is_some (after number)) parts.0 in
    let placed = placed-from_test after number was.1 in
    let common_old = page-old old.layout before 0 (cell_address old.layout 0 0) shown.common (common-in_page old.layout old.bay shown.bays)
    in (
      (collection.reached number).0 placed,
      made-by_home t (object_at graph number) (λ nobody.
          let is_common : number ≡ 0 = makers number below nobody in
          false≢true (sym common_old ∙ ap (is_young old.layout before) (sym is_common) ∙ was.0)) parts.1,
    ))) in
    let fewer : own_words_where kept graph t ≤ own_words world t = tests-le has reached made (enumerate_from 0 graph) each in
    omega (arith, collection.sums t there, fewer)
