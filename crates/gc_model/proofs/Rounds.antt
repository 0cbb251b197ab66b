-- A search begins, goes on and ends: at its end exactly what is reached is marked.
use Rattle.std.proofs.Common.{◌≡◌, ◌∙◌, ℕ, ◌+◌, ◌<◌, ◌≤◌, suc, Bool, true, Option, None, Some, List, [], ◌++◌, ◌∷◌, IfSome, length, take, inl, inr, ap, sym, subst, arith, slice_index, slice_index_or}
use Rattle.std.proofs.lemmas.Bool.{cases_lt, eqb-true, false≢true, and_from}
use Rattle.std.proofs.lemmas.List.{flat_map_more, take_more}
use Rattle.std.proofs.lemmas.List.Elements.{filter_agree}
use Rattle.std.proofs.lemmas.List.Folds.{Any-from_list_any}
use Rattle.std.specs.List.{enumerate_from}
use Rattle.gc_model.specs.Graph.{Object, object_at}
use Rattle.gc_model.specs.Reach.{Tracing, IsClosedUnderSlots, is_named, is_reached, is_reached_in, is_reachable, live, names, registers_of, whole}
use Rattle.gc_model.specs.World.{Mutator, World}
use Rattle.gc_model.specs.Worklist.{Worklist, IsListed, IsUnderWay, Adds, AreMarked, HasReached, is_marked, marked_of, sum_of}
use Rattle.gc_model.proofs.Lists.{same_from_tests}
use Rattle.gc_model.proofs.Reached.{reached-later, reached-least, reached-next}
use Rattle.gc_model.proofs.Worklist.{listed-few, marked-later}

-- what one name names is marked where it belongs
marked-name : (belongs : ℕ → Bool) (work : Worklist) (number : ℕ) (name : Option ℕ) → belongs number ≡ true → names number name ≡ true
    → IfSome name (λ each. belongs each ≡ true → is_marked work each ≡ true) → is_marked work number ≡ true
marked-name belongs work number None own is marked = absurd (false≢true is)
marked-name belongs work number (Some other) own is marked =
    let same : other ≡ number = eqb-true other number is in
    ap (is_marked work) (sym same) ∙ marked (ap belongs same ∙ own)

-- an object that belongs and that a marked name names is marked
marked-named : (belongs : ℕ → Bool) (work : Worklist) (named : List (Option ℕ)) (number : ℕ) → AreMarked belongs work named
    → belongs number ≡ true → is_named number named ≡ true → is_marked work number ≡ true
marked-named belongs work named number marked own some =
    let one = Any-from_list_any (names number) named some in
    let Marked : Option ℕ → Type 0 = λ name. IfSome name (λ each. belongs each ≡ true → is_marked work each ≡ true) in
    marked-name belongs work number one.1 own one.4 (subst Marked one.3 (marked one.0 one.1 one.2))

-- what is marked stands in a list that has nothing but what is reached in as many rounds as there are objects
marked-reached : (tracing : Tracing) (work : Worklist) (next : ℕ) → IsListed work → IsUnderWay tracing work next → (number : ℕ)
    → is_marked work number ≡ true → is_reached tracing number ≡ true
marked-reached tracing work next listed under_way number marked =
    let entry = listed.listed number marked in
    let few : entry.0 ≤ length tracing.graph = omega (arith, entry.1, listed-few work listed, under_way.marks) in
    reached-later tracing number entry.0 (length tracing.graph) few
    (subst (λ (each : ℕ). is_reached_in tracing entry.0 each ≡ true) entry.2 (under_way.reached entry.0 entry.1))

-- once all of the list was scanned what is marked is closed under slots
marked-closed : (tracing : Tracing) (work : Worklist) (next : ℕ) → IsListed work → IsUnderWay tracing work next
    → length work.listed ≤ next → IsClosedUnderSlots tracing (is_marked work)
marked-closed tracing work next listed under_way ended = record {
  roots = λ number own named. marked-named tracing.belongs work tracing.roots number under_way.begun own named;
  slots = λ member number there marked own named.
      let entry = listed.listed member marked in
      let scanned = under_way.scanned entry.0 (omega (arith, entry.1, ended)) in
      let slots : AreMarked tracing.belongs work (object_at tracing.graph member).slots =
      subst (λ (each : ℕ). AreMarked tracing.belongs work (object_at tracing.graph each).slots) entry.2 scanned in
      marked-named tracing.belongs work _ number slots own named;
}

-- at the end of the list exactly what is reached is marked
pub search-ends : (tracing : Tracing) (work : Worklist) (next : ℕ) → IsListed work → IsUnderWay tracing work next
    → length work.listed ≤ next → HasReached tracing work
search-ends tracing work next listed under_way ended number =
    same_from_tests (is_marked work number) (is_reached tracing number)
    (marked-reached tracing work next listed under_way number)
    (reached-least tracing (is_marked work) (marked-closed tracing work next listed under_way ended) number)

-- a search begins with its roots marked
pub search-begins : (tracing : Tracing) (nothing work : Worklist) → length nothing.marks ≡ length tracing.graph → nothing.listed ≡ []
    → Adds tracing.belongs tracing.roots nothing work → IsUnderWay tracing work 0
search-begins tracing nothing work marks none added = record {
  marks = added.marks ∙ marks;
  within = omega arith;
  begun = added.added;
  reached = λ index within.
      let empty : length nothing.listed ≡ 0 = ap length none in
      let root = added.only index (omega (arith, empty)) within in
      reached-later tracing _ 0 index (omega arith) (and_from _ _ root.0 root.1);
  scanned = λ index before. absurd (omega (arith, before));
}

-- a search goes on with the slots of the next object of the list
pub search-goes_on : (tracing : Tracing) (old new : Worklist) (next number : ℕ) → IsUnderWay tracing old next → next < length old.listed
    → number ≡ slice_index old.listed next → number < length tracing.graph
    → Adds tracing.belongs (object_at tracing.graph number).slots old new → IsUnderWay tracing new (next + 1)
search-goes_on tracing old new next number under_way within is there added = record {
  marks = added.marks ∙ under_way.marks;
  within = omega (arith, within, added.longer);
  begun = marked-later tracing.belongs old new added.stays tracing.roots under_way.begun;
  reached = λ index below.
      elim (cases_lt index (length old.listed)) as (λ _. is_reached_in tracing index (slice_index new.listed index) ≡ true) [
        | inl before ↦ rw (added.before index before) (under_way.reached index before)
        | inr beyond ↦
            let scanned : is_reached_in tracing next number ≡ true = rw is (under_way.reached next within) in
            let only = added.only index beyond below in
            reached-later tracing _ (suc next) index (omega (arith, within, beyond))
            (reached-next tracing next number _ there only.0 scanned only.1)
      ];
  scanned = λ index before.
      elim (cases_lt index next) as (λ _. AreMarked tracing.belongs new (object_at tracing.graph (slice_index new.listed index)).slots) [
        | inl earlier ↦
            let same = added.before index (omega (arith, earlier, within)) in
            rw same (marked-later tracing.belongs old new added.stays _ (under_way.scanned index earlier))
        | inr last ↦
            let now : index ≡ next = omega (arith, before, last) in
            let same : slice_index new.listed index ≡ number =
            ap (slice_index new.listed) now ∙ added.before next within ∙ sym is in
            rw same added.added
      ];
}

-- one mutator's registers more
pub registers-more : (mutators : List Mutator) (index : ℕ) (mutator : Mutator) → index < length mutators
    → mutator ≡ slice_index_or mutators index mutator
    → registers_of (take (index + 1) mutators) ≡ registers_of (take index mutators) ++ mutator.registers
registers-more mutators index mutator below is =
    ap registers_of (take_more mutators index mutator below ∙ ap (λ (each : Mutator). take index mutators ++ each ∷ []) (sym is))
    ∙ sym (flat_map_more (λ each. each.registers) [] (take index mutators) mutator)

-- the marked objects are the reachable ones
pub marked-live : (world : World) (work : Worklist) → HasReached (whole world) work → sum_of (marked_of world.graph work) ≡ live world
marked-live world work reached =
    ap sum_of (filter_agree (λ (member : ℕ × Object). is_marked work member.0) (λ (member : ℕ × Object). is_reachable world member.0)
    (λ member. reached member.0) (enumerate_from 0 world.graph))
