-- The sums of a minor collection: what is used of a half afterwards, and what was promoted, is together what is kept of what
-- lay in a half before.
use Rattle.std.proofs.Common.{◌≡◌, ◌∙◌, ℕ, ◌+◌, ◌<◌, Bool, true, false, ◌&&◌, not, Option, Some, is_some, inl, inr, refl, ap, sym, arith}
use Rattle.std.proofs.lemmas.Bool.{and_from, both_ways, cases_Bool, not_from_false}
use Rattle.std.proofs.lemmas.Option.{same_Some}
use Rattle.std.specs.Option.{option_map_or}
use Rattle.gc_bay.specs.Bay.{Bay}
use Rattle.gc_layout.specs.Places.{Layout}
use Rattle.gc_model.specs.Graph.{Graph, object_at}
use Rattle.gc_placement.specs.Extents.{is_home}
use Rattle.gc_placement.specs.Flipped.{HoldCopies}
use Rattle.gc_placement.specs.Memory.{Memory}
use Rattle.gc_placement.specs.Minor.{was_promoted, was_young_and_kept}
use Rattle.gc_placement.specs.Sums.{is_in_page, is_young, own_words_where, young_words}
use Rattle.gc_placement.specs.UnderWay.{all_begun}
use Rattle.gc_placement.specs.Moves.{KeepsPlaced}
use Rattle.gc_placement.specs.Placement.{Placement}
use Rattle.gc_placement.proofs.Sums.{is_in_page-from, words-same, words-split, young-at}

-- an object that is placed in no page is young
is_young-from : (layout : Layout) (placement : Placement) (number address : ℕ) → placement number ≡ Some address
    → is_in_page layout address ≡ false → is_young layout placement number ≡ true
is_young-from layout placement number address at half =
    ap (λ (place : Option ℕ). option_map_or (λ a. not (is_in_page layout a)) place false) at
    ∙ not_from_false (is_in_page layout address) half

-- an object that lies in a half after a minor collection lay in one before
young-before : (layout : Layout) (before after : Placement) → KeepsPlaced layout before after → (number : ℕ)
    → is_young layout after number ≡ true → is_young layout before number && is_some (after number) ≡ true
young-before layout before after keeps number young =
    let place = young-at layout (after number) young in
    let was = keeps.only number (record { address = place.address; at = place.at }) in
    let kept : is_some (after number) ≡ true = ap is_some place.at in
    elim (cases_Bool (is_in_page layout was.address)) as (λ _. is_young layout before number && is_some (after number) ≡ true) [
      | inl page ↦
          let stays : after number ≡ Some was.address = keeps.old number was.address was.at (is_in_page-from layout was.address page) in
          let same : was.address ≡ place.address = same_Some was.address place.address (sym stays ∙ place.at) in
          absurd (both_ways (is_in_page layout place.address) place.half (ap (is_in_page layout) (sym same) ∙ page))
      | inr half ↦
          and_from (is_young layout before number) (is_some (after number))
          (is_young-from layout before number was.address was.at half) kept
    ]

-- what implies a test adds nothing to it
absorbed : (test made young : Bool) → (young ≡ true → test ≡ true) → (test && made) && young ≡ young && made
absorbed true true true implies = refl
absorbed true true false implies = refl
absorbed true false true implies = refl
absorbed true false false implies = refl
absorbed false made true implies = absurd (both_ways false refl (implies refl))
absorbed false made false implies = refl

-- the order of two tests is nothing
swapped : (test made other : Bool) → (test && made) && other ≡ (test && other) && made
swapped true true true = refl
swapped true true false = refl
swapped true false true = refl
swapped true false false = refl
swapped false made other = refl

-- the words of a mutator's objects that lie in halves after a minor collection, and of those that were promoted, are those
-- of its objects that lay in halves before and are kept
pub kept-words : (memory : Memory) (before after : Placement) (graph : Graph) (t : ℕ)
    → KeepsPlaced memory.layout before after
    → young_words memory.layout after graph t + own_words_where (was_promoted memory before after) graph t
    ≡ own_words_where (was_young_and_kept memory before after) graph t
kept-words memory before after graph t keeps =
    let kept = was_young_and_kept memory before after in
    let made : ℕ → Bool = λ number. is_home t (object_at graph number) in
    let young = is_young memory.layout after in
    let has : ℕ → Bool = λ number. kept number && made number in
    let split = words-split has young graph in
    let stay = words-same (λ number. young number && made number) (λ number. has number && young number) graph
    (λ number there. absorbed (kept number) (made number) (young number) (young-before memory.layout before after keeps number)) in
    let leave = words-same (λ number. was_promoted memory before after number && made number)
    (λ number. has number && not (young number)) graph
    (λ number there. swapped (kept number) (made number) (not (young number))) in
    omega (arith, split, stay, leave)

-- so the words that are used of a half where all copies are in it, and those of the promoted
pub minor-sums : (memory : Memory) (bay : ℕ → Bay) (before after : Placement) (graph : Graph) (t : ℕ)
    → KeepsPlaced memory.layout before after
    → HoldCopies memory.layout memory.layout.mutators all_begun bay after graph → t < memory.layout.mutators
    → (bay t).used + own_words_where (was_promoted memory before after) graph t
    ≡ own_words_where (was_young_and_kept memory before after) graph t
minor-sums memory bay before after graph t keeps copies there =
    omega (arith, copies t there refl, kept-words memory before after graph t keeps)
