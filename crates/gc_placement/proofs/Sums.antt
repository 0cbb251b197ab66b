-- Sums of words: what a change of the property leaves of them, and that what lies apart in a room is no more than the room.
use Rattle.std.proofs.Common.{◌≡◌, ◌≢◌, ◌↔◌, ◌∙◌, ◌⊎◌, inl, inr, ⊎_elim, ℕ, zero, suc, ◌+◌, ◌-◌, ◌*◌, ◌/◌, ◌%◌, ◌<◌, ◌≤◌, ◌==◌, Bool, true, false, not, ◌&&◌, ◌||◌, cond, nat_le, nat_lt, List, [], ◌∷◌, ◌++◌, length, take, filter, sum_by, slice_index, slice_index_or, Option, Some, None, is_some, refl, sym, ap, subst, arith}
use Rattle.std.proofs.lemmas.Bool.{and_from, and_left, and_parts, and_right, both_ways, cases_Bool, cases_eq, cases_lt, eq-eqb, eqb-true, false_from_ne_true, false≢true, le-leb, le-ltb, leb-true, lt-leb, lt-ltb, ltb-true, not-true, not_from_false, or_cases, or_left, or_right}
use Rattle.std.proofs.lemmas.List.{append-nil, take_all}
use Rattle.std.proofs.lemmas.List.Elements.{filter_more}
use Rattle.std.proofs.lemmas.List.FromFn.{get_or-enumerate_from, length-enumerate_from}
use Rattle.std.proofs.lemmas.List.Sums.{sum_by_push}
use Rattle.std.proofs.lemmas.Nat.{div-add-mod', mod_below}
use Rattle.std.proofs.lemmas.Option.{same_Some}
use Rattle.std.specs.List.{enumerate_from}
use Rattle.std.specs.Option.{option_map_or}
use Rattle.gc_bay.specs.Bay.{Bay, IsBay}
use Rattle.gc_layout.specs.Places.{Layout, address_of, region_start, region_words}
use Rattle.gc_layout.specs.Sizes.{page_words}
use Rattle.gc_layout.specs.declared.places.Part.TheVariants.{Half, Page as InPage}
use Rattle.gc_layout.proofs.PlacesLemmas.{column_of}
use Rattle.gc_model.specs.Graph.{Graph, Object, common_object, object_at, object_size}
use Rattle.gc_placement.specs.Bays.{AreBays}
use Rattle.gc_placement.specs.Extents.{AllLie, AreApart, IsInAPage, LiesIn, LiesInCell, LiesInHalf, home_of, is_home}
use Rattle.gc_placement.specs.Placement.{IsPlaced, IsWordOf, Placement, or_nothing}
use Rattle.gc_placement.specs.Sums.{is_in_page, is_young, words_where, young_words}
use Rattle.gc_placement.proofs.Extents.{cell-in_page, cell-in_region, lies-in_region}

-- ---- which addresses lie in pages

-- an address in a page lies behind the halves
pub is_in_page-true : (layout : Layout) (a : ℕ) → IsInAPage layout a → is_in_page layout a ≡ true
is_in_page-true layout a page =
    let region = region_words layout in
    let before = page.mutator * region in
    let column : (a - 1) % region ≡ a - 1 - before =
    column_of a page.mutator region (a - 1 - before) (omega (arith, page.inside.from, page.inside.to))
    (omega (arith, page.inside.from)) in
    le-leb (16 + 2 * layout.nursery) ((a - 1) % region) (omega (arith, column, page.inside.from))

-- an address behind the halves lies in a page
pub is_in_page-from : (layout : Layout) (a : ℕ) → is_in_page layout a ≡ true → IsInAPage layout a
is_in_page-from layout a is =
    let region = region_words layout in
    let place : (a - 1) / region * region + (a - 1) % region ≡ a - 1 = div-add-mod' (a - 1) region in
    let behind : 16 + 2 * layout.nursery ≤ (a - 1) % region = leb-true (16 + 2 * layout.nursery) ((a - 1) % region) is in
    let within : (a - 1) % region < region = mod_below (a - 1) region (omega arith) in
    record {
      mutator = (a - 1) / region;
      inside = record { from = omega (arith, place, behind); to = omega (arith, place, behind, within) };
    }

-- an address in no page doesn't lie behind the halves
pub is_in_page-false : (layout : Layout) (a : ℕ) → ¬ IsInAPage layout a → is_in_page layout a ≡ false
is_in_page-false layout a outside =
    false_from_ne_true (is_in_page layout a) (λ is. outside (is_in_page-from layout a is))

-- so the test tells which addresses lie in pages
pub is_in_page-tells : (layout : Layout) (a : ℕ) → (is_in_page layout a ≡ true) ↔ IsInAPage layout a
is_in_page-tells layout a = (is_in_page-from layout a, is_in_page-true layout a)

-- ---- sums over the numbers below another one

-- what counts only where a test passes
abbrev pub counted : Bool → ℕ → ℕ
counted passes size = cond passes size 0

-- the sum of the values of the numbers below a limit
abbrev pub sum_below : (ℕ → ℕ) → ℕ → ℕ
sum_below value zero = 0
sum_below value (suc limit) = sum_below value limit + value limit

-- how many numbers below a limit pass a test
abbrev pub count_below : (ℕ → Bool) → ℕ → ℕ
count_below test limit = sum_below (λ a. counted (test a) 1) limit

-- the same values have the same sum
pub sum-same : (one other : ℕ → ℕ) (limit : ℕ) → ((i : ℕ) → i < limit → one i ≡ other i) → sum_below one limit ≡ sum_below other limit
sum-same one other zero same = refl
sum-same one other (suc limit) same =
    omega (arith, sum-same one other limit (λ i below. same i (omega (arith, below))), same limit (omega arith))

-- no greater values have no greater sum
pub sum-le : (one other : ℕ → ℕ) (limit : ℕ) → ((i : ℕ) → i < limit → one i ≤ other i) → sum_below one limit ≤ sum_below other limit
sum-le one other zero le = omega arith
sum-le one other (suc limit) le =
    omega (arith, sum-le one other limit (λ i below. le i (omega (arith, below))), le limit (omega arith))

-- the sum of sums
pub sum-add : (one other : ℕ → ℕ) (limit : ℕ) → sum_below (λ i. one i + other i) limit ≡ sum_below one limit + sum_below other limit
sum-add one other zero = refl
sum-add one other (suc limit) = omega (arith, sum-add one other limit)

-- where one value grows, the sum grows by as much
pub sum-one_more : (one other : ℕ → ℕ) (limit at size : ℕ) → at < limit → other at ≡ one at + size
    → ((i : ℕ) → i ≢ at → other i ≡ one i) → sum_below other limit ≡ sum_below one limit + size
sum-one_more one other zero at size there here elsewhere = omega (arith, there)
sum-one_more one other (suc limit) at size there here elsewhere =
    elim (cases_eq limit at) as (λ _. sum_below other (suc limit) ≡ sum_below one (suc limit) + size) [
      | inl same ↦
          omega (
            arith,
            sum-same other one limit (λ i below. elsewhere i (λ meet. omega (arith, below, same, meet))),
            ap other same,
            ap one same,
            here,
          )
      | inr differs ↦
          omega (arith, sum-one_more one other limit at size (omega (arith, there, differs)) here elsewhere, elsewhere limit differs)
    ]

-- ---- the words of objects as a sum over their numbers

-- what an object counts for among those that have a property
abbrev pub counted_size : (ℕ → Bool) → Graph → ℕ → ℕ
counted_size has graph number = counted (has number) (object_size (object_at graph number))

-- the words of a member
abbrev pub member_size : ℕ × Object → ℕ
member_size member = object_size member.1

-- the sum with one more member, where it has the property
sum_by-counted : (members : List (ℕ × Object)) (member : ℕ × Object) (passes : Bool)
    → sum_by member_size (members ++ cond passes (member ∷ []) []) ≡ sum_by member_size members + counted passes (member_size member)
sum_by-counted members member true = sum_by_push member_size members member
sum_by-counted members member false = omega (arith, ap (sum_by member_size) (append-nil members))

-- the words of the first so many objects that have the property
words-before : (has : ℕ → Bool) (graph : Graph) (count : ℕ) → count ≤ length graph
    → sum_by member_size (filter (λ member. has member.0) (take count (enumerate_from 0 graph))) ≡ sum_below (counted_size has graph) count
words-before has graph zero within = refl
words-before has graph (suc count) within =
    let Member = ℕ × Object in
    let members = enumerate_from 0 graph in
    let has_property : Member → Bool = λ member. has member.0 in
    let default : Member = (0, common_object) in
    let member : Member = slice_index_or members count default in
    let before = filter has_property (take count members) in
    let number : suc count ≡ count + 1 = omega arith in
    let more = filter_more has_property members count default (omega (arith, within, length-enumerate_from 0 graph)) in
    let there : member ≡ (count, object_at graph count) =
    get_or-enumerate_from 0 graph count default (omega (arith, within))
    ∙ ap (λ (n : ℕ). (n, object_at graph count)) (omega arith) in
    omega (
      arith,
      ap (λ (n : ℕ). sum_by member_size (filter has_property (take n members))) number,
      ap (sum_by member_size) more,
      sum_by-counted before member (has_property member),
      ap (λ (each : Member). counted (has each.0) (object_size each.1)) there,
      words-before has graph count (omega (arith, within)),
    )

-- the words of the objects that have the property, object by object
pub words-sum : (has : ℕ → Bool) (graph : Graph) → words_where has graph ≡ sum_below (counted_size has graph) (length graph)
words-sum has graph =
    let members = enumerate_from 0 graph in
    ap (λ (each : List (ℕ × Object)). sum_by member_size (filter (λ member. has member.0) each))
    (sym (take_all (length graph) members (omega (arith, length-enumerate_from 0 graph))))
    ∙ words-before has graph (length graph) (omega arith)

-- where one more object has the property, its words are added
pub words-one_more : (has more : ℕ → Bool) (graph : Graph) (number : ℕ) → number < length graph → has number ≡ false
    → more number ≡ true → ((other : ℕ) → other ≢ number → more other ≡ has other)
    → words_where more graph ≡ words_where has graph + object_size (object_at graph number)
words-one_more has more graph number there before after elsewhere =
    let size = object_size (object_at graph number) in
    let sums = sum-one_more (counted_size has graph) (counted_size more graph) (length graph) number size there
    (omega (arith, ap (λ (passes : Bool). counted passes size) before, ap (λ (passes : Bool). counted passes size) after))
    (λ other differs. ap (λ (passes : Bool). counted passes (object_size (object_at graph other))) (elsewhere other differs)) in
    omega (arith, words-sum has graph, words-sum more graph, sums)

-- where the same objects of the graph have the property, their words are the same
pub words-same : (has more : ℕ → Bool) (graph : Graph) → ((n : ℕ) → n < length graph → more n ≡ has n)
    → words_where more graph ≡ words_where has graph
words-same has more graph same =
    words-sum more graph
    ∙ sum-same (counted_size more graph) (counted_size has graph) (length graph)
    (λ n there. ap (λ (passes : Bool). counted passes (object_size (object_at graph n))) (same n there))
    ∙ sym (words-sum has graph)

-- a test that passes where another does counts for no more
pub counted-le : (one other : Bool) (size : ℕ) → (one ≡ true → other ≡ true) → counted one size ≤ counted other size
counted-le false other size implies = omega arith
counted-le true other size implies = rw (implies refl) (omega arith)

-- where fewer objects have the property, their words are no more
pub words-fewer : (has more : ℕ → Bool) (graph : Graph) → ((n : ℕ) → has n ≡ true → more n ≡ true)
    → words_where has graph ≤ words_where more graph
words-fewer has more graph implies =
    omega (
      arith,
      words-sum has graph,
      words-sum more graph,
      sum-le (counted_size has graph) (counted_size more graph) (length graph)
          (λ n there. counted-le (has n) (more n) (object_size (object_at graph n)) (implies n)),
    )

-- an object that has a property has another one with it, or it doesn't
counted-parts : (has test : Bool) (size : ℕ) → counted has size ≡ counted (has && test) size + counted (has && not test) size
counted-parts true true size = omega arith
counted-parts true false size = omega arith
counted-parts false test size = omega arith

-- the words of the objects that have a property are of those that have another one with it, and of those that don't
pub words-split : (has test : ℕ → Bool) (graph : Graph)
    → words_where has graph
    ≡ words_where (λ number. has number && test number) graph + words_where (λ number. has number && not (test number)) graph
words-split has test graph =
    let with_it : ℕ → Bool = λ number. has number && test number in
    let without : ℕ → Bool = λ number. has number && not (test number) in
    omega (
      arith,
      words-sum has graph,
      words-sum with_it graph,
      words-sum without graph,
      sum-add (counted_size with_it graph) (counted_size without graph) (length graph),
      sum-same (counted_size has graph) (λ number. counted_size with_it graph number + counted_size without graph number)
          (length graph) (λ number there. counted-parts (has number) (test number) (object_size (object_at graph number))),
    )

-- ---- what lies apart in a room

-- whether a number is one of so many from a start on
abbrev pub in_extent : ℕ → ℕ → ℕ → Bool
in_extent start size a = nat_le start a && nat_lt a (start + size)

-- a number of the extent passes the test
pub in_extent-true : (start size a : ℕ) → start ≤ a → a < start + size → in_extent start size a ≡ true
in_extent-true start size a from to =
    and_from (nat_le start a) (nat_lt a (start + size)) (le-leb start a from) (lt-ltb a (start + size) to)

-- a number that passes the test is one of the extent
pub in_extent-from : (start size a : ℕ) → in_extent start size a ≡ true → (start ≤ a) × (a < start + size)
in_extent-from start size a is =
    let parts = and_parts (nat_le start a) (nat_lt a (start + size)) is in
    (leb-true start a parts.0, ltb-true a (start + size) parts.1)

-- a number before the extent doesn't pass the test
in_extent-before : (start size a : ℕ) → a < start → in_extent start size a ≡ false
in_extent-before start size a before = and_left (nat_le start a) (nat_lt a (start + size)) (lt-leb start a before)

-- nor does a number behind it
in_extent-behind : (start size a : ℕ) → start + size ≤ a → in_extent start size a ≡ false
in_extent-behind start size a behind = and_right (nat_le start a) (nat_lt a (start + size)) (le-ltb a (start + size) behind)

-- what passes a test counts for one
counts-one : (passes : Bool) → passes ≡ true → counted passes 1 ≡ 1
counts-one passes is = ap (λ (each : Bool). counted each 1) is

-- what doesn't counts for nothing
counts-none : (passes : Bool) → passes ≡ false → counted passes 1 ≡ 0
counts-none passes is = ap (λ (each : Bool). counted each 1) is

-- how many of an extent's numbers lie below a limit
extent-count : (start size limit : ℕ) → count_below (in_extent start size) limit + (limit - (start + size)) ≡ limit - start
extent-count start size zero = omega arith
extent-count start size (suc limit) =
    let test = in_extent start size limit in
    elim (cases_lt limit start)
    as (λ _. count_below (in_extent start size) (suc limit) + (suc limit - (start + size)) ≡ suc limit - start) [
      | inl before ↦
          omega (arith, before, counts-none test (in_extent-before start size limit before), extent-count start size limit)
      | inr from ↦ elim (cases_lt limit (start + size))
          as (λ _. count_below (in_extent start size) (suc limit) + (suc limit - (start + size)) ≡ suc limit - start) [
            | inl to ↦
                omega (arith, from, to, counts-one test (in_extent-true start size limit from to), extent-count start size limit)
            | inr behind ↦
                omega (arith, behind, counts-none test (in_extent-behind start size limit behind), extent-count start size limit)
          ]
    ]

-- no more of an extent's numbers than it has lie below a limit
pub extent-most : (start size limit : ℕ) → count_below (in_extent start size) limit ≤ size
extent-most start size limit = omega (arith, extent-count start size limit)

-- what is allowed and lies outside of an extent
abbrev outside_of : (ℕ → Bool) → ℕ → ℕ → ℕ → Bool
outside_of allowed start size a = allowed a && not (in_extent start size a)

-- what is allowed lies outside or inside
counted-split : (allowed inside : Bool) → (inside ≡ true → allowed ≡ true)
    → counted allowed 1 ≡ counted (allowed && not inside) 1 + counted inside 1
counted-split true true implies = refl
counted-split true false implies = refl
counted-split false true implies = absurd (false≢true (implies refl))
counted-split false false implies = refl

-- without an extent whose numbers are all allowed and below the limit, the count of what is allowed is less by its size
outside-count : (allowed : ℕ → Bool) (start size limit : ℕ)
    → ((a : ℕ) → start ≤ a → a < start + size → (a < limit) × (allowed a ≡ true))
    → count_below allowed limit ≡ count_below (outside_of allowed start size) limit + size
outside-count allowed start size limit inside =
    let test = in_extent start size in
    let outside = outside_of allowed start size in
    let split = sum-same (λ a. counted (allowed a) 1) (λ a. counted (outside a) 1 + counted (test a) 1) limit
    (λ a below. counted-split (allowed a) (test a)
    (λ is. let bounds = in_extent-from start size a is in (inside a bounds.0 bounds.1).1)) in
    let sums = sum-add (λ a. counted (outside a) 1) (λ a. counted (test a) 1) limit in
    elim (cases_lt 0 size) as (λ _. count_below allowed limit ≡ count_below outside limit + size) [
      | inl some ↦
          omega (
            arith,
            split,
            sums,
            extent-count start size limit,
            some,
            (inside (start + size - 1) (omega (arith, some)) (omega (arith, some))).0,
          )
      | inr none ↦ omega (arith, split, sums, extent-most start size limit, none)
    ]

-- extents that are apart, whose numbers are all allowed and below the limit, have no more numbers than are allowed there
pub extents-fit : (start size : ℕ → ℕ) (limit count : ℕ) (allowed : ℕ → Bool)
    → ((i a : ℕ) → i < count → start i ≤ a → a < start i + size i → (a < limit) × (allowed a ≡ true))
    → ((i j a : ℕ) → i < count → j < count → start i ≤ a → a < start i + size i → start j ≤ a → a < start j + size j → i ≡ j)
    → sum_below size count ≤ count_below allowed limit
extents-fit start size limit zero allowed inside apart = omega arith
extents-fit start size limit (suc count) allowed inside apart =
    let last = in_extent (start count) (size count) in
    let outside = outside_of allowed (start count) (size count) in
    let less = outside-count allowed (start count) (size count) limit (λ a from to. inside count a (omega arith) from to) in
    let others : (i a : ℕ) → i < count → start i ≤ a → a < start i + size i → (a < limit) × (outside a ≡ true) =
    λ i a below from to.
    let allows = inside i a (omega (arith, below)) from to in
    let not_last : last a ≡ false = false_from_ne_true (last a) (λ is.
    let bounds = in_extent-from (start count) (size count) a is in
    let same : i ≡ count = apart i count a (omega (arith, below)) (omega arith) from to bounds.0 bounds.1 in
    omega (arith, below, same)) in
    (allows.0, and_from (allowed a) (not (last a)) allows.1 (not_from_false (last a) not_last)) in
    let rest = extents-fit start size limit count outside others
    (λ i j a one other. apart i j a (omega (arith, one)) (omega (arith, other))) in
    omega (arith, less, rest)

-- everything below a limit
pub all-count : (limit : ℕ) → count_below (λ a. true) limit ≡ limit
all-count zero = refl
all-count (suc limit) = omega (arith, all-count limit)

-- so many zeros
pub zeros-sum : (limit : ℕ) → sum_below (λ i. 0) limit ≡ 0
zeros-sum zero = refl
zeros-sum (suc limit) = omega (arith, zeros-sum limit)

-- so many ones
ones-sum : (limit : ℕ) → sum_below (λ i. 1) limit ≡ limit
ones-sum zero = refl
ones-sum (suc limit) = omega (arith, ones-sum limit)

-- a list of different numbers below another one has no more elements than that
pub distinct-few : (list : List ℕ) (n : ℕ) → ((i : ℕ) → i < length list → slice_index list i < n)
    → ((i j : ℕ) → i < length list → j < length list → slice_index list i ≡ slice_index list j → i ≡ j) → length list ≤ n
distinct-few list n below differ =
    let fit = extents-fit (λ i. slice_index list i) (λ i. 1) n (length list) (λ a. true)
    (λ i a there from to. (omega (arith, from, to, below i there), refl))
    (λ i j a one other from to begins ends. differ i j one other (omega (arith, from, to, begins, ends))) in
    omega (arith, fit, all-count n, ones-sum (length list))

-- ---- placed objects in a room

-- the object has the property, and the address is that of a word of it
record IsCountedWord (has : ℕ → Bool) (placement : Placement) (graph : Graph) (number a : ℕ) : Type 0 where
  property : has number ≡ true
  word : IsWordOf placement graph number a

-- the words that an object counts for are its own, and it has the property
counted-word : (has : ℕ → Bool) (placement : Placement) (graph : Graph) (number a : ℕ)
    → (has number ≡ true → IsPlaced placement number) → or_nothing (placement number) ≤ a
    → a < or_nothing (placement number) + counted_size has graph number → IsCountedWord has placement graph number a
counted-word has placement graph number a placed from to =
    let size = object_size (object_at graph number) in
    elim (cases_Bool (has number)) as (λ _. IsCountedWord has placement graph number a) [
      | inl is ↦
          let place = placed is in
          let address : or_nothing (placement number) ≡ place.address = ap or_nothing place.at in
          let whole : counted_size has graph number ≡ size = ap (λ (passes : Bool). counted passes size) is in
          record {
            property = is;
            word = record {
              address = place.address;
              at = place.at;
              from = omega (arith, address, from);
              to = omega (arith, address, whole, to);
            };
          }
      | inr isnt ↦
          let nothing : counted_size has graph number ≡ 0 = ap (λ (passes : Bool). counted passes size) isnt in
          absurd (omega (arith, nothing, from, to))
    ]

-- objects that are placed apart, in words that are all allowed and below the limit, have no more words than are allowed there
pub apart-fits : (has allowed : ℕ → Bool) (limit : ℕ) (placement : Placement) (graph : Graph)
    → ((number : ℕ) → number < length graph → has number ≡ true → IsPlaced placement number)
    → ((number a : ℕ) → has number ≡ true → IsWordOf placement graph number a → (a < limit) × (allowed a ≡ true))
    → AreApart placement graph → words_where has graph ≤ count_below allowed limit
apart-fits has allowed limit placement graph placed inside apart =
    let fit = extents-fit (λ number. or_nothing (placement number)) (counted_size has graph) limit (length graph) allowed
    (λ number a there from to.
    let counts = counted-word has placement graph number a (placed number there) from to in
    inside number a counts.property counts.word)
    (λ i j a one other from to begins ends.
    let first = counted-word has placement graph i a (placed i one) from to in
    let second = counted-word has placement graph j a (placed j other) begins ends in
    apart a i j first.word second.word) in
    omega (arith, fit, words-sum has graph)

-- ---- young objects

-- the place is an address that lies in no page
pub record IsYoungAt (layout : Layout) (place : Option ℕ) : Type 0 where
  pub address : ℕ
  pub at : place ≡ Some address
  pub half : is_in_page layout address ≡ false

-- a young object has such a place
pub young-at : (layout : Layout) (place : Option ℕ) → option_map_or (λ address. not (is_in_page layout address)) place false ≡ true
    → IsYoungAt layout place
young-at layout None is = absurd (false≢true is)
young-at layout (Some address) is =
    record { address = address; at = refl; half = not-true (is_in_page layout address) is }

-- where an object lies in the bay of its home, by the number of that
lies-home : (mutators : ℕ) (bay : ℕ → Bay) (placement : Placement) (graph : Graph) (number address t : ℕ)
    → AllLie mutators bay placement graph → placement number ≡ Some address → home_of (object_at graph number).maker ≡ t
    → LiesIn (bay t) address (object_size (object_at graph number))
lies-home mutators bay placement graph number address t lie at home =
    subst (λ u. LiesIn (bay u) address (object_size (object_at graph number))) home (lie.lying number address at)

-- the words of a mutator's young objects are no more than it uses of its half
pub young-fits : (layout : Layout) (bay : ℕ → Bay) (placement : Placement) (graph : Graph) → AreBays layout bay
    → AllLie layout.mutators bay placement graph → AreApart placement graph → (t : ℕ) → t < layout.mutators
    → young_words layout placement graph t ≤ (bay t).used
young-fits layout bay placement graph are lie apart t there =
    let own = bay t in
    let is = are.each t there in
    let start = address_of own.layout own.mutator (Half own.half 0) in
    let young = is_young layout placement in
    let made : ℕ → Bool = λ number. is_home t (object_at graph number) in
    let has : ℕ → Bool = λ number. young number && made number in
    let fit = apart-fits has (in_extent start own.used) (start + own.used) placement graph
    (λ number below has_it.
    let place = young-at layout (placement number) (and_parts (young number) (made number) has_it).0 in
    record { address = place.address; at = place.at })
    (λ number a has_it word.
    let parts = and_parts (young number) (made number) has_it in
    let object = object_at graph number in
    let size = object_size object in
    let place = young-at layout (placement number) parts.0 in
    let address : word.address ≡ place.address = same_Some word.address place.address (sym word.at ∙ place.at) in
    let lies : LiesIn own word.address size =
    lies-home layout.mutators bay placement graph number word.address t lie word.at (eqb-true (home_of object.maker) t parts.1) in
    ⊎_elim
    (λ (half : LiesInHalf own.layout own.mutator own.half own.used word.address size).
    let to : a < start + own.used = omega (arith, half.to, word.to) in
    (to, in_extent-true start own.used a (omega (arith, half.from, word.from)) to))
    (λ (cell : LiesInCell own.layout own.mutator own.pages word.address size).
    let page : IsInAPage layout word.address =
    subst (λ each. IsInAPage each word.address) (are.layout_is t there)
    (cell-in_page own.layout own.mutator own.pages word.address size is.page_count cell) in
    absurd (both_ways (is_in_page layout word.address) (ap (is_in_page layout) address ∙ place.half)
    (is_in_page-true layout word.address page)))
    lies)
    apart in
    omega (arith, fit, extent-most start own.used (start + own.used))

-- ---- all placed objects

-- what passes only where one test or another does counts for no more than both
counted-either : (both one other : Bool) (size : ℕ) → (both ≡ true → (one ≡ true) ⊎ (other ≡ true))
    → counted both size ≤ counted one size + counted other size
counted-either false one other size either = omega arith
counted-either true one other size either =
    ⊎_elim
    (λ (is : one ≡ true). omega (arith, ap (λ (passes : Bool). counted passes size) is))
    (λ (is : other ≡ true). omega (arith, ap (λ (passes : Bool). counted passes size) is))
    (either refl)

-- no more numbers pass one test or another than pass each
pub count-either : (one other : ℕ → Bool) (limit : ℕ)
    → count_below (λ a. one a || other a) limit ≤ count_below one limit + count_below other limit
count-either one other limit =
    omega (
      arith,
      sum-add (λ a. counted (one a) 1) (λ a. counted (other a) 1) limit,
      sum-le (λ a. counted (one a || other a) 1) (λ a. counted (one a) 1 + counted (other a) 1) limit
          (λ a below. counted-either (one a || other a) (one a) (other a) 1 (or_cases (one a) (other a))),
    )

-- where each object with a property has one or another, its words are no more than theirs
pub words-either : (both one other : ℕ → Bool) (graph : Graph)
    → ((number : ℕ) → both number ≡ true → (one number ≡ true) ⊎ (other number ≡ true))
    → words_where both graph ≤ words_where one graph + words_where other graph
words-either both one other graph either =
    omega (
      arith,
      words-sum both graph,
      words-sum one graph,
      words-sum other graph,
      sum-add (counted_size one graph) (counted_size other graph) (length graph),
      sum-le (counted_size both graph) (λ number. counted_size one graph number + counted_size other graph number) (length graph)
          (λ number there. counted-either (both number) (one number) (other number) (object_size (object_at graph number)) (either number)),
    )

-- no object has no words
pub words-none : (has : ℕ → Bool) (graph : Graph) → ((number : ℕ) → has number ≡ false) → words_where has graph ≡ 0
words-none has graph none =
    omega (
      arith,
      words-sum has graph,
      sum-same (counted_size has graph) (λ number. 0) (length graph)
          (λ number there. ap (λ (passes : Bool). counted passes (object_size (object_at graph number))) (none number)),
      zeros-sum (length graph),
    )

-- whether an object is placed, and its home is this mutator
abbrev is_at_home : Placement → Graph → ℕ → ℕ → Bool
is_at_home placement graph t number = is_some (placement number) && (home_of (object_at graph number).maker == t)

-- whether an object is placed, and its home is one of the first so many mutators
abbrev is_home_below : Placement → Graph → ℕ → ℕ → Bool
is_home_below placement graph mutators number =
    is_some (placement number) && nat_lt (home_of (object_at graph number).maker) mutators

-- what is somewhere has an address
some-at : (place : Option ℕ) → is_some place ≡ true → (address : ℕ) × (place ≡ Some address)
some-at None is = absurd (false≢true is)
some-at (Some address) is = (address, refl)

-- an object that the test says is placed is placed
pub placed-at : (placement : Placement) (number : ℕ) → is_some (placement number) ≡ true → IsPlaced placement number
placed-at placement number is =
    let found = some-at (placement number) is in record { address = found.0; at = found.1 }

-- whether an address is that of a word of this half or of a page of the mutator
abbrev in_room : Layout → ℕ → ℕ → ℕ → Bool
in_room layout m half a =
    in_extent (address_of layout m (Half half 0)) layout.nursery a
    || in_extent (address_of layout m (InPage 0 0)) (page_words * layout.pages) a

-- a word of an extent of a bay is in its room
in_room-word : (bay : Bay) (address size a : ℕ) → IsBay bay → LiesIn bay address size → address ≤ a → a < address + size
    → in_room bay.layout bay.mutator bay.half a ≡ true
in_room-word bay address size a is lies from to =
    let layout = bay.layout in
    let half_start = address_of layout bay.mutator (Half bay.half 0) in
    let pages_start = address_of layout bay.mutator (InPage 0 0) in
    let in_half = in_extent half_start layout.nursery a in
    let in_pages = in_extent pages_start (page_words * layout.pages) a in
    ⊎_elim
    (λ (half : LiesInHalf layout bay.mutator bay.half bay.used address size).
    or_left in_half in_pages
    (in_extent-true half_start layout.nursery a (omega (arith, half.from, from)) (omega (arith, half.to, to, is.used))))
    (λ (cell : LiesInCell layout bay.mutator bay.pages address size).
    let inside = cell-in_region layout bay.mutator bay.pages address size is.page_count cell in
    or_right in_half in_pages
    (in_extent-true pages_start (page_words * layout.pages) a (omega (arith, inside.0, from)) (omega (arith, inside.1, to))))
    lies

-- the words of the placed objects of one home are no more than a half and its pages have
home-fits : (layout : Layout) (bay : ℕ → Bay) (placement : Placement) (graph : Graph) → AreBays layout bay
    → AllLie layout.mutators bay placement graph → AreApart placement graph → (t : ℕ) → t < layout.mutators
    → words_where (is_at_home placement graph t) graph ≤ layout.nursery + page_words * layout.pages
home-fits layout bay placement graph are lie apart t there =
    let own = bay t in
    let is = are.each t there in
    let home : ℕ → ℕ = λ number. home_of (object_at graph number).maker in
    let limit = region_start own.layout (own.mutator + 1) in
    let half_start = address_of own.layout own.mutator (Half own.half 0) in
    let pages_start = address_of own.layout own.mutator (InPage 0 0) in
    let fit = apart-fits (is_at_home placement graph t) (in_room own.layout own.mutator own.half) limit placement graph
    (λ number below has. placed-at placement number (and_parts (is_some (placement number)) (home number == t) has).0)
    (λ number a has word.
    let parts = and_parts (is_some (placement number)) (home number == t) has in
    let size = object_size (object_at graph number) in
    let lies : LiesIn own word.address size =
    lies-home layout.mutators bay placement graph number word.address t lie word.at (eqb-true (home number) t parts.1) in (
      omega (arith, (lies-in_region own word.address size is lies).1, word.to),
      in_room-word own word.address size a is lies word.from word.to,
    ))
    apart in
    omega (
      arith,
      fit,
      ap (λ (each : Layout). each.nursery) (are.layout_is t there),
      ap (λ (each : Layout). each.pages) (are.layout_is t there),
      count-either (in_extent half_start own.layout.nursery) (in_extent pages_start (page_words * own.layout.pages)) limit,
      extent-most half_start own.layout.nursery limit,
      extent-most pages_start (page_words * own.layout.pages) limit,
    )

-- a home below one more mutator is below the others, or that one
home-below : (placement : Placement) (graph : Graph) (mutators number : ℕ) → is_home_below placement graph (suc mutators) number ≡ true
    → (is_home_below placement graph mutators number ≡ true) ⊎ (is_at_home placement graph mutators number ≡ true)
home-below placement graph mutators number has =
    let placed = is_some (placement number) in
    let home = home_of (object_at graph number).maker in
    let parts = and_parts placed (nat_lt home (suc mutators)) has in
    let below = ltb-true home (suc mutators) parts.1 in
    elim (cases_lt home mutators) [
      | inl less ↦ inl (and_from placed (nat_lt home mutators) parts.0 (lt-ltb home mutators less))
      | inr last ↦ inr (and_from placed (home == mutators) parts.0 (eq-eqb home mutators (omega (arith, below, last))))
    ]

-- the words of the placed objects whose homes are the first so many mutators
homes-fit : (layout : Layout) (bay : ℕ → Bay) (placement : Placement) (graph : Graph) → AreBays layout bay
    → AllLie layout.mutators bay placement graph → AreApart placement graph → (mutators : ℕ) → mutators ≤ layout.mutators
    → words_where (is_home_below placement graph mutators) graph ≤ mutators * (layout.nursery + page_words * layout.pages)
homes-fit layout bay placement graph are lie apart zero within =
    let none : (number : ℕ) → is_home_below placement graph 0 number ≡ false = λ number.
    let home = home_of (object_at graph number).maker in
    and_right (is_some (placement number)) (nat_lt home 0) (le-ltb home 0 (omega arith)) in
    omega (arith, words-none (is_home_below placement graph 0) graph none)
homes-fit layout bay placement graph are lie apart (suc mutators) within =
    omega (
      arith,
      homes-fit layout bay placement graph are lie apart mutators (omega (arith, within)),
      home-fits layout bay placement graph are lie apart mutators (omega (arith, within)),
      words-either (is_home_below placement graph (suc mutators)) (is_home_below placement graph mutators)
          (is_at_home placement graph mutators) graph (home-below placement graph mutators),
    )

-- the words of all placed objects are no more than the current halves and the pages have
pub placed-fits : (layout : Layout) (bay : ℕ → Bay) (placement : Placement) (graph : Graph) → AreBays layout bay
    → AllLie layout.mutators bay placement graph → AreApart placement graph
    → words_where (λ number. is_some (placement number)) graph
    ≤ layout.mutators * (layout.nursery + page_words * layout.pages)
placed-fits layout bay placement graph are lie apart =
    let fewer = words-fewer (λ number. is_some (placement number)) (is_home_below placement graph layout.mutators) graph
    (λ number is.
    let place = placed-at placement number is in
    let home = home_of (object_at graph number).maker in
    and_from (is_some (placement number)) (nat_lt home layout.mutators) is
    (lt-ltb home layout.mutators (lie.home number place.address place.at))) in
    omega (arith, fewer, homes-fit layout bay placement graph are lie apart layout.mutators (omega arith))
