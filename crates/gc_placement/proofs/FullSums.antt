-- Sums for a full collection: how many objects have a property and their words, mutator by mutator, and tallies that count them.
use Rattle.std.proofs.Common.{◌≡◌, ◌≢◌, ◌∙◌, ℕ, zero, suc, ◌+◌, ◌*◌, ◌^◌, ◌<◌, ◌≤◌, ◌==◌, Bool, true, false, ◌&&◌, ◌||◌, nat_lt, List, length, take, filter, slice_index_or, is_some, inl, inr, refl, sym, ap, arith}
use Rattle.std.proofs.Math.Nat.{mul-le-mul}
use Rattle.std.proofs.lemmas.Bool.{and_from, and_left, and_parts, and_right, cases_Bool, cases_eq, cases_lt, eq-eqb, eqb-true, le-ltb, lt-ltb, ne_eqb, or_cases, or_right}
use Rattle.std.proofs.lemmas.List.{take_all}
use Rattle.std.proofs.lemmas.List.Filters.{length-filter_more}
use Rattle.std.proofs.lemmas.List.FromFn.{get_or-enumerate_from, length-enumerate_from}
use Rattle.std.specs.List.{enumerate_from}
use Rattle.gc_bay.specs.Bay.{Bay, Tally}
use Rattle.gc_layout.specs.Sizes.{page_words}
use Rattle.gc_model.specs.Graph.{Graph, Object, common_object, object_at, object_size}
use Rattle.gc_model.specs.World.{World}
use Rattle.gc_placement.specs.Extents.{home_of, is_home}
use Rattle.gc_placement.specs.Marks.{CountsFound}
use Rattle.gc_placement.specs.Memory.{Memory}
use Rattle.gc_placement.specs.Placement.{IsPlaced, Placement}
use Rattle.gc_placement.specs.Shows.{Shows}
use Rattle.gc_placement.specs.Sums.{objects_where, own_objects_where, own_words_where, words_where}
use Rattle.gc_placement.proofs.Sums.{count_below, counted, counted_size, placed-fits, sum-add, sum-le, sum-one_more, sum-same, sum_below, words-fewer, words-none, words-one_more, words-same, words-sum, zeros-sum}

-- ---- how many objects, as a sum over their numbers

-- how many of the first so many objects have the property
objects-before : (has : ℕ → Bool) (graph : Graph) (count : ℕ) → count ≤ length graph
    → length (filter (λ member. has member.0) (take count (enumerate_from 0 graph))) ≡ count_below has count
objects-before has graph zero within = refl
objects-before has graph (suc count) within =
    let Member = ℕ × Object in
    let members = enumerate_from 0 graph in
    let has_property : Member → Bool = λ member. has member.0 in
    let default : Member = (0, common_object) in
    let number : suc count ≡ count + 1 = omega arith in
    let there : slice_index_or members count default ≡ (count, object_at graph count) =
    get_or-enumerate_from 0 graph count default (omega (arith, within))
    ∙ ap (λ (n : ℕ). (n, object_at graph count)) (omega arith) in
    omega (
      arith,
      ap (λ (n : ℕ). length (filter has_property (take n members))) number,
      length-filter_more has_property members count default (omega (arith, within, length-enumerate_from 0 graph)),
      ap (λ (each : Member). counted (has each.0) 1) there,
      objects-before has graph count (omega (arith, within)),
    )

-- how many objects have the property, object by object
pub objects-sum : (has : ℕ → Bool) (graph : Graph) → objects_where has graph ≡ count_below has (length graph)
objects-sum has graph =
    let members = enumerate_from 0 graph in
    ap (λ (each : List (ℕ × Object)). length (filter (λ member. has member.0) each))
    (sym (take_all (length graph) members (omega (arith, length-enumerate_from 0 graph))))
    ∙ objects-before has graph (length graph) (omega arith)

-- where one more object has the property, there is one more of them
pub objects-one_more : (has more : ℕ → Bool) (graph : Graph) (number : ℕ) → number < length graph → has number ≡ false
    → more number ≡ true → ((other : ℕ) → other ≢ number → more other ≡ has other)
    → objects_where more graph ≡ objects_where has graph + 1
objects-one_more has more graph number there before after elsewhere =
    let sums = sum-one_more (λ n. counted (has n) 1) (λ n. counted (more n) 1) (length graph) number 1 there
    (omega (arith, ap (λ (passes : Bool). counted passes 1) before, ap (λ (passes : Bool). counted passes 1) after))
    (λ other differs. ap (λ (passes : Bool). counted passes 1) (elsewhere other differs)) in
    omega (arith, objects-sum has graph, objects-sum more graph, sums)

-- where the same objects of the graph have the property, there are as many
pub objects-same : (has more : ℕ → Bool) (graph : Graph) → ((n : ℕ) → n < length graph → more n ≡ has n)
    → objects_where more graph ≡ objects_where has graph
objects-same has more graph same =
    objects-sum more graph
    ∙ sum-same (λ n. counted (more n) 1) (λ n. counted (has n) 1) (length graph)
    (λ n there. ap (λ (passes : Bool). counted passes 1) (same n there))
    ∙ sym (objects-sum has graph)

-- where no object has the property, there is none
pub objects-none : (has : ℕ → Bool) (graph : Graph) → ((number : ℕ) → has number ≡ false) → objects_where has graph ≡ 0
objects-none has graph none =
    omega (
      arith,
      objects-sum has graph,
      sum-same (λ n. counted (has n) 1) (λ n. 0) (length graph) (λ n there. ap (λ (passes : Bool). counted passes 1) (none n)),
      zeros-sum (length graph),
    )

-- a greater value counts for no less
counted-more : (passes : Bool) (one other : ℕ) → one ≤ other → counted passes one ≤ counted passes other
counted-more true one other le = le
counted-more false one other le = omega arith

-- there are no more objects than their words
pub objects-few : (has : ℕ → Bool) (graph : Graph) → objects_where has graph ≤ words_where has graph
objects-few has graph =
    omega (
      arith,
      objects-sum has graph,
      words-sum has graph,
      sum-le (λ n. counted (has n) 1) (counted_size has graph) (length graph)
          (λ n there. counted-more (has n) 1 (object_size (object_at graph n)) (omega arith)),
    )

-- ---- mutator by mutator

-- whether an object has the property and its home is one of the first so many mutators
abbrev has_below : (ℕ → Bool) → Graph → ℕ → ℕ → Bool
has_below has graph t number = has number && nat_lt (home_of (object_at graph number).maker) t

-- none of no mutators is a home
below-none : (has : ℕ → Bool) (graph : Graph) (number : ℕ) → has_below has graph 0 number ≡ false
below-none has graph number =
    let home = home_of (object_at graph number).maker in
    and_right (has number) (nat_lt home 0) (le-ltb home 0 (omega arith))

-- what a home below one more mutator counts for is what it counts for below the others and what it counts for at that one
below-next : (has : Bool) (home t size : ℕ)
    → counted (has && nat_lt home (t + 1)) size ≡ counted (has && nat_lt home t) size + counted (has && (home == t)) size
below-next false home t size = refl
below-next true home t size = elim (cases_lt home t) [
  | inl less ↦
      rw (lt-ltb home (t + 1) (omega (arith, less)), lt-ltb home t less, ne_eqb home t (λ same. omega (arith, less, same))) (omega arith)
  | inr from ↦ elim (cases_eq home t) [
    | inl same ↦ rw (lt-ltb home (t + 1) (omega (arith, same)), le-ltb home t from, eq-eqb home t same) (omega arith)
    | inr differs ↦
        rw (le-ltb home (t + 1) (omega (arith, from, differs)), le-ltb home t from, ne_eqb home t differs) refl
  ]
]

-- so the sums over the objects are
sum-next : (has : ℕ → Bool) (graph : Graph) (t : ℕ) (size : ℕ → ℕ) (limit : ℕ)
    → sum_below (λ n. counted (has_below has graph (t + 1) n) (size n)) limit
    ≡ sum_below (λ n. counted (has_below has graph t n) (size n)) limit
    + sum_below (λ n. counted (has n && is_home t (object_at graph n)) (size n)) limit
sum-next has graph t size limit =
    let below : ℕ → ℕ = λ n. counted (has_below has graph t n) (size n) in
    let own : ℕ → ℕ = λ n. counted (has n && is_home t (object_at graph n)) (size n) in
    sum-same (λ n. counted (has_below has graph (t + 1) n) (size n)) (λ n. below n + own n) limit
    (λ n there. below-next (has n) (home_of (object_at graph n).maker) t (size n))
    ∙ sum-add below own limit

-- what has the property has a home below a number where each does
below-all : (has : ℕ → Bool) (graph : Graph) (mutators : ℕ)
    → ((number : ℕ) → has number ≡ true → home_of (object_at graph number).maker < mutators) → (number : ℕ)
    → has_below has graph mutators number ≡ has number
below-all has graph mutators homes number =
    let home = home_of (object_at graph number).maker in
    elim (cases_Bool (has number)) as (λ _. has_below has graph mutators number ≡ has number) [
      | inl is ↦ and_from (has number) (nat_lt home mutators) is (lt-ltb home mutators (homes number is)) ∙ sym is
      | inr isnt ↦ and_left (has number) (nat_lt home mutators) isnt ∙ sym isnt
    ]

-- the words of the objects with homes below a number of mutators: of no mutators there are none
pub words-below_none : (has : ℕ → Bool) (graph : Graph)
    → words_where (λ number. has number && nat_lt (home_of (object_at graph number).maker) 0) graph ≡ 0
words-below_none has graph = words-none (has_below has graph 0) graph (below-none has graph)

-- one more mutator adds those of the objects in its region
pub words-below_next : (has : ℕ → Bool) (graph : Graph) (t : ℕ)
    → words_where (λ number. has number && nat_lt (home_of (object_at graph number).maker) (t + 1)) graph
    ≡ words_where (λ number. has number && nat_lt (home_of (object_at graph number).maker) t) graph + own_words_where has graph t
words-below_next has graph t =
    omega (
      arith,
      words-sum (has_below has graph (t + 1)) graph,
      words-sum (has_below has graph t) graph,
      words-sum (λ number. has number && is_home t (object_at graph number)) graph,
      sum-next has graph t (λ n. object_size (object_at graph n)) (length graph),
    )

-- and where all have homes below it, they are the words of all
pub words-below_all : (has : ℕ → Bool) (graph : Graph) (mutators : ℕ)
    → ((number : ℕ) → has number ≡ true → home_of (object_at graph number).maker < mutators)
    → words_where (λ number. has number && nat_lt (home_of (object_at graph number).maker) mutators) graph ≡ words_where has graph
words-below_all has graph mutators homes =
    words-same has (has_below has graph mutators) graph (λ number there. below-all has graph mutators homes number)

-- how many objects have homes below a number of mutators: below no mutators there are none
pub objects-below_none : (has : ℕ → Bool) (graph : Graph)
    → objects_where (λ number. has number && nat_lt (home_of (object_at graph number).maker) 0) graph ≡ 0
objects-below_none has graph = objects-none (has_below has graph 0) graph (below-none has graph)

-- one more mutator adds the objects in its region
pub objects-below_next : (has : ℕ → Bool) (graph : Graph) (t : ℕ)
    → objects_where (λ number. has number && nat_lt (home_of (object_at graph number).maker) (t + 1)) graph
    ≡ objects_where (λ number. has number && nat_lt (home_of (object_at graph number).maker) t) graph + own_objects_where has graph t
objects-below_next has graph t =
    omega (
      arith,
      objects-sum (has_below has graph (t + 1)) graph,
      objects-sum (has_below has graph t) graph,
      objects-sum (λ number. has number && is_home t (object_at graph number)) graph,
      sum-next has graph t (λ n. 1) (length graph),
    )

-- and where all have homes below it, they are all
pub objects-below_all : (has : ℕ → Bool) (graph : Graph) (mutators : ℕ)
    → ((number : ℕ) → has number ≡ true → home_of (object_at graph number).maker < mutators)
    → objects_where (λ number. has number && nat_lt (home_of (object_at graph number).maker) mutators) graph ≡ objects_where has graph
objects-below_all has graph mutators homes =
    objects-same has (has_below has graph mutators) graph (λ number there. below-all has graph mutators homes number)

-- ---- tallies

-- what fails adds nothing to a test
or_false : (test other : Bool) → other ≡ false → test || other ≡ test
or_false true other none = refl
or_false false other none = none

-- a tally has room for one more object
pub tally-room : (memory : Memory) (placement : Placement) (world : World) (has : ℕ → Bool) (number t : ℕ) → Shows memory placement world
    → ((each : ℕ) → has each ≡ true → IsPlaced placement each) → IsPlaced placement number → has number ≡ false
    → (own_objects_where has world.graph t + 1 < 2 ^ 32)
    × (own_words_where has world.graph t + object_size (object_at world.graph number) < 2 ^ 32)
tally-room memory placement world has number t shown placed place without =
    let graph = world.graph in
    let layout = memory.layout in
    let limits = shown.bays.limits in
    let size = object_size (object_at graph number) in
    let own : ℕ → Bool = λ each. has each && is_home t (object_at graph each) in
    let more : ℕ → Bool = λ each. has each || (each == number) in
    let added : words_where more graph ≡ words_where has graph + size =
    words-one_more has more graph number (shown.lying.there number place.address place.at) without
    (or_right (has number) (number == number) (eq-eqb number number refl))
    (λ other differs. or_false (has other) (other == number) (ne_eqb other number differs)) in
    let all_placed : words_where more graph ≤ words_where (λ each. is_some (placement each)) graph =
    words-fewer more (λ each. is_some (placement each)) graph (λ each is. elim (or_cases (has each) (each == number) is) [
      | inl one ↦ ap is_some (placed each one).at
      | inr last ↦ ap (λ (n : ℕ). is_some (placement n)) (eqb-true each number last) ∙ ap is_some place.at
    ]) in
    let fits = placed-fits layout memory.bay placement graph shown.bays shown.lying shown.apart in
    let room : layout.nursery + page_words * layout.pages ≤ 196608 =
    omega (arith, limits.small_nursery, limits.few_pages) in
    let rooms : layout.mutators * (layout.nursery + page_words * layout.pages) ≤ 8 * 196608 =
    mul-le-mul limits.few_mutators room in
    let fewer : words_where own graph ≤ words_where has graph =
    words-fewer own has graph (λ each is. (and_parts (has each) (is_home t (object_at graph each)) is).0) in
    let few = objects-few own graph in
    let words : words_where own graph + size < 2 ^ 32 = omega (arith, added, all_placed, fits, rooms, fewer) in
    (omega (arith, few, words), words)

-- a tally counts one more: the number lies in mutator t's region
pub counts-one_more : (bay own : Bay) (has now : ℕ → Bool) (graph : Graph) (t number : ℕ) → CountsFound bay has graph t
    → number < length graph → home_of (object_at graph number).maker ≡ t → has number ≡ false → now number ≡ true
    → ((each : ℕ) → each ≢ number → now each ≡ has each) → own.tally.objects ≡ bay.tally.objects + 1
    → own.tally.words ≡ bay.tally.words + object_size (object_at graph number) → CountsFound own now graph t
counts-one_more bay own has now graph t number counts there home before after elsewhere objects words =
    let made : ℕ → Bool = λ each. is_home t (object_at graph each) in
    let was : ℕ → Bool = λ each. has each && made each in
    let is : ℕ → Bool = λ each. now each && made each in
    let wasnt : was number ≡ false = and_left (has number) (made number) before in
    let counted_now : is number ≡ true =
    and_from (now number) (made number) after (eq-eqb (home_of (object_at graph number).maker) t home) in
    let others : (each : ℕ) → each ≢ number → is each ≡ was each =
    λ each differs. ap (λ (test : Bool). test && made each) (elsewhere each differs) in
    record {
      objects = omega (arith, objects, counts.objects, objects-one_more was is graph number there wasnt counted_now others);
      words = omega (arith, words, counts.words, words-one_more was is graph number there wasnt counted_now others);
    }

-- and where it lies elsewhere, or nothing changes, it stays
pub counts-same : (bay own : Bay) (has now : ℕ → Bool) (graph : Graph) (t : ℕ) → CountsFound bay has graph t
    → ((each : ℕ) → each < length graph → home_of (object_at graph each).maker ≡ t → now each ≡ has each)
    → own.tally ≡ bay.tally → CountsFound own now graph t
counts-same bay own has now graph t counts same tally =
    let made : ℕ → Bool = λ each. is_home t (object_at graph each) in
    let was : ℕ → Bool = λ each. has each && made each in
    let is : ℕ → Bool = λ each. now each && made each in
    let each_same : (each : ℕ) → each < length graph → is each ≡ was each = λ each there. elim (cases_Bool (made each)) [
      | inl own_one ↦
          ap (λ (test : Bool). test && made each) (same each there (eqb-true (home_of (object_at graph each).maker) t own_one))
      | inr other ↦ and_right (now each) (made each) other ∙ sym (and_right (has each) (made each) other)
    ] in
    record {
      objects = ap (λ (each : Tally). each.objects) tally ∙ counts.objects ∙ sym (objects-same was is graph each_same);
      words = ap (λ (each : Tally). each.words) tally ∙ counts.words ∙ sym (words-same was is graph each_same);
    }
