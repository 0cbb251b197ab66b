-- Sweeping the pages of a heap on which a full collection has kept all that is reachable.
use Rattle.std.proofs.Common.{◌≡◌, ◌≢◌, ◌∙◌, ◌⊎◌, inl, inr, ◌↔◌, ℕ, ◌+◌, ◌*◌, ◌/◌, ◌<◌, ◌≤◌, Bool, List, Option, Some, None, length, true, false, refl, sym, ap, subst, arith, slice_index, slice_index_or, slice_set}
use Rattle.std.proofs.lemmas.Bool.{cases_eq, cases_lt, false≢true}
use Rattle.std.proofs.lemmas.List.{get_or_read, length-set}
use native.Mathlib.Nat.{mul-le-mul_right}
use Rattle.gc_bay.specs.Bay.{Bay, IsBay}
use Rattle.gc_gen2.specs.Cells.{GivesCell, IsUsed, IsWellFormed, class_at, without_cell}
use Rattle.gc_gen2.specs.Page.{Page}
use Rattle.gc_layout.specs.Head.{head_word}
use Rattle.gc_layout.specs.Places.{Layout, cell_address}
use Rattle.gc_model.specs.World.{World}
use Rattle.gc_model.specs.declared.entry.RunKind.{RunKind}
use Rattle.gc_placement.specs.Changes.{ChangesBay, Stores}
use Rattle.gc_placement.specs.Full.{IsFullCollection}
use Rattle.gc_placement.specs.Headers.{IsHeader, head_of, unmarked_head}
use Rattle.gc_placement.specs.Marks.{found_part}
use Rattle.gc_placement.specs.Memory.{Memory}
use Rattle.gc_placement.specs.Placement.{Placement}
use Rattle.gc_placement.specs.Sweeping.{IsLeft, IsSweeping}
use Rattle.gc_placement.proofs.FullEnd.{full-traced}
use Rattle.gc_placement.proofs.SweepCells.{next-cell, no_class-no_cell, page-end, unused-passed, used-within}
use Rattle.gc_placement.proofs.SweepSteps.{sweep-ends, sweep-freed, sweep-header, sweep-marked, sweep-past, sweep-reset}
use Rattle.gc_solo.specs.Collecting.{Beginning, HasTraced, HasTracedAll, IsCollection, IsSwept}
use Rattle.gc_solo.specs.Kept.{Kept, bay_at, memory_of, no_bay}
use Rattle.gc_solo.proofs.FullWhole.{traced-full}
use Rattle.gc_solo.proofs.Registers.{bay-written}

-- ---- the words and bays

-- the heap is swept up to another place, with other words and bays
swept-with : (kept new : Kept) (start : Beginning) (after : Placement) (t offset u place : ℕ) → (swept : IsSwept kept start after t offset)
    → new.types ≡ kept.types → length new.words ≡ length kept.words → length new.bays ≡ length kept.bays
    → IsSweeping start.memory swept.traced start.placement after start.world (memory_of new) u place → IsSwept new start after u place
swept-with kept new start after t offset u place swept types words bays sweeping = record {
  full = swept.full;
  rest = swept.rest;
  sound = swept.sound;
  typed = swept.typed;
  types = types ∙ swept.types;
  words = words ∙ swept.words;
  bays = bays ∙ swept.bays;
  traced = swept.traced;
  sweeping = sweeping;
}

-- each mutator has a bay
pub swept-bay : (kept : Kept) (start : Beginning) (after : Placement) (t offset u : ℕ) → IsSwept kept start after t offset
    → u < kept.layout.mutators → u < length kept.bays
swept-bay kept start after t offset u swept there =
    omega (arith, there, swept.bays, ap (λ (each : Layout). each.mutators) swept.sweeping.layout)

-- what is read at a mutator's place is its bay
pub swept-read : (kept : Kept) (start : Beginning) (after : Placement) (t offset u at : ℕ) (read : Bay) → IsSwept kept start after t offset
    → u < kept.layout.mutators → at ≡ u → read ≡ slice_index_or kept.bays at read → read ≡ bay_at kept.bays u
swept-read kept start after t offset u at read swept there place is =
    let below = swept-bay kept start after t offset u swept there in
    get_or_read kept.bays at read (omega (arith, below, place)) is no_bay ∙ ap (bay_at kept.bays) place

-- ---- a cell

-- where nothing used lies between, the sweep goes on from a later place
pub swept-past : (kept : Kept) (start : Beginning) (after : Placement) (t offset u place : ℕ) → IsSwept kept start after t offset
    → ((each other : ℕ) → IsLeft u place each other → IsLeft t offset each other)
    → ((each other : ℕ) → each < kept.layout.mutators → IsUsed (bay_at kept.bays each).pages other → IsLeft t offset each other
    → IsLeft u place each other)
    → IsSwept kept start after u place
swept-past kept start after t offset u place swept before later =
    swept-with kept kept start after t offset u place swept refl refl refl (sweep-past swept.sweeping before later)

-- an object's header stands in a used cell that is to be looked at
pub swept-header : (kept : Kept) (start : Beginning) (after : Placement) (t offset address : ℕ) → IsSwept kept start after t offset
    → t < kept.layout.mutators → IsUsed (bay_at kept.bays t).pages offset → address ≡ cell_address kept.layout t offset
    → (ty : ℕ) × IsHeader (slice_index kept.words address) ty
swept-header kept start after t offset address swept there used at = rw at (sweep-header swept.sweeping there used)

-- a marked object's mark was cleared
pub swept-marked : (kept mid : Kept) (start : Beginning) (after : Placement) (t offset address header : ℕ)
    → IsSwept kept start after t offset → t < kept.layout.mutators → IsUsed (bay_at kept.bays t).pages offset
    → address ≡ cell_address kept.layout t offset → (head_of (slice_index kept.words address)).marked ≡ true
    → header ≡ head_word (unmarked_head (slice_index kept.words address)) → mid ≡ record kept { words = mid.words }
    → length mid.words ≡ length kept.words → Stores (memory_of kept).word (memory_of mid).word address header
    → IsSwept mid start after t (offset + 1)
swept-marked kept mid start after t offset address header swept there used at marked header_is rest count stores =
    let Marked : ℕ → Type 0 = λ a. (head_of (slice_index kept.words a)).marked ≡ true in
    let Stored : ℕ → ℕ → Type 0 = λ a h. Stores (memory_of kept).word (memory_of mid).word a h in
    let stored : Stored address (head_word (unmarked_head (slice_index kept.words address))) =
    subst (Stored address) header_is stores in
    let own : Stored (cell_address kept.layout t offset)
    (head_word (unmarked_head (slice_index kept.words (cell_address kept.layout t offset)))) =
    subst (λ (a : ℕ). Stored a (head_word (unmarked_head (slice_index kept.words a)))) at stored in
    let now : Kept = record kept { words = mid.words } in
    let all : IsSwept now start after t (offset + 1) =
    swept-with kept now start after t offset t (offset + 1) swept refl count refl
    (sweep-marked swept.sweeping there used (subst Marked at marked) own) in
    subst (λ (each : Kept). IsSwept each start after t (offset + 1)) (sym rest) all

-- the cell of one that isn't marked was given back
pub swept-freed : (kept : Kept) (start : Beginning) (after : Placement) (t offset address : ℕ) (bay : Bay)
    → IsSwept kept start after t offset → t < kept.layout.mutators → IsUsed (bay_at kept.bays t).pages offset
    → address ≡ cell_address kept.layout t offset → (head_of (slice_index kept.words address)).marked ≡ false
    → bay ≡ record (bay_at kept.bays t) { pages = bay.pages } → IsBay bay
    → bay.pages ≡ without_cell (bay_at kept.bays t).pages offset → GivesCell (bay_at kept.bays t).pages bay.pages offset
    → IsSwept (record kept { bays = slice_set kept.bays t bay }) start after t (offset + 1)
swept-freed kept start after t offset address bay swept there used at unmarked bay_is is pages gives =
    let below = swept-bay kept start after t offset t swept there in
    let own : Bay = record (bay_at kept.bays t) { pages = bay.pages } in
    let changes : ChangesBay (bay_at kept.bays) (bay_at (slice_set kept.bays t bay)) t own =
    subst (ChangesBay (bay_at kept.bays) (bay_at (slice_set kept.bays t bay)) t) bay_is (bay-written kept.bays t bay below) in
    let Unmarked : ℕ → Type 0 = λ a. (head_of (slice_index kept.words a)).marked ≡ false in
    swept-with kept (record kept { bays = slice_set kept.bays t bay }) start after t offset t (offset + 1) swept refl refl
    (length-set kept.bays t bay)
    (sweep-freed swept.sweeping there used (subst Unmarked at unmarked) changes (subst IsBay bay_is is) pages gives)

-- what is known of the pages where a cell of the bay was given back, by its offset
pub freed-pages : (kept : Kept) (start : Beginning) (after : Placement) (t offset address : ℕ) (read bay : Bay)
    → IsSwept kept start after t offset → t < kept.layout.mutators → read ≡ bay_at kept.bays t
    → address ≡ cell_address kept.layout t offset
    → ((other : ℕ) → cell_address read.layout read.mutator other ≡ address → bay.pages ≡ without_cell read.pages other)
    → ((other : ℕ) → cell_address read.layout read.mutator other ≡ address → GivesCell read.pages bay.pages other)
    → (bay.pages ≡ without_cell (bay_at kept.bays t).pages offset) × GivesCell (bay_at kept.bays t).pages bay.pages offset
freed-pages kept start after t offset address read bay swept there is at without gives =
    let bays = swept.sweeping.bays in
    let layout : read.layout ≡ kept.layout = ap (λ (each : Bay). each.layout) is ∙ bays.layout_is t there in
    let mutator : read.mutator ≡ t = ap (λ (each : Bay). each.mutator) is ∙ bays.mutator_is t there in
    let here : cell_address read.layout read.mutator offset ≡ address =
    ap (λ (each : Layout). cell_address each read.mutator offset) layout ∙ ap (λ (m : ℕ). cell_address kept.layout m offset) mutator
    ∙ sym at in (
      without offset here ∙ ap (λ (each : Bay). without_cell each.pages offset) is,
      subst (λ (each : Bay). GivesCell each.pages bay.pages offset) is (gives offset here),
    )

-- ---- a page

-- a page without class has no cell
pub page-no_class : (kept : Kept) (start : Beginning) (after : Placement) (t page : ℕ) → IsSwept kept start after t (page * 1024)
    → class_at (bay_at kept.bays t).pages page ≡ None → IsSwept kept start after t ((page + 1) * 1024)
page-no_class kept start after t page swept none =
    swept-past kept start after t (page * 1024) t ((page + 1) * 1024) swept
    (λ each other left. elim left [
      | inl later ↦ inl later
      | inr (same, from) ↦ inr (same, omega (arith, from))
    ])
    (λ each other there used left. elim left [
      | inl later ↦ inl later
      | inr (same, from) ↦ elim (cases_lt other ((page + 1) * 1024)) [
        | inl inside ↦
            let own : IsUsed (bay_at kept.bays t).pages other = subst (λ (u : ℕ). IsUsed (bay_at kept.bays u).pages other) same used in
            absurd (no_class-no_cell (bay_at kept.bays t).pages page other none own (omega (arith, from, inside)))
        | inr past ↦ inr (same, past)
      ]
    ])

-- what is known where a cell of a page of a class is looked at
pub record IsAtCell (kept : Kept) (start : Beginning) (after : Placement) (t page class number : ℕ) : Type 0 where
  pub swept : IsSwept kept start after t (page * 1024 + number * class)
  pub there : t < kept.layout.mutators
  pub class_is : class_at (bay_at kept.bays t).pages page ≡ Some class

-- the pages of a mutator are well-formed
cells-formed : (kept : Kept) (start : Beginning) (after : Placement) (t offset : ℕ) → IsSwept kept start after t offset
    → t < kept.layout.mutators → IsWellFormed (bay_at kept.bays t).pages
cells-formed kept start after t offset swept there = (swept.sweeping.bays.each t there).pages

-- a cell of a page, by its number, ends in the page
cell-ends : (class number : ℕ) → number < 1024 / class → (number + 1) * class ≤ 1024
cell-ends class number below =
    let all : (number + 1) * class ≤ 1024 / class * class = mul-le-mul_right class (omega (arith, below)) in
    let whole : 1024 / class * class ≤ 1024 = omega arith in
    omega (arith, all, whole)

-- behind a cell of a page the next one is that of the next number
pub cell-looked_at : (kept : Kept) (start : Beginning) (after : Placement) (t page class number : ℕ)
    → IsSwept kept start after t (page * 1024 + number * class + 1) → t < kept.layout.mutators
    → class_at (bay_at kept.bays t).pages page ≡ Some class → number < 1024 / class
    → IsSwept kept start after t (page * 1024 + (number + 1) * class)
cell-looked_at kept start after t page class number swept there of below =
    let pages = (bay_at kept.bays t).pages in
    let formed = cells-formed kept start after t (page * 1024 + number * class + 1) swept there in
    let ends = cell-ends class number below in
    let some : 1 ≤ class = omega (arith, below) in
    swept-past kept start after t (page * 1024 + number * class + 1) t (page * 1024 + (number + 1) * class) swept
    (λ each other left. elim left [
      | inl later ↦ inl later
      | inr (same, from) ↦ inr (same, omega (arith, from, some))
    ])
    (λ each other here used left. elim left [
      | inl later ↦ inl later
      | inr (same, from) ↦
          let own : IsUsed pages other = subst (λ (u : ℕ). IsUsed (bay_at kept.bays u).pages other) same used in
          elim (cases_lt other ((page + 1) * 1024)) [
            | inl inside ↦ inr (same, next-cell pages page class number other of own formed from inside)
            | inr past ↦ inr (same, omega (arith, past, ends))
          ]
    ])

-- one that isn't used is passed
pub cell-unused : (kept : Kept) (start : Beginning) (after : Placement) (t page class number : ℕ)
    → IsSwept kept start after t (page * 1024 + number * class) → t < kept.layout.mutators
    → class_at (bay_at kept.bays t).pages page ≡ Some class → number < 1024 / class
    → ¬ IsUsed (bay_at kept.bays t).pages (page * 1024 + number * class)
    → IsSwept kept start after t (page * 1024 + (number + 1) * class)
cell-unused kept start after t page class number swept there of below unused =
    let pages = (bay_at kept.bays t).pages in
    let offset = page * 1024 + number * class in
    cell-looked_at kept start after t page class number
    (swept-past kept start after t offset t (offset + 1) swept
    (λ each other left. elim left [
      | inl later ↦ inl later
      | inr (same, from) ↦ inr (same, omega (arith, from))
    ])
    (λ each other here used left. elim left [
      | inl later ↦ inl later
      | inr (same, from) ↦
          let own : IsUsed pages other = subst (λ (u : ℕ). IsUsed (bay_at kept.bays u).pages other) same used in
          inr (same, unused-passed pages offset other unused own from)
    ]))
    there of below

-- behind the last one the next page begins
pub page-looked_at : (kept : Kept) (start : Beginning) (after : Placement) (t page class number : ℕ)
    → IsSwept kept start after t (page * 1024 + number * class) → t < kept.layout.mutators
    → class_at (bay_at kept.bays t).pages page ≡ Some class → number ≡ 1024 / class
    → IsSwept kept start after t ((page + 1) * 1024)
page-looked_at kept start after t page class number swept there of all =
    let pages = (bay_at kept.bays t).pages in
    let offset = page * 1024 + number * class in
    let formed = cells-formed kept start after t offset swept there in
    let whole : number * class ≤ 1024 =
    let cells : 1024 / class * class ≤ 1024 = omega arith in subst (λ (each : ℕ). each * class ≤ 1024) (sym all) cells in
    swept-past kept start after t offset t ((page + 1) * 1024) swept
    (λ each other left. elim left [
      | inl later ↦ inl later
      | inr (same, from) ↦ inr (same, omega (arith, from, whole))
    ])
    (λ each other here used left. elim left [
      | inl later ↦ inl later
      | inr (same, from) ↦
          let own : IsUsed pages other = subst (λ (u : ℕ). IsUsed (bay_at kept.bays u).pages other) same used in
          inr (
            same,
            page-end pages page class other of own formed
                (subst (λ (each : ℕ). page * 1024 + each * class ≤ other) all from),
          )
    ])

-- ---- what is read of a page

-- a page's class was read
pub class-read : (kept : Kept) (start : Beginning) (after : Placement) (t offset at page : ℕ) (read : Bay) (pages : List Page)
    (class : Option ℕ) → IsSwept kept start after t offset → t < kept.layout.mutators → at ≡ t
    → read ≡ slice_index_or kept.bays at read → pages ≡ read.pages → class ≡ class_at pages page
    → class ≡ class_at (bay_at kept.bays t).pages page
class-read kept start after t offset at page read pages class swept there place is same class_is =
    class_is ∙ ap (λ (each : List Page). class_at each page)
    (same ∙ ap (λ (bay : Bay). bay.pages) (swept-read kept start after t offset t at read swept there place is))

-- it was read that no cell is used at an offset
pub unused-read : (kept : Kept) (start : Beginning) (after : Placement) (t offset at : ℕ) (read : Bay) (pages : List Page) (used : Bool)
    → IsSwept kept start after t offset → t < kept.layout.mutators → at ≡ t → read ≡ slice_index_or kept.bays at read
    → pages ≡ read.pages → (used ≡ true) ↔ IsUsed pages offset → used ≡ false → ¬ IsUsed (bay_at kept.bays t).pages offset
unused-read kept start after t offset at read pages used swept there place is same told unused has =
    let own : pages ≡ (bay_at kept.bays t).pages =
    same ∙ ap (λ (bay : Bay). bay.pages) (swept-read kept start after t offset t at read swept there place is) in
    false≢true (sym unused ∙ told.1 (subst (λ (each : List Page). IsUsed each offset) (sym own) has))

-- ---- a mutator

-- behind the last page of a mutator the next one's begin
pub mutator-looked_at : (kept : Kept) (start : Beginning) (after : Placement) (t page : ℕ) → IsSwept kept start after t (page * 1024)
    → page ≡ kept.layout.pages → IsSwept kept start after (t + 1) 0
mutator-looked_at kept start after t page swept all =
    swept-past kept start after t (page * 1024) (t + 1) 0 swept
    (λ each other left. elim left [
      | inl later ↦ inl (omega (arith, later))
      | inr (same, from) ↦ inl (omega (arith, same))
    ])
    (λ each other there used left. elim left [
      | inl later ↦ elim (cases_eq each (t + 1)) [
        | inl same ↦ inr (same, omega arith)
        | inr differs ↦ inl (omega (arith, later, differs))
      ]
      | inr (same, from) ↦
          let bays = swept.sweeping.bays in
          let count : length (bay_at kept.bays each).pages ≡ kept.layout.pages =
          (bays.each each there).page_count ∙ ap (λ (layout : Layout). layout.pages) (bays.layout_is each there) in
          absurd (omega (arith, used-within (bay_at kept.bays each).pages other used, count, all, from))
    ])

-- its count of given pages is reset
pub swept-reset : (kept : Kept) (start : Beginning) (after : Placement) (t offset u : ℕ) (bay : Bay) → IsSwept kept start after t offset
    → u < kept.layout.mutators → bay ≡ record (bay_at kept.bays u) { given = 0 } → IsBay bay
    → IsSwept (record kept { bays = slice_set kept.bays u bay }) start after t offset
swept-reset kept start after t offset u bay swept there bay_is is =
    let below = swept-bay kept start after t offset u swept there in
    let changes : ChangesBay (bay_at kept.bays) (bay_at (slice_set kept.bays u bay)) u (record (bay_at kept.bays u) { given = 0 }) =
    subst (ChangesBay (bay_at kept.bays) (bay_at (slice_set kept.bays u bay)) u) bay_is (bay-written kept.bays u bay below) in
    swept-with kept (record kept { bays = slice_set kept.bays u bay }) start after t offset t offset swept refl refl
    (length-set kept.bays u bay) (sweep-reset swept.sweeping u there changes (subst IsBay bay_is is))

-- so it is of one mutator more
pub given-reset : (bays : List Bay) (t : ℕ) (bay : Bay) → t < length bays → bay.given ≡ 0
    → ((u : ℕ) → u < t → (bay_at bays u).given ≡ 0) → (u : ℕ) → u < t + 1 → (bay_at (slice_set bays t bay) u).given ≡ 0
given-reset bays t bay there given before u below =
    let changes = bay-written bays t bay there in
    elim (cases_eq u t) [
      | inl same ↦ rw same (ap (λ (each : Bay). each.given) changes.here ∙ given)
      | inr differs ↦
          ap (λ (each : Bay). each.given) (changes.elsewhere u differs) ∙ before u (omega (arith, below, differs))
    ]

-- ---- all mutators

-- where the objects are that were kept, once all is kept that is reachable
abbrev pub found-first : (kept : Kept) (start : Beginning) → HasTracedAll kept start → Placement
found-first kept start all =
    found_part start.memory.layout start.placement all.traced.placement all.traced.collecting.marks

-- then the first cell is to be looked at
pub swept-first : (kept : Kept) (start : Beginning) → (all : HasTracedAll kept start)
    → IsSwept kept start (found-first kept start all) 0 0
swept-first kept start all =
    let collecting = all.traced.collecting in
    record {
      full = all.full;
      rest = collecting.rest;
      sound = collecting.sound;
      typed = collecting.typed;
      types = collecting.types;
      words = collecting.words;
      bays = collecting.bays;
      traced = (memory_of kept).bay;
      sweeping = full-traced (traced-full kept start all);
    }

-- and behind the last one the collection is done
pub swept-ends : (kept : Kept) (start : Beginning) (after : Placement) (t offset : ℕ) → IsSwept kept start after t offset
    → t ≡ kept.layout.mutators → HasTraced kept start after
swept-ends kept start after t offset swept all =
    let last : IsSweeping start.memory swept.traced start.placement after start.world (memory_of kept) kept.layout.mutators offset =
    subst (λ (each : ℕ). IsSweeping start.memory swept.traced start.placement after start.world (memory_of kept) each offset) all
    swept.sweeping in
    let collection : IsFullCollection start.memory (memory_of kept) start.placement after start.world = sweep-ends last in
    record {
      rest = swept.rest;
      sound = swept.sound;
      typed = swept.typed;
      types = swept.types;
      layout = swept.sweeping.layout;
      words = swept.words;
      bays = swept.bays;
      collection = subst (λ (kind : RunKind). IsCollection kind start.memory (memory_of kept) start.placement after start.world)
          (sym swept.full) collection;
    }
