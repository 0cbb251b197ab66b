-- The cells are swept one by one after a full collection has kept what is reachable: an object's mark is cleared, or its cell
-- is given back; and when all are swept the collection is done.
use Rattle.std.proofs.Common.{◌≡◌, ◌≢◌, ◌∙◌, ◌⊎◌, ⊎_elim, ℕ, ◌+◌, ◌<◌, ◌≤◌, true, false, List, length, Some, inl, inr, refl, ap, sym, subst, arith}
use Rattle.std.proofs.lemmas.Bool.{both_ways, cases_eq}
use Rattle.std.proofs.lemmas.Option.{same_Some}
use Rattle.gc_bay.specs.Bay.{Bay, IsBay}
use Rattle.gc_gen2.specs.Cells.{GivesCell, IsFreeCell, IsUsed, IsUsedCell, free_pages, without_cell}
use Rattle.gc_gen2.specs.Class.{class_of}
use Rattle.gc_gen2.specs.Page.{Page}
use Rattle.gc_layout.specs.declared.head.Head.{Head}
use Rattle.gc_layout.specs.Head.{head_word}
use Rattle.gc_layout.specs.Places.{Layout, cell_address}
use Rattle.gc_layout.specs.Shape.{slot_address}
use Rattle.gc_model.specs.Graph.{Graph, Object, object_at, object_size}
use Rattle.gc_model.specs.World.{World}
use Rattle.gc_placement.specs.Bays.{AreBays}
use Rattle.gc_placement.specs.Changes.{ChangesBay, IsSameOwners, Stores}
use Rattle.gc_placement.specs.Extents.{AreApart, EachCellHolds, HoldsPlaced, IsInAPage, LiesIn, LiesInCell, LiesInHalf, home_of}
use Rattle.gc_placement.specs.Full.{ArePromotedByFull, IsFullCollection}
use Rattle.gc_placement.specs.Headers.{IsHeader, head_of, unmarked_head}
use Rattle.gc_placement.specs.Memory.{Memory}
use Rattle.gc_placement.specs.Objects.{AllStand, Naming, StandsAt, by_place}
use Rattle.gc_placement.specs.Placement.{Placement}
use Rattle.gc_placement.specs.Rest.{IsAtRest}
use Rattle.gc_placement.specs.Shows.{nowhere}
use Rattle.gc_placement.specs.Sweeping.{IsLeft, IsLeftCell, IsSweeping, IsSweptCell}
use Rattle.gc_placement.proofs.Bays.{are_bays-changed, each-changed}
use Rattle.gc_placement.proofs.CopyWords.{IsHeader-copied}
use Rattle.gc_placement.proofs.Extents.{half-not_in_page}
use Rattle.gc_placement.proofs.Headers.{head_of-head_word}
use Rattle.gc_placement.proofs.Objects.{stands-frame}
use Rattle.gc_placement.proofs.Registers.{have_registers-bay}
use Rattle.gc_placement.proofs.Remembered.{lists-frame, on_a_list-frame}
use Rattle.gc_placement.proofs.SweepCells.{free-counts, free_pages-without, freed-from, one-cell, used-in_own_page}

-- ---- passing cells

-- where no used cell lies between, the sweep goes on from a later place
pub sweep-past : {old : Memory} {traced : ℕ → Bay} {before after : Placement} {world : World} {memory : Memory} {t offset u place : ℕ}
    → IsSweeping old traced before after world memory t offset
    → ((each other : ℕ) → IsLeft u place each other → IsLeft t offset each other)
    → ((each other : ℕ) → each < memory.layout.mutators → IsUsed (memory.bay each).pages other → IsLeft t offset each other
    → IsLeft u place each other)
    → IsSweeping old traced before after world memory u place
sweep-past sweeping before later = record {
  are_types = sweeping.are_types;
  layout = sweeping.layout;
  bays = sweeping.bays;
  mutators = sweeping.mutators;
  standing = sweeping.standing;
  old_in_pages = sweeping.old_in_pages;
  lying = sweeping.lying;
  common = sweeping.common;
  apart = sweeping.apart;
  registers = sweeping.registers;
  covers = sweeping.covers;
  left = λ each other there used left. sweeping.left each other there used (before each other left);
  swept = λ each other there used past. sweeping.swept each other there used (λ left. past (later each other there used left));
  young = sweeping.young;
  lists = sweeping.lists;
  remembered = sweeping.remembered;
  listed = sweeping.listed;
  no_grey = sweeping.no_grey;
  freed = sweeping.freed;
  pages = sweeping.pages;
  traced_pages = sweeping.traced_pages;
  flipped = sweeping.flipped;
  only = sweeping.only;
  stays = sweeping.stays;
  reached = sweeping.reached;
  sums = sweeping.sums;
  promoted = sweeping.promoted;
}

-- a used cell that is left holds an object's header
pub sweep-header : {old : Memory} {traced : ℕ → Bay} {before after : Placement} {world : World} {memory : Memory} {t offset : ℕ}
    → IsSweeping old traced before after world memory t offset → t < memory.layout.mutators → IsUsed (memory.bay t).pages offset
    → (ty : ℕ) × IsHeader (memory.word (cell_address memory.layout t offset)) ty
sweep-header {t = t} {offset = offset} sweeping there used =
    let cell = sweeping.left t offset there used (inr (refl, omega arith)) in
    (cell.ty, cell.header)

-- ---- what is left

-- what is left behind a cell was left from it on
left-before : (t offset u other : ℕ) → IsLeft t (offset + 1) u other → IsLeft t offset u other
left-before t offset u other left =
    ⊎_elim
    (λ (later : t < u). inl later)
    (λ (own : (u ≡ t) × (offset + 1 ≤ other)). inr (own.0, omega (arith, own.1)))
    left

-- the cell itself isn't
left-other : (t offset u other : ℕ) → IsLeft t (offset + 1) u other → ¬ ((u ≡ t) × (other ≡ offset))
left-other t offset u other left here =
    ⊎_elim
    (λ (later : t < u). omega (arith, later, here.0))
    (λ (own : (u ≡ t) × (offset + 1 ≤ other)). omega (arith, own.1, here.1))
    left

-- what isn't left behind a cell wasn't left from it on, or it is the cell
past-or_here : (t offset u other : ℕ) → ¬ IsLeft t (offset + 1) u other
    → (¬ IsLeft t offset u other) ⊎ ((u ≡ t) × (other ≡ offset))
past-or_here t offset u other past = elim (cases_eq other offset) [
  | inl same ↦ elim (cases_eq u t) [
    | inl own ↦ inr (own, same)
    | inr elsewhere ↦ inl (λ left. elim left [
      | inl later ↦ past (inl later)
      | inr (own, from) ↦ elsewhere own
    ])
  ]
  | inr differs ↦ inl (λ left. elim left [
    | inl later ↦ past (inl later)
    | inr (own, from) ↦ past (inr (own, omega (arith, from, differs)))
  ])
]

-- a cell at another place has another address
other-address : (layout : Layout) (bay : ℕ → Bay) (t offset u other : ℕ) → AreBays layout bay → t < layout.mutators
    → u < layout.mutators → IsUsed (bay t).pages offset → IsUsed (bay u).pages other → ¬ ((u ≡ t) × (other ≡ offset))
    → cell_address layout u other ≢ cell_address layout t offset
other-address layout bay t offset u other are there there_too used used_too apart same =
    apart (one-cell layout bay u t other offset are there_too there used_too used same)

-- ---- an object's mark is cleared

-- the header is read back without the mark
stored-unmarked : (word other : ℕ → ℕ) (address : ℕ) → Stores word other address (head_word (unmarked_head (word address)))
    → head_of (other address) ≡ unmarked_head (word address)
stored-unmarked word other address stores =
    ap head_of stores.here ∙ head_of-head_word (unmarked_head (word address)) (omega arith)

-- what the mark isn't stays of each header
part-unmarked : {Part : Type 0} (part : Head → Part) (word other : ℕ → ℕ) (address : ℕ)
    → Stores word other address (head_word (unmarked_head (word address)))
    → part (unmarked_head (word address)) ≡ part (head_of (word address)) → (a : ℕ) → part (head_of (other a)) ≡ part (head_of (word a))
part-unmarked part word other address stores same a =
    elim (cases_eq a address) as (λ _. part (head_of (other a)) ≡ part (head_of (word a))) [
      | inl here ↦ rw here (ap part (stored-unmarked word other address stores) ∙ same)
      | inr differs ↦ ap (λ (w : ℕ). part (head_of w)) (stores.elsewhere a differs)
    ]

-- an object stands where its mark is cleared
stands-unmarked : (word other : ℕ → ℕ) (address : ℕ) (naming : Naming) (number : ℕ) (object : Object)
    → StandsAt word address naming number object → Stores word other address (head_word (unmarked_head (word address)))
    → StandsAt other address naming number object
stands-unmarked word other address naming number object stands stores = record {
  header = rw stores.here (IsHeader-copied (word address) object.ty (unmarked_head (word address)) stands.header refl);
  forwarding = stores.elsewhere (address + 1) (λ meet. omega (arith, meet)) ∙ stands.forwarding;
  slots = λ place below.
      stores.elsewhere (slot_address address place) (λ meet. omega (arith, meet)) ∙ stands.slots place below;
  numbers = λ place below.
      stores.elsewhere (address + 2 + length object.slots + place) (λ meet. omega (arith, meet)) ∙ stands.numbers place below;
}

-- and so do all
all_stand-unmarked : (word other : ℕ → ℕ) (placement : Placement) (naming : Naming) (graph : Graph) (number address : ℕ)
    → AllStand word placement naming graph → AreApart placement graph → placement number ≡ Some address
    → Stores word other address (head_word (unmarked_head (word address))) → AllStand other placement naming graph
all_stand-unmarked word other placement naming graph number address standing apart placed stores each a at =
    elim (cases_eq a address) as (λ _. StandsAt other a naming each (object_at graph each)) [
      | inl same ↦
          rw same
          (stands-unmarked word other address naming each (object_at graph each) (standing each address (at ∙ ap Some same)) stores)
      | inr differs ↦
          stands-frame word other a naming each (object_at graph each) (standing each a at)
          (λ w from to. stores.elsewhere w (λ meet.
          let own : each ≡ number = apart w each number
          (record { address = a; at = at; from = from; to = to })
          (record { address = address; at = placed; from = omega (arith, meet); to = omega (arith, meet) }) in
          differs (same_Some a address (sym at ∙ ap placement own ∙ placed))))
    ]

-- a marked object's mark is cleared
pub sweep-marked : {old : Memory} {traced : ℕ → Bay} {before after : Placement} {world : World} {memory : Memory} {t offset : ℕ}
    {word : ℕ → ℕ} → IsSweeping old traced before after world memory t offset → t < memory.layout.mutators
    → IsUsed (memory.bay t).pages offset → (head_of (memory.word (cell_address memory.layout t offset))).marked ≡ true
    → Stores memory.word word (cell_address memory.layout t offset)
    (head_word (unmarked_head (memory.word (cell_address memory.layout t offset))))
    → IsSweeping old traced before after world (record memory { word = word }) t (offset + 1)
sweep-marked {after = after} {world = world} {memory = memory} {t = t} {offset = offset} {word = word} sweeping there used marked stores =
    let layout = memory.layout in
    let address = cell_address layout t offset in
    let here = sweeping.left t offset there used (inr (refl, omega arith)) in
    let holds = here.kept.0 marked in
    let page = used-in_own_page layout memory.bay t offset sweeping.bays there used in
    let read : head_of (word address) ≡ unmarked_head (memory.word address) = stored-unmarked memory.word word address stores in
    let old_is = part-unmarked (λ (head : Head). head.old) memory.word word address stores refl in
    let seen_is = part-unmarked (λ (head : Head). head.seen) memory.word word address stores refl in
    let remembered_is = part-unmarked (λ (head : Head). head.remembered) memory.word word address stores refl in
    let stays : (u other : ℕ) → u < layout.mutators → IsUsed (memory.bay u).pages other → ¬ ((u ≡ t) × (other ≡ offset))
    → word (cell_address layout u other) ≡ memory.word (cell_address layout u other) =
    λ u other there_too used_too apart.
    stores.elsewhere (cell_address layout u other)
    (other-address layout memory.bay t offset u other sweeping.bays there there_too used used_too apart) in
    record {
      are_types = sweeping.are_types;
      layout = sweeping.layout;
      bays = sweeping.bays;
      mutators = sweeping.mutators;
      standing = all_stand-unmarked memory.word word after (by_place after) world.graph holds.number address sweeping.standing
          sweeping.apart holds.at stores;
      old_in_pages = λ number a at. rw (old_is a) (sweeping.old_in_pages number a at);
      lying = sweeping.lying;
      common = sweeping.common;
      apart = sweeping.apart;
      registers = sweeping.registers;
      covers = sweeping.covers;
      left = λ u other there_too used_too left.
          let cell = sweeping.left u other there_too used_too (left-before t offset u other left) in
          let same = stays u other there_too used_too (left-other t offset u other left) in
          record {
            ty = cell.ty;
            header = rw same cell.header;
            kept = rw same cell.kept;
            was = rw same cell.was;
          };
      swept = λ u other there_too used_too past.
          elim (past-or_here t offset u other past) [
            | inl before ↦
                let cell = sweeping.swept u other there_too used_too before in
                let same = stays u other there_too used_too (λ at. before (inr (at.0, omega (arith, at.1)))) in
                record { holds = cell.holds; unmarked = rw same cell.unmarked }
            | inr at ↦
                rw (at.0, at.1) (record { holds = holds; unmarked = ap (λ (head : Head). head.marked) read })
          ];
      young = λ number a at outside.
          let same : word a ≡ memory.word a = stores.elsewhere a (λ meet. outside (subst (IsInAPage layout) (sym meet) page)) in
          rw same (sweeping.young number a at outside);
      lists = sweeping.lists;
      remembered = λ number a at. rw (remembered_is a) (sweeping.remembered number a at);
      listed = sweeping.listed;
      no_grey = sweeping.no_grey;
      freed = sweeping.freed;
      pages = sweeping.pages;
      traced_pages = sweeping.traced_pages;
      flipped = sweeping.flipped;
      only = sweeping.only;
      stays = sweeping.stays;
      reached = sweeping.reached;
      sums = sweeping.sums;
      promoted = record {
        seen = sweeping.promoted.seen;
        no_cell = sweeping.promoted.no_cell;
        survived = λ number a at outside. seen_is a ∙ sweeping.promoted.survived number a at outside;
      };
    }

-- ---- a mutator's bay changes

-- a bay is as before but for its cells and its count of given pages
record KeepsAllButCells (old new : Bay) : Type 0 where
  owner : IsSameOwners old new
  registers : new.registers ≡ old.registers
  half : new.half ≡ old.half
  used : new.used ≡ old.used
  remembered : new.remembered ≡ old.remembered
  grey : new.grey ≡ old.grey

-- a part of the bays that the change leaves as it was
part-kept : {Part : Type 0} (part : Bay → Part) (old new : ℕ → Bay) (t : ℕ) (bay : Bay) → ChangesBay old new t bay
    → part bay ≡ part (old t) → (u : ℕ) → part (new u) ≡ part (old u)
part-kept part old new t bay changes same =
    each-changed (λ u each. part each ≡ part (old u)) old new t bay changes same (λ u differs. refl)

-- where one bay is, and its cells are told of, the sweep goes on
sweep-bay : {old : Memory} {traced : ℕ → Bay} {before after : Placement} {world : World} {memory : Memory} {t offset place : ℕ}
    {bay : ℕ → Bay} (u : ℕ) (now : Bay) → IsSweeping old traced before after world memory t offset → ChangesBay memory.bay bay u now
    → KeepsAllButCells (memory.bay u) now
    → ((number address : ℕ) → after number ≡ Some address
    → LiesIn (bay (home_of (object_at world.graph number).maker)) address (object_size (object_at world.graph number)))
    → ((v other : ℕ) → v < memory.layout.mutators → IsUsed (bay v).pages other → IsLeft t place v other
    → IsLeftCell old (record memory { bay = bay }) after v other)
    → ((v other : ℕ) → v < memory.layout.mutators → IsUsed (bay v).pages other → ¬ IsLeft t place v other
    → IsSweptCell (record memory { bay = bay }) after v other)
    → ((v class other : ℕ) → v < memory.layout.mutators → IsFreeCell (bay v).pages class other
    → IsFreeCell (traced v).pages class other ⊎ IsUsedCell (old.bay v).pages class other)
    → free_pages now.pages ≡ free_pages (memory.bay u).pages
    → IsSweeping old traced before after world (record memory { bay = bay }) t place
sweep-bay {old = old} {after = after} {world = world} {memory = memory} {bay = bay} u now sweeping changes keeps lying left swept freed
    pages =
    let mutators = memory.layout.mutators in
    let half = part-kept (λ (own : Bay). own.half) memory.bay bay u now changes keeps.half in
    let used = part-kept (λ (own : Bay). own.used) memory.bay bay u now changes keeps.used in
    let grey = part-kept (λ (own : Bay). own.grey) memory.bay bay u now changes keeps.grey in
    let remembered = part-kept (λ (own : Bay). own.remembered) memory.bay bay u now changes keeps.remembered in
    let count = part-kept (λ (own : Bay). free_pages own.pages) memory.bay bay u now changes pages in
    record {
      are_types = sweeping.are_types;
      layout = sweeping.layout;
      bays = are_bays-changed memory.layout memory.bay bay u now sweeping.bays changes (λ _. keeps.owner);
      mutators = sweeping.mutators;
      standing = sweeping.standing;
      old_in_pages = sweeping.old_in_pages;
      lying = record { there = sweeping.lying.there; home = sweeping.lying.home; lying = lying };
      common = sweeping.common;
      apart = sweeping.apart;
      registers = have_registers-bay mutators memory.bay bay after world u now sweeping.registers changes keeps.registers;
      covers = sweeping.covers;
      left = left;
      swept = swept;
      young = sweeping.young;
      lists = lists-frame memory.layout mutators memory.bay bay after sweeping.lists (λ v _. remembered v);
      remembered = λ number address at.
          let bit = sweeping.remembered number address at in (
            λ has. on_a_list-frame mutators bay memory.bay address (λ v _. sym (remembered v)) (bit.0 has),
            λ on. bit.1 (on_a_list-frame mutators memory.bay bay address (λ v _. remembered v) on),
          );
      listed = λ number address at page.
          on_a_list-frame mutators bay memory.bay address (λ v _. sym (remembered v)) (sweeping.listed number address at page);
      no_grey = λ v there. grey v ∙ sweeping.no_grey v there;
      freed = freed;
      pages = λ v there. count v ∙ sweeping.pages v there;
      traced_pages = sweeping.traced_pages;
      flipped = λ v there. half v ∙ sweeping.flipped v there;
      only = sweeping.only;
      stays = sweeping.stays;
      reached = sweeping.reached;
      sums = λ v there. rw (used v) (sweeping.sums v there);
      promoted = sweeping.promoted;
    }

-- a mutator's count of given pages is reset
pub sweep-reset : {old : Memory} {traced : ℕ → Bay} {before after : Placement} {world : World} {memory : Memory} {t offset : ℕ}
    {bay : ℕ → Bay} → IsSweeping old traced before after world memory t offset → (u : ℕ) → u < memory.layout.mutators
    → ChangesBay memory.bay bay u (record (memory.bay u) { given = 0 }) → IsBay (record (memory.bay u) { given = 0 })
    → IsSweeping old traced before after world (record memory { bay = bay }) t offset
sweep-reset {memory = memory} {bay = bay} sweeping u there changes is =
    let now : Bay = record (memory.bay u) { given = 0 } in
    let pages = part-kept (λ (own : Bay). own.pages) memory.bay bay u now changes refl in
    sweep-bay u now sweeping changes
    (record {
      owner = record { bay = is; layout = refl; mutator = refl };
      registers = refl;
      half = refl;
      used = refl;
      remembered = refl;
      grey = refl;
    })
    (λ number address at.
    each-changed
    (λ v own. (a size : ℕ) → LiesIn (memory.bay v) a size → LiesIn own a size)
    memory.bay bay u now changes (λ a size lies. lies) (λ v differs a size lies. lies)
    _ address _ (sweeping.lying.lying number address at))
    (λ v other below used left.
    let cell = sweeping.left v other below (rw (pages v) at used) left in
    record {
      ty = cell.ty;
      header = cell.header;
      kept = cell.kept;
      was = λ class unmarked used_now. cell.was class unmarked (rw (pages v) at used_now);
    })
    (λ v other below used past.
    let cell = sweeping.swept v other below (rw (pages v) at used) past in
    record { holds = cell.holds; unmarked = cell.unmarked })
    (λ v class other below free. sweeping.freed v class other below (rw (pages v) at free))
    refl

-- ---- a cell is given back

-- an unmarked one's cell is given back
pub sweep-freed : {old : Memory} {traced : ℕ → Bay} {before after : Placement} {world : World} {memory : Memory} {t offset : ℕ}
    {bay : ℕ → Bay} {pages : List Page} → IsSweeping old traced before after world memory t offset → t < memory.layout.mutators
    → IsUsed (memory.bay t).pages offset → (head_of (memory.word (cell_address memory.layout t offset))).marked ≡ false
    → ChangesBay memory.bay bay t (record (memory.bay t) { pages = pages }) → IsBay (record (memory.bay t) { pages = pages })
    → pages ≡ without_cell (memory.bay t).pages offset → GivesCell (memory.bay t).pages pages offset
    → IsSweeping old traced before after world (record memory { bay = bay }) t (offset + 1)
sweep-freed {old = old} {traced = traced} {after = after} {world = world} {memory = memory} {t = t} {offset = offset} {bay = bay}
    {pages = pages} sweeping there used unmarked changes is without gives =
    let now : Bay = record (memory.bay t) { pages = pages } in
    let here = sweeping.left t offset there used (inr (refl, omega arith)) in
    let unplaced : ¬ HoldsPlaced after (cell_address memory.layout t offset) =
    λ holds. both_ways (head_of (memory.word (cell_address memory.layout t offset))).marked unmarked (here.kept.1 holds) in
    let was : (v class other : ℕ) → IsUsedCell (bay v).pages class other → IsUsedCell (memory.bay v).pages class other =
    each-changed
    (λ v own. (class other : ℕ) → IsUsedCell own.pages class other → IsUsedCell (memory.bay v).pages class other)
    memory.bay bay t now changes
    (λ class other used_now. elim (cases_eq other offset) [
      | inl same ↦ absurd (gives.unused (class, subst (IsUsedCell pages class) same used_now))
      | inr differs ↦ (gives.others class other differs).0 used_now
    ])
    (λ v differs class other used_now. used_now) in
    let apart : (v other : ℕ) → IsUsed (bay v).pages other → ¬ ((v ≡ t) × (other ≡ offset)) =
    λ v other used_now at.
    let own : IsUsed (bay t).pages offset = rw (at.0, at.1) at used_now in
    gives.unused (subst (λ (each : Bay). IsUsed each.pages offset) changes.here own) in
    sweep-bay t now sweeping changes
    (record {
      owner = record { bay = is; layout = refl; mutator = refl };
      registers = refl;
      half = refl;
      used = refl;
      remembered = refl;
      grey = refl;
    })
    (λ number address at.
    let object = object_at world.graph number in
    let size = object_size object in
    each-changed
    (λ v own. LiesIn (memory.bay v) address size → LiesIn own address size)
    memory.bay bay t now changes
    (⊎_elim
    (λ (half : LiesInHalf (memory.bay t).layout (memory.bay t).mutator (memory.bay t).half (memory.bay t).used address size).
    inl half)
    (λ (cell : LiesInCell (memory.bay t).layout (memory.bay t).mutator (memory.bay t).pages address size).
    elim (cases_eq cell.offset offset) [
      | inl same ↦
          let place : cell_address memory.layout t offset ≡ address =
          rw (sweeping.bays.layout_is t there, sweeping.bays.mutator_is t there, same) at cell.at in
          absurd (unplaced (record { number = number; at = at ∙ ap Some (sym place) }))
      | inr differs ↦ inr (record {
        offset = cell.offset;
        at = cell.at;
        used = (gives.others (class_of size) cell.offset differs).1 cell.used;
      })
    ]))
    (λ v differs lies. lies)
    (home_of object.maker) (sweeping.lying.lying number address at))
    (λ v other below used_now left.
    let cell = sweeping.left v other below (used_now.0, was v used_now.0 other used_now.1) (left-before t offset v other left) in
    record {
      ty = cell.ty;
      header = cell.header;
      kept = cell.kept;
      was = λ class off cell_now. cell.was class off (was v class other cell_now);
    })
    (λ v other below used_now past.
    elim (past-or_here t offset v other past) [
      | inl before ↦
          let cell = sweeping.swept v other below (used_now.0, was v used_now.0 other used_now.1) before in
          record { holds = cell.holds; unmarked = cell.unmarked }
      | inr at ↦ absurd (apart v other used_now at)
    ])
    (λ v class other.
    each-changed
    (λ m own. m < memory.layout.mutators → IsFreeCell own.pages class other
    → IsFreeCell (traced m).pages class other ⊎ IsUsedCell (old.bay m).pages class other)
    memory.bay bay t now changes
    (λ below free. elim (freed-from (memory.bay t).pages pages offset class other gives free) [
      | inl before ↦ sweeping.freed t class other below before
      | inr (same, cell) ↦
          inr (rw same (here.was class unmarked (subst (IsUsedCell (memory.bay t).pages class) same cell)))
    ])
    (λ m differs below free. sweeping.freed m class other below free) v)
    (ap free_pages without ∙ free_pages-without (memory.bay t).pages offset used)

-- ---- all is swept

-- nothing of the mutators is left behind the last one
none-left : (mutators offset u other : ℕ) → u < mutators → ¬ IsLeft mutators offset u other
none-left mutators offset u other there left =
    ⊎_elim
    (λ (later : mutators < u). omega (arith, later, there))
    (λ (own : (u ≡ mutators) × (offset ≤ other)). omega (arith, own.0, there))
    left

-- each used cell holds a placed object
cells-swept : {old : Memory} {traced : ℕ → Bay} {before after : Placement} {world : World} {memory : Memory} {offset : ℕ}
    → IsSweeping old traced before after world memory memory.layout.mutators offset
    → EachCellHolds memory.layout.mutators memory.bay after nowhere
cells-swept {memory = memory} {offset = offset} sweeping u other there used =
    let cell = sweeping.swept u other there used (none-left memory.layout.mutators offset u other there) in
    rw (sweeping.bays.layout_is u there, sweeping.bays.mutator_is u there) (inl cell.holds)

-- no placed object is marked any more
none-marked : {old : Memory} {traced : ℕ → Bay} {before after : Placement} {world : World} {memory : Memory} {offset : ℕ}
    → IsSweeping old traced before after world memory memory.layout.mutators offset
    → (number address : ℕ) → after number ≡ Some address → (head_of (memory.word address)).marked ≡ false
none-marked {world = world} {memory = memory} {offset = offset} sweeping number address at =
    let layout = memory.layout in
    let object = object_at world.graph number in
    let size = object_size object in
    let u = home_of object.maker in
    let there : u < layout.mutators = sweeping.lying.home number address at in
    let own = memory.bay u in
    let is : IsBay own = sweeping.bays.each u there in
    let own_layout : own.layout ≡ layout = sweeping.bays.layout_is u there in
    let own_mutator : own.mutator ≡ u = sweeping.bays.mutator_is u there in
    ⊎_elim
    (λ (half : LiesInHalf own.layout own.mutator own.half own.used address size).
    sweeping.young number address at (λ page.
    half-not_in_page own.layout own.mutator own.half own.used address size is.half is.used (omega arith) half
    (subst (λ (each : Layout). IsInAPage each address) (sym own_layout) page)))
    (λ (cell : LiesInCell own.layout own.mutator own.pages address size).
    let place : cell_address layout u cell.offset ≡ address = rw (own_layout, own_mutator) at cell.at in
    let swept =
    sweeping.swept u cell.offset there (class_of size, cell.used) (none-left layout.mutators offset u cell.offset there) in
    rw place at swept.unmarked)
    (sweeping.lying.lying number address at)

-- no cell is free that wasn't used before where none was free when all was kept
promoted-swept : {old : Memory} {traced : ℕ → Bay} {before after : Placement} {world : World} {memory : Memory} {t offset : ℕ}
    → IsSweeping old traced before after world memory t offset
    → ArePromotedByFull memory.layout old.word memory.word old.bay memory.bay before after world.graph
promoted-swept {traced = traced} {world = world} {memory = memory} sweeping = record {
  seen = sweeping.promoted.seen;
  no_cell = λ number address copy at young copy_at copy_young had.
      let object = object_at world.graph number in
      let u = home_of object.maker in
      let there : u < memory.layout.mutators = sweeping.lying.home number copy copy_at in
      let none = sweeping.promoted.no_cell number address copy at young copy_at copy_young had in
      record {
        cells = λ other free. elim (sweeping.freed u (class_of (object_size object)) other there free) [
          | inl before_free ↦
              let counted =
              free-counts (traced u).pages (class_of (object_size object)) other (sweeping.traced_pages u there) before_free in
              absurd (omega (arith, counted, none.cells))
          | inr was ↦ was
        ];
        pages = sweeping.pages u there ∙ none.pages;
      };
  survived = sweeping.promoted.survived;
}

-- the memory is at rest
rest-swept : {old : Memory} {traced : ℕ → Bay} {before after : Placement} {world : World} {memory : Memory} {offset : ℕ}
    → IsSweeping old traced before after world memory memory.layout.mutators offset → IsAtRest memory after world
rest-swept sweeping = record {
  shown = record {
    are_types = sweeping.are_types;
    bays = sweeping.bays;
    mutators = sweeping.mutators;
    standing = sweeping.standing;
    old = sweeping.old_in_pages;
    lying = sweeping.lying;
    common = sweeping.common;
    apart = sweeping.apart;
    cells = cells-swept sweeping;
    registers = sweeping.registers;
    covers = sweeping.covers;
  };
  remembered = record {
    lists = sweeping.lists;
    bits = record { remembered = sweeping.remembered; marked = none-marked sweeping };
    young = λ number place names settled.
        (sweeping.remembered number names.address names.at).1 (sweeping.listed number names.address names.at names.old);
  };
  no_grey = sweeping.no_grey;
}

-- where all is swept, the collection is done
pub sweep-ends : {old : Memory} {traced : ℕ → Bay} {before after : Placement} {world : World} {memory : Memory} {offset : ℕ}
    → IsSweeping old traced before after world memory memory.layout.mutators offset → IsFullCollection old memory before after world
sweep-ends sweeping =
    let flipped = rw sweeping.layout at sweeping.flipped in
    let stays = rw sweeping.layout at sweeping.stays in
    let sums = rw sweeping.layout at sweeping.sums in
    let promoted = rw sweeping.layout at (promoted-swept sweeping) in
    record {
      rest = rest-swept sweeping;
      flipped = flipped;
      only = sweeping.only;
      stays = stays;
      reached = sweeping.reached;
      sums = sums;
      promoted = promoted;
    }
