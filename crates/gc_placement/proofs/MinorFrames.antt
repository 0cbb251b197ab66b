-- A minor collection under way: what a change of the registers and the grey lists of bays leaves of it.
use Rattle.std.proofs.Common.{◌≡◌, ◌∙◌, ℕ, ◌<◌, Bool, List, refl, ap}
use Rattle.gc_bay.specs.Bay.{Bay}
use Rattle.gc_gen2.specs.Cells.{IsUsed, free_cells, free_pages}
use Rattle.gc_gen2.specs.Class.{class_of}
use Rattle.gc_gen2.specs.Page.{Page}
use Rattle.gc_layout.specs.Places.{Layout}
use Rattle.gc_model.specs.Graph.{Graph, object_at, object_size}
use Rattle.gc_model.specs.World.{World}
use Rattle.gc_model.specs.declared.entry.RunKind.{RunKind}
use Rattle.gc_placement.specs.Bays.{AreBays}
use Rattle.gc_placement.specs.Changes.{ChangesBay, HasSameExtents}
use Rattle.gc_placement.specs.Extents.{AllLie, EachCellHolds, home_of}
use Rattle.gc_placement.specs.Flipped.{AreFlipped, CellsStay, HoldCopies}
use Rattle.gc_placement.specs.Holders.{AreGrey, CoversDone, Done, GreyOrWaiting, HaveMovingRegisters}
use Rattle.gc_placement.specs.Memory.{Memory}
use Rattle.gc_placement.specs.UnderWay.{GreyWereYoungIn, IsCollectionUnderWay, all_begun}
use Rattle.gc_placement.specs.Placement.{Placement}
use Rattle.gc_placement.specs.Promotion.{ArePromoted}
use Rattle.gc_placement.specs.Shows.{nowhere}
use Rattle.gc_placement.proofs.Bays.{each-changed}
use Rattle.gc_placement.proofs.Extents.{lies-same}
use Rattle.gc_placement.proofs.ByKind.{bits_in-frame, lists_grow_in-kept}
use Rattle.gc_placement.proofs.Remembered.{lists-frame}

-- a bay's extents and its remembered list are as before
pub record KeepsPlaces (old new : Bay) : Type 0 where
  pub extents : HasSameExtents old new
  pub remembered : new.remembered ≡ old.remembered

-- so are those of each mutator's bay
abbrev pub AllKeepPlaces : ℕ → (ℕ → Bay) → (ℕ → Bay) → Type 0
AllKeepPlaces mutators old new = (t : ℕ) → t < mutators → KeepsPlaces (old t) (new t)

-- where a mutator's bay changes and they are as before, they are in all
pub all_keep-changed : (layout : Layout) (old new : ℕ → Bay) (t : ℕ) (bay : Bay) → AreBays layout old → ChangesBay old new t bay
    → (t < layout.mutators → KeepsPlaces (old t) bay) → AllKeepPlaces layout.mutators old new
all_keep-changed layout old new t bay are changes keeps =
    each-changed (λ u each. u < layout.mutators → KeepsPlaces (old u) each) old new t bay changes keeps
    (λ u differs there. record {
      extents = record {
        owner = record { bay = are.each u there; layout = refl; mutator = refl };
        half = refl;
        used = refl;
        pages = refl;
      };
      remembered = refl;
    })

-- the bays are bays
pub are_bays-kept : (layout : Layout) (old new : ℕ → Bay) → AllKeepPlaces layout.mutators old new → AreBays layout old
    → AreBays layout new
are_bays-kept layout old new keeps are = record {
  limits = are.limits;
  each = λ t there. (keeps t there).extents.owner.bay;
  layout_is = λ t there. (keeps t there).extents.owner.layout ∙ are.layout_is t there;
  mutator_is = λ t there. (keeps t there).extents.owner.mutator ∙ are.mutator_is t there;
}

-- the halves are flipped as before
pub flipped-kept : (mutators : ℕ) (begun : ℕ → Bool) (first old new : ℕ → Bay) → AllKeepPlaces mutators old new
    → AreFlipped mutators begun first old → AreFlipped mutators begun first new
flipped-kept mutators begun first old new keeps flipped t there = (keeps t there).extents.half ∙ flipped t there

-- used cells stayed used
pub cells_stay-kept : (mutators : ℕ) (first old new : ℕ → Bay) → AllKeepPlaces mutators old new → CellsStay mutators first old
    → CellsStay mutators first new
cells_stay-kept mutators first old new keeps stay t class offset there used =
    rw ((keeps t there).extents.pages) (stay t class offset there used)

-- each placed object lies where it lay
pub all_lie-kept : (mutators : ℕ) (old new : ℕ → Bay) (placement : Placement) (graph : Graph) → AllKeepPlaces mutators old new
    → AllLie mutators old placement graph → AllLie mutators new placement graph
all_lie-kept mutators old new placement graph keeps lie = record {
  there = lie.there;
  home = lie.home;
  lying = λ number address at.
      let object = object_at graph number in
      let t = home_of object.maker in
      lies-same (old t) (new t) address (object_size object) (keeps t (lie.home number address at)).extents
      (lie.lying number address at);
}

-- each used cell holds what it held
pub cells-kept : (mutators : ℕ) (old new : ℕ → Bay) (placement : Placement) (filling : ℕ → Bool) → AllKeepPlaces mutators old new
    → EachCellHolds mutators old placement filling → EachCellHolds mutators new placement filling
cells-kept mutators old new placement filling keeps hold t offset there used =
    let same = (keeps t there).extents in
    let was : IsUsed (old t).pages offset = rw same.pages at used in
    rw (same.owner.layout, same.owner.mutator) (hold t offset there was)

-- the halves hold the copies that they held
pub copies-kept : (layout : Layout) (mutators : ℕ) (begun : ℕ → Bool) (old new : ℕ → Bay) (after : Placement) (graph : Graph)
    → AllKeepPlaces mutators old new → HoldCopies layout mutators begun old after graph → HoldCopies layout mutators begun new after graph
copies-kept layout mutators begun old new after graph keeps hold t there is = (keeps t there).extents.used ∙ hold t there is

-- those are promoted that were, and where no cell was free none is
pub promoted-kept : (layout : Layout) (mutators : ℕ) (old_word word : ℕ → ℕ) (old new : ℕ → Bay) (before after : Placement)
    (graph : Graph) → AllKeepPlaces mutators old new → AllLie mutators old after graph
    → ArePromoted layout old_word word old before after graph → ArePromoted layout old_word word new before after graph
promoted-kept layout mutators old_word word old new before after graph keeps lie are = record {
  seen = are.seen;
  no_cell = λ number address copy was young at still seen.
      let none = are.no_cell number address copy was young at still seen in
      let pages = (keeps (home_of (object_at graph number).maker) (lie.home number copy at)).extents.pages in
      record {
        cells = ap (λ (each : List Page). free_cells each (class_of (object_size (object_at graph number)))) pages ∙ none.cells;
        pages = ap free_pages pages ∙ none.pages;
      };
  survived = are.survived;
}

-- where bays change in their registers and grey lists alone, all of a minor collection under way stays but for what is said
-- of these
pub under_way-kept : {kind : RunKind} (old : Memory) (before : Placement) (world : World) (word : ℕ → ℕ) (bay new : ℕ → Bay)
    (after : Placement)
    (done : Done) (registers : ℕ → ℕ → Bool) (waiting other : ℕ → ℕ → Type 0)
    → IsCollectionUnderWay kind old before world word bay after done waiting → AllKeepPlaces old.layout.mutators bay new
    → HaveMovingRegisters old.layout.mutators new before after registers world
    → CoversDone after (record done { registers = registers }) world → AreGrey old.layout.mutators new after world.graph
    → GreyWereYoungIn kind old.layout new before after
    → GreyOrWaiting old.layout.mutators new after done.slots world.graph other
    → IsCollectionUnderWay kind old before world word new after (record done { registers = registers }) other
under_way-kept {kind} old before world word bay new after done registers waiting other way keeps held covers grey were_young
    grey_or_waiting =
    let mutators = old.layout.mutators in
    record {
      bays = are_bays-kept old.layout bay new keeps way.bays;
      standing = way.standing;
      headers = way.headers;
      old_in_pages = way.old_in_pages;
      keeps = way.keeps;
      reached = way.reached;
      flipped = flipped-kept mutators all_begun old.bay bay new keeps way.flipped;
      cells_stay = cells_stay-kept mutators old.bay bay new keeps way.cells_stay;
      lying = all_lie-kept mutators bay new after world.graph keeps way.lying;
      apart = way.apart;
      cells = cells-kept mutators bay new after nowhere keeps way.cells;
      copies = copies-kept old.layout mutators all_begun bay new after world.graph keeps way.copies;
      registers = held;
      covers = covers;
      lists = lists-frame old.layout mutators bay new after way.lists (λ t there. (keeps t there).remembered);
      lists_grow = lists_grow_in-kept kind mutators old.bay bay new (λ t there. (keeps t there).remembered) way.lists_grow;
      bits = bits_in-frame kind word word old.layout bay new after way.bits (λ number address at. refl)
          (λ t there. (keeps t there).remembered);
      grey = grey;
      grey_were_young = were_young;
      grey_or_waiting = grey_or_waiting;
      only_kept = way.only_kept;
      promoted = promoted-kept old.layout mutators old.word word bay new before after world.graph keeps way.lying way.promoted;
      promoted_remembered = way.promoted_remembered;
    }
