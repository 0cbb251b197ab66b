-- Where the extents of placed objects lie, and that they are apart.
use Rattle.std.specs.Prelude.{◌≡◌, ◌⊎◌, ◌↔◌, ℕ, ◌+◌, ◌<◌, ◌≤◌, List, length, Bool, true, ◌==◌, Option, None, Some}
use Rattle.gc_bay.specs.Bay.{Bay}
use Rattle.gc_gen2.specs.Cells.{IsUsed, IsUsedCell}
use Rattle.gc_gen2.specs.Class.{class_of}
use Rattle.gc_gen2.specs.Page.{Page}
use Rattle.gc_layout.specs.Places.{Layout, IsInPages, address_of, cell_address}
use Rattle.gc_layout.specs.declared.places.Part.TheVariants.{Half}
use Rattle.gc_model.specs.Graph.{Graph, Object, object_at, object_size}
use Rattle.gc_placement.specs.Headers.{head_of}
use Rattle.gc_placement.specs.Placement.{Placement, IsWordOf}

-- whose region an object lies in: its maker's, and what nobody made in that of mutator 0
abbrev pub home_of : Option ℕ → ℕ
home_of None = 0
home_of (Some maker) = maker

-- whether an object lies in the region of a mutator
abbrev pub is_home : ℕ → Object → Bool
is_home t object = home_of object.maker == t

-- so many words from an address on lie in the first used words of a half
pub record LiesInHalf (layout : Layout) (m half used address size : ℕ) : Type 0 where
  pub from : address_of layout m (Half half 0) ≤ address
  pub to : address + size ≤ address_of layout m (Half half used)

-- the address is that of a used cell of the class of a size
pub record LiesInCell (layout : Layout) (m : ℕ) (pages : List Page) (address size : ℕ) : Type 0 where
  pub offset : ℕ
  pub at : cell_address layout m offset ≡ address
  pub used : IsUsedCell pages (class_of size) offset

-- so many words from an address on lie in the used part of the current half of a bay, or in a used cell of their class
abbrev pub LiesIn : Bay → ℕ → ℕ → Type 0
LiesIn bay address size =
    LiesInHalf bay.layout bay.mutator bay.half bay.used address size ⊎ LiesInCell bay.layout bay.mutator bay.pages address size

-- each placed object is one of the graph, and lies in the bay of its maker
pub record AllLie (mutators : ℕ) (bay : ℕ → Bay) (placement : Placement) (graph : Graph) : Type 0 where
  pub there : (number address : ℕ) → placement number ≡ Some address → number < length graph
  pub home : (number address : ℕ) → placement number ≡ Some address → home_of (object_at graph number).maker < mutators
  pub lying : (number address : ℕ) → placement number ≡ Some address
      → LiesIn (bay (home_of (object_at graph number).maker)) address (object_size (object_at graph number))

-- the common object lies in the first cell of page 0 of mutator 0
abbrev pub CommonLies : Layout → Placement → Type 0
CommonLies layout placement = placement 0 ≡ Some (cell_address layout 0 0)

-- no address is that of a word of two placed objects
abbrev pub AreApart : Placement → Graph → Type 0
AreApart placement graph = (a i j : ℕ) → IsWordOf placement graph i a → IsWordOf placement graph j a → i ≡ j

-- the address is a placed object's
pub record HoldsPlaced (placement : Placement) (address : ℕ) : Type 0 where
  pub number : ℕ
  pub at : placement number ≡ Some address

-- the address is that of a placed object of a mutator's
pub record HoldsOwn (placement : Placement) (graph : Graph) (t address : ℕ) : Type 0 where
  pub number : ℕ
  pub at : placement number ≡ Some address
  pub home : home_of (object_at graph number).maker ≡ t

-- each used cell holds a placed object, or is being filled
abbrev pub EachCellHolds : ℕ → (ℕ → Bay) → Placement → (ℕ → Bool) → Type 0
EachCellHolds mutators bay placement filling =
    (t offset : ℕ) → t < mutators → IsUsed (bay t).pages offset
    → HoldsPlaced placement (cell_address (bay t).layout (bay t).mutator offset)
    ⊎ (filling (cell_address (bay t).layout (bay t).mutator offset) ≡ true)

-- the address is that of a word of some mutator's pages
pub record IsInAPage (layout : Layout) (a : ℕ) : Type 0 where
  pub mutator : ℕ
  pub inside : IsInPages layout mutator a

-- an object is old exactly where it lies in a page
abbrev pub AreOldInPages : (ℕ → ℕ) → Layout → Placement → Type 0
AreOldInPages word layout placement =
    (number address : ℕ) → placement number ≡ Some address → ((head_of (word address)).old ≡ true) ↔ IsInAPage layout address
