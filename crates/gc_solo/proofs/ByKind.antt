-- What is so of a collection whichever kind it is of.
use Rattle.std.proofs.Common.{◌≡◌, ◌∙◌, ◌+◌, ◌<◌, ℕ, Bool, false, length, List, Some, ap, slice_index_or, subst, sym}
use Rattle.std.specs.List.{swap_remove}
use Rattle.gc_bay.specs.Bay.{Bay, IsBay}
use Rattle.gc_model.specs.World.{World}
use Rattle.gc_layout.specs.Places.{Layout, word_count}
use Rattle.gc_model.specs.declared.entry.RunKind.{RunKind}
use Rattle.gc_placement.specs.Changes.{ChangesBay, Stores}
use Rattle.gc_placement.specs.Headers.{with_remembered}
use Rattle.gc_placement.specs.Memory.{Memory}
use Rattle.gc_placement.specs.Placement.{Placement}
use Rattle.gc_placement.specs.Remembered.{IsListed, NamesYoung}
use Rattle.gc_placement.specs.Rest.{IsAtRest}
use Rattle.gc_placement.specs.Tidying.{OnlyYoungAreRemembered}
use Rattle.gc_placement.proofs.FullTidying.{full-forgets}
use Rattle.gc_placement.proofs.Tidying.{collection-forgets}
use Rattle.gc_solo.specs.Collecting.{HasCollected, HasTraced, IsCollection, beginning}
use Rattle.gc_solo.specs.Kept.{Kept, ShowsBy, memory_of}

-- after it the memory is at rest
pub collection-rest : (kind : RunKind) (old new : Memory) (before after : Placement) (world : World)
    → IsCollection kind old new before after world → IsAtRest new after world
collection-rest RunKind.Minor old new before after world collection = collection.rest
collection-rest RunKind.Full old new before after world collection = collection.rest

-- it stays one where an object is forgotten that names none in a half
pub kind-forgets : (kind : RunKind) (old mid new : Memory) (before after : Placement) (world : World) (t index number address : ℕ)
    (bay : Bay) → IsCollection kind old mid before after world → new.types ≡ mid.types → new.layout ≡ mid.layout
    → IsListed mid.layout.mutators mid.bay address t index → after number ≡ Some address
    → ((place : ℕ) → ¬ NamesYoung mid.layout after world number place)
    → Stores mid.word new.word address (with_remembered (mid.word address) false) → ChangesBay mid.bay new.bay t bay
    → bay ≡ record (mid.bay t) { remembered = swap_remove (mid.bay t).remembered index 0 } → IsBay bay
    → IsCollection kind old new before after world
kind-forgets RunKind.Minor old mid new before after world t index number address bay collection types layout listed placed none stores
    changes same is =
    collection-forgets old mid new before after world t index number address bay collection types layout listed placed none stores changes
    same is
kind-forgets RunKind.Full old mid new before after world t index number address bay collection types layout listed placed none stores
    changes same is =
    full-forgets old mid new before after world t index number address bay collection types layout listed placed none stores changes same is

-- once a heap has kept all and is tidy, it shows the world by the placement after
pub traced-shows : (kind : RunKind) (old new : Kept) (placement after : Placement) (world : World)
    → ShowsBy old placement world → HasTraced new (beginning kind (memory_of old) placement world) after
    → OnlyYoungAreRemembered (memory_of new) after world → new.blocked ≡ old.blocked
    → HasCollected kind old new placement world
traced-shows kind old new placement after world shown traced exact blocked = record {
  after = after;
  shown = record {
    rest = collection-rest kind (memory_of old) (memory_of new) placement after world traced.collection;
    words = traced.words ∙ ap (λ (layout : Layout). 1 + word_count layout) (sym traced.layout);
    bays = traced.bays ∙ ap (λ (layout : Layout). layout.mutators) (sym traced.layout);
    eight = ap length blocked ∙ shown.eight;
    blocked = λ t below.
        ap (λ (each : List Bool). slice_index_or each t false) blocked
        ∙ shown.blocked t (subst (λ (layout : Layout). t < layout.mutators) traced.layout below);
  };
  collected = record { collection = traced.collection; exact = exact };
}
