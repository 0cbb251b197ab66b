-- Tidying the remembered lists when a full collection has ended: it stays a full collection where an object that names none in
-- a half is forgotten. And no more is used of halves afterwards than the reachable objects have.
use Rattle.std.proofs.Common.{◌≡◌, ◌∙◌, ℕ, ◌<◌, ◌≤◌, ◌&&◌, Bool, false, is_some, Some, ap, arith}
use Rattle.std.proofs.lemmas.Bool.{and_from, and_parts}
use Rattle.std.specs.List.{swap_remove}
use Rattle.gc_bay.specs.Bay.{Bay, IsBay}
use Rattle.gc_layout.specs.Places.{Layout}
use Rattle.gc_model.specs.Graph.{Graph, object_at, object_size}
use Rattle.gc_model.specs.Reach.{is_reachable}
use Rattle.gc_model.specs.World.{World}
use Rattle.gc_placement.specs.Changes.{ChangesBay, Stores}
use Rattle.gc_placement.specs.Extents.{home_of, is_home}
use Rattle.gc_placement.specs.Full.{ArePromotedByFull, HasNoNewCell, IsFullCollection}
use Rattle.gc_placement.specs.Headers.{head_of, with_remembered}
use Rattle.gc_placement.specs.Memory.{Memory}
use Rattle.gc_placement.specs.Minor.{was_young_and_kept}
use Rattle.gc_placement.specs.Placement.{Placement}
use Rattle.gc_placement.specs.Remembered.{IsListed, NamesYoung}
use Rattle.gc_placement.specs.Sums.{is_young, own_words_where}
use Rattle.gc_placement.proofs.Names.{placed-from_test}
use Rattle.gc_placement.proofs.Sums.{words-fewer}
use Rattle.gc_placement.proofs.Tidying.{but_list, rest-forgets, seen-stored}

-- ---- an object is forgotten

-- who was promoted by a full collection is so still where the bits seen and the pages are as before
promoted_by_full-frame : (layout : Layout) (old_word word other : ℕ → ℕ) (old mid new : ℕ → Bay) (before after : Placement)
    (graph : Graph) → ArePromotedByFull layout old_word word old mid before after graph
    → ((a : ℕ) → (head_of (other a)).seen ≡ (head_of (word a)).seen) → ((u : ℕ) → (new u).pages ≡ (mid u).pages)
    → ArePromotedByFull layout old_word other old new before after graph
promoted_by_full-frame layout old_word word other old mid new before after graph are seen pages = record {
  seen = are.seen;
  no_cell = λ number address copy at young copy_at copy_young had.
      let home = home_of (object_at graph number).maker in
      let none : HasNoNewCell (old home) (mid home) (object_size (object_at graph number)) =
      are.no_cell number address copy at young copy_at copy_young had in
      record { cells = rw (pages home) none.cells; pages = rw (pages home) none.pages };
  survived = λ number copy at young. seen copy ∙ are.survived number copy at young;
}

-- what a full collection did is a full collection still where an object that names none in a half is forgotten: it loses the
-- bit, and its address is taken off its list
pub full-forgets : (old mid new : Memory) (before after : Placement) (world : World) (t index number address : ℕ) (bay : Bay)
    → IsFullCollection old mid before after world → new.types ≡ mid.types → new.layout ≡ mid.layout
    → IsListed mid.layout.mutators mid.bay address t index → after number ≡ Some address
    → ((place : ℕ) → ¬ NamesYoung mid.layout after world number place)
    → Stores mid.word new.word address (with_remembered (mid.word address) false) → ChangesBay mid.bay new.bay t bay
    → bay ≡ record (mid.bay t) { remembered = swap_remove (mid.bay t).remembered index 0 } → IsBay bay
    → IsFullCollection old new before after world
full-forgets old mid new before after world t index number address bay collection types layout listed placed none stores changes same
    is =
    let list = swap_remove (mid.bay t).remembered index 0 in
    let each : (u : ℕ) → new.bay u ≡ record (mid.bay u) { remembered = (new.bay u).remembered } =
    but_list mid.bay new.bay t bay list changes same in
    record {
      rest = rest-forgets mid new after world t index number address bay collection.rest types layout listed placed none stores
          changes same is;
      flipped = λ u there. ap (λ (one : Bay). one.half) (each u) ∙ collection.flipped u there;
      only = collection.only;
      stays = collection.stays;
      reached = collection.reached;
      sums = λ u there. omega (arith, ap (λ (one : Bay). one.used) (each u), collection.sums u there);
      promoted = promoted_by_full-frame old.layout old.word mid.word new.word old.bay mid.bay new.bay before after world.graph
          collection.promoted (seen-stored mid.word new.word address false stores) (λ u. ap (λ (one : Bay). one.pages) (each u));
    }

-- ---- what is used of halves

-- after a full collection no more words of a mutator's half are used than the reachable objects of its region have
pub half-home : (old new : Memory) (before after : Placement) (world : World) → IsFullCollection old new before after world → (t : ℕ)
    → t < old.layout.mutators → (new.bay t).used ≤ own_words_where (is_reachable world) world.graph t
half-home old new before after world collection t there =
    let graph = world.graph in
    let kept = was_young_and_kept old before after in
    let young = is_young old.layout before in
    let made : ℕ → Bool = λ number. is_home t (object_at graph number) in
    let reached = is_reachable world in
    let fewer : own_words_where kept graph t ≤ own_words_where reached graph t =
    words-fewer (λ number. kept number && made number) (λ number. reached number && made number) graph (λ number has.
    let parts = and_parts (kept number) (made number) has in
    let placed = placed-from_test after number (and_parts (young number) (is_some (after number)) parts.0).1 in
    and_from (reached number) (made number) ((collection.reached number).0 placed) parts.1) in
    omega (arith, collection.sums t there, fewer)
