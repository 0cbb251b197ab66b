-- That an object is old exactly where it lies in a page, and what a change of the words or of the placement leaves of it.
use Rattle.std.proofs.Common.{◌≡◌, ◌⊎◌, ◌∙◌, ◌↔◌, ℕ, ◌+◌, ◌<◌, ◌≤◌, Bool, true, Some, inl, inr, ap, sym, subst, arith}
use Rattle.std.proofs.lemmas.Bool.{cases_eq}
use Rattle.gc_layout.specs.declared.head.Head.{Head}
use Rattle.gc_layout.specs.declared.shape.TypeNo.{TypeNo}
use Rattle.gc_layout.specs.Head.{fresh_head}
use Rattle.gc_layout.specs.Places.{Layout}
use Rattle.gc_model.specs.Graph.{Graph, object_at, object_size}
use Rattle.gc_placement.specs.Changes.{Stores, WritesFresh}
use Rattle.gc_placement.specs.Extents.{AreApart, AreOldInPages, IsInAPage}
use Rattle.gc_placement.specs.Headers.{head_of}
use Rattle.gc_placement.specs.Placement.{IsWordOf, Placement, with_place}
use Rattle.gc_placement.proofs.Headers.{head_of-head_word}
use Rattle.gc_placement.proofs.Placement.{with_place-other, with_place-same}

-- an address has as old a header where its word is the same
old-same : (old new : ℕ) (layout : Layout) (address : ℕ) → new ≡ old → ((head_of old).old ≡ true) ↔ IsInAPage layout address
    → ((head_of new).old ≡ true) ↔ IsInAPage layout address
old-same old new layout address same before =
    subst (λ (word : ℕ). ((head_of word).old ≡ true) ↔ IsInAPage layout address) (sym same) before

-- what changes no header of a placed object keeps it
pub old-frame : (word other : ℕ → ℕ) (layout : Layout) (placement : Placement) → AreOldInPages word layout placement
    → ((number address : ℕ) → placement number ≡ Some address → other address ≡ word address) → AreOldInPages other layout placement
old-frame word other layout placement are same number address at =
    old-same (word address) (other address) layout address (same number address at) (are number address at)

-- what is stored in a word of a placed object behind its header changes no header
pub headers-stored : (word other : ℕ → ℕ) (placement : Placement) (graph : Graph) (number address at v : ℕ) → AreApart placement graph
    → placement number ≡ Some address → address < at → at < address + object_size (object_at graph number) → Stores word other at v
    → (each each_address : ℕ) → placement each ≡ Some each_address → other each_address ≡ word each_address
headers-stored word other placement graph number address at v apart placed behind within stores each each_address each_at =
    stores.elsewhere each_address (λ meet.
    let own : each ≡ number = apart at each number
    (record { address = each_address; at = each_at; from = omega (arith, meet); to = omega (arith, meet) })
    (record { address = address; at = placed; from = omega (arith, behind); to = within }) in
    let moved : Some each_address ≡ Some address = sym each_at ∙ ap placement own ∙ placed in
    let here : each_address ≡ address = cc in
    omega (arith, meet, here, behind))

-- so each object stays as old as it was
pub old-stored : (word other : ℕ → ℕ) (layout : Layout) (placement : Placement) (graph : Graph) (number address at v : ℕ)
    → AreOldInPages word layout placement → AreApart placement graph → placement number ≡ Some address → address < at
    → at < address + object_size (object_at graph number) → Stores word other at v → AreOldInPages other layout placement
old-stored word other layout placement graph number address at v are apart placed behind within stores =
    old-frame word other layout placement are
    (headers-stored word other placement graph number address at v apart placed behind within stores)

-- a fresh object is as old as it is written, and where it is written outside of the placed ones, these stay as they are
pub old-new : (word other : ℕ → ℕ) (layout : Layout) (placement : Placement) (graph : Graph) (number address size : ℕ) (ty : TypeNo)
    (in_page : Bool) → AreOldInPages word layout placement → ty.0 < 256 → WritesFresh word other address size ty in_page
    → (in_page ≡ true) ↔ IsInAPage layout address
    → ((each a : ℕ) → IsWordOf placement graph each a → (a < address) ⊎ (address + size ≤ a))
    → AreOldInPages other layout (with_place placement number address)
old-new word other layout placement graph number address size ty in_page are below writes paged outside each each_address each_at =
    let after = with_place placement number address in
    elim (cases_eq each number) as (λ _. ((head_of (other each_address)).old ≡ true) ↔ IsInAPage layout each_address) [
      | inl same ↦
          let moved : Some each_address ≡ Some address =
          sym each_at ∙ ap after same ∙ with_place-same placement number address in
          let here : each_address ≡ address = cc in
          let read = ap (λ (head : Head). head.old) (head_of-head_word (fresh_head ty in_page) below) in
          rw (here, writes.header, read) paged
      | inr differs ↦
          let before : placement each ≡ Some each_address =
          sym (with_place-other placement number address each differs) ∙ each_at in
          let first : IsWordOf placement graph each each_address =
          record { address = each_address; at = before; from = omega arith; to = omega arith } in
          old-same (word each_address) (other each_address) layout each_address
          (writes.elsewhere each_address (outside each each_address first)) (are each each_address before)
    ]
