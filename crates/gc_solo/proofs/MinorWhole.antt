-- A minor collection as a whole: where nothing is left to do it has kept all that it reaches.
use Rattle.std.proofs.Common.{◌≡◌, ◌∙◌, ◌<◌, ◌≤◌, ℕ, [], inl, inr, sym, subst, arith}
use Rattle.std.proofs.lemmas.Option.{none-some}
use Rattle.gc_layout.specs.Places.{Layout}
use Rattle.gc_layout.specs.Sizes.{register_count}
use Rattle.gc_model.specs.declared.entry.RunKind.{RunKind}
use Rattle.gc_model.specs.World.{World}
use Rattle.gc_placement.specs.Holders.{Done}
use Rattle.gc_placement.specs.Marks.{Marks}
use Rattle.gc_placement.specs.Memory.{Memory}
use Rattle.gc_placement.specs.Placement.{Placement}
use Rattle.gc_placement.proofs.MinorEnd.{minor-ends}
use Rattle.gc_solo.specs.Collecting.{AreDoneTo, HasGoneOn, HasTraced, Waits, at_list, beginning}
use Rattle.gc_solo.specs.Kept.{Kept, bay_at, memory_of}

-- behind the last list nothing waits
nothing-waits : (memory : Memory) (placement : Placement) (world : World) (marks : Marks) (mutators number place : ℕ)
    → mutators ≡ memory.layout.mutators
    → Waits (beginning RunKind.Minor memory placement world) marks (at_list mutators 0) number place → ⊥
nothing-waits memory placement world marks mutators number place count waits = elim waits [
  | inl listed ↦ elim listed.1.behind [
    | inl behind ↦ omega (arith, behind, listed.1.listed.mutator, count)
    | inr own ↦ omega (arith, own.0, listed.1.listed.mutator, count)
  ]
  | inr (inl hand) ↦ none-some number hand.0
  | inr (inr unmarked) ↦ unmarked
]

-- where all registers are done, no list waits and nothing is grey, all is kept that is reached
pub traced-ends : (kept : Kept) (memory : Memory) (placement : Placement) (world : World) (after : Placement) (done : Done) (mutators : ℕ)
    → (gone : HasGoneOn kept (beginning RunKind.Minor memory placement world) after done (at_list mutators 0))
    → AreDoneTo done mutators 0 → mutators ≡ memory.layout.mutators
    → ((t : ℕ) → t < kept.layout.mutators → (bay_at kept.bays t).grey ≡ [])
    → HasTraced kept (beginning RunKind.Minor memory placement world) gone.placement
traced-ends kept memory placement world after done mutators gone all count none =
    let start = beginning RunKind.Minor memory placement world in
    let collecting = gone.collecting in record {
      rest = collecting.rest;
      sound = collecting.sound;
      typed = collecting.typed;
      types = collecting.types;
      layout = collecting.layout;
      words = collecting.words;
      bays = collecting.bays;
      collection = minor-ends memory (memory_of kept) placement gone.placement world gone.now_done
          (Waits start collecting.marks (at_list mutators 0)) collecting.rest collecting.under_way collecting.types collecting.layout
          (λ number place waits. nothing-waits memory placement world collecting.marks mutators number place count waits)
          (λ t below. none t (subst (λ (layout : Layout). t < layout.mutators) (sym collecting.layout) below))
          (λ t reg below within. gone.registers t reg ∙ all.0 t reg (inl (omega (arith, below, count))));
    }
