-- A full collection as a whole: how it goes on from the mark of the common object, and that where nothing is left to do it has kept
-- all that is reachable.
use Rattle.std.proofs.Common.{◌≡◌, ◌∙◌, ◌⊎◌, inl, inr, ℕ, ◌<◌, ◌≤◌, Bool, [], Option, None, Some, true, false, if◌then◌else◌, refl, sym, ap, subst, arith}
use Rattle.std.proofs.lemmas.Option.{none-some}
use Rattle.gc_bay.specs.Bay.{Bay}
use Rattle.gc_layout.specs.Places.{Layout}
use Rattle.gc_model.specs.World.{World}
use Rattle.gc_model.specs.declared.entry.RunKind.{RunKind}
use Rattle.gc_placement.specs.Headers.{is_full}
use Rattle.gc_placement.specs.Holders.{Done}
use Rattle.gc_placement.specs.Marks.{AreMarkedIn, Marks, WaitsForMark}
use Rattle.gc_placement.specs.Memory.{Memory}
use Rattle.gc_placement.specs.Placement.{Placement}
use Rattle.gc_placement.specs.UnderWay.{IsCollectionUnderWay}
use Rattle.gc_placement.proofs.FullEnd.{IsTracedFull}
use Rattle.gc_placement.proofs.MarksKept.{marks-common}
use Rattle.gc_solo.specs.Collecting.{AreDoneTo, AreTraced, Beginning, HasBegun, HasGoneOn, HasMarked, HasTracedAll, IsCollecting, IsInHand, Stage, Waits, at_list, first_stage}
use Rattle.gc_solo.specs.Kept.{Kept, bay_at, memory_of}
use Rattle.gc_solo.proofs.Beginnings.{nothing-listed}

-- ---- the common object is marked

-- what is under way is so where the common object counts as done
way-common : {kind : RunKind} {old : Memory} {before : Placement} {world : World} {word : ℕ → ℕ} {bay : ℕ → Bay} {after : Placement}
    {done : Done} {waiting : ℕ → ℕ → Type 0} → IsCollectionUnderWay kind old before world word bay after done waiting
    → IsCollectionUnderWay kind old before world word bay after (record done { common = true }) waiting
way-common way = record {
  bays = way.bays;
  standing = way.standing;
  headers = way.headers;
  old_in_pages = way.old_in_pages;
  keeps = way.keeps;
  reached = way.reached;
  flipped = way.flipped;
  cells_stay = way.cells_stay;
  lying = way.lying;
  apart = way.apart;
  cells = way.cells;
  copies = way.copies;
  registers = way.registers;
  covers = record { registers = way.covers.registers; slots = way.covers.slots };
  lists = way.lists;
  lists_grow = way.lists_grow;
  bits = way.bits;
  grey = way.grey;
  grey_were_young = way.grey_were_young;
  grey_or_waiting = way.grey_or_waiting;
  only_kept = way.only_kept;
  promoted = way.promoted;
  promoted_remembered = way.promoted_remembered;
}

-- and so are the marks, where it is marked
marked-common : (kind : RunKind) (layout : Layout) (before : Placement) (world : World) (word : ℕ → ℕ) (bay : ℕ → Bay)
    (after : Placement) (done : Done) (marks : Marks) → AreMarkedIn kind layout before world word bay after done marks → marks 0 ≡ true
    → AreMarkedIn kind layout before world word bay after (record done { common = true }) marks
marked-common RunKind.Minor layout before world word bay after done marks are marked = tt
marked-common RunKind.Full layout before world word bay after done marks are marked =
    marks-common layout before world word bay after done marks are marked

-- so a collection that was flipped has begun with the mark
pub begun-marked : (kept : Kept) (start : Beginning) (after : Placement) (done : Done) → AreDoneTo done 0 0
    → HasMarked kept start after done (first_stage start) 0 → HasBegun kept start
begun-marked kept start after done registers has =
    let collecting = has.collecting in
    let now : IsCollecting kept start after (record done { common = true }) (first_stage start) = record {
      rest = collecting.rest;
      sound = collecting.sound;
      typed = collecting.typed;
      types = collecting.types;
      layout = collecting.layout;
      words = collecting.words;
      bays = collecting.bays;
      marks = collecting.marks;
      under_way = way-common collecting.under_way;
      marked = marked-common start.kind start.memory.layout start.placement start.world (memory_of kept).word (memory_of kept).bay after
          done collecting.marks collecting.marked has.marked;
      in_hand = collecting.in_hand;
    } in
    record { placement = after; done = record done { common = true }; collecting = now; registers = registers; common = refl }

-- ---- the end of tracing

-- it goes on with nothing in hand
idle-either : (full : Bool) (mutators : ℕ) → (if full then at_list mutators 0 else at_list 0 0).in_hand ≡ None
idle-either true mutators = refl
idle-either false mutators = refl

pub first_stage-idle : (start : Beginning) → (first_stage start).in_hand ≡ None
first_stage-idle start = idle-either (is_full start.kind) start.memory.layout.mutators

-- as many registers are done as before
pub done-went : (done now : Done) (t reg : ℕ) → ((u other : ℕ) → now.registers u other ≡ done.registers u other) → AreDoneTo done t reg
    → AreDoneTo now t reg
done-went done now t reg same are = (
  λ u other before. same u other ∙ are.0 u other before,
  λ u other behind. same u other ∙ are.1 u other behind,
)

-- where all registers are done and grey objects were scanned until there was none, all is kept that is reachable
pub traced-all : (kept now : Kept) (start : Beginning) (mutators : ℕ) → start.kind ≡ RunKind.Full
    → AreTraced kept start mutators 0 (first_stage start) → mutators ≡ start.memory.layout.mutators → now.layout ≡ start.memory.layout
    → ((after : Placement) (done : Done) → IsCollecting kept start after done (first_stage start)
    → HasGoneOn now start after done (first_stage start))
    → ((t : ℕ) → t < now.layout.mutators → (bay_at now.bays t).grey ≡ []) → HasTracedAll now start
traced-all kept now start mutators full traced count layout went none =
    let gone = went traced.placement traced.done traced.collecting in
    let registers : AreDoneTo gone.now_done mutators 0 =
    done-went traced.done gone.now_done mutators 0 gone.registers traced.registers in
    record {
      full = full;
      traced = record {
        placement = gone.placement;
        done = gone.now_done;
        collecting = gone.collecting;
        registers = subst (λ (limit : ℕ). AreDoneTo gone.now_done limit 0) count registers;
        common = gone.common ∙ traced.common;
      };
      no_grey = λ t below. none t (subst (λ (each : Layout). t < each.mutators) (sym layout) below);
    }

-- then what waits but for a mark is nothing
waits-mark : (start : Beginning) (marks : Marks) (number place : ℕ) → start.kind ≡ RunKind.Full
    → Waits start marks (first_stage start) number place
    → WaitsForMark RunKind.Full start.memory.layout start.placement marks number
waits-mark start marks number place full waits =
    let stage : first_stage start ≡ at_list start.memory.layout.mutators 0 =
    ap (λ (kind : RunKind). if is_full kind then at_list start.memory.layout.mutators 0 else at_list 0 0) full in
    let last : Waits start marks (at_list start.memory.layout.mutators 0) number place =
    subst (λ (each : Stage). Waits start marks each number place) stage waits in
    elim last [
      | inl listed ↦ absurd (nothing-listed start number listed.1)
      | inr (inl hand) ↦ absurd (none-some number hand.0)
      | inr (inr unmarked) ↦
          subst (λ (kind : RunKind). WaitsForMark kind start.memory.layout start.placement marks number) full unmarked
    ]

-- and a full collection is traced to its end
pub traced-full : (kept : Kept) (start : Beginning) → (all : HasTracedAll kept start)
    → IsTracedFull start.memory (memory_of kept) start.placement all.traced.placement start.world all.traced.done
    all.traced.collecting.marks (Waits start all.traced.collecting.marks (first_stage start))
traced-full kept start all =
    let traced = all.traced in
    let collecting = traced.collecting in
    let marks = collecting.marks in
    let waiting : ℕ → ℕ → Type 0 = Waits start marks (first_stage start) in
    record {
      rest = collecting.rest;
      under_way = subst (λ (kind : RunKind). IsCollectionUnderWay kind start.memory start.placement start.world (memory_of kept).word
          (memory_of kept).bay traced.placement traced.done waiting) all.full collecting.under_way;
      marked = subst (λ (kind : RunKind). AreMarkedIn kind start.memory.layout start.placement start.world (memory_of kept).word
          (memory_of kept).bay traced.placement traced.done marks) all.full collecting.marked;
      types = collecting.types;
      layout = collecting.layout;
      waits = λ number place waits. waits-mark start marks number place all.full waits;
      no_grey = all.no_grey;
      registers = λ t reg below within. traced.registers.0 t reg (inl below);
      common = traced.common;
    }
