-- What is shown where a mutator's registers change, or it is blocked.
use Rattle.std.proofs.Common.{◌≡◌, ℕ, ◌<◌, List, length, Bool, true, false, Option, None, refl, sym, ap, ◌∙◌, inl, inr, arith, replicate, subst, slice_index, slice_index_or, slice_set}
use Rattle.std.proofs.lemmas.Bool.{cases_eq, cases_lt}
use Rattle.std.proofs.lemmas.List.{get_or-set_other, get_or-set_same, get_or_past, get_or_read, length-set}
use Rattle.gc_bay.specs.Bay.{Bay, IsBay}
use Rattle.gc_model.specs.World.{Mutator, World, fresh_mutator, is_blocked, mutator_at, with_blocked, with_mutator, with_register}
use Rattle.gc_model.proofs.Sound.{mutator_at-sound}
use Rattle.gc_placement.specs.Changes.{ChangesBay, HasSameExtents}
use Rattle.gc_placement.specs.Placement.{Placement, IsNamePlaced, name_address}
use Rattle.gc_placement.proofs.Extents.{same-register}
use Rattle.gc_placement.proofs.Lists.{replicate-at, set-either}
use Rattle.gc_placement.proofs.Rest.{HasSameLists, rest-blocked, rest-mutator, rest-register}
use Rattle.gc_solo.specs.Kept.{Kept, ShowsBy, bay_at, memory_of, no_bay}
use Rattle.gc_solo.specs.Stands.{IsReadyFor}

-- a mutator is one of the layout's
pub ready-mutator : (kept : Kept) (placement : Placement) (world : World) (t : ℕ) → IsReadyFor kept placement world t
    → t < kept.layout.mutators
ready-mutator kept placement world t ready = omega (arith, ready.mutator, ready.shows.rest.shown.mutators)

-- and has a bay
pub ready-bay : (kept : Kept) (placement : Placement) (world : World) (t : ℕ) → IsReadyFor kept placement world t
    → t < length kept.bays
ready-bay kept placement world t ready = omega (arith, ready-mutator kept placement world t ready, ready.shows.bays)

-- and a place where it stands whether it is blocked
pub ready-blocked : (kept : Kept) (placement : Placement) (world : World) (t : ℕ) → IsReadyFor kept placement world t
    → t < length kept.blocked
ready-blocked kept placement world t ready =
    omega (arith, ready-mutator kept placement world t ready, ready.shows.eight, ready.shows.rest.shown.bays.limits.few_mutators)

-- what is read at a mutator's place is its bay
pub bay-read : (kept : Kept) (placement : Placement) (world : World) (t at : ℕ) (read : Bay) → IsReadyFor kept placement world t
    → at ≡ t → read ≡ slice_index_or kept.bays at read → read ≡ bay_at kept.bays t
bay-read kept placement world t at read ready place is =
    let there : at < length kept.bays = omega (arith, place, ready-bay kept placement world t ready) in
    get_or_read kept.bays at read there is no_bay ∙ ap (bay_at kept.bays) place

-- a bay is written: the others are as before
pub bay-written : (bays : List Bay) (t : ℕ) (bay : Bay) → t < length bays → ChangesBay (bay_at bays) (bay_at (slice_set bays t bay)) t bay
bay-written bays t bay there = record {
  here = get_or-set_same bays t bay no_bay there;
  elsewhere = λ u differs. get_or-set_other bays t u bay no_bay differs;
}

-- each mutator is blocked in the world as the list says
abbrev pub HaveBlocked : ℕ → List Bool → World → Type 0
HaveBlocked mutators blocked world = (u : ℕ) → u < mutators → slice_index_or blocked u false ≡ is_blocked world u

-- a mutator takes the place of one that was blocked as it is
pub blocked-same : (mutators : ℕ) (blocked : List Bool) (world : World) (t : ℕ) (mutator : Mutator)
    → mutator.blocked ≡ is_blocked world t → HaveBlocked mutators blocked world
    → HaveBlocked mutators blocked (with_mutator world t mutator)
blocked-same mutators blocked world t mutator same have u below =
    elim (cases_eq u t) [
      | inl here ↦
          set-either (λ (each : Mutator). slice_index_or blocked u false ≡ each.blocked) world.mutators t u mutator fresh_mutator
          (have u below ∙ ap (is_blocked world) here ∙ sym same) (have u below)
      | inr differs ↦
          have u below ∙ sym (ap (λ (each : Mutator). each.blocked) (get_or-set_other world.mutators t u mutator fresh_mutator differs))
    ]

-- a mutator takes another's place, and the list says of it whether it is blocked
blocked-changed : (mutators : ℕ) (blocked : List Bool) (world : World) (t : ℕ) (mutator : Mutator) → t < length blocked
    → t < length world.mutators → HaveBlocked mutators blocked world
    → HaveBlocked mutators (slice_set blocked t mutator.blocked) (with_mutator world t mutator)
blocked-changed mutators blocked world t mutator there known have u below =
    elim (cases_eq u t) [
      | inl here ↦
          let Holds : ℕ → Type 0 =
          λ m. slice_index_or (slice_set blocked t mutator.blocked) m false ≡ is_blocked (with_mutator world t mutator) m in
          subst Holds (sym here)
          (get_or-set_same blocked t mutator.blocked false there
          ∙ sym (ap (λ (each : Mutator). each.blocked) (get_or-set_same world.mutators t mutator fresh_mutator known)))
      | inr differs ↦
          get_or-set_other blocked t u mutator.blocked false differs ∙ have u below
          ∙ sym (ap (λ (each : Mutator). each.blocked) (get_or-set_other world.mutators t u mutator fresh_mutator differs))
    ]

-- the bay with other registers
abbrev pub with_registers : Bay → List ℕ → Bay
with_registers bay registers = record bay { registers = registers }

-- it has the lists that the bay has
lists-registers : (old bay : Bay) (registers : List ℕ) → bay ≡ with_registers old registers → HasSameLists old bay
lists-registers old bay registers set =
    record { remembered = ap (λ (each : Bay). each.remembered) set; grey = ap (λ (each : Bay). each.grey) set }

-- a register comes to name what is placed, where the mutator's bay holds its address
pub shown-register : (kept : Kept) (placement : Placement) (world : World) (t reg address : ℕ) (bay : Bay) (name : Option ℕ)
    → IsReadyFor kept placement world t → IsBay bay
    → bay ≡ with_registers (bay_at kept.bays t) (slice_set (bay_at kept.bays t).registers reg address) → reg < 16
    → address ≡ name_address placement name → IsNamePlaced placement name
    → ShowsBy (record kept { bays = slice_set kept.bays t bay }) placement (with_register world t reg name)
shown-register kept placement world t reg address bay name ready is set within address_is named =
    let old = bay_at kept.bays t in
    let shows = ready.shows in
    let there = ready-bay kept placement world t ready in
    let registers = slice_set old.registers reg address in
    let same : HasSameExtents old bay =
    subst (HasSameExtents old) (sym set) (same-register old registers (subst IsBay set is)) in
    record {
      rest = rest-register (memory_of kept) (memory_of (record kept { bays = slice_set kept.bays t bay })) placement world t reg address
          bay name shows.rest (record { types = refl; layout = refl; words = λ a. refl }) (bay-written kept.bays t bay there)
          (ready-mutator kept placement world t ready) same (lists-registers old bay registers set)
          (ap (λ (each : Bay). each.registers) set) within (mutator_at-sound world ready.sound t).0 address_is named;
      words = shows.words;
      bays = length-set kept.bays t bay ∙ shows.bays;
      eight = shows.eight;
      blocked = blocked-same kept.layout.mutators kept.blocked world t _ refl shows.blocked;
    }

-- a mutator is blocked, or no longer blocked
pub shown-blocked : (kept : Kept) (placement : Placement) (world : World) (t : ℕ) (blocked : Bool) → IsReadyFor kept placement world t
    → ShowsBy (record kept { blocked = slice_set kept.blocked t blocked }) placement (with_blocked world t blocked)
shown-blocked kept placement world t blocked ready =
    let shows = ready.shows in
    record {
      rest = rest-blocked (memory_of kept) placement world t blocked shows.rest;
      words = shows.words;
      bays = shows.bays;
      eight = length-set kept.blocked t blocked ∙ shows.eight;
      blocked = blocked-changed kept.layout.mutators kept.blocked world t (record (mutator_at world t) { blocked = blocked })
          (ready-blocked kept placement world t ready) ready.mutator shows.blocked;
    }

-- where 16 registers hold 0, all do
all_nothing : (bay : Bay) → IsBay bay → ((reg : ℕ) → reg < 16 → slice_index bay.registers reg ≡ 0)
    → (reg : ℕ) → slice_index bay.registers reg ≡ 0
all_nothing bay is nothing reg =
    elim (cases_lt reg 16) [
      | inl below ↦ nothing reg below
      | inr past ↦ get_or_past bay.registers reg 0 (omega (arith, past, is.registers))
    ]

-- a mutator ends: its registers are nothing, and it is blocked
pub shown-end : (kept : Kept) (placement : Placement) (world : World) (t : ℕ) (bay : Bay) → IsReadyFor kept placement world t → IsBay bay
    → bay ≡ with_registers (bay_at kept.bays t) bay.registers → ((reg : ℕ) → reg < 16 → slice_index bay.registers reg ≡ 0)
    → ShowsBy (record kept { bays = slice_set kept.bays t bay; blocked = slice_set kept.blocked t true }) placement
    (with_mutator world t (record { registers = replicate 16 None; blocked = true }))
shown-end kept placement world t bay ready is rest nothing =
    let old = bay_at kept.bays t in
    let shows = ready.shows in
    let there = ready-bay kept placement world t ready in
    let ended : Mutator = record { registers = replicate 16 None; blocked = true } in
    let same : HasSameExtents old bay =
    subst (HasSameExtents old) (sym rest) (same-register old bay.registers (subst IsBay rest is)) in
    record {
      rest = rest-mutator (memory_of kept) (memory_of (record kept { bays = slice_set kept.bays t bay })) placement world t bay ended
          shows.rest (record { types = refl; layout = refl; words = λ a. refl }) (bay-written kept.bays t bay there)
          (ready-mutator kept placement world t ready) same (lists-registers old bay bay.registers rest)
          (λ reg. all_nothing bay is nothing reg ∙ sym (ap (name_address placement) (replicate-at 16 reg None)))
          (λ reg. subst (IsNamePlaced placement) (sym (replicate-at 16 reg None)) tt);
      words = shows.words;
      bays = length-set kept.bays t bay ∙ shows.bays;
      eight = length-set kept.blocked t true ∙ shows.eight;
      blocked = blocked-changed kept.layout.mutators kept.blocked world t ended (ready-blocked kept placement world t ready)
          ready.mutator shows.blocked;
    }
