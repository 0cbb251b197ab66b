-- The registers, from which a collection starts: what each holds before it is treated, and where the collection stands once it
-- is.
use Rattle.std.proofs.Common.{◌≡◌, ◌∙◌, ◌⊎◌, inl, inr, ℕ, ◌+◌, ◌<◌, ◌≤◌, ◌&&◌, ◌||◌, ◌==◌, Bool, true, false, Option, None, Some, IfSome, List, length, nat_le, if◌then◌else◌, refl, sym, ap, subst, arith, slice_index, slice_index_or, slice_set}
use Rattle.std.proofs.lemmas.Bool.{cases_eq, cases_lt, eq-eqb, le-leb, lt-leb, ne_eqb}
use Rattle.std.proofs.lemmas.List.{get_or_past, length-set}
use Rattle.gc_bay.specs.Bay.{Bay, IsBay}
use Rattle.gc_layout.specs.Places.{Layout}
use Rattle.gc_model.specs.Reach.{is_reached}
use Rattle.gc_model.specs.World.{World, mutator_at, named_by}
use Rattle.gc_model.specs.declared.entry.RunKind.{RunKind}
use Rattle.gc_model.proofs.Sound.{mutator_at-sound}
use Rattle.gc_placement.specs.Headers.{is_full}
use Rattle.gc_placement.specs.Holders.{CoversDone, Done, HaveMovingRegisters, with_register_done}
use Rattle.gc_placement.specs.Marks.{IsNameFoundIn}
use Rattle.gc_placement.specs.Moves.{name_before_or_after}
use Rattle.gc_placement.specs.Placement.{IsNamePlaced, Placement, name_address}
use Rattle.gc_placement.specs.Tracings.{tracing_of}
use Rattle.gc_placement.proofs.Bays.{each-changed}
use Rattle.gc_placement.proofs.MarksByKind.{marks_in-named, marks_in-register, marks_in-registers, nothing-found_in}
use Rattle.gc_placement.proofs.MinorFrames.{AllKeepPlaces, under_way-kept}
use Rattle.gc_placement.proofs.MinorSteps.{HasGreyLists, is_grey-frame, register-done, register_done-here, register_done-other}
use Rattle.gc_placement.proofs.Roots.{full-register_reached, register-reached}
use Rattle.gc_solo.specs.Collecting.{AreDoneTo, AreTraced, Beginning, Holds, IsCollecting, IsForwarded, IsInHand, IsReachedBy, Stage, Waits, at_list, first_stage}
use Rattle.gc_solo.specs.Kept.{Kept, bay_at, memory_of}
use Rattle.gc_solo.proofs.BayLists.{bay_at-changed}
use Rattle.gc_solo.proofs.Collecting.{bay-at, bay-there, collecting-with}
use Rattle.gc_solo.proofs.Scanned.{IsForwardedBy}
use Rattle.gc_solo.proofs.Slots.{if_some}

-- ---- what a register holds

-- what a register names is reached where it belongs
register_name-reached : (kind : RunKind) (start : Beginning) (t reg named : ℕ) → t < length start.world.mutators
    → named_by start.world t reg ≡ Some named
    → (tracing_of kind start.memory start.placement start.world).belongs named ≡ true
    → is_reached (tracing_of kind start.memory start.placement start.world) named ≡ true
register_name-reached RunKind.Minor start t reg named there is belongs =
    register-reached start.memory start.placement start.world t reg named there is belongs
register_name-reached RunKind.Full start t reg named there is belongs = full-register_reached start.world t reg named there is

-- a register that isn't done holds what it names, as before
pub register-holds : (kept : Kept) (start : Beginning) (after : Placement) (done : Done) (stage : Stage) (t reg : ℕ)
    → IsCollecting kept start after done stage → t < start.memory.layout.mutators → done.registers t reg ≡ false
    → Holds start (named_by start.world t reg) (slice_index (bay_at kept.bays t).registers reg)
register-holds kept start after done stage t reg collecting there undone =
    let shown = collecting.rest.shown in
    let name = named_by start.world t reg in
    record {
      address_is = collecting.under_way.registers t reg there
          ∙ ap (λ (is : Bool). name_before_or_after start.placement after is name) undone;
      placed = shown.covers.registers t reg;
      reached = if_some (IsReachedBy start) name (λ named is belongs.
          register_name-reached start.kind start t reg named (omega (arith, there, shown.mutators)) is belongs);
    }

-- ---- a register is treated

-- where the registers are done up to one, they are up to the next one once it is done
done_to-more : (done : Done) (t reg : ℕ) → AreDoneTo done t reg → AreDoneTo (with_register_done done t reg) t (reg + 1)
done_to-more done t reg are = (
  λ u other before. elim (cases_eq u t) [
    | inl mutator ↦ elim (cases_eq other reg) [
      | inl same ↦ rw (mutator, same) (register_done-here done t reg)
      | inr differs ↦
          register_done-other done t reg u other (λ here. differs)
          ∙ are.0 u other (elim before [
            | inl less ↦ inl less
            | inr here ↦ inr (here.0, omega (arith, here.1, differs))
          ])
    ]
    | inr elsewhere ↦
        register_done-other done t reg u other (λ here. absurd (elsewhere here))
        ∙ are.0 u other (elim before [
          | inl less ↦ inl less
          | inr here ↦ absurd (elsewhere here.0)
        ])
  ],
  λ u other past.
      register_done-other done t reg u other (λ here same. elim past [
        | inl later ↦ omega (arith, later, here)
        | inr beyond ↦ omega (arith, beyond.1, same)
      ])
      ∙ are.1 u other (elim past [
        | inl later ↦ inl later
        | inr beyond ↦ inr (beyond.0, omega (arith, beyond.1))
      ]),
)

-- at first nothing is in hand
first_stage-idle : (kind : RunKind) (mutators : ℕ)
    → (if is_full kind then at_list mutators 0 else at_list 0 0).in_hand ≡ None
first_stage-idle RunKind.Minor mutators = refl
first_stage-idle RunKind.Full mutators = refl

-- so what is said of what is in hand holds
no_hand : (P : ℕ → Type 0) (start : Beginning) → IfSome (first_stage start).in_hand P
no_hand P start = subst (λ hand. IfSome hand P) (sym (first_stage-idle start.kind start.memory.layout.mutators)) tt

-- a register holds the address after of what it names: the registers are treated up to the next one
pub register-treated : (kept : Kept) (start : Beginning) (after : Placement) (done : Done) (t reg value : ℕ) (own : Bay)
    → IsForwarded kept start after done (first_stage start) (named_by start.world t reg) value → t < start.memory.layout.mutators
    → reg < 16 → own ≡ record (bay_at kept.bays t) { registers = slice_set (bay_at kept.bays t).registers reg value } → IsBay own
    → AreDoneTo done t reg → done.common ≡ true
    → AreTraced (record kept { bays = slice_set kept.bays t own }) start t (reg + 1) (first_stage start)
register-treated kept start after done t reg value own forwarded there within own_is is are common =
    let layout = start.memory.layout in
    let mutators = layout.mutators in
    let collecting = forwarded.collecting in
    let marks = collecting.marks in
    let stage = first_stage start in
    let later = with_register_done done t reg in
    let bays = slice_set kept.bays t own in
    let bay = bay_at kept.bays in
    let new = bay_at bays in
    let word = (memory_of kept).word in
    let changed = bay_at-changed kept.bays t own (bay-there t collecting there) in
    let way = register-done start.memory start.placement start.world word bay new forwarded.placement done (Waits start marks stage) t reg
    value own collecting.under_way there within changed own_is is forwarded.address_is forwarded.placed in
    let tallies : (u : ℕ) → u < mutators → (new u).tally ≡ (bay u).tally =
    each-changed (λ u each. u < mutators → each.tally ≡ (bay u).tally) bay new t own changed
    (λ below. ap (λ (each : Bay). each.tally) own_is) (λ u differs below. refl) in
    let grey : HasGreyLists mutators bay new =
    each-changed (λ u each. u < mutators → each.grey ≡ (bay u).grey) bay new t own changed
    (λ below. ap (λ (each : Bay). each.grey) own_is) (λ u differs below. refl) in
    record {
      placement = forwarded.placement;
      done = later;
      collecting = collecting-with kept start forwarded.placement forwarded.placement done later stage stage kept.words bays marks
          collecting refl (length-set kept.bays t own) way
          (marks_in-register start.kind layout start.placement start.world word bay new forwarded.placement done marks t reg
          collecting.marked tallies (λ a. is_grey-frame mutators bay new a grey) forwarded.found)
          (no_hand (IsInHand (record kept { words = kept.words; bays = bays }) start forwarded.placement marks) start);
      registers = done_to-more done t reg are;
      common = common;
    }

-- ---- the registers of a mutator

-- all that stands behind a mutator's registers is said to be done, as nothing is named there
abbrev with_rest_done : Done → ℕ → Done
with_rest_done done t = record done { registers = λ u other. (u == t) && nat_le 16 other || done.registers u other }

-- nothing is named there
nothing-behind : (world : World) (t other : ℕ) → length (mutator_at world t).registers ≡ 16 → 16 ≤ other → named_by world t other ≡ None
nothing-behind world t other count past = get_or_past (mutator_at world t).registers other None (omega (arith, count, past))

-- there it is done
rest_done-behind : (done : Done) (t other : ℕ) → 16 ≤ other → (with_rest_done done t).registers t other ≡ true
rest_done-behind done t other past = rw (eq-eqb t t refl, le-leb 16 other past) refl

-- and elsewhere where it was
rest_done-before : (done : Done) (t u other : ℕ) → ((u ≡ t) → other < 16)
    → (with_rest_done done t).registers u other ≡ done.registers u other
rest_done-before done t u other before = elim (cases_eq u t) [
  | inl same ↦ rw (eq-eqb u t same, lt-leb 16 other (before same)) refl
  | inr differs ↦ rw (ne_eqb u t differs) refl
]

-- what holds of it where nothing is named that is done, and elsewhere of what was said, holds of it
rest_done-each : (P : ℕ → ℕ → Bool → Type 0) (done : Done) (t : ℕ) → ((other : ℕ) → 16 ≤ other → P t other true)
    → ((u other : ℕ) → P u other (done.registers u other)) → (u other : ℕ) → P u other ((with_rest_done done t).registers u other)
rest_done-each P done t behind each u other = elim (cases_eq u t) [
  | inl same ↦ elim (cases_lt other 16) [
    | inl low ↦ subst (P u other) (sym (rest_done-before done t u other (λ here. low))) (each u other)
    | inr high ↦ rw same (subst (P t other) (sym (rest_done-behind done t other high)) (behind other high))
  ]
  | inr differs ↦ subst (P u other) (sym (rest_done-before done t u other (λ here. absurd (differs here)))) (each u other)
]

-- where the registers are done up to the last one of a mutator's, they are up to the first one of the next
done_to-next : (done : Done) (t reg : ℕ) → 16 ≤ reg → AreDoneTo done t reg → AreDoneTo (with_rest_done done t) (t + 1) 0
done_to-next done t reg all are = (
  λ u other before.
      let upto : u < t + 1 = elim before [
        | inl less ↦ less
        | inr here ↦ absurd (omega (arith, here.1))
      ] in
      elim (cases_eq u t) [
        | inl same ↦ elim (cases_lt other 16) [
          | inl low ↦
              rest_done-before done t u other (λ here. low) ∙ are.0 u other (inr (same, omega (arith, low, all)))
          | inr high ↦ rw same (rest_done-behind done t other high)
        ]
        | inr differs ↦
            rest_done-before done t u other (λ here. absurd (differs here))
            ∙ are.0 u other (inl (omega (arith, upto, differs)))
      ],
  λ u other past.
      let later : t < u = elim past [
        | inl beyond ↦ omega (arith, beyond)
        | inr here ↦ omega (arith, here.0)
      ] in
      rest_done-before done t u other (λ here. absurd (omega (arith, here, later))) ∙ are.1 u other (inl later),
)

-- the registers of a mutator are treated: those of the next one are to be
pub registers-ended : (kept : Kept) (start : Beginning) (t reg : ℕ) → AreTraced kept start t reg (first_stage start) → 16 ≤ reg
    → AreTraced kept start (t + 1) 0 (first_stage start)
registers-ended kept start t reg traced all =
    let layout = start.memory.layout in
    let mutators = layout.mutators in
    let stage = first_stage start in
    let collecting = traced.collecting in
    let marks = collecting.marks in
    let way = collecting.under_way in
    let word = (memory_of kept).word in
    let bay = bay_at kept.bays in
    let world = start.world in
    let after = traced.placement in
    let done = traced.done in
    let later = with_rest_done done t in
    let Found : Option ℕ → Type 0 = IsNameFoundIn start.kind layout start.placement after marks in
    let count : length (mutator_at world t).registers ≡ 16 = (mutator_at-sound world collecting.sound t).0 in
    let keeps : AllKeepPlaces mutators bay bay = λ u there. record {
      extents = record {
        owner = record { bay = way.bays.each u there; layout = refl; mutator = refl };
        half = refl;
        used = refl;
        pages = refl;
      };
      remembered = refl;
    } in
    let held : HaveMovingRegisters mutators bay start.placement after later.registers world =
    rest_done-each
    (λ u other is. u < mutators
    → slice_index (bay u).registers other ≡ name_before_or_after start.placement after is (named_by world u other))
    done t
    (λ other high there.
    get_or_past (bay t).registers other 0 (omega (arith, (way.bays.each t there).registers, high))
    ∙ sym (ap (name_address after) (nothing-behind world t other count high)))
    way.registers in
    let covers : CoversDone after later world = record {
      registers = rest_done-each (λ u other is. is ≡ true → IsNamePlaced after (named_by world u other)) done t
          (λ other high is. subst (IsNamePlaced after) (sym (nothing-behind world t other count high)) tt) way.covers.registers;
      slots = way.covers.slots;
    } in
    let found : (u other : ℕ) → later.registers u other ≡ true → Found (named_by world u other) =
    rest_done-each (λ u other is. is ≡ true → Found (named_by world u other)) done t
    (λ other high is.
    subst Found (sym (nothing-behind world t other count high)) (nothing-found_in start.kind layout start.placement after marks))
    (λ u other.
    marks_in-named start.kind layout start.placement world word bay after done marks u other collecting.marked) in
    let now = under_way-kept start.memory start.placement world word bay bay after done later.registers (Waits start marks stage)
    (Waits start marks stage) way keeps held covers way.grey way.grey_were_young way.grey_or_waiting in
    record {
      placement = after;
      done = later;
      collecting = collecting-with kept start after after done later stage stage kept.words kept.bays marks collecting refl refl now
          (marks_in-registers start.kind layout start.placement world word bay after done marks later.registers collecting.marked found)
          collecting.in_hand;
      registers = done_to-next done t reg all traced.registers;
      common = traced.common;
    }

-- ---- all registers

-- whatever collection of a kind began, its registers are treated up to this one of this mutator's
abbrev pub IsTracedTo : RunKind → Kept → Kept → ℕ → ℕ → Type 0
IsTracedTo kind old new t reg =
    (start : Beginning) → start.kind ≡ kind → AreTraced old start 0 0 (first_stage start) → AreTraced new start t reg (first_stage start)

-- a mutator of the heap is one of before
pub mutator-before : {kept : Kept} {start : Beginning} {t reg : ℕ} {stage : Stage} (u : ℕ) → AreTraced kept start t reg stage
    → u < kept.layout.mutators → u < start.memory.layout.mutators
mutator-before u traced below = omega (arith, below, ap (λ (layout : Layout). layout.mutators) traced.collecting.layout)

-- it has a bay
pub traced-bay : (kind : RunKind) (old kept : Kept) (start : Beginning) (t reg : ℕ) → start.kind ≡ kind
    → AreTraced old start 0 0 (first_stage start) → t < old.layout.mutators → IsTracedTo kind old kept t reg → t < length kept.bays
traced-bay kind old kept start t reg kind_is first below traces =
    bay-there t (traces start kind_is first).collecting (mutator-before t first below)

-- the register in hand holds what it names, as before
pub traced-holds : (kind : RunKind) (old kept : Kept) (start : Beginning) (t reg at address : ℕ) (read : Bay) → start.kind ≡ kind
    → AreTraced old start 0 0 (first_stage start) → t < old.layout.mutators → IsTracedTo kind old kept t reg → at ≡ t
    → read ≡ slice_index_or kept.bays at read → address ≡ slice_index read.registers reg
    → Holds start (named_by start.world t reg) address
traced-holds kind old kept start t reg at address read kind_is first below traces place value is =
    let traced = traces start kind_is first in
    let there = mutator-before t first below in
    let own = bay-at t at read traced.collecting there place value in
    subst (Holds start (named_by start.world t reg)) (sym (is ∙ ap (λ (bay : Bay). slice_index bay.registers reg) own))
    (register-holds kept start traced.placement traced.done (first_stage start) t reg traced.collecting there
    (traced.registers.1 t reg (inr (refl, omega arith))))

-- the mutator has a bay still when what it names is kept
pub forwarded-bay : (kind : RunKind) (old kept mid : Kept) (start : Beginning) (t reg address value : ℕ) → start.kind ≡ kind
    → AreTraced old start 0 0 (first_stage start) → t < old.layout.mutators → IsTracedTo kind old kept t reg
    → Holds start (named_by start.world t reg) address → IsForwardedBy kind kept mid address value → t < length mid.bays
forwarded-bay kind old kept mid start t reg address value kind_is first below traces holds forwards =
    let traced = traces start kind_is first in
    let forwarded = forwards start traced.placement traced.done (first_stage start) (named_by start.world t reg) kind_is traced.collecting
    holds in
    bay-there t forwarded.collecting (mutator-before t first below)

-- one more register is treated
pub traced_to-more : (kind : RunKind) (old kept mid : Kept) (t reg at back address value : ℕ) (read again own : Bay)
    → t < old.layout.mutators → reg < 16 → IsTracedTo kind old kept t reg → at ≡ t → read ≡ slice_index_or kept.bays at read
    → address ≡ slice_index read.registers reg → IsForwardedBy kind kept mid address value → back ≡ t
    → again ≡ slice_index_or mid.bays back again → own ≡ record again { registers = slice_set again.registers reg value } → IsBay own
    → IsTracedTo kind old (record mid { bays = slice_set mid.bays back own }) t (reg + 1)
traced_to-more kind old kept mid t reg at back address value read again own below within traces place is read_is forwards same again_is set
    own_is start kind_is first =
    let traced = traces start kind_is first in
    let there = mutator-before t first below in
    let holds = traced-holds kind old kept start t reg at address read kind_is first below traces place is read_is in
    let forwarded = forwards start traced.placement traced.done (first_stage start) (named_by start.world t reg) kind_is traced.collecting
    holds in
    let found = bay-at t back again forwarded.collecting there same again_is in
    let treated = register-treated mid start traced.placement traced.done t reg value own forwarded there within
    (rw found at set) own_is traced.registers traced.common in
    rw same treated

-- the registers of one more mutator are
pub traced_to-next : (kind : RunKind) (old kept : Kept) (t reg : ℕ) → 16 ≤ reg → IsTracedTo kind old kept t reg
    → IsTracedTo kind old kept (t + 1) 0
traced_to-next kind old kept t reg all traces start kind_is first = registers-ended kept start t reg (traces start kind_is first) all
