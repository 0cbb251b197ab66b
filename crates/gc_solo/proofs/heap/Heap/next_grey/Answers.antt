use Rattle.std.proofs.Common.{◌≡◌, ◌∙◌, ◌+◌, ◌<◌, ℕ, List, ap, arith, is_some, length, refl, slice_set, sym, subst}
use Rattle.std.specs.Vec.{with_item}
use Rattle.gc_bay.specs.Bay.{Bay}
use Rattle.gc_solo.specs.declared.heap.Heap.{Heap}
use Rattle.gc_solo.specs.Collecting.{IsCollecting, IsToTreat, with_in_hand}
use Rattle.gc_solo.specs.Kept.{Kept, kept_of}
use Rattle.gc_solo.proofs.BayLists.{NoneGrey, bay-inside, bay_at-read, none_grey-more, work-taken, written-back}
use Rattle.gc_solo.proofs.Hands.{hand-grey}
use Rattle.gc_solo.proofs.heap.Heap.next_grey.Goals as goal

pub loop-t-init : goal.loop-t-init
loop-t-init c = record { rest = refl; same = refl; none = λ t below. absurd (omega (arith, below)) }

pub index_mut-requires : goal.index_mut-requires
index_mut-requires c =
    let bays = c.loop-t.self.bays in
    let there : c.loop-t.t < length c.args.self.now.bays.items =
    bay-inside c.loop-t.t c.requires.collecting.collecting (omega (arith, c.loop-t-test.true, c.mutators-t-end.ensures.mutators)) in
    omega (arith, there, ap (λ (list : List Bay). length list) c.loop-t.invariant.same, bays.ok.0, c.from.ensures)

pub returns-in-Some-clause-taken : goal.returns-in-Some-clause-taken
returns-in-Some-clause-taken c start after done stage kind_is idle collecting =
    let bays = c.loop-t.self.bays.items in
    let kept = kept_of c.args.self.now in
    let t = c.loop-t.t in
    let own = c.next_grey.new.self in
    let below : t < kept.layout.mutators = omega (arith, c.loop-t-test.true, c.mutators-t-end.ensures.mutators) in
    let there = bay-inside t collecting below in
    let same = c.loop-t.invariant.same in
    let value = rw (c.from.ensures, same) at c.index_mut.ensures.value in
    let read = bay_at-read kept.bays t c.index_mut.result.now there value in
    let changed : kept_of (record c.loop-t.self { bays = with_item c.loop-t.self.bays c.from.result own })
    ≡ record kept { bays = slice_set kept.bays t own } =
    ap (λ (heap : Heap). record (kept_of heap) { bays = slice_set bays c.from.result own }) c.loop-t.invariant.rest
    ∙ ap (λ (list : List Bay). record kept { bays = slice_set list c.from.result own }) same
    ∙ ap (λ (at : ℕ). record kept { bays = slice_set kept.bays at own }) c.from.ensures in
    subst
    (λ (each : Kept). (number : ℕ) × IsCollecting each start after done (with_in_hand stage number 0)
    × IsToTreat start after stage number c.in-Some.address)
    (sym changed)
    (hand-grey kept start after done stage t c.in-Some.address own own.grey idle collecting below
    (rw read at c.next_grey.ensures.rest) (rw read at c.in-Some.ensures.last) c.next_grey.ensures.bay)

pub returns-in-Some-clause-ends : goal.returns-in-Some-clause-ends
returns-in-Some-clause-ends c =
    let kept = kept_of c.args.self.now in
    let t = c.loop-t.t in
    let own = c.next_grey.new.self in
    let below : t < kept.layout.mutators = omega (arith, c.loop-t-test.true, c.mutators-t-end.ensures.mutators) in
    let there = bay-inside t c.requires.collecting.collecting below in
    let value = rw (c.from.ensures, c.loop-t.invariant.same) at c.index_mut.ensures.value in
    let read = bay_at-read kept.bays t c.index_mut.result.now there value in
    rw (c.loop-t.invariant.same, c.from.ensures)
    (work-taken kept.bays t c.in-Some.address own own.grey there (rw read at c.next_grey.ensures.rest) (rw read at c.in-Some.ensures.last))

pub loop-t-preserved : goal.loop-t-preserved
loop-t-preserved c =
    let bays = c.loop-t.self.bays.items in
    let t = c.loop-t.t in
    let own = c.next_grey.new.self in
    let outside : t < length c.args.self.now.bays.items =
    bay-inside t c.requires.collecting.collecting (omega (arith, c.loop-t-test.true, c.mutators-t-end.ensures.mutators)) in
    let there : t < length bays = omega (arith, outside, ap (λ (list : List Bay). length list) c.loop-t.invariant.same) in
    let value = rw c.from.ensures at c.index_mut.ensures.value in
    let back : slice_set bays c.from.result own ≡ bays =
    rw c.from.ensures (written-back bays t c.index_mut.result.now own there value c.in_default.ensures.unchanged) in
    record {
      rest = ap (λ (heap : Heap). record heap { bays = with_item c.loop-t.self.bays c.from.result own }) c.loop-t.invariant.rest;
      same = back ∙ c.loop-t.invariant.same;
      none = subst (λ (list : List Bay). NoneGrey list (t + 1)) (sym back)
          (none_grey-more bays t c.index_mut.result.now (bay_at-read bays t c.index_mut.result.now there value)
          (c.next_grey.ensures.none.0 (ap is_some c.in_default.is)) c.loop-t.invariant.none);
    }

pub returns-clause-none : goal.returns-clause-none
returns-clause-none c t below =
    c.loop-t.invariant.none t
    (omega (
      arith,
      below,
      c.loop-t-test.false,
      c.mutators-t-end.ensures.mutators,
      ap (λ (heap : Heap). heap.places.mutators) c.loop-t.invariant.rest,
    ))

pub returns-clause-unchanged : goal.returns-clause-unchanged
returns-clause-unchanged c =
    ap kept_of c.loop-t.invariant.rest
    ∙ ap (λ (list : List Bay). record (kept_of c.args.self.now) { bays = list }) c.loop-t.invariant.same
