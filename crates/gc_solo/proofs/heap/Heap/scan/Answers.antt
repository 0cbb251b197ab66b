use Rattle.std.proofs.Common.{◌≡◌, ap, arith, refl, subst, sym}
use Rattle.gc_model.specs.World.{slot_at}
use Rattle.gc_solo.specs.declared.heap.Heap.{Heap}
use Rattle.gc_solo.specs.Collecting.{Holds, with_in_hand, work_left}
use Rattle.gc_solo.specs.Kept.{kept_of}
use Rattle.gc_solo.proofs.Changed.{changed-then, changed-words}
use Rattle.gc_solo.proofs.Scanned.{scanned-all, scanned_to-more, scanned_to-none, slot-in_hand, slot-stays_inside}
use Rattle.gc_solo.proofs.Slots.{kept-known, kept-starts}
use Rattle.gc_solo.proofs.heap.Heap.scan.Goals as goal

pub shape_of-slots-requires : goal.shape_of-slots-requires
shape_of-slots-requires c =
    let some = c.requires.collecting in
    let hand = with_in_hand some.3 some.4 0 in
    let kept = kept_of c.args.self.now in
    record {
      header = kept-known kept some.0 some.1 some.2 hand some.4 c.args.address some.6 some.7.at;
      there = kept-starts kept some.0 some.1 some.2 hand some.4 c.args.address some.6 some.7.at;
    }

pub loop-place-init : goal.loop-place-init
loop-place-init c = record {
  rest = refl;
  scanned = scanned_to-none c.args.kind (kept_of c.args.self.now) c.args.address;
  less = omega arith;
}

pub overflow_add-slot : goal.overflow_add-slot
overflow_add-slot c =
    let some = c.requires.collecting in
    let slot = slot-in_hand (kept_of c.args.self.now) (kept_of c.loop-place.self) some.0 some.1 some.2 some.3 some.4 c.args.address
    c.loop-place.place c.shape_of-slots.result some.6 some.7 c.shape_of-slots.ensures
    (omega (arith, c.from-place-end.ensures, c.loop-place-test.true))
    (c.loop-place.invariant.scanned some.0 some.1 some.2 some.3 some.4 some.5 some.6 some.7) in
    omega (arith, slot.inside, slot.few)

pub overflow_add-slot-in-loop-place : goal.overflow_add-slot-in-loop-place
overflow_add-slot-in-loop-place c =
    let some = c.requires.collecting in
    let slot = slot-in_hand (kept_of c.args.self.now) (kept_of c.loop-place.self) some.0 some.1 some.2 some.3 some.4 c.args.address
    c.loop-place.place c.shape_of-slots.result some.6 some.7 c.shape_of-slots.ensures
    (omega (arith, c.from-place-end.ensures, c.loop-place-test.true))
    (c.loop-place.invariant.scanned some.0 some.1 some.2 some.3 some.4 some.5 some.6 some.7) in
    omega (arith, slot.inside, slot.few)

pub word-requires : goal.word-requires
word-requires c =
    let some = c.requires.collecting in
    let slot = slot-in_hand (kept_of c.args.self.now) (kept_of c.loop-place.self) some.0 some.1 some.2 some.3 some.4 c.args.address
    c.loop-place.place c.shape_of-slots.result some.6 some.7 c.shape_of-slots.ensures
    (omega (arith, c.from-place-end.ensures, c.loop-place-test.true))
    (c.loop-place.invariant.scanned some.0 some.1 some.2 some.3 some.4 some.5 some.6 some.7) in
    slot.inside

pub forward-kept-requires : goal.forward-kept-requires
forward-kept-requires c =
    let some = c.requires.collecting in
    let place = c.loop-place.place in
    let gone = c.loop-place.invariant.scanned some.0 some.1 some.2 some.3 some.4 some.5 some.6 some.7 in
    let slot = slot-in_hand (kept_of c.args.self.now) (kept_of c.loop-place.self) some.0 some.1 some.2 some.3 some.4 c.args.address
    place c.shape_of-slots.result some.6 some.7 c.shape_of-slots.ensures
    (omega (arith, c.from-place-end.ensures, c.loop-place-test.true)) gone in
    let name = slot_at some.0.world some.4 place in
    record {
      collecting = (
        some.0,
        gone.placement,
        gone.now_done,
        with_in_hand some.3 some.4 place,
        name,
        some.5,
        gone.collecting,
        subst (Holds some.0 name) (sym c.word.ensures) slot.holds,
      );
    }

pub store-requires : goal.store-requires
store-requires c =
    let some = c.requires.collecting in
    slot-stays_inside c.args.kind (kept_of c.args.self.now) (kept_of c.loop-place.self) (kept_of c.forward-kept.new.self) some.0 some.1
    some.2 some.3 some.4 c.args.address c.loop-place.place c.word.result c.forward-kept.result c.shape_of-slots.result some.5 some.6
    some.7 c.shape_of-slots.ensures (omega (arith, c.from-place-end.ensures, c.loop-place-test.true))
    (c.loop-place.invariant.scanned some.0 some.1 some.2 some.3 some.4 some.5 some.6 some.7) c.word.ensures c.forward-kept.ensures.forwarded

pub loop-place-preserved : goal.loop-place-preserved
loop-place-preserved c =
    let now = c.forward-kept.new.self in
    let work : work_left c.store.new.self.bays.items ≡ work_left now.bays.items =
    ap (λ (heap : Heap). work_left heap.bays.items) c.store.ensures.rest in
    record {
      rest = changed-then c.args.self.now c.loop-place.self c.store.new.self c.loop-place.invariant.rest
          (changed-then c.loop-place.self now c.store.new.self c.forward-kept.ensures.rest
          (changed-words now c.store.new.self c.store.ensures.rest));
      scanned = scanned_to-more c.args.kind (kept_of c.args.self.now) (kept_of c.loop-place.self) (kept_of now) (kept_of c.store.new.self)
          c.args.address c.loop-place.place c.word.result c.forward-kept.result c.shape_of-slots.result c.loop-place.invariant.scanned
          c.shape_of-slots.ensures (omega (arith, c.from-place-end.ensures, c.loop-place-test.true)) c.word.ensures
          c.forward-kept.ensures.forwarded (ap kept_of c.store.ensures.rest) c.store.ensures.count c.store.ensures.stored;
      less = omega (arith, work, c.forward-kept.ensures.ends, c.loop-place.invariant.less);
    }

pub returns-clause-scanned : goal.returns-clause-scanned
returns-clause-scanned c start after done stage number kind_is idle collecting treat =
    let old = kept_of c.args.self.now in
    scanned-all old (kept_of c.loop-place.self) start after done stage number c.args.address c.loop-place.place c.shape_of-slots.result
    idle collecting treat c.shape_of-slots.ensures (omega (arith, c.from-place-end.ensures, c.loop-place-test.false))
    (c.loop-place.invariant.scanned start after done stage number kind_is collecting treat)
