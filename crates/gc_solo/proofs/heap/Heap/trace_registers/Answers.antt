use Rattle.std.proofs.Common.{◌<◌, arith, refl}
use Rattle.std.specs.Vec.{with_item}
use Rattle.gc_model.specs.World.{named_by}
use Rattle.gc_solo.specs.declared.heap.Heap.{Heap}
use Rattle.gc_solo.specs.Collecting.{first_stage}
use Rattle.gc_solo.specs.Kept.{kept_of}
use Rattle.gc_solo.proofs.Changed.{changed-bays, changed-then}
use Rattle.gc_solo.proofs.RootRegisters.{forwarded-bay, traced-bay, traced-holds, traced_to-more, traced_to-next}
use Rattle.gc_solo.proofs.heap.Heap.trace_registers.Goals as goal

pub loop-t-init : goal.loop-t-init
loop-t-init c = record { rest = refl; traced = λ start kind_is traced. traced }

pub loop-reg-init : goal.loop-reg-init
loop-reg-init c = record { rest = c.loop-t.invariant.rest; traced = c.loop-t.invariant.traced }

pub index-requires : goal.index-requires
index-requires c =
    let some = c.requires.collecting in
    let bays = c.loop-reg.self.bays in
    let there = traced-bay c.args.kind (kept_of c.args.self.now) (kept_of c.loop-reg.self) some.0 c.loop-t.t c.loop-reg.reg some.1 some.2
    (omega (arith, c.loop-t-test.true, c.mutators-t-end.ensures.mutators)) c.loop-reg.invariant.traced in
    omega (arith, there, bays.ok.0, c.from.ensures)

pub forward-kept-requires : goal.forward-kept-requires
forward-kept-requires c =
    let some = c.requires.collecting in
    let traced = c.loop-reg.invariant.traced some.0 some.1 some.2 in
    let holds = traced-holds c.args.kind (kept_of c.args.self.now) (kept_of c.loop-reg.self) some.0 c.loop-t.t c.loop-reg.reg c.from.result
    c.reg-address.result c.index.result.now some.1 some.2 (omega (arith, c.loop-t-test.true, c.mutators-t-end.ensures.mutators))
    c.loop-reg.invariant.traced c.from.ensures c.index.ensures c.reg-address.ensures in
    record {
      collecting = (
        some.0,
        traced.placement,
        traced.done,
        first_stage some.0,
        named_by some.0.world c.loop-t.t c.loop-reg.reg,
        some.1,
        traced.collecting,
        holds,
      );
    }

pub index_mut-requires : goal.index_mut-requires
index_mut-requires c =
    let some = c.requires.collecting in
    let old = kept_of c.args.self.now in
    let kept = kept_of c.loop-reg.self in
    let t = c.loop-t.t in
    let reg = c.loop-reg.reg in
    let below : t < c.args.self.now.places.mutators = omega (arith, c.loop-t-test.true, c.mutators-t-end.ensures.mutators) in
    let holds = traced-holds c.args.kind old kept some.0 t reg c.from.result c.reg-address.result c.index.result.now some.1 some.2 below
    c.loop-reg.invariant.traced c.from.ensures c.index.ensures c.reg-address.ensures in
    let there = forwarded-bay c.args.kind old kept (kept_of c.forward-kept.new.self) some.0 t reg c.reg-address.result
    c.forward-kept.result some.1 some.2 below c.loop-reg.invariant.traced holds c.forward-kept.ensures.forwarded in
    omega (arith, there, c.forward-kept.new.self.bays.ok.0, c.from-in-loop-reg.ensures)

pub loop-reg-preserved : goal.loop-reg-preserved
loop-reg-preserved c =
    let old = c.args.self.now in
    let now = c.loop-reg.self in
    let mid = c.forward-kept.new.self in
    let set : Heap = record mid { bays = with_item mid.bays c.from-in-loop-reg.result c.set_reg.new.self } in
    record {
      rest = changed-then old now set c.loop-reg.invariant.rest
          (changed-then now mid set c.forward-kept.ensures.rest (changed-bays mid set refl));
      traced = traced_to-more c.args.kind (kept_of old) (kept_of now) (kept_of mid) c.loop-t.t c.loop-reg.reg c.from.result
          c.from-in-loop-reg.result c.reg-address.result c.forward-kept.result c.index.result.now c.index_mut.result.now
          c.set_reg.new.self (omega (arith, c.loop-t-test.true, c.mutators-t-end.ensures.mutators)) c.loop-reg-test.true
          c.loop-reg.invariant.traced c.from.ensures c.index.ensures c.reg-address.ensures c.forward-kept.ensures.forwarded
          c.from-in-loop-reg.ensures c.index_mut.ensures.value c.set_reg.ensures.register c.set_reg.ensures.bay;
    }

pub loop-t-preserved : goal.loop-t-preserved
loop-t-preserved c = record {
  rest = c.loop-reg.invariant.rest;
  traced = traced_to-next c.args.kind (kept_of c.args.self.now) (kept_of c.loop-reg.self) c.loop-t.t c.loop-reg.reg c.loop-reg-test.false
      c.loop-reg.invariant.traced;
}
