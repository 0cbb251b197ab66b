use Rattle.std.proofs.Common.{◌≡◌, ℕ, refl, true, sym, subst, arith, slice_set}
use Rattle.gc_bay.specs.Bay.{Bay}
use Rattle.gc_placement.specs.Promotion.{HasNoCell}
use Rattle.gc_solo.specs.declared.heap.Heap.{Heap}
use Rattle.gc_solo.specs.Allocation.{HasMade}
use Rattle.gc_solo.specs.Kept.{bay_at, kept_of}
use Rattle.gc_solo.proofs.Allocation.{TookExtent, made-new, size-read, took-cell}
use Rattle.gc_solo.proofs.Registers.{bay-read, with_registers}
use Rattle.gc_solo.proofs.heap.Heap.make_in_cell.Goals as goal

pub returns-in_default-clause-full : goal.returns-in_default-clause-full
returns-in_default-clause-full c full =
    let kept = kept_of c.args.self.now in
    let t = c.args.t in
    let some = c.requires.ready in
    let read = c.index_mut-bay.result.now in
    let size = c.size-size.result in
    let size_is =
    size-read kept.types c.args.ty.0 size c.shape.result c.unwrap.result c.shape.ensures.value c.unwrap.ensures c.size-size.ensures in
    let own : read ≡ bay_at kept.bays t =
    bay-read kept some.placement some.world t c.from.result read some.ready c.from.ensures c.index_mut-bay.ensures.value in
    let none = c.in_default.ensures.none.0 refl in
    let at_read : HasNoCell read size = record { cells = none.0; pages = none.1 } in
    subst (λ (each : ℕ). HasNoCell (bay_at kept.bays t) each) size_is
    (subst (λ (each : Bay). HasNoCell each size) own at_read)

pub returns-clause-made : goal.returns-clause-made
returns-clause-made c placement world ready made =
    let kept = kept_of c.args.self.now in
    let t = c.args.t in
    let read = c.index_mut-bay.result.now in
    let mid = c.cell.new.self in
    let address = c.in-Some.address in
    let size = c.size-size.result in
    let cell = c.in-Some.ensures in
    let size_is =
    size-read kept.types c.args.ty.0 size c.shape.result c.unwrap.result c.shape.ensures.value c.unwrap.ensures c.size-size.ensures in
    let own : read ≡ bay_at kept.bays t =
    bay-read kept placement world t c.from.result read ready c.from.ensures c.index_mut-bay.ensures.value in
    let took : TookExtent (bay_at kept.bays t) mid address size true =
    subst (λ (each : Bay). TookExtent each mid address size true) own
    (took-cell read mid size address cell.address cell.fresh cell.takes cell.rest cell.bay) in
    let named : c.set_reg.new.self ≡ with_registers mid (slice_set mid.registers c.args.into address) =
    rw c.index.ensures.index at c.set_reg.ensures.register in
    subst (λ (heap : Heap). HasMade kept (kept_of heap) placement world t c.args.into c.args.ty.0) (sym c.write_fresh.ensures.rest)
    (rw c.from.ensures
    (made-new kept placement world t c.args.into address size c.args.ty true c.write_fresh.new.self.words.items mid c.set_reg.new.self
    ready (omega (arith, c.index.ensures.index, c.index.ensures.below)) c.requires.known size_is took named c.set_reg.ensures.bay
    c.write_fresh.ensures.written c.write_fresh.ensures.count))
