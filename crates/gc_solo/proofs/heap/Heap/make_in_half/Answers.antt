use Rattle.std.proofs.Common.{◌≡◌, false, sym, ap, subst, ◌∙◌, arith, slice_set}
use Rattle.gc_bay.specs.Bay.{Bay}
use Rattle.gc_layout.specs.Places.{Layout}
use Rattle.gc_solo.specs.declared.heap.Heap.{Heap}
use Rattle.gc_solo.specs.Allocation.{HasMade}
use Rattle.gc_solo.specs.Kept.{bay_at, kept_of}
use Rattle.gc_solo.proofs.Allocation.{TookExtent, layout-read, made-new, size-read, took-words, with_more}
use Rattle.gc_solo.proofs.Registers.{bay-read, with_registers}
use Rattle.gc_solo.proofs.heap.Heap.make_in_half.Goals as goal

pub returns-clause-made : goal.returns-clause-made
returns-clause-made c placement world ready made =
    let kept = kept_of c.args.self.now in
    let t = c.args.t in
    let read = c.index_mut-bay.result.now in
    let mid = c.bump.new.self in
    let address = c.in-Some.address in
    let size = c.size-size.result in
    let bump = c.in-Some.ensures in
    let size_is =
    size-read kept.types c.args.ty.0 size c.shape.result c.unwrap.result c.shape.ensures.value c.unwrap.ensures c.size-size.ensures in
    let own : read ≡ bay_at kept.bays t =
    bay-read kept placement world t c.from.result read ready c.from.ensures c.index_mut-bay.ensures.value in
    let took : TookExtent (bay_at kept.bays t) mid address size false =
    subst (λ (each : Bay). TookExtent each mid address size false) own
    (took-words read mid size address (omega (arith, size_is)) bump.address bump.fresh bump.used bump.bay) in
    let named : c.set_reg.new.self ≡ with_registers mid (slice_set mid.registers c.args.into address) =
    rw c.index.ensures.index at c.set_reg.ensures.register in
    subst (λ (heap : Heap). HasMade kept (kept_of heap) placement world t c.args.into c.args.ty.0) (sym c.write_fresh.ensures.rest)
    (rw c.from.ensures
    (made-new kept placement world t c.args.into address size c.args.ty false c.write_fresh.new.self.words.items mid c.set_reg.new.self
    ready (omega (arith, c.index.ensures.index, c.index.ensures.below)) c.requires.known size_is took named c.set_reg.ensures.bay
    c.write_fresh.ensures.written c.write_fresh.ensures.count))

pub returns-clause-fits : goal.returns-clause-fits
returns-clause-fits c made =
    let kept = kept_of c.args.self.now in
    let t = c.args.t in
    let some = c.requires.ready in
    let read = c.index_mut-bay.result.now in
    let size = c.size-size.result in
    let size_is =
    size-read kept.types c.args.ty.0 size c.shape.result c.unwrap.result c.shape.ensures.value c.unwrap.ensures c.size-size.ensures in
    let own : read ≡ bay_at kept.bays t =
    bay-read kept some.placement some.world t c.from.result read some.ready c.from.ensures c.index_mut-bay.ensures.value in
    let taken : c.bump.new.self ≡ with_more (bay_at kept.bays t) size =
    c.in-Some.ensures.used ∙ ap (λ (each : Bay). with_more each size) own in
    omega (
      arith,
      c.in-Some.ensures.bay.used,
      ap (λ (each : Bay). each.used) taken,
      ap (λ (each : Bay). each.layout.nursery) taken,
      ap (λ (each : Layout). each.nursery) (layout-read kept some.placement some.world t some.ready),
      size_is,
    )
