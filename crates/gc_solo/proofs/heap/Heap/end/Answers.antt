use Rattle.std.proofs.Common.{◌≡◌, refl, ◌∙◌, ap, arith}
use Rattle.gc_bay.specs.Bay.{Bay}
use Rattle.gc_solo.specs.Kept.{bay_at, kept_of}
use Rattle.gc_solo.proofs.Registers.{bay-read, shown-end, with_registers}
use Rattle.gc_solo.proofs.heap.Heap.end.Goals as goal

pub returns-clause-answered : goal.returns-clause-answered
returns-clause-answered c placement world ready =
    let kept = kept_of c.args.self.now in
    let old = bay_at kept.bays c.args.t in
    let bay = c.loop-reg.bay in
    let read : c.index_mut-bay.result.now ≡ old =
    bay-read kept placement world c.args.t c.from.result c.index_mut-bay.result.now ready c.from.ensures c.index_mut-bay.ensures.value in
    let rest : bay ≡ with_registers old bay.registers =
    c.loop-reg.invariant.rest ∙ ap (λ (each : Bay). with_registers each bay.registers) read in
    record {
      reply_is = refl;
      placement = placement;
      shown = rw (c.from.ensures, c.from-2.ensures)
          (shown-end kept placement world c.args.t bay ready c.loop-reg.invariant.is_bay rest
          (λ reg below. c.loop-reg.invariant.nothing reg (omega arith)));
    }
