use Rattle.std.proofs.Common.{◌≡◌, arith, slice_set}
use Rattle.gc_solo.specs.Kept.{bay_at, kept_of}
use Rattle.gc_solo.proofs.Registers.{bay-read, shown-register, with_registers}
use Rattle.gc_solo.proofs.heap.Heap.set_register.Goals as goal

pub returns-clause-named : goal.returns-clause-named
returns-clause-named c placement world name ready address_is named =
    let kept = kept_of c.args.self.now in
    let old = bay_at kept.bays c.args.t in
    let read : c.index_mut.result.now ≡ old =
    bay-read kept placement world c.args.t c.from.result c.index_mut.result.now ready c.from.ensures c.index_mut.ensures.value in
    let set : c.set_reg.new.self ≡ with_registers old (slice_set old.registers c.args.reg c.args.address) =
    rw (read, c.index.ensures.index) at c.set_reg.ensures.register in
    rw c.from.ensures (shown-register kept placement world c.args.t c.args.reg c.args.address c.set_reg.new.self name ready
    c.set_reg.ensures.bay set (omega (arith, c.index.ensures.index, c.index.ensures.below)) address_is named)
