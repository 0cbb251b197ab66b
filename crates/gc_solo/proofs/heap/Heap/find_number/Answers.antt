use Rattle.std.proofs.Common.{arith}
use Rattle.gc_solo.specs.Kept.{kept_of}
use Rattle.gc_solo.proofs.Fields.{number-found, number-missing}
use Rattle.gc_solo.proofs.Placed.{register-small}
use Rattle.gc_solo.proofs.heap.Heap.find_number.Goals as goal

pub overflow_add-result : goal.overflow_add-result
overflow_add-result c =
    omega (
      arith,
      register-small (kept_of c.args.self.now) c.args.t c.args.base c.register-address.result c.requires.ready
          c.register-address.ensures,
    )

pub overflow_add-result-2 : goal.overflow_add-result-2
overflow_add-result-2 c =
    omega (
      arith,
      register-small (kept_of c.args.self.now) c.args.t c.args.base c.register-address.result c.requires.ready
          c.register-address.ensures,
    )

pub returns-then-place-shape-clause-refused : goal.returns-then-place-shape-clause-refused
returns-then-place-shape-clause-refused c placement world ready =
    number-missing (kept_of c.args.self.now) placement world c.args.t c.args.base c.args.place c.register-address.result
    c.shape_at-shape.result ready c.register-address.ensures c.if-address-eq0.false
    (λ number. c.shape_at-shape.ensures c.args.t placement world number ready) c.if-place-shape.true

pub returns-clause-address : goal.returns-clause-address
returns-clause-address c placement world ready =
    number-found (kept_of c.args.self.now) placement world c.args.t c.args.base c.args.place c.register-address.result _
    c.shape_at-shape.result ready c.register-address.ensures c.if-address-eq0.false
    (λ number. c.shape_at-shape.ensures c.args.t placement world number ready) c.if-place-shape.false
    (omega (arith, c.first_number.ensures, c.from.ensures))
