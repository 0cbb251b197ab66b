use Rattle.std.proofs.Common.{arith}
use Rattle.gc_script.specs.Generated.{generated}
use Rattle.gc_script.proofs.GeneratedLemmas.{generated-read_back, generated-few}
use Rattle.gc_script.proofs.generate.make_script.Goals as goal

pub new-requires-clause-few : goal.new-requires-clause-few
new-requires-clause-few c = rw c.in-Ok.ensures (generated-few c.args.rounds c.requires.few)

pub new-requires-clause-read_back : goal.new-requires-clause-read_back
unfolding generated
new-requires-clause-read_back c =
    rw (c.in_ok-preamble.ensures, c.in-Ok.ensures) (generated-read_back c.args.rounds (omega (arith, c.requires.few)))

pub returns-in-Ok : goal.returns-in-Ok
unfolding generated
returns-in-Ok c = rw (c.in_ok-preamble.ensures, c.in-Ok.ensures) at c.new.ensures
