use Rattle.std.proofs.Common.{refl, subst}
use Rattle.gc_io.specs.Streams.{Appends, AppendsPrefix}
use Rattle.gc_script.specs.Script.{Script}
use Rattle.gc_script.specs.Written.{written}
use Rattle.gc_cli.proofs.modes.make.Goals as goal

-- what is written is the script that was made, and that is the generated one
pub returns-in-All-clause-done : goal.returns-in-All-clause-done
returns-in-All-clause-done g c done =
    subst (λ (script : Script). Appends (g.K.Sink.written c.args.out.now) (g.K.Sink.written c.write_script.new.out) (written script))
    c.in-Ok.ensures (c.in-All.ensures.all refl)

pub returns-clause-write_part : goal.returns-clause-write_part
returns-clause-write_part g c fault =
    subst (λ (script : Script). AppendsPrefix (g.K.Sink.written c.args.out.now) (g.K.Sink.written c.write_script.new.out) (written script))
    c.in-Ok.ensures (c.in-Failed.ensures.part refl)
