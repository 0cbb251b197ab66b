use Rattle.std.proofs.Common.{◌≡◌, Err}
use Rattle.gc_script.specs.declared.fault.ScriptFault.TheVariants.{Bad}
use Rattle.gc_cli.proofs.modes.read_source.Goals as goal

pub returns-in-Err-Bad-clause-fault : goal.returns-in-Err-Bad-clause-fault
returns-in-Err-Bad-clause-fault g c =
    let line = c.in-Err-Bad.line in
    let cause = c.in-Err-Bad.cause in
    let is : c.read_script.result ≡ Err (Bad line cause) = cc in
    let bad = c.read_script.ensures.bad line cause is in
    (c.as_slice.result.now, record { read = rw c.as_slice.ensures.value c.in-Ok.ensures.read; first = bad.1 })
