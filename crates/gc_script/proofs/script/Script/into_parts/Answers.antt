use Rattle.gc_script.proofs.OneSpelling.{read_back-fit}
use Rattle.gc_script.proofs.script.Script.into_parts.Goals as goal

pub returns-clause-fit : goal.returns-clause-fit
returns-clause-fit c = rw (← c.self.view_is) (read_back-fit _ c.self.invariant.read_back)
