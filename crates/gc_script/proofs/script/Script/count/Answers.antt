use Rattle.gc_script.proofs.OneSpelling.{read_back-lines, read_back-fit}
use Rattle.gc_script.proofs.script.Script.count.Goals as goal

pub returns-clause-lines : goal.returns-clause-lines
returns-clause-lines c = rw (← c.self.view_is) (read_back-lines _ c.self.invariant.read_back)

pub returns-clause-fit : goal.returns-clause-fit
returns-clause-fit c = rw (← c.self.view_is) (read_back-fit _ c.self.invariant.read_back)
