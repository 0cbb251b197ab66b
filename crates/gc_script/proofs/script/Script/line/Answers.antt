use Rattle.gc_script.specs.Laws.{IsReadLine}
use Rattle.gc_script.specs.Script.{IsFitLine, IsScriptLine}
use Rattle.gc_script.proofs.ListLemmas.{All-slice_get}
use Rattle.gc_script.proofs.OneSpelling.{read_back-again, read_back-lines, read_back-fit}
use Rattle.gc_script.proofs.script.Script.line.Goals as goal

pub returns-clause-read_back : goal.returns-clause-read_back
returns-clause-read_back c =
    rw (c.get.ensures, ← c.self.view_is)
    (All-slice_get (IsReadLine c.self.inside.preamble) c.self.inside.lines c.args.i
    (read_back-again _ c.self.invariant.read_back))

pub returns-clause-readable : goal.returns-clause-readable
returns-clause-readable c =
    rw (c.get.ensures, ← c.self.view_is)
    (All-slice_get (IsScriptLine c.self.inside.preamble) c.self.inside.lines c.args.i
    (read_back-lines _ c.self.invariant.read_back))

pub returns-clause-fit : goal.returns-clause-fit
returns-clause-fit c =
    rw (c.get.ensures, ← c.self.view_is)
    (All-slice_get (IsFitLine c.self.inside.preamble) c.self.inside.lines c.args.i
    (read_back-fit _ c.self.invariant.read_back))
