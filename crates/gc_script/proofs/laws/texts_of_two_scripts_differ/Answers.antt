use Rattle.gc_script.proofs.OneSpelling.{texts-differ}
use Rattle.gc_script.proofs.laws.texts_of_two_scripts_differ.Goals as goal

pub returns : goal.returns
returns c = texts-differ _ _ c.preamble-preamble.ensures.read_back c.preamble-other.ensures.read_back
