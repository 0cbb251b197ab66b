use Rattle.gc_script.proofs.OneSpelling.{read-back}
use Rattle.gc_script.proofs.laws.each_script_is_read_back.Goals as goal

pub returns : goal.returns
returns c = read-back
