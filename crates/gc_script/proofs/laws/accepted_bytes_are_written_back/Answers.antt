use Rattle.gc_script.proofs.OneSpelling.{one-spelling}
use Rattle.gc_script.proofs.laws.accepted_bytes_are_written_back.Goals as goal

pub returns : goal.returns
returns c = one-spelling
