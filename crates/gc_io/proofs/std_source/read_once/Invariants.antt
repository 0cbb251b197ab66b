-- the reads so far were interrupted, so nothing is gone from the reader
use Rattle.std.proofs.Common.{◌≡◌, length}
use Rattle.std.specs.Io.KnownBytes.{Keeps}
use Rattle.gc_io.proofs.std_source.read_once.Given as goal

abbrev pub invariant-loop : goal.invariant-loop
invariant-loop g l =
    (length l.room ≡ length l.initial.room) × Keeps (g.R.Read.remaining l.initial.reader) (g.R.Read.remaining l.reader)
