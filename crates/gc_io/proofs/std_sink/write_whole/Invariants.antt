-- what is gone from the piece was appended
use Rattle.std.proofs.Common.{◌≡◌, ℕ, ◌≤◌, length, take, drop}
use Rattle.std.specs.Io.KnownBytes.{Appends}
use Rattle.gc_io.proofs.std_sink.write_whole.Given as goal

abbrev pub invariant-loop : goal.invariant-loop
invariant-loop g l =
    (count : ℕ) × (count ≤ length l.piece) × (l.rest ≡ drop count l.piece)
    × Appends (g.W.Write.contents l.initial.writer) (g.W.Write.contents l.writer) (take count l.piece)
