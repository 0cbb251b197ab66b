use Rattle.std.proofs.Common.{◌-◌, ◌≤◌, ◌≡◌, vec_len}
use Rattle.gc_io.specs.Streams.{GivesUp}
use Rattle.gc_cli.proofs.input.read_input.Given as goal

-- the bytes so far are what the source has given
abbrev pub invariant-loop-bytes : goal.invariant-loop-bytes
invariant-loop-bytes g l = record {
  gave : GivesUp (g.S.Source.rest l.fn.src) (g.S.Source.rest l.src) l.bytes.items;
  few : vec_len l.bytes ≤ 16777217;
  room : vec_len l.room ≡ 65536;
  quiet : g.S.Source.faults l.src ≡ g.S.Source.faults l.fn.src;
}

abbrev pub decreases-loop-bytes : goal.decreases-loop-bytes
decreases-loop-bytes g l = 16777217 - vec_len l.bytes
