use Rattle.std.proofs.Common.{◌≡◌, ℕ, List, ◌++◌, drop}
use Rattle.std.specs.List.{flat_map}
use Rattle.gc_io.specs.Streams.{Appends}
use Rattle.gc_script.specs.Written.{call_text}
use Rattle.gc_script.proofs.write.write_calls.Given as goal

-- the sink got the call lines so far
abbrev pub invariant-loop-index : goal.invariant-loop-index
invariant-loop-index g l = record {
  text : List ℕ;
  got : Appends (g.K.Sink.written l.fn.out) (g.K.Sink.written l.out) text;
  left : text ++ flat_map (call_text l.s.preamble.names) (drop l.index l.s.lines) ≡ flat_map (call_text l.s.preamble.names) l.s.lines;
  quiet : g.K.Sink.faults l.out ≡ g.K.Sink.faults l.fn.out;
}
