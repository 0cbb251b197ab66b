use Rattle.std.proofs.Common.{◌≡◌, ℕ, List, ◌+◌, ◌++◌, drop}
use Rattle.gc_io.specs.Streams.{Appends}
use Rattle.gc_script.specs.Written.{types_text, declared_shapes}
use Rattle.gc_script.proofs.write.write_types.Given as goal

-- the sink got the lines of the types so far
abbrev pub invariant-loop-index : goal.invariant-loop-index
invariant-loop-index g l = record {
  text : List ℕ;
  got : Appends (g.K.Sink.written l.fn.out) (g.K.Sink.written l.out) text;
  left : text ++ types_text (drop l.index l.preamble.names) (drop (l.index + 1) l.preamble.types)
      ≡ types_text l.preamble.names (declared_shapes l.preamble.types);
  quiet : g.K.Sink.faults l.out ≡ g.K.Sink.faults l.fn.out;
}
