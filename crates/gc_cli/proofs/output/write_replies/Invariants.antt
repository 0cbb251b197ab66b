-- what the sink has got so far
use Rattle.std.proofs.Common.{◌≡◌, ℕ, List, ◌++◌, drop}
use Rattle.gc_io.specs.Streams.{Appends}
use Rattle.gc_script.specs.Script.{number_of_line}
use Rattle.gc_cli.specs.Text.{lines_text, replies_text}
use Rattle.gc_cli.proofs.output.write_replies.Given as goal

-- the sink got the text of the replies so far
abbrev pub invariant-loop-index : goal.invariant-loop-index
invariant-loop-index g l = record {
  text : List ℕ;
  appended : Appends (g.K.Sink.written l.fn.out) (g.K.Sink.written l.out) text;
  whole : text ++ lines_text (number_of_line l.heading l.index) (drop l.index l.replies) ≡ replies_text l.heading l.replies;
  quiet : g.K.Sink.faults l.out ≡ g.K.Sink.faults l.fn.out;
}
