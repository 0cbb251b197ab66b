-- what the sink has got so far
use Rattle.std.proofs.Common.{◌≡◌, ◌+◌, List, ℕ, ◌++◌, drop}
use Rattle.gc_io.specs.Streams.{Appends}
use Rattle.gc_cli.specs.Text.{reports_from, reports_text}
use Rattle.gc_cli.proofs.output.write_reports.Given as goal

-- the sink got the text of the reports so far
abbrev pub invariant-loop-index : goal.invariant-loop-index
invariant-loop-index g l = record {
  text : List ℕ;
  appended : Appends (g.K.Sink.written l.fn.out) (g.K.Sink.written l.out) text;
  whole : text ++ reports_from (l.index + 1) (drop l.index l.reports) ≡ reports_text l.reports;
  quiet : g.K.Sink.faults l.out ≡ g.K.Sink.faults l.fn.out;
}
