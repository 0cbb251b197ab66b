use Rattle.std.proofs.Common.{◌≡◌, ◌+◌, ◌≤◌, length, sum_by, take}
use Rattle.gc_model.specs.History.{History, allowance_of, replies_in}
use Rattle.gc_model.specs.declared.call.Line.{Line}
use Rattle.gc_solo.specs.Kept.{IsSameHeap}
use Rattle.gc_solo.specs.Stands.{StandsFor}
use Rattle.gc_cli.specs.Played.{HasMade}
use Rattle.gc_cli.proofs.play.play_lines.Given as goal

-- behind each history the heap stands for the lines so far, with the replies that are listed
abbrev pub invariant-loop-index : goal.invariant-loop-index
invariant-loop-index l = record {
  played : (history : History) → StandsFor l.fn.solo history
      → (more : History) × HasMade l.solo history more (take l.index l.script.lines) × (replies_in more ≡ l.replies.list);
  same : IsSameHeap l.fn.solo l.solo;
  places : l.fn.solo.room ≤ l.solo.room + sum_by (λ (line : Line). allowance_of line.call) (take l.index l.script.lines);
  answered : length l.replies.list ≡ l.index;
  room : l.replies.room ≡ l.fn.replies.room;
}
