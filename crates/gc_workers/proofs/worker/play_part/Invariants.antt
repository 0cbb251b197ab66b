use Rattle.std.proofs.Common.{◌≡◌, length, take}
use Rattle.gc_locked.specs.Locked.{IsPassOf}
use Rattle.gc_locked.specs.Setup.{lines_of}
use Rattle.gc_model.specs.History.{calls_in}
use Rattle.gc_workers.proofs.worker.play_part.Given as goal

-- the mutator made its calls of the lines so far
abbrev pub invariant-loop-index : goal.invariant-loop-index
invariant-loop-index g l = record {
  own : IsPassOf l.locked l.pass;
  table : l.pass.table ≡ l.fn.pass.table;
  mutator : l.pass.mutator ≡ l.fn.pass.mutator;
  made : l.pass.made ≡ length (calls_in l.pass.mutator (take l.index (lines_of l.locked.setup)));
}
