use Rattle.std.proofs.Common.{◌≡◌, ◌+◌, ◌≤◌, ℕ, [], length, vec_capacity}
use Rattle.gc_locked.specs.Locked.{ArePassesFrom, locked_by}
use Rattle.gc_locked.specs.Rule.{free_view, numbers_from}
use Rattle.gc_locked.specs.Setup.{mutators_of}
use Rattle.gc_locked.proofs.pass.deal.Given as goal

-- the mutators so far have a pass, and the seat carries the numbers of the others
abbrev pub invariant-loop-mutator : goal.invariant-loop-mutator
invariant-loop-mutator l = record {
  table : l.seat.table_id ≡ l.table.shared.table_id;
  left : ℕ;
  all : l.mutator + left ≡ mutators_of l.table.shared.key;
  carries : l.seat.me ≡ (free_view (numbers_from l.table.shared.key l.mutator left), []);
  count : length l.passes.items ≡ l.mutator;
  passes : ArePassesFrom (locked_by l.table.shared.table_id l.table.shared.key) 0 l.passes.items;
  memory : l.mutators ≤ vec_capacity l.passes;
}
