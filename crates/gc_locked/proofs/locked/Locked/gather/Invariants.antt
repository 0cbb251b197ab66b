use Rattle.std.proofs.Common.{◌≡◌, ◌++◌, All, List, [], map}
use Rattle.gc_locked.specs.declared.view.Carried.{Carried}
use Rattle.gc_locked.specs.Locked.{IsPassOf, number_of}
use Rattle.gc_locked.specs.Rule.{free_view}
use Rattle.gc_locked.proofs.locked.Locked.gather.Given as goal

-- the seat carries the numbers of the passes that are taken
abbrev pub invariant-loop-pass : goal.invariant-loop-pass
invariant-loop-pass l = record {
  table : l.seat.table_id ≡ l.self.table;
  carried : List Carried;
  carries : l.seat.me ≡ (free_view carried, []);
  own : All (IsPassOf l.self) l.passes.items;
  all : map (λ pass. number_of l.self.setup pass.mutator pass.made) l.passes.items ++ carried
      ≡ map (λ pass. number_of l.self.setup pass.mutator pass.made) l.fn.passes.items;
}

-- a pass less each time
abbrev pub decreases-loop-pass : goal.decreases-loop-pass
decreases-loop-pass l = goal.left-loop-pass l
