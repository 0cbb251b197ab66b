use Rattle.std.proofs.Common.{◌≡◌, ◌≤◌, length}
use Rattle.std.specs.Prelude.{All}
use Rattle.gc_bay.proofs.tests.fill_remembered.Given as goal

-- so many addresses are listed, none above that number
abbrev pub invariant-loop-a : goal.invariant-loop-a
invariant-loop-a l = record {
  count : length l.bay.remembered ≡ l.a;
  below : All (λ x. x ≤ l.a) l.bay.remembered;
  layout : l.bay.layout ≡ l.initial.bay.layout;
}
