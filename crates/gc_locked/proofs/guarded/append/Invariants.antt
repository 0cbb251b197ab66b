use Rattle.std.proofs.Common.{◌≡◌, ◌++◌, ◌-◌, vec_capacity}
use Rattle.std.specs.List.{range_with_len}
use Rattle.gc_locked.proofs.guarded.append.Given as goal

-- the places so far are appended
abbrev pub invariant-loop-place : goal.invariant-loop-place
invariant-loop-place l = record {
  places : l.order.items ≡ l.fn.order.items ++ range_with_len l.first (l.place - l.first);
  memory : vec_capacity l.order ≡ vec_capacity l.fn.order;
}
