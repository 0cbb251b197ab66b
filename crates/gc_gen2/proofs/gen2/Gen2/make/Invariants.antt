use Rattle.std.proofs.Common.{◌≡◌, ◌≤◌, replicate, vec_capacity}
use Rattle.gc_gen2.specs.Page.{free_page}
use Rattle.gc_gen2.proofs.gen2.Gen2.make.Given as goal

abbrev pub invariant-loop : goal.invariant-loop
invariant-loop l = record { bare : l.bare.items ≡ replicate l.counter free_page; room : l.pages ≤ vec_capacity l.bare }
