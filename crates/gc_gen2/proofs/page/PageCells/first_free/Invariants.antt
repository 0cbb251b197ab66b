use Rattle.gc_gen2.proofs.FreeSetLemmas.{NoneBefore}
use Rattle.gc_gen2.proofs.page.PageCells.first_free.Given as goal

abbrev pub invariant-loop-i : goal.invariant-loop-i
invariant-loop-i l = NoneBefore l.word-items l.i
