use Rattle.std.proofs.Common.{not, false, inl, inr, sym, arith}
use Rattle.gc_gen2.proofs.ListLemmas.{count_by-cases}
use Rattle.gc_gen2.proofs.page.PageCells.take_first.Goals as goal

pub unwrap-number-requires : goal.unwrap-number-requires
unwrap-number-requires c =
    elim (count_by-cases not c.args.self.now.used false c.first_free.result (sym c.first_free.ensures)) [
      | inl free ↦ free.0
      | inr full ↦ absurd (omega (arith, full.1))
    ]
