use Rattle.std.proofs.Common.{not, false, inl, inr, ap, sym, ◌∙◌, arith}
use Rattle.std.proofs.lemmas.Bool.{not-false, true≢false}
use Rattle.gc_gen2.proofs.ListLemmas.{count_by-cases}
use Rattle.gc_gen2.proofs.page.PageCells.is_full.Goals as goal

pub returns : goal.returns
returns c =
    elim (count_by-cases not c.args.self.now.used false c.first_free.result (sym c.first_free.ensures)) [
      | inl free ↦ ((λ full. absurd (true≢false (sym free.0 ∙ c.is_none.ensures ∙ ap not full))), λ none. absurd (omega (arith, free.1)))
      | inr full ↦ ((λ _. full.1), λ _. not-false c.is_none.result (sym c.is_none.ensures ∙ full.0))
    ]
