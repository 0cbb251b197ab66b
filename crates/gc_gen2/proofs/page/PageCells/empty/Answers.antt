use Rattle.std.proofs.Common.{◌≡◌, Some, List, [], ◌∷◌, Bool, ap, ◌∙◌}
use Rattle.gc_gen2.specs.Class.{cells_in}
use Rattle.gc_gen2.specs.FreeSet.{used_of}
use Rattle.gc_gen2.proofs.FreeSetLemmas.{IsFreeSet-first_ones, used_of-first_ones, first_ones}
use Rattle.gc_gen2.proofs.page.PageCells.empty.Goals as goal

pub invariant_of-result : goal.invariant_of-result
invariant_of-result c =
    let words : (c.ones.result ∷ c.ones-2.result ∷ c.ones-3.result ∷ c.ones-4.result ∷ []) ≡ first_ones (cells_in c.args.class) = cc in
    rw words (IsFreeSet-first_ones c.args.class c.requires)

pub returns : goal.returns
returns c =
    let words : (c.ones.result ∷ c.ones-2.result ∷ c.ones-3.result ∷ c.ones-4.result ∷ []) ≡ first_ones (cells_in c.args.class) = cc in
    ap (λ (used : List Bool). record { class = Some c.args.class; used = used })
    (ap (used_of (Some c.args.class)) words ∙ used_of-first_ones c.args.class c.requires)
