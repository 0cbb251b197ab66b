use Rattle.std.proofs.Common.{not, ap, sym, ◌∙◌, refl, arith}
use Rattle.std.specs.Prelude.{position}
use Rattle.gc_gen2.proofs.FreeSetLemmas.{first_free_cell-lowest, first_free_cell-none, NoneBefore}
use Rattle.gc_gen2.specs.Page.{Page}
use Rattle.gc_gen2.proofs.page.PageCells.first_free.Goals as goal

pub returns-then-word-ne0 : goal.returns-then-word-ne0
returns-then-word-ne0 c =
    sym
    (first_free_cell-lowest c.self.inside.class c.self.inside.free c.loop-i.i _ c.self.invariant
    (omega (arith, c.self.invariant.four)) c.loop-i.invariant c.if-word-ne0.true refl)
    ∙ ap (λ (page : Page). position not page.used) c.self.view_is

pub returns : goal.returns
returns c =
    let all : NoneBefore c.self.inside.free 4 = λ k below. c.loop-i.invariant k (omega (arith, c.self.invariant.four)) in
    sym (first_free_cell-none c.self.inside.class c.self.inside.free c.self.invariant all)
    ∙ ap (λ (page : Page). position not page.used) c.self.view_is
