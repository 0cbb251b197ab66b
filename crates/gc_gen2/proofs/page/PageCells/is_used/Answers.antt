use Rattle.std.proofs.Common.{◌/◌, ◌%◌, false, ap, sym, ◌∙◌}
use Rattle.std.specs.Prelude.{slice_index, ◌==◌}
use Rattle.std.proofs.lemmas.Nat.Bits.{shr_and_one}
use Rattle.gc_gen2.specs.Page.{Page, is_used_in}
use Rattle.gc_gen2.proofs.FreeSetLemmas.{get_or-used_of, cell-within, word-within}
use Rattle.gc_gen2.proofs.page.PageCells.is_used.Goals as goal

pub bounds-self-inside-number : goal.bounds-self-inside-number
bounds-self-inside-number c = word-within _ _ c.args.self.now c.args.number c.self.view_is c.self.invariant c.requires

pub returns : goal.returns
returns c =
    let own = c.self.inside.class in
    let words = c.self.inside.free in
    let n = c.args.number in
    ap (λ b. b == 0) (shr_and_one (slice_index words (n / 64)) (n % 64))
    ∙ sym (get_or-used_of own words n false (cell-within _ _ _ _ c.self.view_is c.requires))
    ∙ ap (λ (page : Page). is_used_in page n) c.self.view_is
