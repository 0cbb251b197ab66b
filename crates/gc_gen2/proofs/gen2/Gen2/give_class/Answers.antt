use Rattle.std.proofs.Common.{◌≡◌, Some, ap, ◌∙◌, arith}
use Rattle.std.specs.Prelude.{slice_index}
use Rattle.gc_gen2.specs.Class.{cells_in}
use Rattle.gc_gen2.specs.Cells.{first_free_page, free_cells}
use Rattle.gc_gen2.proofs.ClassLemmas.{cells_in-le}
use Rattle.gc_gen2.proofs.PagesLemmas.{free_cells-le}
use Rattle.gc_gen2.proofs.SummaryLemmas.{IsSummary-given}
use Rattle.gc_gen2.proofs.gen2.Gen2.give_class.Goals as goal

pub invariant_of-self : goal.invariant_of-self
invariant_of-self c =
    let first : first_free_page c.self.inside.pages.items ≡ Some c.args.page = ap first_free_page c.self.view_is ∙ c.requires.page in
    let count : c.from-2.result ≡ cells_in c.args.class = c.from-2.ensures ∙ c.cells_in_page.ensures in
    rw (c.from.ensures, c.index_of-index.ensures.index, c.empty.ensures, count)
    (IsSummary-given _ _ _ _ _ c.self.invariant c.args.page c.args.class first c.requires.class)

pub overflow_add-self : goal.overflow_add-self
overflow_add-self c =
    let count : c.from-2.result ≡ cells_in c.args.class = c.from-2.ensures ∙ c.cells_in_page.ensures in
    let free : slice_index c.self.inside.free c.index_of-index.result ≡ free_cells c.self.inside.pages.items c.args.class =
    ap (slice_index c.self.inside.free) c.index_of-index.ensures.index ∙ c.self.invariant.free c.args.class c.requires.class
    in
    omega
    (arith, cells_in-le c.args.class c.requires.class, free_cells-le c.self.inside.pages.items c.args.class c.self.invariant.well_formed)
