use Rattle.std.proofs.Common.{ap, sym, ◌∙◌, arith}
use Rattle.gc_gen2.specs.Cells.{first_free_page}
use Rattle.gc_gen2.proofs.RoomLemmas.{first_free_page-next, first_free_page-none}
use Rattle.gc_gen2.proofs.gen2.Gen2.page_without_class.Goals as goal

pub returns-then-from-len : goal.returns-then-from-len
returns-then-from-len c =
    sym (first_free_page-next c.self.inside.pages.items c.self.inside.with_class c.self.invariant.in_order (omega arith))
    ∙ ap first_free_page c.self.view_is

pub returns-else-from-len : goal.returns-else-from-len
returns-else-from-len c =
    sym (first_free_page-none c.self.inside.pages.items c.self.inside.with_class c.self.invariant.in_order (omega arith))
    ∙ ap first_free_page c.self.view_is
