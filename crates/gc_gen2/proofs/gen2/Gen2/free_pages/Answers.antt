use Rattle.std.proofs.Common.{◌≡◌, ◌-◌, ap, ◌∙◌, arith}
use Rattle.gc_gen2.specs.Cells.{free_pages}
use Rattle.gc_gen2.proofs.RoomLemmas.{free_pages-rest}
use Rattle.gc_gen2.proofs.gen2.Gen2.free_pages.Goals as goal

pub returns : goal.returns
returns c =
    let rest : c.len.result - c.self.inside.with_class ≡ free_pages c.self.inside.pages.items =
    omega (arith, free_pages-rest c.self.inside.pages.items c.self.inside.with_class c.self.invariant.in_order) in
    rest ∙ ap free_pages c.self.view_is
