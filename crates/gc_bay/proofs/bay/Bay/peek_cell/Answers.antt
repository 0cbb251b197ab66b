use Rattle.std.proofs.Common.{arith, sym}
use Rattle.gc_bay.proofs.ExtentLemmas.{next-inside}
use Rattle.gc_bay.proofs.bay.Bay.peek_cell.Goals as goal

-- the next cell lies inside the pages
pub cell_address-requires-clause-offset : goal.cell_address-requires-clause-offset
cell_address-requires-clause-offset c =
    let is = c.self.invariant.bay in
    let class = c.class_of.ensures.class in
    let next = sym c.in_ok-offset.ensures.cell in
    let inside = next-inside c.self.inside.gen2 c.class_of.result c.in_ok-offset.offset is.pages class next in
    omega (arith, inside, class.some, is.page_count)
