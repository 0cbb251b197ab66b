use Rattle.std.proofs.Common.{◌+◌, ◌-◌, ap₂, sym, arith}
use Rattle.gc_bay.specs.Bay.{Bay}
use Rattle.gc_bay.specs.Inside.{bay_of}
use Rattle.gc_bay.proofs.ExtentLemmas.{bay-with_cell, fresh-in_cells, next-inside}
use Rattle.gc_bay.proofs.bay.Bay.cell.Goals as goal

-- the pages are well-formed as before, and those that were given a class are counted
pub invariant_of-self-2 : goal.invariant_of-self-2
invariant_of-self-2 c =
    let bay : Bay = bay_of c.self.inside in
    let taken = c.in_ok-offset.ensures in
    let before = c.free_pages-without_class.ensures in
    let counted = ap₂ (λ old new. c.self.inside.given + (old - new)) before c.free_pages.ensures in
    let is = c.self.invariant.bay in
    let of = c.class_of-class.ensures.class in
    let after =
    bay-with_cell bay c.take_cell.new.self c.class_of-class.result c.in_ok-offset.offset _ is of (sym taken.cell) taken.pages counted in
    record {
      bay = after;
      remembered = c.self.invariant.remembered;
      grey = c.self.invariant.grey;
      start = c.self.invariant.start;
    }

-- the cell wasn't used, and lies apart from all that are
pub returns-clause-fresh : goal.returns-clause-fresh
returns-clause-fresh c =
    let bay : Bay = bay_of c.self.inside in
    let class = c.class_of-class in
    let taken = c.in_ok-offset.ensures in
    let is = c.self.invariant.bay in
    let inside = next-inside bay.pages class.result c.in_ok-offset.offset is.pages class.ensures.class (sym taken.cell) in
    let fresh =
    fresh-in_cells bay c.take_cell.new.self class.result c.in_ok-offset.offset c.args.size is class.ensures.enough
    (omega (arith, inside, is.page_count)) taken.takes in
    rw (c.cell_address.ensures.address, ← c.self.view_is) fresh

-- so it is a bay
pub returns-clause-bay : goal.returns-clause-bay
returns-clause-bay c =
    let bay : Bay = bay_of c.self.inside in
    let taken = c.in_ok-offset.ensures in
    let before = c.free_pages-without_class.ensures in
    let counted = ap₂ (λ old new. c.self.inside.given + (old - new)) before c.free_pages.ensures in
    let is = c.self.invariant.bay in
    let of = c.class_of-class.ensures.class in
    bay-with_cell bay c.take_cell.new.self c.class_of-class.result c.in_ok-offset.offset _ is of (sym taken.cell) taken.pages counted
