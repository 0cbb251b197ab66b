use Rattle.std.proofs.Common.{sym, ◌∙◌}
use Rattle.std.proofs.lemmas.Option.{none-some}
use Rattle.gc_solo.proofs.Copying.{taken-cell}
use Rattle.gc_solo.proofs.heap.copying.take_place.Goals as goal
use Rattle.gc_solo.proofs.heap.copying.take_place.Goals.{then-head, else-head}

pub returns-in-Some : goal.returns-in-Some
returns-in-Some c =
    elim c.if-head.branch [
      | then-head w ↦
          let cell = w.cell-cell.ensures in
          taken-cell c.args.kind c.args.bay.now w.cell-cell.new.self c.remember.new.self c.args.head c.promoted_head.result c.args.size
          c.in-Some.copy w.cell-cell.result (sym w.cell-is ∙ c.in-Some.is) cell.address cell.rest cell.bay cell.pages cell.takes
          cell.fresh w.if-head.true (rw w.bay-is at c.remember.ensures.list) c.remember.ensures.bay c.promoted_head.ensures
      | else-head w ↦ absurd (none-some c.in-Some.copy (sym w.cell-is ∙ c.in-Some.is))
    ]
