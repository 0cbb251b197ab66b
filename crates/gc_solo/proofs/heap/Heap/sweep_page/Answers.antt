use Rattle.std.proofs.Common.{◌≡◌, ◌∙◌, ◌+◌, ◌*◌, ◌<◌, ℕ, Some, ap, arith, sym}
use Rattle.gc_gen2.specs.Cells.{class_at}
use Rattle.gc_solo.specs.Kept.{bay_at, kept_of}
use Rattle.gc_solo.specs.declared.heap.Heap.{Heap}
use Rattle.gc_solo.proofs.Sweeping.{cell-looked_at, cell-unused, class-read, page-looked_at, page-no_class, unused-read}
use Rattle.gc_solo.proofs.heap.Heap.sweep_page.Goals as goal
use Rattle.gc_solo.proofs.heap.Heap.sweep_page.Goals.{then-is_used, else-is_used}

-- how many mutators a heap has
abbrev mutators : Heap → ℕ
mutators heap = heap.places.mutators

pub returns-in_default-clause-swept : goal.returns-in_default-clause-swept
returns-in_default-clause-swept c start after swept =
    let kept = kept_of c.args.self.now in
    page-no_class kept start after c.args.t c.args.page swept
    (sym (class-read kept start after c.args.t (c.args.page * 1024) c.from.result c.args.page c.index.result.now c.gen2.result.now
    c.page_class.result swept c.requires.there c.from.ensures c.index.ensures c.gen2.ensures.pages c.page_class.ensures)
    ∙ c.in_default.is)

pub sweep_cell-requires-clause-swept : goal.sweep_cell-requires-clause-swept
sweep_cell-requires-clause-swept c =
    let some = c.requires.swept in
    rw c.from-in-loop-number.ensures (record {
      start = some.start;
      after = some.after;
      swept = c.loop-number.invariant.swept some.start some.after some.swept;
    })

-- a used cell was looked at
pub loop-number-preserved : goal.loop-number-preserved
loop-number-preserved c =
    let kept = kept_of c.loop-number.self in
    let t = c.args.t in
    let page = c.args.page in
    let class = c.from-class.result in
    let number = c.loop-number.number in
    let offset = page * 1024 + number * class in
    let known = c.loop-number.invariant in
    let place : c.from-in-loop-number.result * 1024 + number * class ≡ offset =
    ap (λ (each : ℕ). each * 1024 + number * class) c.from-in-loop-number.ensures in
    let there : t < kept.layout.mutators = omega (arith, c.requires.there, ap mutators known.rest) in
    elim c.if-is_used.branch [
      | then-is_used w ↦
          let looked = w.sweep_cell.ensures in
          let now = kept_of w.sweep_cell.new.self in
          let class_is : class_at (bay_at now.bays t).pages page ≡ Some class = looked.classes page ∙ known.class_is in
          let there_now : t < now.layout.mutators = omega (arith, there, ap mutators looked.rest) in
          rw w.self-is (record {
            swept = λ start after swept.
                cell-looked_at now start after t page class number
                (rw place at (looked.swept start after (rw (sym place) at (known.swept start after swept)))) there_now class_is
                c.loop-number-test.true;
            class_is = class_is;
            given = λ u. looked.given u ∙ known.given u;
            rest = looked.rest
                ∙ ap (λ (heap : Heap). record heap { words = w.sweep_cell.new.self.words; bays = w.sweep_cell.new.self.bays }) known.rest;
          })
      | else-is_used w ↦ rw w.self-is (record {
        swept = λ start after swept.
            let all = known.swept start after swept in
            cell-unused kept start after t page class number all there known.class_is c.loop-number-test.true
            (unused-read kept start after t offset c.from-in-loop-number-2.result c.index-in-loop-number.result.now
            c.gen2-in-loop-number.result.now c.is_used.result all there c.from-in-loop-number-2.ensures c.index-in-loop-number.ensures
            c.gen2-in-loop-number.ensures.pages (rw place at c.is_used.ensures) w.if-is_used.false);
        class_is = known.class_is;
        given = known.given;
        rest = known.rest;
      })
    ]

pub returns-clause-swept : goal.returns-clause-swept
returns-clause-swept c start after swept =
    let known = c.loop-number.invariant in
    page-looked_at (kept_of c.loop-number.self) start after c.args.t c.args.page c.from-class.result c.loop-number.number
    (known.swept start after swept) (omega (arith, c.requires.there, ap mutators known.rest)) known.class_is
    (omega (arith, c.loop-number.auto.number-end, c.loop-number-test.false))
