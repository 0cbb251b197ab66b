use Rattle.std.proofs.Common.{◌≡◌, Some, slice_get, ◌∙◌, suc, ap, length, subst, sym, take, arith, List}
use Rattle.std.proofs.Math.Numerals.{add-one}
use Rattle.gc_model.specs.declared.call.Line.{Line}
use Rattle.gc_model.specs.History.{calls_in}
use Rattle.gc_locked.specs.Locked.{IsPassOf, PassView}
use Rattle.gc_locked.specs.Setup.{lines_of}
use Rattle.gc_locked.proofs.Lists.{read-here}
use Rattle.gc_workers.proofs.Lines.{calls-next, calls-part, other-line, own-line}
use Rattle.gc_workers.proofs.worker.play_part.Goals as goal
use Rattle.gc_workers.proofs.worker.play_part.Goals.{else-lines-index, then-lines-index}

-- the line is among the mutator's own
pub play_line-requires-clause-left : goal.play_line-requires-clause-left
play_line-requires-clause-left g c =
    let lines = lines_of c.args.locked.now.setup in
    omega (arith, c.loop-index.invariant.made, calls-part c.loop-index.pass.mutator lines c.loop-index.index)

-- one line more was looked at
pub loop-index-preserved : goal.loop-index-preserved
loop-index-preserved g c =
    let lines = lines_of c.args.locked.now.setup in
    let index = c.loop-index.index in
    let line = c.index-lines-index.result in
    let read = read-here c.lines-lines.result.now index line c.loop-index-test.true c.index-lines-index.is in
    let there = subst (λ (each : List Line). slice_get each index ≡ Some line) c.lines-lines.ensures.lines read in
    let mutator_is = ap (λ (each : Line). each.mutator) c.index-lines-index.is in
    let invariant = c.loop-index.invariant in
    let t = c.loop-index.pass.mutator in
    let next = calls-next t lines index line there in
    rw (add-one index)
    (elim c.if-lines-index.branch [
      | then-lines-index w ↦
          let own = subst (IsPassOf c.args.locked.now) (sym w.pass-is) w.play_line.ensures.own in
          let mutator = ap (λ (pass : PassView). pass.mutator) w.pass-is ∙ w.play_line.ensures.mutator in
          let more = own-line t line (mutator_is ∙ w.if-lines-index.true ∙ c.mutator.ensures) in
          record {
            own = own;
            table = own.table ∙ sym c.requires.fresh.own.table;
            mutator = mutator ∙ invariant.mutator;
            made = omega (
              arith,
              ap (λ (pass : PassView). pass.made) w.pass-is,
              w.play_line.ensures.made,
              invariant.made,
              next,
              more,
              ap (λ u. length (calls_in u (take (suc index) lines))) mutator,
            );
          }
      | else-lines-index w ↦
          let own = subst (IsPassOf c.args.locked.now) (sym w.pass-is) invariant.own in
          let mutator = ap (λ (pass : PassView). pass.mutator) w.pass-is in
          let none = other-line t line (λ same. w.if-lines-index.false (sym mutator_is ∙ same ∙ sym c.mutator.ensures)) in
          record {
            own = own;
            table = own.table ∙ sym c.requires.fresh.own.table;
            mutator = mutator ∙ invariant.mutator;
            made = omega (
              arith,
              ap (λ (pass : PassView). pass.made) w.pass-is,
              invariant.made,
              next,
              none,
              ap (λ u. length (calls_in u (take (suc index) lines))) mutator,
            );
          }
    ])
