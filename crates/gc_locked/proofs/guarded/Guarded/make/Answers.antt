use Rattle.std.proofs.Common.{◌≡◌, ◌+◌, ap, length, map, subst, sym, arith, List}
use Rattle.gc_model.specs.declared.call.Line.{Line}
use Rattle.gc_solo.specs.Kept.{Kept}
use Rattle.gc_locked.specs.declared.guarded.Guarded.TheInside.{Inside}
use Rattle.gc_locked.specs.Guarded.{guarded_of}
use Rattle.gc_locked.specs.Locked.{AreFit}
use Rattle.gc_locked.specs.Order.{IsKept, entry_at}
use Rattle.gc_locked.specs.Setup.{allowance_of_lines, lines_of, mutators_of}
use Rattle.gc_locked.proofs.Entered.{stands-first}
use Rattle.gc_locked.proofs.Order.{kept-first}
use Rattle.gc_locked.proofs.guarded.Guarded.make.Goals as goal

-- nothing was called yet, and there is memory for all entries
pub invariant_of-result : goal.invariant_of-result
invariant_of-result c =
    let inside : Inside = record { solo = c.args.solo; order = c.in-Ok.order; replies = c.in-Ok-vec.replies; setup = c.of-setup.result } in
    let guarded = guarded_of inside in
    let setup = c.of-setup.result in
    let lines : lines_of setup ≡ c.args.lines.now.items = ap (λ lines. lines.items) c.of-setup.ensures.lines in
    let sum = ap allowance_of_lines lines in
    let count = ap (λ (each : List Line). length each) lines in
    let mutators : mutators_of setup ≡ c.args.solo.layout.mutators = ap (λ (kept : Kept). kept.layout.mutators) c.of-setup.ensures.heap in
    let places : length inside.replies.items ≡ length (lines_of setup) + mutators_of setup =
    omega (arith, c.in-Ok-vec.ensures.len, c.requires.mutators, mutators, count, c.len.ensures) in
    record {
      heap = stands-first guarded
          (ap (λ order. map (entry_at (lines_of setup) inside.replies.items inside.solo.reports) order) c.in-Ok.ensures.items)
          c.requires.stands c.of-setup.ensures.heap
          (subst (AreFit c.args.solo.types c.args.solo.layout.mutators) (sym lines) c.requires.fit)
          (omega (arith, c.requires.room, c.requires.allowance, sum))
          (omega (arith, c.in-Ok.ensures.capacity, c.requires.allowance, c.requires.mutators, sum, count, c.len.ensures));
      kept = subst (IsKept (mutators_of setup) (lines_of setup) inside.replies.items inside.solo.reports) (sym c.in-Ok.ensures.items)
          (kept-first (mutators_of setup) (lines_of setup) inside.replies.items inside.solo.reports places);
      few_mutators = omega (arith, mutators, c.requires.mutators, c.ranges.mutators.fits);
      few = omega (
        arith,
        places,
        count,
        sum,
        mutators,
        c.requires.mutators,
        c.ranges.mutators.fits,
        c.requires.few,
        c.requires.allowance,
        c.requires.most,
      );
    }

pub returns-clause-journal : goal.returns-clause-journal
returns-clause-journal c =
    ap (λ order. map (entry_at (lines_of c.of-setup.result) c.in-Ok-vec.replies.items c.args.solo.reports) order) c.in-Ok.ensures.items
