use Rattle.std.proofs.Common.{◌∙◌, ap, arith, length, refl}
use Rattle.std.proofs.lemmas.List.{length-set}
use Rattle.gc_bay.specs.Bay.{Bay}
use Rattle.gc_solo.proofs.BayLists.{bay_at-read, counts-more}
use Rattle.gc_solo.proofs.heap.roots.list_counts.Goals as goal

pub loop-t-init : goal.loop-t-init
loop-t-init c = record { eight = refl; counts = λ t below. absurd (omega (arith, below)) }

pub loop-t-preserved : goal.loop-t-preserved
loop-t-preserved c =
    let bays = c.args.bays.now in
    let read = bay_at-read bays c.loop-t.t c.index-bays-t.result c.loop-t-test.true c.index-bays-t.is in
    let there = c.loop-t.invariant.eight in
    record {
      eight = length-set c.loop-t.counts c.loop-t.t c.remembered_count.result ∙ c.loop-t.invariant.eight;
      counts = counts-more bays c.loop-t.counts c.loop-t.t c.remembered_count.result (omega (arith, there, c.requires, c.loop-t-test.true))
          (c.remembered_count.ensures.count ∙ ap (λ (bay : Bay). length bay.remembered) read) c.loop-t.invariant.counts;
    }

pub returns : goal.returns
returns c t below = c.loop-t.invariant.counts t (omega (arith, below, c.loop-t-test.false))
