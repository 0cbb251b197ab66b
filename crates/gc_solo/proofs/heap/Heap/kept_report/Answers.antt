use Rattle.std.proofs.Common.{◌≡◌, ◌∙◌, ◌<◌, List, ap, arith, length, slice_index_or}
use Rattle.gc_bay.specs.Bay.{Bay}
use Rattle.gc_solo.specs.Kept.{bay_at, kept_of}
use Rattle.gc_solo.proofs.BayLists.{bay_at-read}
use Rattle.gc_solo.proofs.Reported.{all-bays, counted-all, counted-few, counted-more, counted-none}
use Rattle.gc_solo.proofs.heap.Heap.kept_report.Goals as goal

pub loop-bay-init : goal.loop-bay-init
loop-bay-init c = record {
  counted = λ start all. counted-none (kept_of c.args.self.now) start all;
  few_objects = omega arith;
  few_words = omega arith;
}

pub loop-bay-preserved : goal.loop-bay-preserved
loop-bay-preserved c =
    let kept = kept_of c.args.self.now in
    let index = c.loop-bay.bay-index in
    let bay = c.bay-item.result in
    let known = c.loop-bay.invariant in
    let tally = c.tally-tally.ensures in
    let items = c.deref-bay-items.ensures.value in
    let there : index < length kept.bays = omega (arith, c.loop-bay-test.true, ap length items) in
    let read : bay ≡ bay_at kept.bays index =
    bay_at-read kept.bays index bay there (c.bay-item.is ∙ ap (λ (bays : List Bay). slice_index_or bays index bay) items) in
    let some = c.requires.traced in
    let few = counted-few kept some.0 c.loop-bay.objects c.loop-bay.words index bay some.1 there read known.few_objects known.few_words in
    rw (tally.objects, tally.words) (record {
      counted = λ start all.
          counted-more kept start all c.loop-bay.objects c.loop-bay.words index bay (known.counted start all)
          (omega (arith, there, all-bays kept start all)) read;
      few_objects = few.0;
      few_words = few.1;
    })

pub returns : goal.returns
returns c = record {
  report = λ start all.
      let kept = kept_of c.args.self.now in
      counted-all kept start all c.loop-bay.objects c.loop-bay.words c.loop-bay.bay-index (c.loop-bay.invariant.counted start all)
      (omega (
        arith,
        c.loop-bay.auto.bay-index-end,
        c.loop-bay-test.false,
        ap length c.deref-bay-items.ensures.value,
        all-bays kept start all,
      ));
}
