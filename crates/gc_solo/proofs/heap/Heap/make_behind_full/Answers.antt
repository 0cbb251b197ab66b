-- The full collection was made, and then the object, or there is no place for it.
use Rattle.gc_model.specs.declared.entry.RunKind.{RunKind}
use Rattle.gc_solo.specs.Kept.{kept_of}
use Rattle.gc_solo.proofs.MadeBehind.{ready-first, ready-run}
use Rattle.gc_solo.proofs.heap.Heap.make_behind_full.Goals as goal

pub returns-clause-made : goal.returns-clause-made
returns-clause-made c placement world ready =
    let t = c.args.t in
    let old = kept_of c.args.self.now in
    let mid = kept_of c.collect.new.self in
    let report = c.collect.result in
    let run = c.collect.ensures.run placement world (ready-first old placement world t ready) in
    record {
      mid = mid;
      after = run.0;
      report = report;
      run = run.1;
      made = c.make_anywhere.ensures.made run.0 world (ready-run old mid RunKind.Full placement run.0 world report t ready run.1);
    }
