use Rattle.std.proofs.Common.{◌∙◌, ap, arith}
use Rattle.gc_solo.specs.declared.heap.Heap.{Heap}
use Rattle.gc_solo.specs.Kept.{kept_of}
use Rattle.gc_solo.proofs.Tidying.{tidy-exact}
use Rattle.gc_solo.proofs.heap.Heap.tidy.Goals as goal

pub loop-t-preserved : goal.loop-t-preserved
loop-t-preserved c = record {
  traced = λ start after first. c.tidy_list.ensures.traced start after (c.loop-t.invariant.traced start after first);
  tidied = λ start after first.
      c.tidy_list.ensures.tidied start after (c.loop-t.invariant.traced start after first)
      (c.loop-t.invariant.tidied start after first);
  given = λ u. c.tidy_list.ensures.given u ∙ c.loop-t.invariant.given u;
  rest = c.tidy_list.ensures.rest
      ∙ ap (λ (each : Heap). record each { words = c.tidy_list.new.self.words; bays = c.tidy_list.new.self.bays }) c.loop-t.invariant.rest;
}

pub returns-clause-exact : goal.returns-clause-exact
returns-clause-exact c start after first =
    tidy-exact (kept_of c.args.self.now) (kept_of c.loop-t.self) start after c.loop-t.t (ap kept_of c.loop-t.invariant.rest)
    (c.loop-t.invariant.traced start after first) (omega (arith, c.mutators-t-end.ensures.mutators, c.loop-t-test.false))
    (c.loop-t.invariant.tidied start after first)
