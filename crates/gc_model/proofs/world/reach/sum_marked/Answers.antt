use Rattle.std.proofs.Common.{◌∙◌, ◌≤◌, ℕ, List, ap, arith, filter, length, subst, sym}
use Rattle.std.proofs.lemmas.List.{take_all}
use Rattle.std.proofs.lemmas.List.FromFn.{length-enumerate_from}
use Rattle.std.specs.List.{enumerate_from}
use Rattle.gc_model.specs.declared.world.Live.{Live}
use Rattle.gc_model.specs.Graph.{Object, object_size}
use Rattle.gc_model.specs.Worklist.{is_marked, sum_of}
use Rattle.gc_model.proofs.Sums.{sum-marked, sum-unmarked, sum_and}
use Rattle.gc_model.proofs.world.reach.sum_marked.Goals as goal
use Rattle.gc_model.proofs.world.reach.sum_marked.Goals.{then-is_marked, else-is_marked}

pub loop-number-preserved : goal.loop-number-preserved
loop-number-preserved c =
    let graph = c.args.objects.now in
    let work = c.args.work.now in
    let index = c.loop-number.number in
    let object = c.index-objects-number.result in
    let is = c.index-objects-number.is in
    let there = c.loop-number-test.true in
    let before = c.loop-number.invariant in
    elim c.if-is_marked.branch [
      | then-is_marked w ↦
          let marked = sym w.if-is_marked.ensures in
          let most : object_size object ≤ 64 =
          subst (λ (each : Object). object_size each ≤ 64) (sym is) (c.requires.sizes index object there) in
          let sums =
          ap (λ (live : Live). sum_and live (object_size object)) before.sums ∙ sym (sum-marked graph work index object there is marked) in
          rw w.live-is (record {
            sums = ap (sum_and c.loop-number.live) w.size.ensures ∙ sums;
            few = omega (arith, before.few);
            bounded = omega (arith, before.bounded, w.size.ensures, most);
          })
      | else-is_marked w ↦
          let unmarked = sym w.if-is_marked.ensures in
          rw w.live-is (record {
            sums = before.sums ∙ sym (sum-unmarked graph work index object there is unmarked);
            few = omega (arith, before.few);
            bounded = omega (arith, before.bounded);
          })
    ]

pub returns : goal.returns
returns c =
    let members = enumerate_from 0 c.args.objects.now in
    let ended : length members ≤ c.loop-number.number = omega (arith, length-enumerate_from 0 c.args.objects.now) in
    c.loop-number.invariant.sums
    ∙ ap (λ (each : List (ℕ × Object)). sum_of (filter (λ member. is_marked c.args.work.now member.0) each))
    (take_all c.loop-number.number members ended)
