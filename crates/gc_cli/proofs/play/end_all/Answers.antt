use Rattle.std.proofs.Common.{◌≡◌, ◌∙◌, ℕ, ◌++◌, ap, subst, arith}
use Rattle.std.proofs.Math.Numerals.{add-one}
use Rattle.gc_layout.specs.Places.{Layout}
use Rattle.gc_model.specs.declared.call.Call.TheVariants.{End}
use Rattle.gc_model.specs.declared.call.Line.{Line}
use Rattle.gc_model.specs.History.{ends_of}
use Rattle.gc_cli.specs.Played.{HasMade}
use Rattle.gc_cli.proofs.PlayLemmas.{entries_of, made-next}
use Rattle.gc_cli.proofs.play.end_all.Goals as goal

-- each mutator is one of the heap's
pub call-requires-clause-fit : goal.call-requires-clause-fit
call-requires-clause-fit c =
    let same = ap (λ (layout : Layout). layout.mutators) c.loop-mutator.invariant.same.layout in
    (omega (arith, c.loop-mutator-test.true, c.loop-mutator.auto.mutator-end, c.requires, same), tt)

-- one more ended
pub loop-mutator-preserved : goal.loop-mutator-preserved
loop-mutator-preserved c =
    let invariant = c.loop-mutator.invariant in
    let line : Line = record { mutator = c.loop-mutator.mutator; call = End } in
    let after = c.call.ensures.same in
    record {
      ended = λ history stands.
          let before = invariant.ended history stands in
          let called = (c.call.ensures.stands (history ++ before.0) before.1.stands).0 in (
            before.0 ++ entries_of called.runs line c.call.result,
            rw (add-one c.loop-mutator.mutator) (made-next c.loop-mutator.solo c.call.new.self history before.0
                (ends_of c.loop-mutator.mutator) line c.call.result before.1 called),
          );
      same = record { types = after.types ∙ invariant.same.types; layout = after.layout ∙ invariant.same.layout };
    }

-- all ended
pub returns-clause-ended : goal.returns-clause-ended
returns-clause-ended c history stands =
    let all : c.loop-mutator.mutator ≡ c.args.mutators = omega (arith, c.loop-mutator-test.false, c.loop-mutator.auto.mutator-end) in
    let ended = c.loop-mutator.invariant.ended history stands in
    (ended.0, subst (λ (n : ℕ). HasMade c.loop-mutator.solo history ended.0 (ends_of n)) all ended.1)
