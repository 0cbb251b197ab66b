use Rattle.std.proofs.Common.{◌≡◌, ◌∙◌, ℕ, suc, sum_by, ap, ◌≤◌, ◌++◌, ◌∷◌, [], List, length, length-append, take, subst, arith}
use Rattle.std.proofs.Math.Numerals.{add-one}
use Rattle.std.proofs.lemmas.List.{take_all}
use Rattle.std.proofs.lemmas.List.Sums.{sum_by-take-le, sum_by_push}
use Rattle.gc_model.specs.declared.call.Line.{Line}
use Rattle.gc_model.specs.History.{allowance_of, ends_of}
use Rattle.gc_cli.specs.Played.{HasMade}
use Rattle.gc_cli.proofs.Lists.{slice_get-below, take-at}
use Rattle.gc_cli.proofs.PlayLemmas.{entries_of, made-next, played-ends, replies-next}
use Rattle.gc_cli.proofs.play.play_lines.Goals as goal

-- what a line may bring
abbrev weight : Line → ℕ
weight line = allowance_of line.call

-- there are report places for what the line may bring: as many as all lines may, less those of the lines so far
pub play_line-requires-clause-reports : goal.play_line-requires-clause-reports
play_line-requires-clause-reports c line is =
    let lines = c.args.script.now.lines in
    let index = c.loop-index.index in
    let more = sum_by_push weight (take index lines) line in
    let part : sum_by weight (take (suc index) lines) ≤ sum_by weight lines = sum_by-take-le weight lines (suc index) in
    omega (arith, more, ap (sum_by weight) (take-at lines index line is), part, c.loop-index.invariant.places, c.requires.reports)

-- one more line was played
pub loop-index-preserved : goal.loop-index-preserved
loop-index-preserved c =
    let invariant = c.loop-index.invariant in
    let lines = c.args.script.now.lines in
    let index = c.loop-index.index in
    let next = slice_get-below lines index (omega (arith, c.loop-index-test.true, c.count-index-end.ensures.count)) in
    let line : Line = next.0 in
    let after = c.play_line.ensures.same in
    record {
      played = λ history stands.
          let before = invariant.played history stands in
          let called = c.play_line.ensures.stands (history ++ before.0) line before.1.stands next.1 in (
            before.0 ++ entries_of called.runs line c.play_line.result,
            rw (add-one index, take-at lines index line next.1) (made-next c.loop-index.solo c.play_line.new.solo history before.0
                (take index lines) line c.play_line.result before.1 called),
            rw c.push.ensures (replies-next before.0 line c.play_line.result called.runs c.loop-index.replies.list before.2),
          );
      same = record { types = after.types ∙ invariant.same.types; layout = after.layout ∙ invariant.same.layout };
      places =
          let more = sum_by_push weight (take index lines) line in
          rw (add-one index, take-at lines index line next.1)
          (omega (arith, more, invariant.places, c.play_line.ensures.room line next.1));
      answered =
          let more = length-append c.loop-index.replies.list (c.play_line.result ∷ []) in
          rw c.push.ensures (omega (arith, more, invariant.answered));
      room = rw c.push.ensures invariant.room;
    }

-- all lines were played, and then the Ends
pub returns-clause-played : goal.returns-clause-played
returns-clause-played c history stands =
    let script = c.args.script.now in
    let lines = script.lines in
    let invariant = c.loop-index.invariant in
    let past : length lines ≤ c.loop-index.index = omega (arith, c.loop-index-test.false, c.count-index-end.ensures.count) in
    let all : take c.loop-index.index lines ≡ lines = take_all c.loop-index.index lines past in
    let (front, made, replies) = invariant.played history stands in
    let first = subst (λ (some : List Line). HasMade c.loop-index.solo history front some) all made in
    let (back, ended) = c.end_all.ensures.ended (history ++ front) first.stands in
    let last = subst (λ (n : ℕ). HasMade c.end_all.new.solo (history ++ front) back (ends_of n)) c.mutators.ensures.mutators ended in
    let count : length c.loop-index.replies.list ≡ length lines =
    omega (arith, invariant.answered, past, c.loop-index.auto.index-end, c.count-index-end.ensures.count) in (
      front ++ back,
      played-ends c.loop-index.solo c.end_all.new.solo script c.loop-index.replies.list history front back first replies count last,
    )
