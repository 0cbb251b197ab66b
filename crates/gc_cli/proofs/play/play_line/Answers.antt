use Rattle.std.proofs.Common.{◌≡◌, ◌∙◌, sym, ap, subst, arith}
use Rattle.std.proofs.lemmas.Option.{same_Some}
use Rattle.gc_model.specs.declared.call.Line.{Line}
use Rattle.gc_model.specs.History.{allowance_of}
use Rattle.gc_solo.specs.Stands.{HasCalled}
use Rattle.gc_cli.proofs.play.play_line.Goals as goal

-- there are report places for what the line may bring
pub call-requires-clause-room : goal.call-requires-clause-room
call-requires-clause-room c = c.requires.reports c.unwrap-mutator.result (sym c.line.ensures.line ∙ c.unwrap-mutator.ensures)

-- it takes no more of them
pub returns-clause-room : goal.returns-clause-room
returns-clause-room c line is =
    let same : c.unwrap-mutator.result ≡ line = same_Some _ _ (sym c.unwrap-mutator.ensures ∙ c.line.ensures.line ∙ is) in
    omega (arith, c.call.ensures.room, ap (λ (each : Line). allowance_of each.call) same)

-- the call is that of the line
pub returns-clause-stands : goal.returns-clause-stands
returns-clause-stands c history line stands is =
    let same : c.unwrap-mutator.result ≡ line = same_Some _ _ (sym c.unwrap-mutator.ensures ∙ c.line.ensures.line ∙ is) in
    subst (λ (own : Line). HasCalled c.args.solo.now c.call.new.self history own.mutator own.call c.call.result) same
    (c.call.ensures.stands history stands).0
