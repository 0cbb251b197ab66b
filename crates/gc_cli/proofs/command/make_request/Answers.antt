-- what the command of `make` finds and refuses is what the words ask for
use Rattle.std.proofs.Common.{rules, ◌≡◌, map, string_bytes, option_map, subst, sym, ap, ◌∙◌}
use Rattle.gc_cli.specs.declared.command.Request.TheVariants.{Make}
use Rattle.gc_cli.specs.Commands.{Finds, make_app}
use Rattle.gc_cli.proofs.MakeLemmas.{make-finds, make-refuses, numbers}
use Rattle.gc_cli.proofs.command.make_request.Goals as goal

pub returns-in_default-2 : goal.returns-in_default-2
returns-in_default-2 c =
    let words = map string_bytes c.args.words.now in
    let found = subst (λ app. Finds app words c.in_ok-matches.field-0) c.in-Ok.ensures c.in_ok-matches.ensures in
    sym (make-refuses words c.requires (subst (Finds make_app words) c.in_default-2.is found))

pub returns : goal.returns
returns c =
    let words = map string_bytes c.args.words.now in
    let found = subst (λ app. Finds app words c.in_ok-matches.field-0) c.in-Ok.ensures c.in_ok-matches.ensures in
    let holds = make-finds words c.in-Some.matches c.requires (subst (Finds make_app words) c.in-Some.is found) in
    let mapped : c.map.result ≡ option_map Make c.rounds_of.result = search rules in
    mapped ∙ ap (option_map Make) (c.rounds_of.ensures (numbers words) holds.0) ∙ sym holds.1
