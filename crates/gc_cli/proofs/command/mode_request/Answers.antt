-- each mode asks for what its words ask for
use Rattle.std.proofs.Common.{rules, ◌≡◌, ◌∙◌, ap, map, option_map, string_bytes}
use Rattle.std.proofs.lemmas.Result.{IfOk-weaker}
use Rattle.gc_cli.specs.declared.command.Request.TheVariants.{Play, Run}
use Rattle.gc_cli.proofs.FindLemmas.{request_of-drill, request_of-make, request_of-other, request_of-play, request_of-run}
use Rattle.gc_cli.proofs.command.mode_request.Goals as goal

pub returns-in_ok-opts_alone-in-play : goal.returns-in_ok-opts_alone-in-play
returns-in_ok-opts_alone-in-play c =
    let mapped : c.map.result ≡ option_map Play c.in_ok-opts_alone-in-play.field-0 = search rules in
    mapped ∙ ap (option_map Play) c.in_ok-opts_alone-in-play.ensures
    ∙ request_of-play c.args.mode.now (map string_bytes c.args.words.now) c.in-play.is

pub returns-in_ok-opts_alone-in-run : goal.returns-in_ok-opts_alone-in-run
returns-in_ok-opts_alone-in-run c =
    let mapped : c.map-in-run.result ≡ option_map Run c.in_ok-opts_alone-in-run.field-0 = search rules in
    mapped ∙ ap (option_map Run) c.in_ok-opts_alone-in-run.ensures
    ∙ request_of-run c.args.mode.now (map string_bytes c.args.words.now) c.in-run.is

pub returns-in-make : goal.returns-in-make
returns-in-make c =
    IfOk-weaker c.make_request.result _ _ (λ request is. is ∙ request_of-make c.args.mode.now
    (map string_bytes c.args.words.now) c.in-make.is) c.make_request.ensures

pub returns-in-drill : goal.returns-in-drill
returns-in-drill c =
    IfOk-weaker c.drill_request.result _ _ (λ request is. is ∙ request_of-drill c.args.mode.now
    (map string_bytes c.args.words.now) c.in-drill.is) c.drill_request.ensures

pub returns-in_default : goal.returns-in_default
returns-in_default c =
    request_of-other c.args.mode.now (map string_bytes c.args.words.now) c.in_default.not-play c.in_default.not-run
    c.in_default.not-make c.in_default.not-drill
