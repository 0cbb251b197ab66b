-- each option is one more rule of the command
use Rattle.std.proofs.Common.{ap, ap₂, ◌∙◌}
use Rattle.std.proofs.lemmas.Result.{IfOk-weaker}
use Rattle.clap.specs.Words.{app_of, with_rule}
use Rattle.gc_cli.proofs.command.with_options.Goals as goal

pub returns : goal.returns
returns c =
    let first = c.in_ok-arg.ensures.shape c.option-nursery.ensures.local
    ∙ ap (with_rule (app_of c.args.command)) c.option-nursery.ensures.rule in
    let second = c.in_ok-arg-2.ensures.shape c.option-pages.ensures.local ∙ ap₂ with_rule first c.option-pages.ensures.rule in
    let third = c.in_ok-arg-3.ensures.shape c.option-reports.ensures.local ∙ ap₂ with_rule second c.option-reports.ensures.rule in
    IfOk-weaker c.arg-4.result _ _
    (λ more added. added.shape c.option-summary.ensures.local ∙ ap₂ with_rule third c.option-summary.ensures.rule) c.arg-4.ensures
