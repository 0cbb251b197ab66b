-- the words are the mode and what stands behind it
use Rattle.std.proofs.Common.{◌≡◌, ◌∙◌, ◌-◌, length, map, take, drop, string_bytes, true, sym, ap, subst, IfSome}
use Rattle.std.specs.List.{list_any}
use Rattle.std.proofs.lemmas.Result.{IfOk-weaker}
use Rattle.clap.proofs.WalkLemmas.{list_any-map}
use Rattle.gc_cli.specs.Command.{request_of}
use Rattle.gc_cli.specs.Commands.{is_dashes}
use Rattle.gc_cli.specs.Played.{IsAllowed}
use Rattle.gc_cli.proofs.AllowedLemmas.{request_of-limits}
use Rattle.gc_cli.proofs.CommandLemmas.{request_of-empty, words-first}
use Rattle.gc_cli.proofs.FindLemmas.{dashes-refused}
use Rattle.gc_cli.proofs.command.request_of.Goals as goal

pub returns-in_default-clause-value : goal.returns-in_default-clause-value
returns-in_default-clause-value c = request_of-empty string_bytes c.args.words.now c.in_default.len_below

pub returns-then-has_dashes-clause-value : goal.returns-then-has_dashes-clause-value
returns-then-has_dashes-clause-value c =
    let behind = take (length c.args.words.now - 1) (drop 1 c.args.words.now) in
    let some : list_any is_dashes (map string_bytes behind) ≡ true =
    sym (list_any-map is_dashes string_bytes behind) ∙ (sym c.has_dashes.ensures ∙ c.if-has_dashes.true) in
    let words = words-first string_bytes c.args.words.now c.mode-item.result c.in-len1-up.len_at_least c.mode-item.is in
    sym (ap request_of words ∙ dashes-refused (string_bytes c.mode-item.result) (map string_bytes behind) some)

pub mode_request-requires : goal.mode_request-requires
mode_request-requires c =
    let behind = take (length c.args.words.now - 1) (drop 1 c.args.words.now) in
    sym (list_any-map is_dashes string_bytes behind) ∙ (sym c.has_dashes.ensures ∙ c.if-has_dashes.false)

pub returns-clause-allowed : goal.returns-clause-allowed
returns-clause-allowed c =
    IfOk-weaker c.mode_request.result _ _ (λ request is. subst (λ r. IfSome r IsAllowed) (sym is)
    (request_of-limits _)) c.mode_request.ensures
