-- what the command of `play` finds and refuses are the options that the words give
use Rattle.std.proofs.Common.{map, string_bytes, subst, sym, ◌∙◌}
use Rattle.gc_cli.specs.Command.{pieces_of}
use Rattle.gc_cli.specs.Commands.{Finds, play_app}
use Rattle.gc_cli.proofs.FindLemmas.{play-finds, play-refuses}
use Rattle.gc_cli.proofs.command.opts_alone.Goals as goal

pub returns-in_default-2 : goal.returns-in_default-2
returns-in_default-2 c =
    let words = map string_bytes c.args.words.now in
    let found = subst (λ app. Finds app words c.in_ok-matches.field-0) c.in-Ok.ensures c.in_ok-matches.ensures in
    sym (play-refuses words c.requires (subst (Finds play_app words) c.in_default-2.is found))

pub returns : goal.returns
returns c =
    let words = map string_bytes c.args.words.now in
    let found = subst (λ app. Finds app words c.in_ok-matches.field-0) c.in-Ok.ensures c.in_ok-matches.ensures in
    let holds = play-finds words c.in-Some.matches c.requires (subst (Finds play_app words) c.in-Some.is found) in
    c.opts_of.ensures (pieces_of words) holds.0 ∙ sym holds.1
