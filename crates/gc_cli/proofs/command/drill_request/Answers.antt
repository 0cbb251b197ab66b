-- what the command of `drill` finds and refuses is what the words ask for
use Rattle.std.proofs.Common.{◌≡◌, List, ℕ, map, string_bytes, Option, Some, subst, sym, ap, ap₂, codes, false}
use Rattle.std.specs.List.{list_any}
use Rattle.clap.specs.Words.{App}
use Rattle.clap.specs.declared.parser.matches.ArgMatches.{ArgMatches}
use Rattle.gc_cli.specs.Command.{drill_from, opts_of, pieces_of}
use Rattle.gc_cli.specs.Commands.{Finds, HoldsOptions, HoldsValue, drill_app, is_dashes}
use Rattle.gc_cli.proofs.FindLemmas.{drill-finds, drill-refuses}
use Rattle.gc_cli.proofs.command.drill_request.Goals as goal

-- what the matches hold, where there are some
holds : (app : App) (words : List (List ℕ)) (found : Option ArgMatches) (matches : ArgMatches) → app ≡ drill_app
    → list_any is_dashes words ≡ false
    → Finds app words found → found ≡ Some matches → HoldsOptions matches (pieces_of words)
    × HoldsValue matches (pieces_of words) (codes "rounds")
holds app words found matches is free finds there =
    drill-finds words matches free (subst (Finds drill_app words) there (subst (λ a. Finds a words found) is finds))

pub returns-in_default-2 : goal.returns-in_default-2
returns-in_default-2 c =
    let words = map string_bytes c.args.words.now in
    let found = subst (λ app. Finds app words c.in_ok-matches.field-0) c.in-Ok.ensures c.in_ok-matches.ensures in
    sym (drill-refuses words c.requires (subst (Finds drill_app words) c.in_default-2.is found))

pub returns-in_default-rounds_of : goal.returns-in_default-rounds_of
returns-in_default-rounds_of c =
    let words = map string_bytes c.args.words.now in
    let h = holds _ words _ c.in-Some.matches c.in-Ok.ensures c.requires c.in_ok-matches.ensures c.in-Some.is in
    ap (λ rounds. drill_from rounds (opts_of (pieces_of words))) (c.in_default-rounds_of.ensures (pieces_of words) h.1)

pub returns-in_default-opts_of : goal.returns-in_default-opts_of
returns-in_default-opts_of c =
    let words = map string_bytes c.args.words.now in
    let h = holds _ words _ c.in-Some.matches c.in-Ok.ensures c.requires c.in_ok-matches.ensures c.in-Some.is in
    ap₂ drill_from (c.in-Some-rounds_of.ensures (pieces_of words) h.1) (c.in_default-opts_of.ensures (pieces_of words) h.0)

pub returns : goal.returns
returns c =
    let words = map string_bytes c.args.words.now in
    let h = holds _ words _ c.in-Some.matches c.in-Ok.ensures c.requires c.in_ok-matches.ensures c.in-Some.is in
    ap₂ drill_from (c.in-Some-rounds_of.ensures (pieces_of words) h.1) (c.in-Some-opts_of.ensures (pieces_of words) h.0)
