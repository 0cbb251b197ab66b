-- The commands of `clap` that read the words behind a mode, as a parse sees them, and what they find.
use Rattle.std.specs.Prelude.{◌≡◌, ◌≢◌, ◌==◌, ◌≤◌, Bool, List, [], length, true, not, Option, Some, None, slice_get, codes}
use Rattle.std.specs.Str.{bytes_eq}
use Rattle.clap.specs.Values.{bool_text}
use Rattle.clap.specs.Words.{App, Rule, Text, fault_of, first_value, found_of, matches_of, new_app, new_rule, one_text, rows_of, with_rule}
use Rattle.clap.specs.declared.builder.action.ArgAction.{ArgAction}
use Rattle.clap.specs.declared.builder.action.ArgAction.TheVariants.{Set, SetTrue}
use Rattle.clap.specs.declared.parser.matches.ArgMatches.{ArgMatches}
use Rattle.gc_cli.specs.Command.{Piece, values_of}

-- the command of a mode: its words stand without a name before them, and it has no flags of its own
abbrev pub mode_app : Text → App
mode_app mode =
    let app = new_app mode in
    record app { top = record app.top { no_binary_name = true; disable_help_flag = true; disable_version_flag = true } }

-- an option, which sets a value or a flag
abbrev pub option_rule : Text → ArgAction → Rule
option_rule name action = record (new_rule name) { long = Some name; action = Some action }

-- the number that stands alone
abbrev pub rounds_rule : Rule
rounds_rule = record (new_rule (codes "rounds")) { action = Some Set }

-- the command with the options
abbrev pub with_options : App → App
with_options app =
    with_rule (with_rule (with_rule (with_rule app (option_rule (codes "nursery") Set)) (option_rule (codes "pages") Set))
    (option_rule (codes "reports") SetTrue)) (option_rule (codes "summary") SetTrue)

-- the commands of the modes: `run` takes what `play` takes
abbrev pub play_app : App
play_app = with_options (mode_app (codes "play"))

abbrev pub make_app : App
make_app = with_rule (mode_app (codes "make")) rounds_rule

abbrev pub drill_app : App
drill_app = with_rule (with_options (mode_app (codes "drill"))) rounds_rule

-- the word behind which no word is an option
abbrev pub is_dashes : Text → Bool
is_dashes word = bytes_eq word (codes "--")

-- the command takes the words and finds these matches, or it refuses the words
abbrev pub Finds : App → List Text → Option ArgMatches → Type 0
Finds app words None = fault_of app words ≢ []
Finds app words (Some matches) = (fault_of app words ≡ []) × (rows_of (found_of matches) ≡ matches_of app words)

-- at most one piece has this name, and the matches have its value
abbrev pub HoldsValue : ArgMatches → List Piece → Text → Type 0
HoldsValue matches pieces name =
    (length (values_of name pieces) ≤ 1) × (first_value (found_of matches) name ≡ slice_get (values_of name pieces) 0)

-- at most one piece has this name, and the matches tell whether it is there
abbrev pub HoldsFlag : ArgMatches → List Piece → Text → Type 0
HoldsFlag matches pieces name =
    (length (values_of name pieces) ≤ 1)
    × (one_text (found_of matches) name ≡ Some (bool_text (not (length (values_of name pieces) == 0))))

-- the matches have the options of the pieces
pub record HoldsOptions (matches : ArgMatches) (pieces : List Piece) : Type 0 where
  pub nursery : HoldsValue matches pieces (codes "nursery")
  pub pages : HoldsValue matches pieces (codes "pages")
  pub reports : HoldsFlag matches pieces (codes "reports")
  pub summary : HoldsFlag matches pieces (codes "summary")
