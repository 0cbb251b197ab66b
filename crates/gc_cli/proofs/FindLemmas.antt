-- What the commands of the modes find in the words behind them, and that it is what the words ask for.
use Rattle.std.proofs.Common.{◌≡◌, inl, inr, List, [], ◌∷◌, ◌++◌, length, map, Bool, true, false, ◌||◌, not, cond, if◌then◌else◌, Option, Some, None, is_some, unwrap_or, option_map, option_and_then, slice_get, find, fold, ◌==◌, codes, refl, sym, ◌∙◌, ap, arith, true≢false, ne_eqb}
use Rattle.std.specs.List.{list_any}
use Rattle.std.specs.Str.{bytes_eq}
use Rattle.clap.specs.Faults.{defaults_fault, fault_of, given_default_fault, is_simple_and_free}
use Rattle.clap.specs.Kinds.{Kinds, or_else}
use Rattle.clap.specs.Matches.{found_of}
use Rattle.clap.specs.Simple.{built, matches_of}
use Rattle.clap.specs.Values.{bool_text}
use Rattle.clap.specs.Walk.{Row, Rule, Text, arg_by_long, default_rows, first_of, has_row, more_values, nothing_held, one_of, reading_by, row_text, rows_of, settled, walk, walked, with_default}
use Rattle.clap.specs.declared.builder.value_parser.Reading.TheVariants.{AsWritten}
use Rattle.clap.specs.declared.parser.matches.ArgMatches.{ArgMatches}
use Rattle.clap.specs.declared.parser.matches.ValueSource.TheVariants.{DefaultValue}
use Rattle.clap.proofs.FaultLemmas.{leaf_fault}
use Rattle.clap.proofs.WalkLemmas.{first_value-rows, one_text-rows}
use Rattle.gc_cli.specs.declared.command.Request.TheVariants.{Play, Run}
use Rattle.gc_cli.specs.Command.{Piece, drill_of, make_of, opts_alone, opts_of, pieces_of, request_of, values_of}
use Rattle.gc_cli.specs.Commands.{Finds, HoldsFlag, HoldsOptions, HoldsValue, drill_app, is_dashes, play_app}
use Rattle.gc_cli.proofs.PieceLemmas.{AreRight, is_flag_name, neither, same_test, same_text, wrong-drill, wrong-play}
use Rattle.gc_cli.proofs.WordLemmas.{dashes-make, dashes-wrong, or_else-nil}
use Rattle.gc_cli.proofs.WalkLemmas.{Reads, all_words, at_row-absent, fault_from, is_option, option_built, rounds_built, row, rows_from, set_rule, state}

-- ---- rows with the defaults

-- the row of a flag that isn't there
abbrev unset : Text → Row
unset name = record { id = name; values = codes "false" ∷ []; count = None; source = Some DefaultValue; reading = AsWritten }

-- the first row of a name
abbrev row_named : Text → List Row → Option Row
row_named name rows = find (λ r. bytes_eq r.id name) rows

-- it is there where there is one
has_row-found : (name : Text) (rows : List Row) → has_row name rows ≡ is_some (row_named name rows)
has_row-found name [] = refl
has_row-found name (r ∷ rs) = go (bytes_eq r.id name) (has_row-found name rs)
  where
    go : (b : Bool) → has_row name rs ≡ is_some (row_named name rs) → (b || has_row name rs) ≡ is_some (cond b (Some r) (row_named name rs))
    go true e = refl
    go false e = e

-- one more row behind others
row_named-behind : (name : Text) (rows : List Row) (last : Row) → bytes_eq last.id name ≡ false
    → row_named name (rows ++ last ∷ []) ≡ row_named name rows
row_named-behind name [] last other = rw other refl
row_named-behind name (r ∷ rs) last other = go (bytes_eq r.id name) (row_named-behind name rs last other)
  where
    go : (b : Bool) → row_named name (rs ++ last ∷ []) ≡ row_named name rs
        → cond b (Some r) (row_named name (rs ++ last ∷ [])) ≡ cond b (Some r) (row_named name rs)
    go true e = refl
    go false e = e

-- a row of a new name behind others
row_named-new : (rows : List Row) (last : Row) → row_named last.id rows ≡ None → row_named last.id (rows ++ last ∷ []) ≡ Some last
row_named-new [] last none = rw (same_test last.id) refl
row_named-new (r ∷ rs) last none = go (bytes_eq r.id last.id) none (row_named-new rs last)
  where
    go : (b : Bool) → cond b (Some r) (row_named last.id rs) ≡ None → (row_named last.id rs ≡ None
        → row_named last.id (rs ++ last ∷ []) ≡ Some last)
        → cond b (Some r) (row_named last.id (rs ++ last ∷ [])) ≡ Some last
    go true none more = absurd (true≢false (ap is_some none))
    go false none more = more none

-- a flag's default
flag-default : (name : Text) (rows : List Row) → has_row name rows ≡ false → with_default rows (set_rule name) ≡ rows ++ unset name ∷ []
flag-default name rows none = rw none (at_row-absent name (more_values DefaultValue (codes "false" ∷ [])) (unset name ∷ []) rows none)

-- a flag that is there
flag-kept : (name : Text) (rows : List Row) → has_row name rows ≡ true → with_default rows (set_rule name) ≡ rows
flag-kept name rows there = rw there refl

-- the default of a flag of another name changes nothing
other-default : (name other : Text) (rows : List Row) → bytes_eq other name ≡ false
    → row_named name (with_default rows (set_rule other)) ≡ row_named name rows
other-default name other rows differs = go (has_row other rows) refl
  where
    go : (b : Bool) → has_row other rows ≡ b → row_named name (with_default rows (set_rule other)) ≡ row_named name rows
    go true there = ap (row_named name) (flag-kept other rows there)
    go false none = ap (row_named name) (flag-default other rows none) ∙ row_named-behind name rows (unset other) differs

-- the default of a flag comes where it isn't there
own-default : (name : Text) (rows : List Row) (found : Option Row) → row_named name rows ≡ found
    → row_named name (with_default rows (set_rule name)) ≡ Some (unwrap_or found (unset name))
own-default name rows None is =
    ap (row_named name) (flag-default name rows (has_row-found name rows ∙ ap is_some is)) ∙ row_named-new rows (unset name) is
own-default name rows (Some r) is = ap (row_named name) (flag-kept name rows (has_row-found name rows ∙ ap is_some is)) ∙ is

-- an argument that takes a value has no default
no-default : (name : Text) (a : Rule) (rows : List Row) → (b : Bool) → has_row a.id rows ≡ b → a.defaults ≡ [] → with_default rows a ≡ rows
no-default name a rows true there none = rw there refl
no-default name a rows false there none = rw there (ap (λ d. default_rows a.id (reading_by a) d rows) none)

-- the rows with the defaults of both flags
abbrev with_flags : List Row → List Row
with_flags rows = with_default (with_default rows (set_rule (codes "reports"))) (set_rule (codes "summary"))

-- the row of an option with a value
value-kept : (name : Text) (rows : List Row) → bytes_eq (codes "reports") name ≡ false → bytes_eq (codes "summary") name ≡ false
    → row_named name (with_flags rows) ≡ row_named name rows
value-kept name rows first second =
    other-default name (codes "summary") (with_default rows (set_rule (codes "reports"))) second
    ∙ other-default name (codes "reports") rows first

-- ---- rows of pieces

-- the first value of a name, by the pieces
first_of-pieces : (name : Text) (pieces : List Piece) → is_flag_name name ≡ false
    → option_and_then (λ r. slice_get r.values 0) (row_named name (map row pieces)) ≡ slice_get (values_of name pieces) 0
first_of-pieces name [] other = refl
first_of-pieces name (x ∷ xs) other = go (bytes_eq x.0 name) refl (first_of-pieces name xs other)
  where
    go : (b : Bool) → bytes_eq x.0 name ≡ b
        → option_and_then (λ (r : Row). slice_get r.values 0) (row_named name (map row xs)) ≡ slice_get (values_of name xs) 0
        → option_and_then (λ (r : Row). slice_get r.values 0) (row_named name (map row (x ∷ xs))) ≡ slice_get (values_of name (x ∷ xs)) 0
    go true is e =
        let flag : is_flag_name x.0 ≡ false = ap is_flag_name (same_text x.0 name is) ∙ other in
        rw (is, flag) refl
    go false is e = rw is e

-- a flag's text, by the pieces
one_of-pieces : (name : Text) (pieces : List Piece) → is_flag_name name ≡ true
    → row_text (unwrap_or (row_named name (map row pieces)) (unset name)) ≡ Some (bool_text (not (length (values_of name pieces) == 0)))
one_of-pieces name [] flag = refl
one_of-pieces name (x ∷ xs) flag = go (bytes_eq x.0 name) refl (one_of-pieces name xs flag)
  where
    go : (b : Bool) → bytes_eq x.0 name ≡ b
        → row_text (unwrap_or (row_named name (map row xs)) (unset name)) ≡ Some (bool_text (not (length (values_of name xs) == 0)))
        → row_text (unwrap_or (row_named name (map row (x ∷ xs))) (unset name)) ≡ Some
        (bool_text (not (length (values_of name (x ∷ xs)) == 0)))
    go true is e =
        let named : is_flag_name x.0 ≡ true = ap is_flag_name (same_text x.0 name is) ∙ flag in
        let some : (length (x.1 ∷ values_of name xs) == 0) ≡ false = ne_eqb _ _ (λ h. omega arith) in
        rw (is, named, some) refl
    go false is e = rw is e

-- ---- what the matches hold

module _ (takes_number : Bool) (matches : ArgMatches) (pieces : List Piece) (right : AreRight takes_number pieces)
    (rows : rows_of (found_of matches) ≡ with_flags (map row pieces)) where
  pub holds-value : (name : Text) → is_flag_name name ≡ false → bytes_eq (codes "reports") name ≡ false
      → bytes_eq (codes "summary") name ≡ false
      → HoldsValue matches pieces name
  holds-value name other first second = (
    right.once name,
    first_value-rows (found_of matches) name ∙ ap (first_of name) rows
        ∙ ap (option_and_then (λ (r : Row). slice_get r.values 0)) (value-kept name (map row pieces) first second)
        ∙ first_of-pieces name pieces other,
  )

  holds-reports : HoldsFlag matches pieces (codes "reports")
  holds-reports = (
    right.once (codes "reports"),
    one_text-rows (found_of matches) (codes "reports") ∙ ap (one_of (codes "reports")) rows
        ∙ ap (option_and_then row_text) (other-default (codes "reports") (codes "summary")
        (with_default (map row pieces) (set_rule (codes "reports"))) refl
        ∙ own-default (codes "reports") (map row pieces) _ refl)
        ∙ one_of-pieces (codes "reports") pieces refl,
  )

  holds-summary : HoldsFlag matches pieces (codes "summary")
  holds-summary = (
    right.once (codes "summary"),
    one_text-rows (found_of matches) (codes "summary") ∙ ap (one_of (codes "summary")) rows
        ∙ ap (option_and_then row_text) (own-default (codes "summary") (with_default (map row pieces) (set_rule (codes "reports"))) _
        (other-default (codes "summary") (codes "reports") (map row pieces) refl))
        ∙ one_of-pieces (codes "summary") pieces refl,
  )

  pub holds-options : HoldsOptions matches pieces
  holds-options = record {
    nursery = holds-value (codes "nursery") refl refl refl;
    pages = holds-value (codes "pages") refl refl refl;
    reports = holds-reports;
    summary = holds-summary;
  }

-- ---- the commands

-- the arguments of `play` and `drill` when they are built
abbrev play_rules : List Rule
play_rules = option_built (codes "nursery") ∷ option_built (codes "pages") ∷ set_rule (codes "reports") ∷ set_rule (codes "summary") ∷ []

abbrev drill_rules : List Rule
drill_rules = play_rules ++ rounds_built ∷ []

-- they have no other long option
no_option : (name : Text) → is_option name ≡ false → (arg_by_long play_rules name ≡ None) × (arg_by_long drill_rules name ≡ None)
no_option name none =
    let nursery = bytes_eq (codes "nursery") name in
    let pages = bytes_eq (codes "pages") name in
    let reports = bytes_eq (codes "reports") name in
    let summary = bytes_eq (codes "summary") name in
    let p = neither nursery (pages || (reports || summary)) none in
    let q = neither pages (reports || summary) p.1 in
    let r = neither reports summary q.1 in
    (rw (p.0, q.0, r.0, r.1) refl, rw (p.0, q.0, r.0, r.1) refl)

play_reads : Reads false play_rules
play_reads = record {
  nursery = refl;
  pages = refl;
  reports = refl;
  summary = refl;
  other = λ name none. (no_option name none).0;
  short = λ x. refl;
  nursery_id = refl;
  pages_id = refl;
  rounds_id = λ never. absurd (true≢false (sym never));
  first = refl;
  second = refl;
}

drill_reads : Reads true drill_rules
drill_reads = record {
  nursery = refl;
  pages = refl;
  reports = refl;
  summary = refl;
  other = λ name none. (no_option name none).1;
  short = λ x. refl;
  nursery_id = refl;
  pages_id = refl;
  rounds_id = λ numbered. refl;
  first = refl;
  second = refl;
}

-- defaults that pass
abbrev pub AreQuiet : List Rule → Type 0
AreQuiet [] = Unit {0}
AreQuiet (a ∷ rest) = (given_default_fault a a.defaults ≡ []) × AreQuiet rest

-- then none fails
pub quiet : (c : List Rule) (rows : List Row) → AreQuiet c → defaults_fault rows c ≡ []
unfolding defaults_fault
quiet [] rows all = refl
quiet (a ∷ rest) rows all =
    ap (λ k. or_else k (defaults_fault (with_default rows a) rest)) (go (has_row a.id rows || length a.defaults == 0) all.0)
    ∙ quiet rest (with_default rows a) all.1
  where
    go : (b : Bool) → given_default_fault a a.defaults ≡ [] → (if b then [] else given_default_fault a a.defaults) ≡ []
    go true e = refl
    go false e = e

-- the tail of a parse, where the defaults pass and nothing is checked
pub level-is : (walked settled defaults checks : Kinds) → defaults ≡ [] → checks ≡ []
    → or_else walked (or_else [] (or_else settled (or_else defaults checks))) ≡ or_else walked settled
level-is walked settled defaults checks first second = ap (or_else walked) (rw (first, second) (or_else-nil settled))

-- clap's clauses are exact for the two
pub play-is_simple : is_simple_and_free play_app ≡ true
play-is_simple = refl

pub drill-is_simple : is_simple_and_free drill_app ≡ true
drill-is_simple = refl

-- the kinds of error that the walks of `play` and `drill` give, and the rows that they find
abbrev play_kinds : List Text → Kinds
play_kinds words = fault_from (codes "play") false play_rules play_reads (state (codes "play") false play_rules play_reads [] None 1) words

abbrev play_rows : List Text → List Row
play_rows words = rows_from (codes "play") false play_rules play_reads (state (codes "play") false play_rules play_reads [] None 1) words

abbrev drill_kinds : List Text → Kinds
drill_kinds words = fault_from (codes "drill") true drill_rules drill_reads
    (state (codes "drill") true drill_rules drill_reads [] None 1) words

abbrev drill_rows : List Text → List Row
drill_rows words = rows_from (codes "drill") true drill_rules drill_reads
    (state (codes "drill") true drill_rules drill_reads [] None 1) words

play-fault : (words : List Text) → fault_of play_app words ≡ play_kinds words
play-fault words =
    leaf_fault (built play_app) nothing_held words refl
    ∙ level-is _ _ _ _ (quiet play_rules (settled play_rules (walk play_rules [] nothing_held words).held).rows
    (refl, (refl, (refl, (refl, tt))))) refl

drill-fault : (words : List Text) → fault_of drill_app words ≡ drill_kinds words
drill-fault words =
    leaf_fault (built drill_app) nothing_held words refl
    ∙ level-is _ _ _ _ (quiet drill_rules (settled drill_rules (walk drill_rules [] nothing_held words).held).rows
    (refl, (refl, (refl, (refl, (refl, tt)))))) refl

-- the defaults are those of the flags
play-filled : (rows : List Row) → fold with_default rows play_rules ≡ with_flags rows
play-filled rows =
    ap with_flags (no-default (codes "pages") (option_built (codes "pages"))
    (with_default rows (option_built (codes "nursery"))) _ refl refl
    ∙ no-default (codes "nursery") (option_built (codes "nursery")) rows _ refl refl)

play-rows : (words : List Text) → matches_of play_app words ≡ with_flags (play_rows words)
play-rows words = play-filled (play_rows words)

drill-rows : (words : List Text) → matches_of drill_app words ≡ with_flags (drill_rows words)
drill-rows words =
    no-default (codes "rounds") rounds_built (fold with_default (drill_rows words) play_rules) _ refl refl ∙ play-filled (drill_rows words)

-- ---- what is found

-- without a number there are the options alone
opts_alone-options : (pieces : List Piece) → values_of (codes "rounds") pieces ≡ [] → opts_alone pieces ≡ opts_of pieces
opts_alone-options pieces none = ap (λ values. if length values == 0 then opts_of pieces else None) none

-- what `play` finds are the options of the pieces, of which none is a number
pub play-finds : (words : List Text) (matches : ArgMatches) → list_any is_dashes words ≡ false → Finds play_app words (Some matches)
    → HoldsOptions matches (pieces_of words) × (opts_alone (pieces_of words) ≡ opts_of (pieces_of words))
play-finds words matches free found = elim (all_words (codes "play") false play_rules play_reads words free) [
  | inl good ↦
      let rows = found.1 ∙ play-rows words ∙ ap with_flags good.1 in
      (holds-options false matches (pieces_of words) good.2 rows, opts_alone-options (pieces_of words) (good.2.numberless refl))
  | inr bad ↦ absurd (bad.0 (sym (play-fault words) ∙ found.0))
]

-- where it refuses the words, they ask for nothing
pub play-refuses : (words : List Text) → list_any is_dashes words ≡ false → Finds play_app words None
    → opts_alone (pieces_of words) ≡ None
play-refuses words free refused = elim (all_words (codes "play") false play_rules play_reads words free) [
  | inl good ↦ absurd (refused (play-fault words ∙ good.0))
  | inr bad ↦ wrong-play (pieces_of words) bad.1
]

-- what `drill` finds are the options and the number of the pieces
pub drill-finds : (words : List Text) (matches : ArgMatches) → list_any is_dashes words ≡ false → Finds drill_app words (Some matches)
    → HoldsOptions matches (pieces_of words) × HoldsValue matches (pieces_of words) (codes "rounds")
drill-finds words matches free found = elim (all_words (codes "drill") true drill_rules drill_reads words free) [
  | inl good ↦
      let rows = found.1 ∙ drill-rows words ∙ ap with_flags good.1 in (
        holds-options true matches (pieces_of words) good.2 rows,
        holds-value true matches (pieces_of words) good.2 rows (codes "rounds") refl refl refl,
      )
  | inr bad ↦ absurd (bad.0 (sym (drill-fault words) ∙ found.0))
]

-- where it refuses the words, they ask for nothing
pub drill-refuses : (words : List Text) → list_any is_dashes words ≡ false → Finds drill_app words None → drill_of (pieces_of words) ≡ None
drill-refuses words free refused = elim (all_words (codes "drill") true drill_rules drill_reads words free) [
  | inl good ↦ absurd (refused (drill-fault words ∙ good.0))
  | inr bad ↦ wrong-drill (pieces_of words) bad.1
]

-- ---- the mode, and `--`

-- with `--` no mode asks for anything
pub dashes-refused : (mode : Text) (words : List Text) → list_any is_dashes words ≡ true → request_of (mode ∷ words) ≡ None
unfolding request_of
dashes-refused mode words some =
    play (bytes_eq mode (codes "play")) (wrong-play (pieces_of words) (dashes-wrong false words some)) (dashes-make words some)
    (wrong-drill (pieces_of words) (dashes-wrong true words some))
  where
    drill : (b : Bool) → drill_of (pieces_of words) ≡ None → (if b then drill_of (pieces_of words) else None) ≡ None
    drill true third = third
    drill false third = refl

    make : (b : Bool) → make_of words ≡ None → drill_of (pieces_of words) ≡ None
        → (if b then make_of words else (if bytes_eq mode (codes "drill") then drill_of (pieces_of words) else None)) ≡ None
    make true second third = second
    make false second third = drill (bytes_eq mode (codes "drill")) third

    run : (b : Bool) → opts_alone (pieces_of words) ≡ None → make_of words ≡ None → drill_of (pieces_of words) ≡ None
        → (if b then option_map Run (opts_alone (pieces_of words)) else (if bytes_eq mode (codes "make") then make_of words
        else (if bytes_eq mode (codes "drill") then drill_of (pieces_of words) else None))) ≡ None
    run true first second third = ap (option_map Run) first
    run false first second third = make (bytes_eq mode (codes "make")) second third

    play : (b : Bool) → opts_alone (pieces_of words) ≡ None → make_of words ≡ None → drill_of (pieces_of words) ≡ None
        → (if b then option_map Play (opts_alone (pieces_of words))
        else (if bytes_eq mode (codes "run") then option_map Run (opts_alone (pieces_of words))
        else (if bytes_eq mode (codes "make") then make_of words
        else (if bytes_eq mode (codes "drill") then drill_of (pieces_of words) else None)))) ≡ None
    play true first second third = ap (option_map Play) first
    play false first second third = run (bytes_eq mode (codes "run")) first second third

-- what each mode asks for, and that no other asks for anything
pub request_of-play : (mode : Text) (words : List Text) → mode ≡ codes "play"
    → option_map Play (opts_alone (pieces_of words)) ≡ request_of (mode ∷ words)
unfolding request_of
request_of-play mode words is = rw is refl

pub request_of-run : (mode : Text) (words : List Text) → mode ≡ codes "run"
    → option_map Run (opts_alone (pieces_of words)) ≡ request_of (mode ∷ words)
unfolding request_of
request_of-run mode words is = rw is refl

pub request_of-make : (mode : Text) (words : List Text) → mode ≡ codes "make" → make_of words ≡ request_of (mode ∷ words)
unfolding request_of
request_of-make mode words is = rw is refl

pub request_of-drill : (mode : Text) (words : List Text) → mode ≡ codes "drill" → drill_of (pieces_of words) ≡ request_of (mode ∷ words)
unfolding request_of
request_of-drill mode words is = rw is refl

pub request_of-other : (mode : Text) (words : List Text) → (mode ≡ codes "play" → ⊥) → (mode ≡ codes "run" → ⊥)
    → (mode ≡ codes "make" → ⊥) → (mode ≡ codes "drill" → ⊥)
    → None ≡ request_of (mode ∷ words)
unfolding request_of
request_of-other mode words no_play no_run no_make no_drill =
    rw (
      differs (codes "play") (bytes_eq mode (codes "play")) refl no_play,
      differs (codes "run") (bytes_eq mode (codes "run")) refl no_run,
      differs (codes "make") (bytes_eq mode (codes "make")) refl no_make,
      differs (codes "drill") (bytes_eq mode (codes "drill")) refl no_drill,
    ) refl
  where
    differs : (text : Text) (b : Bool) → bytes_eq mode text ≡ b → (mode ≡ text → ⊥) → bytes_eq mode text ≡ false
    differs text true is other = absurd (other (same_text mode text is))
    differs text false is other = is
