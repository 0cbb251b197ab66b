-- How the parse of `clap` walks over the words behind a mode: piece by piece it finds what the pieces say, or it
-- refuses words of which a piece is wrong.
use Rattle.std.proofs.Common.{◌≡◌, ◌⊎◌, inl, inr, ℕ, List, [], ◌∷◌, ◌++◌, map, drop, Bool, true, false, ◌||◌, ◌&&◌, if◌then◌else◌, Option, Some, None, is_some, IfSome, option_map, nat_lt, fold, codes, refl, sym, ◌∙◌, ap, subst, append-nil, append_assoc, true≢false}
use Rattle.std.specs.List.{list_any}
use Rattle.std.specs.Option.{option_map_or}
use Rattle.std.specs.Str.{bytes_eq}
use Rattle.clap.specs.Faults.{long_fault, option_fault, react_fault, repeat_fault, settle_fault, turn_fault, use_fault, walk_fault, positional_fault}
use Rattle.clap.specs.Kinds.{Kinds, or_else}
use Rattle.clap.specs.Lexer.{has_byte, long_of, name_and_value}
use Rattle.clap.specs.Simple.{new_rule}
use Rattle.clap.specs.Walk.{Held, Row, Rule, Text, Waiting, Walk, arg_by_id, arg_by_index, arg_by_long, arg_by_short, at_row, has_row, idle, more_values, option, option_word, pushed, reacted, settled, takes_values, to_positional, used, walked, with_values, without}
use Rattle.clap.specs.declared.builder.action.ArgAction.TheVariants.{Set, SetTrue}
use Rattle.clap.specs.declared.builder.value_parser.Reading.TheVariants.{AsWritten}
use Rattle.clap.specs.declared.builder.value_parser.ValueParser.TheVariants as vp
use Rattle.clap.specs.declared.error.kind.ErrorKind.TheVariants as kind
use Rattle.clap.specs.declared.parser.matches.ValueSource.TheVariants.{CommandLine}
use Rattle.gc_script.specs.Words.{numeral}
use Rattle.gc_cli.specs.Command.{Piece, after_equals, before_equals, is_flag, piece_of, pieces_of, takes_value}
use Rattle.gc_cli.specs.Commands.{is_dashes}
use Rattle.gc_cli.proofs.WordLemmas.{IsPlain, LongOrNot, ShortOrPlain, at_word, before-hyphens, before-whole, dashes, fails_first, hyphen-number, is_flag-texts, long-turn, long-walk, long_or_not, or_else-nil, piece-number, piece-plain, piece-value, pieces-one, pieces-two, plain-turn, plain-walk, shape, short-fails, short_or_plain, some_kind, takes_value-texts}
use Rattle.gc_cli.proofs.PieceLemmas.{AreRight, HasWrong, IsName, MayStand, IsWrong, has_name, has_name-append, is_flag_name, more-right, neither, no_number, none-right, of_nursery, of_pages, of_reports, of_rounds, of_summary, same_test, same_text, stray, twice}

-- ---- rows

-- what a piece shows in its row
abbrev pub shown : Piece → Text
shown piece = if is_flag_name piece.0 then codes "true" else piece.1

-- the row of a piece that the words name
abbrev pub row : Piece → Row
row piece = record { id = piece.0; values = shown piece ∷ []; count = None; source = Some CommandLine; reading = AsWritten }

-- a name is among the rows where it is among the pieces
has_row-row : (id : Text) (pieces : List Piece) → has_row id (map row pieces) ≡ has_name id pieces
has_row-row id [] = refl
has_row-row id (x ∷ xs) = ap (λ b. bytes_eq x.0 id || b) (has_row-row id xs)

-- where no row has the id, the missing ones come behind
pub at_row-absent : (id : Text) (change : Row → List Row) (missing rows : List Row) → has_row id rows ≡ false
    → at_row id change missing rows ≡ rows ++ missing
at_row-absent id change missing [] none = refl
at_row-absent id change missing (r ∷ rs) none =
    let parts = neither (bytes_eq r.id id) (has_row id rs) none in
    rw parts.0 (ap (λ rest. r ∷ rest) (at_row-absent id change missing rs parts.1))

-- so does the row of a first use
row-added : (id : Text) (values : List Text) (rows : List Row) → has_row id rows ≡ false
    → with_values id AsWritten CommandLine values (without id rows)
    ≡ rows ++ (record { id = id; values = values; count = None; source = Some CommandLine; reading = AsWritten }) ∷ []
row-added id values rows none =
    let kept : without id rows ≡ rows = at_row-absent id (λ _. []) [] rows none ∙ append-nil rows in
    rw kept (at_row-absent id (more_values CommandLine values)
    (record { id = id; values = values; count = None; source = Some CommandLine; reading = AsWritten } ∷ []) rows none)

map-row-more : (pieces : List Piece) (piece : Piece) → map row (pieces ++ piece ∷ []) ≡ map row pieces ++ row piece ∷ []
map-row-more [] piece = refl
map-row-more (x ∷ xs) piece = ap (λ rest. row x ∷ rest) (map-row-more xs piece)

-- ---- arguments of a command that is built

-- an option that takes a value, or the number
abbrev pub value_rule : Text → Option Text → Option ℕ → Rule
value_rule name long index = record (new_rule name) {
  long = long;
  index = index;
  action = Some Set;
  range = Some (record { start_inclusive = 1; end_inclusive = 1 });
  parser = Some vp.String;
}

-- an option that takes none
abbrev pub set_rule : Text → Rule
set_rule name = record (new_rule name) {
  long = Some name;
  action = Some SetTrue;
  range = Some (record { start_inclusive = 0; end_inclusive = 0 });
  defaults = codes "false" ∷ [];
  missing = codes "true" ∷ [];
  parser = Some vp.Bool;
}

-- the two as the commands have them
abbrev pub option_built : Text → Rule
option_built name = value_rule name (Some name) None

abbrev pub rounds_built : Rule
rounds_built = value_rule (codes "rounds") None (Some 1)

-- the names of long options
abbrev pub is_option : Text → Bool
is_option name =
    bytes_eq (codes "nursery") name || (bytes_eq (codes "pages") name ||
    (bytes_eq (codes "reports") name || bytes_eq (codes "summary") name))

-- the arguments are the options and, where it takes one, the number
pub record Reads (takes_number : Bool) (c : List Rule) : Type 0 where
  pub nursery : arg_by_long c (codes "nursery") ≡ Some (option_built (codes "nursery"))
  pub pages : arg_by_long c (codes "pages") ≡ Some (option_built (codes "pages"))
  pub reports : arg_by_long c (codes "reports") ≡ Some (set_rule (codes "reports"))
  pub summary : arg_by_long c (codes "summary") ≡ Some (set_rule (codes "summary"))
  pub other : (name : Text) → is_option name ≡ false → arg_by_long c name ≡ None
  pub short : (x : ℕ) → arg_by_short c x ≡ None
  pub nursery_id : arg_by_id c (codes "nursery") ≡ Some (option_built (codes "nursery"))
  pub pages_id : arg_by_id c (codes "pages") ≡ Some (option_built (codes "pages"))
  pub rounds_id : takes_number ≡ true → arg_by_id c (codes "rounds") ≡ Some rounds_built
  pub first : arg_by_index c 1 ≡ (if takes_number then Some rounds_built else None)
  pub second : arg_by_index c 2 ≡ None

-- a use of the argument with these values is this piece
pub record UsesAs (a : Rule) (values : List Text) (piece : Piece) : Type 0 where
  pub fault : (rows : List Row) → use_fault false a values rows ≡ or_else (repeat_fault false piece.0 rows) []
  pub rows : (rows : List Row) → used a values rows ≡ with_values piece.0 AsWritten CommandLine (shown piece ∷ []) (without piece.0 rows)

-- a use with a value, and one of a flag
value-uses : (name : Text) (long : Option Text) (index : Option ℕ) (text : Text) → is_flag_name name ≡ false
    → UsesAs (value_rule name long index) (text ∷ []) (name, text)
value-uses name long index text other = record { fault = λ rows. refl; rows = λ rows. rw other refl }

set-uses : (name : Text) → is_flag_name name ≡ true → UsesAs (set_rule name) [] (name, [])
set-uses name flag = record { fault = λ rows. refl; rows = λ rows. rw flag refl }

-- a use is taken where its name is new, and refused where it isn't
abbrev Takes : Bool → Rule → List Text → Piece → List Piece → Type 0
Takes takes_number a values piece pieces =
    ((use_fault false a values (map row pieces) ≡ []) × (used a values (map row pieces) ≡ map row (pieces ++ piece ∷ []))
    × AreRight takes_number (pieces ++ piece ∷ []))
    ⊎ ((use_fault false a values (map row pieces) ≡ [] → ⊥) × (has_name piece.0 pieces ≡ true))

takes : (takes_number : Bool) (a : Rule) (values : List Text) (piece : Piece) (pieces : List Piece) → UsesAs a values piece
    → MayStand takes_number piece.0 → AreRight takes_number pieces → Takes takes_number a values piece pieces
takes takes_number a values piece pieces uses may right = go (has_name piece.0 pieces) refl
  where
    go : (b : Bool) → has_name piece.0 pieces ≡ b → Takes takes_number a values piece pieces
    go true is =
        let there : has_row piece.0 (map row pieces) ≡ true = has_row-row piece.0 pieces ∙ is in
        inr (some_kind kind.ArgumentConflict [] _ (uses.fault (map row pieces) ∙ rw there refl), is)
    go false is =
        let new : has_row piece.0 (map row pieces) ≡ false = has_row-row piece.0 pieces ∙ is in
        inl (
          uses.fault (map row pieces) ∙ rw new refl,
          uses.rows (map row pieces) ∙ row-added piece.0 (shown piece ∷ []) (map row pieces) new ∙ sym (map-row-more pieces piece),
          more-right takes_number pieces piece right may is,
        )

-- ---- the walk

module _ (mode : Text) (takes_number : Bool) (c : List Rule) (reads : Reads takes_number c) where
  -- what is held when the first pieces are read, of which the last may not be used yet
  abbrev pub held : List Piece → Option Piece → Held
  held pieces pending = record { rows = map row pieces; pending = option_map (λ p. (p.0, p.1 ∷ [])) pending; skip = 0 }

  -- the walk between two words, where no option waits for its value
  abbrev pub state : List Piece → Option Piece → ℕ → Walk
  state pieces pending position =
      record { held = held pieces pending; waiting = idle; position = position; is_trailing = false; stopped = None }

  -- the walk where an option waits for its value
  abbrev waits : List Piece → Text → ℕ → Walk
  waits pieces name position = record {
    held = record { rows = map row pieces; pending = Some (name, []); skip = 0 };
    waiting = option name;
    position = position;
    is_trailing = false;
    stopped = None;
  }

  -- the pieces that are read
  abbrev pub so_far : List Piece → Option Piece → List Piece
  so_far pieces None = pieces
  so_far pieces (Some piece) = pieces ++ piece ∷ []

  -- the argument of a name takes one value
  abbrev TakesValue : Text → Type 0
  TakesValue name = (long : Option Text) × (index : Option ℕ) × (arg_by_id c name ≡ Some (value_rule name long index))
      × (is_flag_name name ≡ false)

  -- what waits to be used is the value of an argument that takes one
  abbrev Waits : Option Piece → Type 0
  Waits pending = IfSome pending (λ p. TakesValue p.0 × IsName p.0 × MayStand takes_number p.0)

  -- the next number is the first where none was read
  abbrev StandsAt : ℕ → List Piece → Type 0
  StandsAt position pieces = (position ≡ 1) ⊎ ((position ≡ 2) × (has_name (codes "rounds") pieces ≡ true))

  -- what holds of a walk there
  record Stands (pieces : List Piece) (pending : Option Piece) (position : ℕ) : Type 0 where
    right : AreRight takes_number pieces
    known : Waits pending
    place : StandsAt position (so_far pieces pending)

  -- the kinds of one word's turn, and the walk after it
  abbrev turn : Walk → Text → Kinds
  turn w word = turn_fault (shape mode c) [] w word

  abbrev move : Walk → Text → Walk
  move w word = walked c [] w word

  -- the kinds of a walk from here, and the rows at its end
  abbrev pub fault_from : Walk → List Text → Kinds
  fault_from w words = or_else (walk_fault (shape mode c) [] w words) (settle_fault c false (fold (walked c []) w words).held)

  abbrev pub rows_from : Walk → List Text → List Row
  rows_from w words = (settled c (fold (walked c []) w words).held).rows

  -- nothing fails, and the rows are those of the pieces, each of another name; or something fails, and a piece is wrong
  abbrev pub Judged : Kinds → List Row → List Piece → Type 0
  Judged kinds rows pieces =
      ((kinds ≡ []) × (rows ≡ map row pieces) × AreRight takes_number pieces) ⊎ ((kinds ≡ [] → ⊥) × HasWrong takes_number pieces)

  -- what is judged of a walk from here
  abbrev Verdict : Walk → List Text → List Piece → Type 0
  Verdict w words pieces = Judged (fault_from w words) (rows_from w words) pieces

  -- the same of equal kinds and rows
  same_judged : (kinds other : Kinds) (rows more : List Row) (pieces : List Piece) → kinds ≡ other → rows ≡ more
      → Judged other more pieces → Judged kinds rows pieces
  same_judged kinds other rows more pieces is same judged = rw (is, same) judged

  -- a word passes, and the rest is judged from there
  step : (w after : Walk) (word : Text) (words : List Text) (pieces : List Piece) → turn w word ≡ [] → move w word ≡ after
      → Verdict after words pieces → Verdict w (word ∷ words) pieces
  unfolding walk_fault
  step w after word words pieces passed is judged =
      same_judged _ _ _ _ pieces
      (ap (λ t. or_else (or_else t (walk_fault (shape mode c) [] (move w word) words))
      (settle_fault c false (fold (walked c []) (move w word) words).held)) passed
      ∙ ap (λ v. fault_from v words) is)
      (ap (λ v. rows_from v words) is) judged

  -- a word fails
  stop : (w : Walk) (word : Text) (words : List Text) (pieces : List Piece) → (turn w word ≡ [] → ⊥) → HasWrong takes_number pieces
      → Verdict w (word ∷ words) pieces
  unfolding walk_fault
  stop w word words pieces fails wrong =
      inr (fails_first _ _ (fails_first (turn w word) _ fails), wrong)

  -- a wrong piece between others
  wrong_at : (before : List Piece) (piece : Piece) (after : List Piece) → IsName piece.0 → IsWrong takes_number before piece
      → HasWrong takes_number (before ++ piece ∷ after)
  wrong_at before piece after name wrong = record { before = before; piece = piece; after = after; is = refl; name = name; wrong = wrong }

  -- ---- what waits is used

  -- its use is taken, or it fails and a piece is wrong
  abbrev Settles : Held → List Piece → Type 0
  Settles h pieces =
      ((settle_fault c false h ≡ []) × ((settled c h).rows ≡ map row pieces) × AreRight takes_number pieces)
      ⊎ ((settle_fault c false h ≡ [] → ⊥) × ((more : List Piece) → HasWrong takes_number (pieces ++ more)))

  -- one of the two
  settle : (pieces : List Piece) (pending : Option Piece) → AreRight takes_number pieces → Waits pending
      → Settles (held pieces pending) (so_far pieces pending)
  settle pieces None right known = inl (refl, refl, right)
  settle pieces (Some p) right known =
      let takes_one = known.0 in
      elim (takes takes_number (value_rule p.0 takes_one.0 takes_one.1) (p.1 ∷ []) p pieces
      (value-uses p.0 takes_one.0 takes_one.1 p.1 takes_one.3) known.2 right) [
        | inl good ↦ inl (rw takes_one.2 good.0, rw takes_one.2 good.1, good.2)
        | inr bad ↦ inr (
          rw takes_one.2 bad.0,
          λ more. rw (append_assoc pieces (p ∷ []) more) (wrong_at pieces p more known.1 (twice bad.1)),
        )
      ]

  -- and then another argument
  abbrev Reacts : Rule → List Text → Held → List Piece → Piece → Type 0
  Reacts a values h pieces piece =
      ((react_fault c false a values h ≡ []) × (reacted c a values h ≡ held (pieces ++ piece ∷ []) None)
      × AreRight takes_number (pieces ++ piece ∷ []))
      ⊎ ((react_fault c false a values h ≡ [] → ⊥) × ((more : List Piece) → HasWrong takes_number (pieces ++ piece ∷ more)))

  -- one of the two again
  react : (a : Rule) (values : List Text) (piece : Piece) (pieces : List Piece) (pending : Option Piece) → UsesAs a values piece
      → IsName piece.0 → MayStand takes_number piece.0 → AreRight takes_number pieces → Waits pending
      → Reacts a values (held pieces pending) (so_far pieces pending) piece
  react a values piece pieces pending uses name may right known = elim (settle pieces pending right known) [
    | inr bad ↦ inr (fails_first _ _ bad.0, λ more. bad.1 (piece ∷ more))
    | inl good ↦ second good.0 good.1 (takes takes_number a values piece (so_far pieces pending) uses may good.2)
  ]
    where
      second : settle_fault c false (held pieces pending) ≡ [] → (settled c (held pieces pending)).rows ≡ map row (so_far pieces pending)
          → Takes takes_number a values piece (so_far pieces pending) → Reacts a values (held pieces pending) (so_far pieces pending) piece
      second passed rows (inl good) = inl (
        ap (λ k. or_else k (use_fault false a values (settled c (held pieces pending)).rows)) passed ∙ ap (use_fault false a values) rows
            ∙ good.0,
        ap (λ r. record { rows = r; pending = None; skip = 0 }) (ap (used a values) rows ∙ good.1),
        good.2,
      )
      second passed rows (inr bad) = inr (
        λ none. bad.0 (sym (ap (λ k. or_else k (use_fault false a values (settled c (held pieces pending)).rows)) passed
            ∙ ap (use_fault false a values) rows) ∙ none),
        λ more. wrong_at (so_far pieces pending) piece more name (twice bad.1),
      )

  -- ---- one word

  -- what is judged of the words that follow, from each state
  abbrev Goes : List Text → Type 0
  Goes words = (pieces : List Piece) (pending : Option Piece) (position : ℕ) → Stands pieces pending position
      → Verdict (state pieces pending position) words (so_far pieces pending ++ pieces_of words)

  -- a place stays the same behind more pieces
  stands-more : (position : ℕ) (pieces more : List Piece) → StandsAt position pieces → StandsAt position (pieces ++ more)
  stands-more position pieces more (inl first) = inl first
  stands-more position pieces more (inr second) = inr (second.0, rw (has_name-append (codes "rounds") pieces more, second.1) refl)

  -- a word by which an argument is used
  uses_word : (a : Rule) (values : List Text) (piece : Piece) (word : Text) (words : List Text) (pieces : List Piece)
      (pending : Option Piece) (position : ℕ)
      → UsesAs a values piece → IsName piece.0 → MayStand takes_number piece.0 → Stands pieces pending position → Goes words
      → turn (state pieces pending position) word ≡ or_else (react_fault c false a values (held pieces pending)) []
      → move (state pieces pending position) word ≡ at_word mode c (reacted c a values (held pieces pending)) idle position
      → Verdict (state pieces pending position) (word ∷ words) (so_far pieces pending ++ piece ∷ pieces_of words)
  uses_word a values piece word words pieces pending position uses name may stands goes turns moves =
      elim (react a values piece pieces pending uses name may stands.right stands.known) [
        | inl good ↦
            let all = so_far pieces pending ++ piece ∷ [] in
            let more = stands-more position (so_far pieces pending) (piece ∷ []) stands.place in
            step _ (state all None position) word words _ (turns ∙ or_else-nil _ ∙ good.0)
            (moves ∙ ap (λ h. at_word mode c h idle position) good.1)
            (subst (λ ps. Verdict (state all None position) words ps) (append_assoc (so_far pieces pending) (piece ∷ []) (pieces_of words))
            (goes all None position (record { right = good.2; known = tt; place = more })))
        | inr bad ↦ stop _ word words _ (λ none. bad.0 (sym (or_else-nil _) ∙ sym turns ∙ none)) (bad.1 (pieces_of words))
      ]

  -- a word that fails, and is no number
  fails_number : (word : Text) (words : List Text) (pieces : List Piece) (pending : Option Piece) (position : ℕ) → numeral word ≡ None
      → (turn (state pieces pending position) word ≡ [] → ⊥)
      → Verdict (state pieces pending position) (word ∷ words) (so_far pieces pending ++ (codes "rounds", word) ∷ pieces_of words)
  fails_number word words pieces pending position none fails =
      stop _ word words _ fails (wrong_at (so_far pieces pending) (codes "rounds", word) (pieces_of words) (of_rounds refl)
      (no_number refl none))

  -- a long option
  module _ (x : ℕ) (xs : Text) (words : List Text) (pieces : List Piece) (pending : Option Piece) (position : ℕ)
      (stands : Stands pieces pending position) (goes : Goes words) where
    abbrev long_text : Text
    long_text = 45 ∷ 45 ∷ x ∷ xs

    abbrev Judges : Type 0
    Judges = Verdict (state pieces pending position) (long_text ∷ words) (so_far pieces pending ++ piece_of long_text ∷ pieces_of words)

    -- its name and its value
    long-is : (has : Bool) → has_byte 61 (x ∷ xs) ≡ has
        → long_of long_text ≡ Some (before_equals (x ∷ xs), (if has then Some (after_equals (x ∷ xs)) else None))
    long-is has is = ap (λ b. Some (before_equals (x ∷ xs), (if b then Some (after_equals (x ∷ xs)) else None))) is

    -- judged by its piece
    as_piece : (piece : Piece) → piece_of long_text ≡ piece
        → Verdict (state pieces pending position) (long_text ∷ words) (so_far pieces pending ++ piece ∷ pieces_of words) → Judges
    as_piece piece is judged =
        subst (λ p. Verdict (state pieces pending position) (long_text ∷ words) (so_far pieces pending ++ p ∷ pieces_of words))
        (sym is) judged

    -- one with its value behind `=`
    long_value : (name : Text) → before_equals (x ∷ xs) ≡ name → IsName name → bytes_eq name (codes "rounds") ≡ false
        → is_flag_name name ≡ false → takes_value (45 ∷ 45 ∷ name) ≡ true
        → arg_by_long c name ≡ Some (option_built name) → takes_value long_text ≡ false → Judges
    long_value name is of lettered other takes found apart = go (has_byte 61 (x ∷ xs)) refl
      where
        go : (b : Bool) → has_byte 61 (x ∷ xs) ≡ b → Judges
        go true has =
            let text = after_equals (x ∷ xs) in
            let long : long_of long_text ≡ Some (name, Some text) = long-is true has ∙ ap (λ n. Some (n, Some text)) is in
            as_piece (name, text) (piece-value (x ∷ xs) name is takes)
            (uses_word (option_built name) (text ∷ []) (name, text) long_text words pieces pending position
            (value-uses name (Some name) None text other) of (λ never. lettered) stands goes
            (long-turn mode c (held pieces pending) idle position long_text name (Some text) (Some (option_built name)) refl long found)
            (long-walk mode c (held pieces pending) idle position long_text name (Some text) (Some (option_built name)) refl long found))
        go false has =
            let whole : 45 ∷ 45 ∷ name ≡ long_text = ap (λ t. 45 ∷ 45 ∷ t) (sym is ∙ before-whole (x ∷ xs) has) in
            absurd (true≢false (sym takes ∙ ap takes_value whole ∙ apart))

    -- a word with `=` is no flag
    no_flag : has_byte 61 (x ∷ xs) ≡ true → is_flag long_text ≡ false
    no_flag has = go (is_flag long_text) refl
      where
        go : (b : Bool) → is_flag long_text ≡ b → is_flag long_text ≡ false
        go false flag = flag
        go true flag = elim (is_flag-texts long_text flag) [
          | inl text ↦ absurd (true≢false (sym has ∙ ap (λ t. has_byte 61 (drop 2 t)) text))
          | inr text ↦ absurd (true≢false (sym has ∙ ap (λ t. has_byte 61 (drop 2 t)) text))
        ]

    -- a flag, or one with a value, which it doesn't take
    long_flag : (name : Text) → before_equals (x ∷ xs) ≡ name → IsName name → bytes_eq name (codes "rounds") ≡ false
        → is_flag_name name ≡ true → is_flag (45 ∷ 45 ∷ name) ≡ true
        → takes_value (45 ∷ 45 ∷ name) ≡ false → arg_by_long c name ≡ Some (set_rule name) → Judges
    long_flag name is of lettered named flag none found = go (has_byte 61 (x ∷ xs)) refl
      where
        go : (b : Bool) → has_byte 61 (x ∷ xs) ≡ b → Judges
        go true has =
            let text = after_equals (x ∷ xs) in
            let long : long_of long_text ≡ Some (name, Some text) = long-is true has ∙ ap (λ n. Some (n, Some text)) is in
            let before : takes_value (before_equals long_text) ≡ false =
            ap takes_value (before-hyphens (x ∷ xs) ∙ ap (λ t. 45 ∷ 45 ∷ t) is) ∙ none in
            as_piece (codes "rounds", long_text) (piece-number long_text (no_flag has) before)
            (fails_number long_text words pieces pending position (hyphen-number 45 (x ∷ xs))
            (some_kind kind.TooManyValues [] _
            (long-turn mode c (held pieces pending) idle position long_text name (Some text) (Some (set_rule name)) refl long found)))
        go false has =
            let long : long_of long_text ≡ Some (name, None) = long-is false has ∙ ap (λ n. Some (n, None)) is in
            let whole : long_text ≡ 45 ∷ 45 ∷ name = ap (λ t. 45 ∷ 45 ∷ t) (sym (before-whole (x ∷ xs) has) ∙ is) in
            as_piece (name, []) (ap piece_of whole ∙ rw flag refl)
            (uses_word (set_rule name) [] (name, []) long_text words pieces pending position
            (set-uses name named) of (λ never. lettered) stands goes
            (long-turn mode c (held pieces pending) idle position long_text name None (Some (set_rule name)) refl long found)
            (long-walk mode c (held pieces pending) idle position long_text name None (Some (set_rule name)) refl long found))

    -- an unknown one
    long_other : is_option (before_equals (x ∷ xs)) ≡ false → Judges
    long_other other =
        let long = long-is (has_byte 61 (x ∷ xs)) refl in
        as_piece (codes "rounds", long_text) (piece-number long_text (flag (is_flag long_text) refl)
        (takes (takes_value (before_equals long_text)) refl))
        (fails_number long_text words pieces pending position (hyphen-number 45 (x ∷ xs))
        (some_kind kind.UnknownArgument [] _
        (long-turn mode c (held pieces pending) idle position long_text _ _ None refl long (reads.other (before_equals (x ∷ xs)) other))))
      where
        flag : (b : Bool) → is_flag long_text ≡ b → is_flag long_text ≡ false
        flag false is = is
        flag true is = elim (is_flag-texts long_text is) [
          | inl text ↦ absurd (true≢false (sym (ap (λ t. is_option (before_equals (drop 2 t))) text) ∙ other))
          | inr text ↦ absurd (true≢false (sym (ap (λ t. is_option (before_equals (drop 2 t))) text) ∙ other))
        ]

        takes : (b : Bool) → takes_value (before_equals long_text) ≡ b → takes_value (before_equals long_text) ≡ false
        takes false is = is
        takes true is = elim (takes_value-texts (before_equals long_text) is) [
          | inl text ↦ absurd (true≢false (sym (ap (λ t. is_option (drop 2 t)) (sym (before-hyphens (x ∷ xs)) ∙ text)) ∙ other))
          | inr text ↦ absurd (true≢false (sym (ap (λ t. is_option (drop 2 t)) (sym (before-hyphens (x ∷ xs)) ∙ text)) ∙ other))
        ]

    -- any of them
    long_word : takes_value long_text ≡ false → Judges
    long_word apart = nursery (bytes_eq (codes "nursery") (before_equals (x ∷ xs))) refl
      where
        summary : (b : Bool) → bytes_eq (codes "summary") (before_equals (x ∷ xs)) ≡ b
            → bytes_eq (codes "nursery") (before_equals (x ∷ xs)) ≡ false
            → bytes_eq (codes "pages") (before_equals (x ∷ xs)) ≡ false → bytes_eq (codes "reports") (before_equals (x ∷ xs)) ≡ false
            → Judges
        summary true is first second third = long_flag (codes "summary") (sym (same_text _ _ is))
            (of_summary refl) refl refl refl refl reads.summary
        summary false is first second third = long_other (rw (first, second, third, is) refl)

        reports : (b : Bool) → bytes_eq (codes "reports") (before_equals (x ∷ xs)) ≡ b
            → bytes_eq (codes "nursery") (before_equals (x ∷ xs)) ≡ false
            → bytes_eq (codes "pages") (before_equals (x ∷ xs)) ≡ false → Judges
        reports true is first second = long_flag (codes "reports") (sym (same_text _ _ is))
            (of_reports refl) refl refl refl refl reads.reports
        reports false is first second = summary (bytes_eq (codes "summary") (before_equals (x ∷ xs))) refl first second is

        pages : (b : Bool) → bytes_eq (codes "pages") (before_equals (x ∷ xs)) ≡ b
            → bytes_eq (codes "nursery") (before_equals (x ∷ xs)) ≡ false → Judges
        pages true is first = long_value (codes "pages") (sym (same_text _ _ is)) (of_pages refl) refl refl refl reads.pages apart
        pages false is first = reports (bytes_eq (codes "reports") (before_equals (x ∷ xs))) refl first is

        nursery : (b : Bool) → bytes_eq (codes "nursery") (before_equals (x ∷ xs)) ≡ b → Judges
        nursery true is = long_value (codes "nursery") (sym (same_text _ _ is)) (of_nursery refl) refl refl refl reads.nursery apart
        nursery false is = pages (bytes_eq (codes "pages") (before_equals (x ∷ xs))) refl is

  -- a number that stands alone
  module _ (word : Text) (words : List Text) (pieces : List Piece) (pending : Option Piece) (stands_plain : IsPlain word)
      (no_dashes : bytes_eq word dashes ≡ false) (long : long_of word ≡ None) where
    abbrev number : Piece
    number = (codes "rounds", word)

    abbrev Numbers : ℕ → Type 0
    Numbers position = Verdict (state pieces pending position) (word ∷ words) (so_far pieces pending ++ number ∷ pieces_of words)

    -- its turn, and the walk behind it, by the argument at this position
    turn-is : (position : ℕ) (found : Option Rule) → arg_by_index c position ≡ found
        → turn (state pieces pending position) word
        ≡ option_map_or (λ a. positional_fault c false a (held pieces pending)) found (kind.UnknownArgument ∷ [])
    turn-is position found is =
        plain-turn mode c (map row pieces) (option_map (λ p. (p.0, p.1 ∷ [])) pending) idle position word no_dashes long stands_plain
        ∙ ap (λ o. option_map_or (λ a. positional_fault c false a (held pieces pending)) o (kind.UnknownArgument ∷ [])) is

    walk-is : (position : ℕ) (found : Option Rule) → arg_by_index c position ≡ found
        → move (state pieces pending position) word ≡ to_positional c found word (state pieces pending position) (held pieces pending)
    walk-is position found is =
        plain-walk mode c (map row pieces) (option_map (λ p. (p.0, p.1 ∷ [])) pending) idle position word no_dashes long stands_plain
        ∙ ap (λ o. to_positional c o word (state pieces pending position) (held pieces pending)) is

    -- behind the first number another has no place
    number_again : (position : ℕ) → arg_by_index c position ≡ None → IsWrong takes_number (so_far pieces pending) number → Numbers position
    number_again position none wrong =
        stop _ word words _ (some_kind kind.UnknownArgument [] _ (turn-is position None none))
        (wrong_at (so_far pieces pending) number (pieces_of words) (of_rounds refl) wrong)

    -- no argument takes several values
    no_wait : (b : Bool) (kinds : Kinds) → (if b && false then [] else kinds) ≡ kinds
    no_wait true kinds = refl
    no_wait false kinds = refl

    no_wait-held : (b : Bool) (h other : Held) → (if b && false then h else other) ≡ other
    no_wait-held true h other = refl
    no_wait-held false h other = refl

    -- the first number
    number_first : Stands pieces pending 1 → takes_number ≡ true → arg_by_index c 1 ≡ Some rounds_built → Goes words → Numbers 1
    number_first stands numbered found goes = elim (settle pieces pending stands.right stands.known) [
      | inl good ↦
          step _ (state (so_far pieces pending) (Some number) 2) word words _
          (turn-is 1 (Some rounds_built) found ∙ no_wait _ _ ∙ good.0)
          (walk-is 1 (Some rounds_built) found ∙ ap (λ h. record (state pieces pending 2) { held = pushed (codes "rounds") word h })
          (no_wait-held _ _ _)
          ∙ ap (λ r. record
          (state pieces pending 2) { held = record { rows = r; pending = Some (codes "rounds", word ∷ []); skip = 0 } }) good.1)
          (subst (λ ps. Verdict (state (so_far pieces pending) (Some number) 2) words ps)
          (append_assoc (so_far pieces pending) (number ∷ []) (pieces_of words))
          (goes (so_far pieces pending) (Some number) 2 (record {
            right = good.2;
            known = ((None, Some 1, reads.rounds_id numbered, refl), of_rounds refl, λ never. absurd (true≢false (sym numbered ∙ never)));
            place = inr (refl, there);
          })))
      | inr bad ↦
          stop _ word words _ (λ none. bad.0 (sym (no_wait _ _) ∙ sym (turn-is 1 (Some rounds_built) found) ∙ none))
          (bad.1 (number ∷ pieces_of words))
    ]
      where
        or_true : (b : Bool) → (b || true) ≡ true
        or_true true = refl
        or_true false = refl

        there : has_name (codes "rounds") (so_far pieces pending ++ number ∷ []) ≡ true
        there = has_name-append (codes "rounds") (so_far pieces pending) (number ∷ [])
            ∙ or_true (has_name (codes "rounds") (so_far pieces pending))

    -- one of the two
    plain_word-judged : (position : ℕ) → Stands pieces pending position → Goes words → Numbers position
    plain_word-judged position stands goes = place position stands.place stands
      where
        first : (b : Bool) → takes_number ≡ b → Stands pieces pending 1 → Numbers 1
        first true numbered stands = number_first stands numbered (reads.first
            ∙ ap (λ b. if b then Some rounds_built else None) numbered) goes
        first false numbered stands =
            number_again 1 (reads.first ∙ ap (λ b. if b then Some rounds_built else None) numbered) (stray numbered refl)

        place : (position : ℕ) → StandsAt position (so_far pieces pending) → Stands pieces pending position → Numbers position
        place position (inl is) stands = subst Numbers (sym is) (first takes_number refl (subst (Stands pieces pending) is stands))
        place position (inr is) stands = subst Numbers (sym is.0) (number_again 2 reads.second (twice is.1))

  -- what is judged of one word and those behind it
  abbrev Single : List Piece → Option Piece → ℕ → List Text → Text → Type 0
  Single pieces pending position words word = Verdict (state pieces pending position) (word ∷ words)
      (so_far pieces pending ++ piece_of word ∷ pieces_of words)

  -- a word that isn't the first of two
  one_word : (word : Text) (words : List Text) (pieces : List Piece) (pending : Option Piece) (position : ℕ) → takes_value word ≡ false
      → bytes_eq word dashes ≡ false → Stands pieces pending position → Goes words
      → Verdict (state pieces pending position) (word ∷ words) (so_far pieces pending ++ pieces_of (word ∷ words))
  one_word word words pieces pending position apart no_dashes stands goes =
      subst (λ ps. Verdict (state pieces pending position) (word ∷ words) (so_far pieces pending ++ ps))
      (sym (pieces-one word words apart)) (by_form (long_or_not word) apart)
    where
      as_number : long_of word ≡ None → Verdict (state pieces pending position) (word ∷ words)
          (so_far pieces pending ++ (codes "rounds", word) ∷ pieces_of words) → Single pieces pending position words word
      as_number none judged =
          subst (λ p. Verdict (state pieces pending position) (word ∷ words) (so_far pieces pending ++ p ∷ pieces_of words))
          (sym (piece-plain word none)) judged

      by_short : long_of word ≡ None → ShortOrPlain word → Single pieces pending position words word
      by_short none (inl is) = as_number none (plain_word-judged word words pieces pending is no_dashes none position stands goes)
      by_short none (inr short) =
          as_number none
          (fails_number word words pieces pending position (ap numeral short.3 ∙ hyphen-number short.0 short.1)
          (short-fails mode c (map row pieces) (option_map (λ p. (p.0, p.1 ∷ [])) pending) idle position word no_dashes none reads.short
          short.0 short.1 short.2 short.4 short.5))

      by_form : LongOrNot word → takes_value word ≡ false → Single pieces pending position words word
      by_form (inl none) apart = by_short none (short_or_plain word)
      by_form (inr long) apart =
          subst (Single pieces pending position words) (sym long.2) (long_word long.0 long.1 words pieces pending position stands goes
          (ap takes_value (sym long.2) ∙ apart))

  -- ---- an option whose value is a word of its own

  -- the option waits, and the words end
  waits_end : (pieces : List Piece) (name : Text) (position : ℕ) → TakesValue name → IsName name
      → Verdict (waits pieces name position) [] (pieces ++ (name, []) ∷ [])
  unfolding walk_fault numeral
  waits_end pieces name position takes_one of =
      inr (
        some_kind kind.InvalidValue [] _ (rw takes_one.2 refl),
        wrong_at pieces (name, []) [] of (no_number takes_one.3 refl),
      )

  -- a long option where another waits for its value
  long_waits : (found : Option Rule) (v : Option Text) (h : Held) → (settle_fault c false h ≡ [] → ⊥) → long_fault c false found v h ≡ []
      → ⊥
  long_waits None v h fails none = some_kind kind.UnknownArgument [] _ refl none
  long_waits (Some a) v h fails none = go (takes_values a) v none
    where
      go : (b : Bool) (v : Option Text)
          → (if b then option_fault c false a v h else (if is_some v then kind.TooManyValues ∷ [] else react_fault c false a [] h)) ≡ [] → ⊥
      go true None none = fails none
      go true (Some text) none = fails_first _ _ fails none
      go false None none = fails_first _ _ fails none
      go false (Some text) none = some_kind kind.TooManyValues [] _ refl none

  -- what is held there
  abbrev held_waiting : List Piece → Text → Held
  held_waiting pieces name = record { rows = map row pieces; pending = Some (name, []); skip = 0 }

  -- the option waits, and a word comes
  waits_word : (pieces : List Piece) (name : Text) (position : ℕ) (word : Text) (words : List Text) → AreRight takes_number pieces
      → TakesValue name → IsName name → bytes_eq name (codes "rounds") ≡ false → bytes_eq word dashes ≡ false
      → StandsAt position pieces → Goes words
      → Verdict (waits pieces name position) (word ∷ words) (pieces ++ (name, word) ∷ pieces_of words)
  waits_word pieces name position word words right takes_one of lettered no_dashes place goes = by_form (long_or_not word)
    where
      took : Held × Waiting → Walk
      took p = record (waits pieces name position) { held = p.0; waiting = p.1 }

      unused : settle_fault c false (held_waiting pieces name) ≡ [] → ⊥
      unused = some_kind kind.InvalidValue [] _ (rw takes_one.2 refl)

      fails_value : numeral word ≡ None → (turn (waits pieces name position) word ≡ [] → ⊥)
          → Verdict (waits pieces name position) (word ∷ words) (pieces ++ (name, word) ∷ pieces_of words)
      fails_value none fails = stop _ word words _ fails (wrong_at pieces (name, word) (pieces_of words) of (no_number takes_one.3 none))

      by_short : long_of word ≡ None → ShortOrPlain word → Verdict (waits pieces name position) (word ∷ words)
          (pieces ++ (name, word) ∷ pieces_of words)
      by_short none (inl is) =
          let more = stands-more position pieces ((name, word) ∷ []) place in
          step _ (state pieces (Some (name, word)) position) word words _
          (plain-turn mode c (map row pieces) (Some (name, [])) (option name) position word no_dashes none is)
          (plain-walk mode c (map row pieces) (Some (name, [])) (option name) position word no_dashes none is
          ∙ ap (λ o. took (option_word o name word (held_waiting pieces name))) takes_one.2
          ∙ ap (λ b. record (waits pieces name position) {
            held = record { rows = map row pieces; pending = Some (name, word ∷ []); skip = 0 };
            waiting = if nat_lt (if b then 1 else 0) 1 then option name else idle;
          }) (same_test name))
          (subst (λ ps. Verdict (state pieces (Some (name, word)) position) words ps)
          (append_assoc pieces ((name, word) ∷ []) (pieces_of words))
          (goes pieces (Some (name, word)) position
          (record { right = right; known = (takes_one, of, λ never. lettered); place = more })))
      by_short none (inr short) =
          fails_value (ap numeral short.3 ∙ hyphen-number short.0 short.1)
          (short-fails mode c (map row pieces) (Some (name, [])) (option name) position word no_dashes none reads.short short.0 short.1
          short.2 short.4 short.5)

      by_form : LongOrNot word → Verdict (waits pieces name position) (word ∷ words) (pieces ++ (name, word) ∷ pieces_of words)
      by_form (inl none) = by_short none (short_or_plain word)
      by_form (inr long) =
          let p = name_and_value (long.0 ∷ long.1) in
          let is : long_of word ≡ Some (p.0, p.1) = ap long_of long.2 in
          let turns = long-turn mode c (held_waiting pieces name) (option name) position word p.0 p.1 _ no_dashes is refl in
          fails_value (ap numeral long.2 ∙ hyphen-number 45 (long.0 ∷ long.1))
          (λ passed. fails_first _ _ (long_waits (arg_by_long c p.0) p.1 (held_waiting pieces name) unused) (sym turns ∙ passed))

  -- the option, and what stands behind it
  option_judged : (name : Text) (words : List Text) (all : List Piece) (pieces : List Piece) (pending : Option Piece) (position : ℕ)
      → Stands pieces pending position
      → bytes_eq (45 ∷ 45 ∷ name) dashes ≡ false → long_of (45 ∷ 45 ∷ name) ≡ Some (name, None)
      → arg_by_long c name ≡ Some (option_built name)
      → (AreRight takes_number (so_far pieces pending) → StandsAt position (so_far pieces pending)
      → Verdict (waits (so_far pieces pending) name position) words (so_far pieces pending ++ all))
      → Verdict (state pieces pending position) ((45 ∷ 45 ∷ name) ∷ words) (so_far pieces pending ++ all)
  option_judged name words all pieces pending position stands no_dashes long found behind =
      elim (settle pieces pending stands.right stands.known) [
        | inl good ↦
            step _ (waits (so_far pieces pending) name position) (45 ∷ 45 ∷ name) words _
            (long-turn mode c (held pieces pending) idle position (45 ∷ 45 ∷ name) name None (Some (option_built name)) no_dashes long found
            ∙ or_else-nil _ ∙ good.0)
            (long-walk mode c (held pieces pending) idle position (45 ∷ 45 ∷ name) name None (Some (option_built name)) no_dashes long found
            ∙ ap (λ r. record {
              held = record { rows = r; pending = Some (name, []); skip = 0 };
              waiting = option name;
              position = position;
              is_trailing = false;
              stopped = None;
            }) good.1)
            (behind good.2 stands.place)
        | inr bad ↦
            stop _ (45 ∷ 45 ∷ name) words _
            (λ passed. bad.0 (sym (or_else-nil _)
            ∙ sym (long-turn mode c (held pieces pending) idle position (45 ∷ 45 ∷ name) name None
            (Some (option_built name)) no_dashes long found) ∙ passed))
            (bad.1 all)
      ]

  -- ---- all words

  -- an option at the end lacks its value
  last_word : (word : Text) (pieces : List Piece) (pending : Option Piece) (position : ℕ) → takes_value word ≡ true
      → Stands pieces pending position
      → Verdict (state pieces pending position) (word ∷ []) (so_far pieces pending ++ pieces_of (word ∷ []))
  unfolding pieces_of
  last_word word pieces pending position takes_one stands = elim (takes_value-texts word takes_one) [
    | inl is ↦ rw is (option_judged (codes "nursery") [] ((codes "nursery", []) ∷ []) pieces pending position stands refl refl reads.nursery
        (λ right place. waits_end (so_far pieces pending) (codes "nursery") position
        (Some (codes "nursery"), None, reads.nursery_id, refl) (of_nursery refl)))
    | inr is ↦ rw is (option_judged (codes "pages") [] ((codes "pages", []) ∷ []) pieces pending position stands refl refl reads.pages
        (λ right place. waits_end (so_far pieces pending) (codes "pages") position (Some (codes "pages"), None, reads.pages_id, refl)
        (of_pages refl)))
  ]

  -- an option and its value
  two_words : (word second : Text) (words : List Text) (pieces : List Piece) (pending : Option Piece) (position : ℕ)
      → takes_value word ≡ true
      → bytes_eq second dashes ≡ false → Stands pieces pending position → Goes words
      → Verdict (state pieces pending position) (word ∷ second ∷ words) (so_far pieces pending ++ pieces_of (word ∷ second ∷ words))
  two_words word second words pieces pending position takes_one no_dashes stands goes = elim (takes_value-texts word takes_one) [
    | inl is ↦ rw (pieces-two word second words takes_one, is)
        (option_judged (codes "nursery") (second ∷ words) ((codes "nursery", second) ∷ pieces_of words) pieces pending position stands
        refl refl reads.nursery
        (λ right place. waits_word (so_far pieces pending) (codes "nursery") position second words right
        (Some (codes "nursery"), None, reads.nursery_id, refl) (of_nursery refl) refl no_dashes place goes))
    | inr is ↦ rw (pieces-two word second words takes_one, is)
        (option_judged (codes "pages") (second ∷ words) ((codes "pages", second) ∷ pieces_of words) pieces pending position stands refl
        refl reads.pages
        (λ right place. waits_word (so_far pieces pending) (codes "pages") position second words right
        (Some (codes "pages"), None, reads.pages_id, refl) (of_pages refl) refl no_dashes place goes))
  ]

  -- at the end of the words
  no_words : (pieces : List Piece) (pending : Option Piece) (position : ℕ) → Settles (held pieces pending) (so_far pieces pending)
      → Verdict (state pieces pending position) [] (so_far pieces pending ++ pieces_of [])
  unfolding walk_fault pieces_of
  no_words pieces pending position (inl good) = rw (append-nil (so_far pieces pending)) (inl (good.0, good.1, good.2))
  no_words pieces pending position (inr bad) = inr (bad.0, bad.1 [])

  -- and so of all of them
  goes_all : (words : List Text) → list_any is_dashes words ≡ false → Goes words
  goes_all [] free pieces pending position stands = no_words pieces pending position (settle pieces pending stands.right stands.known)
  goes_all (word ∷ []) free pieces pending position stands = go (takes_value word) refl (goes_all [] refl)
    where
      go : (b : Bool) → takes_value word ≡ b → Goes [] → Verdict (state pieces pending position) (word ∷ [])
          (so_far pieces pending ++ pieces_of (word ∷ []))
      go true is goes = last_word word pieces pending position is stands
      go false is goes = one_word word [] pieces pending position is (neither (is_dashes word) false free).0 stands goes
  goes_all (word ∷ second ∷ words) free pieces pending position stands =
      go (takes_value word) refl (λ h. goes_all (second ∷ words) h) (λ h. goes_all words h)
    where
      go : (b : Bool) → takes_value word ≡ b → (list_any is_dashes (second ∷ words) ≡ false → Goes (second ∷ words))
          → (list_any is_dashes words ≡ false → Goes words)
          → Verdict (state pieces pending position) (word ∷ second ∷ words) (so_far pieces pending ++ pieces_of (word ∷ second ∷ words))
      go true is goes further =
          let rest = (neither (is_dashes word) (list_any is_dashes (second ∷ words)) free).1 in
          let parts = neither (is_dashes second) (list_any is_dashes words) rest in
          two_words word second words pieces pending position is parts.0 stands (further parts.1)
      go false is goes further =
          let parts = neither (is_dashes word) (list_any is_dashes (second ∷ words)) free in
          one_word word (second ∷ words) pieces pending position is parts.0 stands (goes parts.1)

  -- what is judged of all words
  pub all_words : (words : List Text) → list_any is_dashes words ≡ false
      → Judged (fault_from (state [] None 1) words) (rows_from (state [] None 1) words) (pieces_of words)
  all_words words free = goes_all words free [] None 1 (record { right = none-right takes_number; known = tt; place = inl refl })
