-- What one word behind a mode is: its piece, and what it comes to in the parse of `clap`.
use Rattle.std.proofs.Common.{◌≡◌, ◌⊎◌, inl, inr, ℕ, suc, ◌+◌, List, [], ◌∷◌, ◌++◌, length, take, drop, Bool, true, false, ◌||◌, not, if◌then◌else◌, Option, Some, None, is_some, option_map, slice_get, ◌==◌, codes, chars, refl, sym, ◌∙◌, ap, ap₂, arith, eqb-true, true≢false}
use Rattle.std.specs.List.{list_any, prefix_len}
use Rattle.std.specs.Option.{option_map_or}
use Rattle.std.specs.Str.{bytes_eq}
use Rattle.std.proofs.lemmas.List.{take-append-drop}
use Rattle.clap.specs.Faults.{flags_fault, long_fault, step_fault, turn_fault, word_fault, flag_word_fault, other_fault, bundle_fault}
use Rattle.clap.specs.Kinds.{Kinds, or_else}
use Rattle.clap.specs.Lexer.{has_byte, long_of, short_of}
use Rattle.clap.specs.Simple.{Shape, new_shape}
use Rattle.clap.specs.Walk.{Held, Outcome, Row, Rule, Step, Text, Waiting, Walk, after_flag, after_step, arg_by_long, arg_by_short, idle, long_met, long_or_other, option, plain, plain_word, positional, short_or_plain as short_or_plain_of, subcommand_met, subcommand_or_other, trailing, walked, word_met}
use Rattle.clap.specs.declared.error.kind.ErrorKind.{ErrorKind}
use Rattle.clap.specs.declared.error.kind.ErrorKind.TheVariants as kind
use Rattle.clap.proofs.FaultLemmas.{fault_ends}
use Rattle.clap.proofs.WalkLemmas.{bundle_ends}
use Rattle.gc_script.specs.Words.{numeral}
use Rattle.gc_cli.specs.declared.command.Request.TheVariants.{Make}
use Rattle.gc_cli.specs.Command.{Piece, after_equals, before_equals, is_flag, make_of, name_of, number_within, piece_of, pieces_of, takes_value}
use Rattle.gc_cli.specs.Commands.{is_dashes}
use Rattle.gc_cli.proofs.PieceLemmas.{HasWrong, IsWrong, has_name, is_flag_name, neither, no_number, of_nursery, of_pages, of_rounds, same_text, stray, twice}

-- ---- kinds

pub or_else-nil : (a : Kinds) → or_else a [] ≡ a
or_else-nil [] = refl
or_else-nil (k ∷ ks) = refl

-- a first step that fails
pub fails_first : (a b : Kinds) → (a ≡ [] → ⊥) → or_else a b ≡ [] → ⊥
fails_first [] b fails none = fails refl
fails_first (k ∷ ks) b fails none = fails none

pub some_kind : (k : ErrorKind) (ks kinds : Kinds) → kinds ≡ k ∷ ks → kinds ≡ [] → ⊥
some_kind k ks kinds is none =
    let bad : suc (length ks) ≡ 0 = ap length (sym is ∙ none) in absurd (omega (arith, bad))

-- ---- words by their first bytes

abbrev pub LongOrNot : Text → Type 0
LongOrNot word = (long_of word ≡ None) ⊎ ((x : ℕ) × (xs : Text) × (word ≡ 45 ∷ 45 ∷ x ∷ xs))

-- a word is `--` and more, or it is no long option
pub long_or_not : (word : Text) → LongOrNot word
long_or_not [] = inl refl
long_or_not (a ∷ []) = inl (go (a == 45) refl)
  where
    go : (i : Bool) → (a == 45) ≡ i → long_of (a ∷ []) ≡ None
    go true first = rw first refl
    go false first = rw first refl
long_or_not (a ∷ b ∷ []) = inl (go (a == 45) (b == 45) refl refl)
  where
    go : (i j : Bool) → (a == 45) ≡ i → (b == 45) ≡ j → long_of (a ∷ b ∷ []) ≡ None
    go true true first second = rw (first, second) refl
    go true false first second = rw (first, second) refl
    go false j first second = rw first refl
long_or_not (a ∷ b ∷ x ∷ xs) = go (a == 45) (b == 45) refl refl
  where
    go : (i j : Bool) → (a == 45) ≡ i → (b == 45) ≡ j → LongOrNot (a ∷ b ∷ x ∷ xs)
    go true true first second = inr (
      x,
      xs,
      ap (λ k. k ∷ b ∷ x ∷ xs) (eqb-true a 45 first)
          ∙ ap (λ k. 45 ∷ k ∷ x ∷ xs) (eqb-true b 45 second),
    )
    go true false first second = inl (rw (first, second) refl)
    go false j first second = inl (rw first refl)

-- the word is no short option: it is the text of a number, or of a value
abbrev pub IsPlain : Text → Type 0
IsPlain word = (short_of word ≡ None) ⊎ ((flags : Text) × (short_of word ≡ Some flags) × (None ≡ slice_get (chars flags) 0))

abbrev pub ShortOrPlain : Text → Type 0
ShortOrPlain word =
    IsPlain word ⊎ ((y : ℕ) × (ys : Text) × (x : ℕ) × (word ≡ 45 ∷ y ∷ ys) × (short_of word ≡ Some (y ∷ ys))
    × (slice_get (chars (y ∷ ys)) 0 ≡ Some x))

pub short_or_plain : (word : Text) → ShortOrPlain word
short_or_plain [] = inl (inl refl)
short_or_plain (a ∷ []) = inl (inl (go (a == 45) refl))
  where
    go : (i : Bool) → (a == 45) ≡ i → short_of (a ∷ []) ≡ None
    go true first = rw first refl
    go false first = rw first refl
short_or_plain (a ∷ y ∷ ys) = go (a == 45) (y == 45) refl refl
  where
    by_char : (o : Option ℕ) → (a == 45) ≡ true → (y == 45) ≡ false → slice_get (chars (y ∷ ys)) 0 ≡ o → ShortOrPlain (a ∷ y ∷ ys)
    by_char None first second is = inl (inr (y ∷ ys, rw (first, second) refl, sym is))
    by_char (Some x) first second is = inr (y, ys, x, ap (λ k. k ∷ y ∷ ys) (eqb-true a 45 first), rw (first, second) refl, is)

    go : (i j : Bool) → (a == 45) ≡ i → (y == 45) ≡ j → ShortOrPlain (a ∷ y ∷ ys)
    go true true first second = inl (inl (rw (first, second) refl))
    go true false first second = by_char (slice_get (chars (y ∷ ys)) 0) first second refl
    go false j first second = inl (inl (rw first refl))

-- a word that begins with a hyphen writes no number
pub hyphen-number : (y : ℕ) (ys : Text) → numeral (45 ∷ y ∷ ys) ≡ None
unfolding numeral
hyphen-number y ys = refl

-- a word that writes no number gives none within limits
pub not_within : (least most : ℕ) (word : Text) → numeral word ≡ None → number_within least most word ≡ None
unfolding number_within
not_within least most word none = rw none refl

-- ---- pieces of a word

abbrev pub dashes : Text
dashes = 45 ∷ 45 ∷ []

before-cons : (x : ℕ) (xs : Text) → (x == 61) ≡ false → before_equals (x ∷ xs) ≡ x ∷ before_equals xs
before-cons x xs other =
    let one : 1 + prefix_len (λ y. not (y == 61)) xs ≡ suc (prefix_len (λ y. not (y == 61)) xs) = omega arith in
    rw other (ap (λ k. take k (x ∷ xs)) one)

after-cons : (x : ℕ) (xs : Text) → (x == 61) ≡ false → after_equals (x ∷ xs) ≡ after_equals xs
after-cons x xs other =
    let one : 1 + prefix_len (λ y. not (y == 61)) xs + 1 ≡ suc (prefix_len (λ y. not (y == 61)) xs + 1) = omega arith in
    rw other (ap (λ k. drop k (x ∷ xs)) one)

-- behind two hyphens
pub before-hyphens : (rest : Text) → before_equals (45 ∷ 45 ∷ rest) ≡ 45 ∷ 45 ∷ before_equals rest
before-hyphens rest = before-cons 45 (45 ∷ rest) refl ∙ ap (λ xs. 45 ∷ xs) (before-cons 45 rest refl)

after-hyphens : (rest : Text) → after_equals (45 ∷ 45 ∷ rest) ≡ after_equals rest
after-hyphens rest = after-cons 45 (45 ∷ rest) refl ∙ after-cons 45 rest refl

-- a word without `=` stands before it
pub before-whole : (xs : Text) → has_byte 61 xs ≡ false → before_equals xs ≡ xs
before-whole [] none = refl
before-whole (x ∷ xs) none =
    let parts = neither (x == 61) (has_byte 61 xs) none in
    before-cons x xs parts.0 ∙ ap (λ rest. x ∷ rest) (before-whole xs parts.1)

-- a word before whose `=` an option stands is no flag
pub takes_value-texts : (word : Text) → takes_value word ≡ true → (word ≡ codes "--nursery") ⊎ (word ≡ codes "--pages")
takes_value-texts word is = go (bytes_eq word (codes "--nursery")) refl
  where
    go : (b : Bool) → bytes_eq word (codes "--nursery") ≡ b → (word ≡ codes "--nursery") ⊎ (word ≡ codes "--pages")
    go true first = inl (same_text _ _ first)
    go false first = inr (same_text _ _ (rw first at is))

pub is_flag-texts : (word : Text) → is_flag word ≡ true → (word ≡ codes "--reports") ⊎ (word ≡ codes "--summary")
is_flag-texts word is = go (bytes_eq word (codes "--reports")) refl
  where
    go : (b : Bool) → bytes_eq word (codes "--reports") ≡ b → (word ≡ codes "--reports") ⊎ (word ≡ codes "--summary")
    go true first = inl (same_text _ _ first)
    go false first = inr (same_text _ _ (rw first at is))

-- the piece of an option with its value behind `=`
pub piece-value : (rest name : Text) → before_equals rest ≡ name → takes_value (45 ∷ 45 ∷ name) ≡ true
    → piece_of (45 ∷ 45 ∷ rest) ≡ (name, after_equals rest)
piece-value rest name is takes =
    let before : before_equals (45 ∷ 45 ∷ rest) ≡ 45 ∷ 45 ∷ name = before-hyphens rest ∙ ap (λ xs. 45 ∷ 45 ∷ xs) is in
    let no_flag : is_flag (45 ∷ 45 ∷ rest) ≡ false = go (is_flag (45 ∷ 45 ∷ rest)) refl before in
    rw (no_flag, before, takes, after-hyphens rest) refl
  where
    flag-takes : (word : Text) → is_flag word ≡ true → takes_value (before_equals word) ≡ false
    flag-takes word flag = elim (is_flag-texts word flag) [ inl is ↦ rw is refl | inr is ↦ rw is refl ]

    go : (b : Bool) → is_flag (45 ∷ 45 ∷ rest) ≡ b → before_equals (45 ∷ 45 ∷ rest) ≡ 45 ∷ 45 ∷ name → is_flag (45 ∷ 45 ∷ rest) ≡ false
    go false flag before = flag
    go true flag before =
        absurd (true≢false (sym takes ∙ ap takes_value (sym before) ∙ flag-takes (45 ∷ 45 ∷ rest) flag))

-- the piece of a word that is no flag, and before whose `=` no option stands
pub piece-number : (word : Text) → is_flag word ≡ false → takes_value (before_equals word) ≡ false → piece_of word ≡ (codes "rounds", word)
piece-number word flag takes = rw (flag, takes) refl

-- a word that is no long option is such a word
pub piece-plain : (word : Text) → long_of word ≡ None → piece_of word ≡ (codes "rounds", word)
piece-plain word none = piece-number word (flag (is_flag word) refl) (takes (takes_value (before_equals word)) refl)
  where
    some≢none : (p : Text × Option Text) → Some p ≡ None → ⊥
    some≢none p is = true≢false (ap is_some is)

    flag : (b : Bool) → is_flag word ≡ b → is_flag word ≡ false
    flag false is = is
    flag true is = elim (is_flag-texts word is) [
      | inl text ↦ absurd (some≢none _ (ap long_of (sym text) ∙ none))
      | inr text ↦ absurd (some≢none _ (ap long_of (sym text) ∙ none))
    ]

    all : before_equals word ++ drop (prefix_len (λ y. not (y == 61)) word) word ≡ word
    all = take-append-drop _ word

    takes : (b : Bool) → takes_value (before_equals word) ≡ b → takes_value (before_equals word) ≡ false
    takes false is = is
    takes true is = elim (takes_value-texts (before_equals word) is) [
      | inl text ↦ absurd (some≢none _ (ap long_of (ap (λ xs. xs ++ drop (prefix_len (λ y. not (y == 61)) word) word) (sym text) ∙ all)
          ∙ none))
      | inr text ↦ absurd (some≢none _ (ap long_of (ap (λ xs. xs ++ drop (prefix_len (λ y. not (y == 61)) word) word) (sym text) ∙ all)
          ∙ none))
    ]

pub pieces-one : (word : Text) (words : List Text) → takes_value word ≡ false → pieces_of (word ∷ words) ≡ piece_of word ∷ pieces_of words
unfolding pieces_of
pieces-one word [] none = refl
pieces-one word (second ∷ words) none = rw none refl

pub pieces-two : (word second : Text) (words : List Text) → takes_value word ≡ true
    → pieces_of (word ∷ second ∷ words) ≡ (name_of word, second) ∷ pieces_of words
unfolding pieces_of
pieces-two word second words apart = rw apart refl

-- ---- words of which one is `--`

-- one more piece before a wrong one
wrong-behind : (takes_number : Bool) (first : Piece) (pieces : List Piece) → HasWrong takes_number pieces
    → HasWrong takes_number (first ∷ pieces)
wrong-behind takes_number first pieces h = record {
  before = first ∷ h.before;
  piece = h.piece;
  after = h.after;
  is = ap (λ rest. first ∷ rest) h.is;
  name = h.name;
  wrong = go h.wrong;
}
  where
    later : (b : Bool) → has_name h.piece.0 h.before ≡ true → (b || has_name h.piece.0 h.before) ≡ true
    later true e = refl
    later false e = e

    go : IsWrong takes_number h.before h.piece → IsWrong takes_number (first ∷ h.before) h.piece
    go (twice e) = twice (later (bytes_eq first.0 h.piece.0) e)
    go (no_number other none) = no_number other none
    go (stray never rounds) = stray never rounds

dashes-number : (word : Text) → is_dashes word ≡ true → numeral word ≡ None
unfolding numeral
dashes-number word is = rw (same_text word (codes "--") is) refl

-- the value of an option
wrong-value : (takes_number : Bool) (word second : Text) (after : List Piece) → takes_value word ≡ true → is_dashes second ≡ true
    → HasWrong takes_number ((name_of word, second) ∷ after)
wrong-value takes_number word second after takes is = elim (takes_value-texts word takes) [
  | inl text ↦ record {
    before = [];
    piece = (name_of word, second);
    after = after;
    is = refl;
    name = of_nursery (ap name_of text);
    wrong = no_number (ap (λ w. is_flag_name (name_of w)) text) (dashes-number second is);
  }
  | inr text ↦ record {
    before = [];
    piece = (name_of word, second);
    after = after;
    is = refl;
    name = of_pages (ap name_of text);
    wrong = no_number (ap (λ w. is_flag_name (name_of w)) text) (dashes-number second is);
  }
]

-- a word alone
wrong-word : (takes_number : Bool) (word : Text) (after : List Piece) → is_dashes word ≡ true
    → HasWrong takes_number (piece_of word ∷ after)
wrong-word takes_number word after is = rw (same_text word (codes "--") is) (record {
  before = [];
  piece = (codes "rounds", codes "--");
  after = after;
  is = refl;
  name = of_rounds refl;
  wrong = no_number refl (dashes-number (codes "--") refl);
})

no_option : (word : Text) → is_dashes word ≡ true → takes_value word ≡ false
no_option word is = rw (same_text word (codes "--") is) refl

no_dashes : (word : Text) → takes_value word ≡ true → is_dashes word ≡ false
no_dashes word takes = elim (takes_value-texts word takes) [ inl text ↦ rw text refl | inr text ↦ rw text refl ]

pub dashes-wrong : (takes_number : Bool) (words : List Text) → list_any is_dashes words ≡ true → HasWrong takes_number (pieces_of words)
dashes-wrong takes_number [] some = absurd (true≢false (sym some))
dashes-wrong takes_number (word ∷ []) some = go (is_dashes word) refl some
  where
    go : (b : Bool) → is_dashes word ≡ b → (b || false) ≡ true → HasWrong takes_number (pieces_of (word ∷ []))
    go true is e = rw (pieces-one word [] (no_option word is)) (wrong-word takes_number word _ is)
    go false is e = absurd (true≢false (sym e))
dashes-wrong takes_number (word ∷ second ∷ words) some =
    apart (takes_value word) refl (λ e. dashes-wrong takes_number (second ∷ words) e) (λ e. dashes-wrong takes_number words e)
  where
    alone : (b : Bool) → takes_value word ≡ false → is_dashes word ≡ b → (b || list_any is_dashes (second ∷ words)) ≡ true
        → (list_any is_dashes (second ∷ words) ≡ true → HasWrong takes_number (pieces_of (second ∷ words)))
        → HasWrong takes_number (pieces_of (word ∷ second ∷ words))
    alone true takes is e more = rw (pieces-one word (second ∷ words) takes) (wrong-word takes_number word _ is)
    alone false takes is e more = rw (pieces-one word (second ∷ words) takes) (wrong-behind takes_number (piece_of word) _ (more e))

    apart_two : (b : Bool) → takes_value word ≡ true → is_dashes second ≡ b → (b || list_any is_dashes words) ≡ true
        → (list_any is_dashes words ≡ true → HasWrong takes_number (pieces_of words))
        → HasWrong takes_number (pieces_of (word ∷ second ∷ words))
    apart_two true takes is e more = rw (pieces-two word second words takes) (wrong-value takes_number word second _ takes is)
    apart_two false takes is e more = rw (pieces-two word second words takes) (wrong-behind takes_number (name_of word, second) _ (more e))

    apart : (b : Bool) → takes_value word ≡ b → (list_any is_dashes (second ∷ words) ≡ true
        → HasWrong takes_number (pieces_of (second ∷ words)))
        → (list_any is_dashes words ≡ true → HasWrong takes_number (pieces_of words))
        → HasWrong takes_number (pieces_of (word ∷ second ∷ words))
    apart true takes more further =
        apart_two (is_dashes second) takes refl (ap (λ b. b || list_any is_dashes (second ∷ words)) (sym (no_dashes word takes))
        ∙ some) further
    apart false takes more further = alone (is_dashes word) takes refl some more

-- `make` with `--`
pub dashes-make : (words : List Text) → list_any is_dashes words ≡ true → make_of words ≡ None
dashes-make [] some = refl
dashes-make (word ∷ []) some = go (is_dashes word) refl some
  where
    go : (b : Bool) → is_dashes word ≡ b → (b || false) ≡ true → make_of (word ∷ []) ≡ None
    go true is e = ap (option_map Make) (not_within 1 100000 word (dashes-number word is))
    go false is e = absurd (true≢false (sym e))
dashes-make (word ∷ second ∷ words) some = refl

-- ---- what a word comes to

module _ (mode : Text) (c : List Rule) where
  -- the command, when it is built
  abbrev pub shape : Shape
  shape = record (new_shape mode) {
    rules = c;
    no_binary_name = true;
    disable_help_flag = true;
    disable_help_subcommand = true;
    disable_version_flag = true;
    is_built = true;
  }

  abbrev pub at_word : Held → Waiting → ℕ → Walk
  at_word h waiting position = record { held = h; waiting = waiting; position = position; is_trailing = false; stopped = None }

  no_subcommand : (waiting : Waiting) (word : Text) → subcommand_met [] waiting word ≡ None
  no_subcommand idle word = refl
  no_subcommand (option name) word = refl
  no_subcommand positional word = refl

  -- what a long option comes to, by the argument that it names
  module _ (h : Held) (waiting : Waiting) (position : ℕ) (word name : Text) (v : Option Text) (found : Option Rule)
      (no_dashes : bytes_eq word dashes ≡ false) (long : long_of word ≡ Some (name, v)) (is : arg_by_long c name ≡ found) where
    abbrev comes_to : Held × Step
    comes_to = after_flag c waiting word (long_met c found v h).0 (long_met c found v h).1

    long-met : word_met c [] false waiting position word h ≡ comes_to
    long-met =
        ap (λ o. subcommand_or_other c o waiting position word h) (no_subcommand waiting word)
        ∙ ap (λ b. if b then (h, trailing position) else long_or_other c waiting word (long_of word) h) no_dashes
        ∙ ap (λ o. long_or_other c waiting word o h) long
        ∙ ap (λ o. after_flag c waiting word (long_met c o v h).0 (long_met c o v h).1) is

    long-fault : word_fault shape [] false waiting word h ≡ long_fault c false found v h
    long-fault =
        ap (λ o. other_fault shape o word h) (no_subcommand waiting word)
        ∙ ap (λ b. if b then [] else flag_word_fault c false (long_of word) word h) no_dashes
        ∙ ap (λ o. flag_word_fault c false o word h) long
        ∙ ap (λ o. long_fault c false o v h) is

    pub long-turn : turn_fault shape [] (at_word h waiting position) word ≡ or_else (long_fault c false found v h)
        (step_fault shape position comes_to.0 comes_to.1)
    long-turn = ap₂ (λ f (m : Held × Step). or_else f (step_fault shape position m.0 m.1)) long-fault long-met

    pub long-walk : walked c [] (at_word h waiting position) word ≡ after_step c word (at_word h waiting position) comes_to.0 comes_to.1
    unfolding walked
    long-walk = ap (λ (m : Held × Step). after_step c word (at_word h waiting position) m.0 m.1) long-met

  -- what a short option comes to: the commands have none
  module _ (rows : List Row) (pending : Option (Text × List Text)) (waiting : Waiting) (position : ℕ) (word : Text)
      (no_dashes : bytes_eq word dashes ≡ false)
      (long : long_of word ≡ None) where
    abbrev here : Held
    here = record { rows = rows; pending = pending; skip = 0 }

    other-fault : word_fault shape [] false waiting word here ≡ option_map_or (λ flags. bundle_fault c false flags here) (short_of word) []
    other-fault =
        ap (λ o. other_fault shape o word here) (no_subcommand waiting word)
        ∙ ap (λ b. if b then [] else flag_word_fault c false (long_of word) word here) no_dashes
        ∙ ap (λ o. flag_word_fault c false o word here) long

    other-met : word_met c [] false waiting position word here ≡ short_or_plain_of c waiting word (short_of word) here
    other-met =
        ap (λ o. subcommand_or_other c o waiting position word here) (no_subcommand waiting word)
        ∙ ap (λ b. if b then (here, trailing position) else long_or_other c waiting word (long_of word) here) no_dashes
        ∙ ap (λ o. long_or_other c waiting word o here) long

    pub short-fails : ((x : ℕ) → arg_by_short c x ≡ None) → (y : ℕ) (ys : Text) (x : ℕ) → short_of word ≡ Some (y ∷ ys)
        → slice_get (chars (y ∷ ys)) 0 ≡ Some x
        → turn_fault shape [] (at_word here waiting position) word ≡ [] → ⊥
    unfolding flags_fault
    short-fails no_short y ys x short first =
        fails_first _ _ (some_kind kind.UnknownArgument [] _ (other-fault
        ∙ ap (λ o. option_map_or (λ flags. bundle_fault c false flags here) o []) short ∙ unknown))
      where
        unknown : bundle_fault c false (y ∷ ys) here ≡ kind.UnknownArgument ∷ []
        unknown = rw (first, no_short x) refl

    plain-met : IsPlain word → word_met c [] false waiting position word here ≡ plain_word c waiting word here
    plain-met (inl none) = other-met ∙ ap (λ o. short_or_plain_of c waiting word o here) none
    plain-met (inr flags) =
        other-met ∙ ap (λ o. short_or_plain_of c waiting word o here) flags.1
        ∙ ap (λ (m : Held × Outcome). after_flag c waiting word m.0 m.1) (sym (bundle_ends c (length flags.0) flags.0 0 plain here flags.2))

    plain-fault : IsPlain word → word_fault shape [] false waiting word here ≡ []
    plain-fault (inl none) = other-fault ∙ ap (λ o. option_map_or (λ flags. bundle_fault c false flags here) o []) none
    plain-fault (inr flags) =
        other-fault ∙ ap (λ o. option_map_or (λ f. bundle_fault c false f here) o []) flags.1
        ∙ sym (fault_ends c false (length flags.0) flags.0 0 here flags.2)

    pub plain-turn : IsPlain word
        → turn_fault shape [] (at_word here waiting position) word ≡ step_fault shape position (plain_word c waiting word here).0
        (plain_word c waiting word here).1
    plain-turn is = ap₂ (λ f (m : Held × Step). or_else f (step_fault shape position m.0 m.1)) (plain-fault is) (plain-met is)

    pub plain-walk : IsPlain word
        → walked c [] (at_word here waiting position) word ≡ after_step c word (at_word here waiting position)
        (plain_word c waiting word here).0 (plain_word c waiting word here).1
    unfolding walked
    plain-walk is = ap (λ (m : Held × Step). after_step c word (at_word here waiting position) m.0 m.1) (plain-met is)
