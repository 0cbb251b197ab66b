-- What the command of `make` finds in the words behind it: one number, and nothing else.
use Rattle.std.proofs.Common.{◌≡◌, ◌⊎◌, inl, inr, ℕ, List, [], ◌∷◌, map, true, false, Option, Some, None, option_map, fold, codes, refl, sym, ◌∙◌, ap, arith}
use Rattle.std.specs.List.{list_any}
use Rattle.clap.specs.Faults.{fault_of, is_simple_and_free, settle_fault, turn_fault, walk_fault}
use Rattle.clap.specs.Kinds.{Kinds, or_else}
use Rattle.clap.specs.Matches.{found_of}
use Rattle.clap.specs.Lexer.{long_of, name_and_value}
use Rattle.clap.specs.Simple.{Shape, built, matches_of}
use Rattle.clap.specs.Walk.{Row, Rule, Text, Walk, finished, first_of, idle, nothing_held, settled, walk, walked}
use Rattle.clap.specs.declared.parser.matches.ArgMatches.{ArgMatches}
use Rattle.clap.specs.declared.error.kind.ErrorKind.TheVariants as kind
use Rattle.clap.proofs.FaultLemmas.{leaf_fault}
use Rattle.clap.proofs.WalkLemmas.{first_value-rows}
use Rattle.gc_script.specs.Words.{numeral}
use Rattle.gc_cli.specs.declared.command.Request.TheVariants.{Make}
use Rattle.gc_cli.specs.Command.{Piece, make_of, rounds_of}
use Rattle.gc_cli.specs.Commands.{Finds, HoldsValue, is_dashes, make_app}
use Rattle.gc_cli.proofs.PieceLemmas.{neither}
use Rattle.gc_cli.proofs.WordLemmas.{IsPlain, LongOrNot, ShortOrPlain, at_word, fails_first, hyphen-number, long-turn, long_or_not, not_within, plain-turn, plain-walk, shape, short-fails, short_or_plain, some_kind}
use Rattle.gc_cli.proofs.WalkLemmas.{rounds_built}
use Rattle.gc_cli.proofs.FindLemmas.{level-is, quiet}

-- the only argument of `make`, when it is built
abbrev make_rules : List Rule
make_rules = rounds_built ∷ []

-- and the whole command
abbrev make_shape : Shape
make_shape = shape (codes "make") make_rules

-- the walk of `make` at a place
abbrev make_walk : List Row → Option (Text × List Text) → ℕ → Walk
make_walk rows pending position = at_word (codes "make") make_rules (record { rows = rows; pending = pending; skip = 0 }) idle position

-- a word that may be a number, or one that `make` refuses
abbrev MakeWord : Text → Type 0
MakeWord word =
    ((long_of word ≡ None) × IsPlain word)
    ⊎ ((numeral word ≡ None) × ((rows : List Row) (pending : Option (Text × List Text)) (position : ℕ)
    → turn_fault make_shape [] (make_walk rows pending position) word ≡ [] → ⊥))

-- each word is one of the two
make_word : (word : Text) → is_dashes word ≡ false → MakeWord word
make_word word no_dashes = by_form (long_or_not word)
  where
    by_short : long_of word ≡ None → ShortOrPlain word → MakeWord word
    by_short none (inl is) = inl (none, is)
    by_short none (inr short) = inr (
      ap numeral short.3 ∙ hyphen-number short.0 short.1,
      λ rows pending position. short-fails (codes "make") make_rules rows pending idle position word no_dashes none
          (λ x. refl) short.0 short.1 short.2 short.4 short.5,
    )

    by_form : LongOrNot word → MakeWord word
    by_form (inl none) = by_short none (short_or_plain word)
    by_form (inr long) =
        let p = name_and_value (long.0 ∷ long.1) in
        let is : long_of word ≡ Some (p.0, p.1) = ap long_of long.2 in
        inr (
          ap numeral long.2 ∙ hyphen-number 45 (long.0 ∷ long.1),
          λ rows pending position. some_kind kind.UnknownArgument [] _
              (long-turn (codes "make") make_rules (record { rows = rows; pending = pending; skip = 0 }) idle position word p.0 p.1 None
              no_dashes is refl),
        )

-- the first number passes, and waits to be used
number-turn : (word : Text) → is_dashes word ≡ false → long_of word ≡ None → IsPlain word
    → turn_fault make_shape [] (make_walk [] None 1) word ≡ []
number-turn word no_dashes none is = plain-turn (codes "make") make_rules [] None idle 1 word no_dashes none is

number-walk : (word : Text) → is_dashes word ≡ false → long_of word ≡ None → IsPlain word
    → walked make_rules [] (make_walk [] None 1) word ≡ make_walk [] (Some (codes "rounds", word ∷ [])) 2
number-walk word no_dashes none is = plain-walk (codes "make") make_rules [] None idle 1 word no_dashes none is

-- the kinds of error that the walk gives
abbrev make_kinds : List Text → Kinds
make_kinds words = or_else (walk_fault make_shape [] (make_walk [] None 1) words)
    (settle_fault make_rules false (fold (walked make_rules []) (make_walk [] None 1) words).held)

make-fault : (words : List Text) → fault_of make_app words ≡ make_kinds words
make-fault words =
    leaf_fault (built make_app) nothing_held words refl
    ∙ level-is _ _ _ _ (quiet make_rules (settled make_rules (walk make_rules [] nothing_held words).held).rows (refl, tt)) refl

-- one number fails in nothing
one-number : (word : Text) → is_dashes word ≡ false → long_of word ≡ None → IsPlain word → make_kinds (word ∷ []) ≡ []
unfolding walk_fault
one-number word no_dashes none is =
    ap (λ t. or_else (or_else t []) (settle_fault make_rules false (walked make_rules [] (make_walk [] None 1) word).held))
    (number-turn word no_dashes none is)
    ∙ ap (λ (w : Walk). settle_fault make_rules false w.held) (number-walk word no_dashes none is)

-- a first word that fails, and a second one
first-fails : (word : Text) (words : List Text) → (turn_fault make_shape [] (make_walk [] None 1) word ≡ [] → ⊥)
    → make_kinds (word ∷ words) ≡ [] → ⊥
unfolding walk_fault
first-fails word words fails = fails_first _ _ (fails_first (turn_fault make_shape [] (make_walk [] None 1) word) _ fails)

second-fails : (word second : Text) (words : List Text)
    → (turn_fault make_shape [] (walked make_rules [] (make_walk [] None 1) word) second ≡ [] → ⊥)
    → turn_fault make_shape [] (make_walk [] None 1) word ≡ [] → make_kinds (word ∷ second ∷ words) ≡ [] → ⊥
unfolding walk_fault
second-fails word second words fails passed none =
    fails_first _ _ (fails_first (turn_fault make_shape [] (walked make_rules [] (make_walk [] None 1) word) second) _ fails)
    (sym (ap (λ t. or_else (or_else t (walk_fault make_shape [] (walked make_rules [] (make_walk [] None 1) word) (second ∷ words)))
    (settle_fault make_rules false (fold (walked make_rules []) (make_walk [] None 1) (word ∷ second ∷ words)).held)) passed) ∙ none)

-- so any two words fail
two-fail : (word second : Text) (words : List Text) → is_dashes word ≡ false → is_dashes second ≡ false
    → make_kinds (word ∷ second ∷ words) ≡ [] → ⊥
two-fail word second words no_dashes nor_dashes = by_first (make_word word no_dashes)
  where
    by_second : (long_of word ≡ None) → IsPlain word → MakeWord second → make_kinds (word ∷ second ∷ words) ≡ [] → ⊥
    by_second none is (inl other) =
        second-fails word second words
        (λ passed. some_kind kind.UnknownArgument [] _
        (plain-turn (codes "make") make_rules [] (Some (codes "rounds", word ∷ [])) idle 2 second nor_dashes other.0 other.1)
        (sym (ap (λ w. turn_fault make_shape [] w second) (number-walk word no_dashes none is)) ∙ passed))
        (number-turn word no_dashes none is)
    by_second none is (inr bad) =
        second-fails word second words
        (λ passed. bad.1 [] (Some (codes "rounds", word ∷ [])) 2
        (sym (ap (λ w. turn_fault make_shape [] w second) (number-walk word no_dashes none is)) ∙ passed))
        (number-turn word no_dashes none is)

    by_first : MakeWord word → make_kinds (word ∷ second ∷ words) ≡ [] → ⊥
    by_first (inl is) = by_second is.0 is.1 (make_word second nor_dashes)
    by_first (inr bad) = first-fails word (second ∷ words) (bad.1 [] None 1)

-- clap's clauses are exact for `make`
pub make-is_simple : is_simple_and_free make_app ≡ true
make-is_simple = refl

-- each word as a number that stands alone
abbrev pub numbers : List Text → List Piece
numbers words = map (λ word. (codes "rounds", word)) words

-- one number is what the matches have
one-row : (word : Text) → is_dashes word ≡ false → long_of word ≡ None → IsPlain word
    → first_of (codes "rounds") (matches_of make_app (word ∷ [])) ≡ Some word
one-row word no_dashes none is =
    ap (λ (w : Walk). first_of (codes "rounds") (finished make_rules w.held)) (number-walk word no_dashes none is)

-- what `make` finds is the one word, or nothing
pub make-finds : (words : List Text) (matches : ArgMatches) → list_any is_dashes words ≡ false → Finds make_app words (Some matches)
    → HoldsValue matches (numbers words) (codes "rounds") × (make_of words ≡ option_map Make (rounds_of (numbers words)))
make-finds [] matches free found =
    ((omega arith, first_value-rows (found_of matches) (codes "rounds") ∙ ap (first_of (codes "rounds")) found.1), refl)
make-finds (word ∷ []) matches free found = by_form (make_word word (neither (is_dashes word) false free).0)
  where
    by_form : MakeWord word → HoldsValue matches (numbers (word ∷ [])) (codes "rounds")
        × (make_of (word ∷ []) ≡ option_map Make (rounds_of (numbers (word ∷ []))))
    by_form (inl is) = (
      (
        omega arith,
        first_value-rows (found_of matches) (codes "rounds") ∙ ap (first_of (codes "rounds")) found.1
            ∙ one-row word (neither (is_dashes word) false free).0 is.0 is.1,
      ),
      refl,
    )
    by_form (inr bad) = absurd (first-fails word [] (bad.1 [] None 1) (sym (make-fault (word ∷ [])) ∙ found.0))
make-finds (word ∷ second ∷ words) matches free found =
    let first = neither (is_dashes word) (list_any is_dashes (second ∷ words)) free in
    let rest = neither (is_dashes second) (list_any is_dashes words) first.1 in
    absurd (two-fail word second words first.0 rest.0 (sym (make-fault (word ∷ second ∷ words)) ∙ found.0))

-- where it refuses the words, they ask for nothing
pub make-refuses : (words : List Text) → list_any is_dashes words ≡ false → Finds make_app words None → make_of words ≡ None
make-refuses [] free refused = refl
make-refuses (word ∷ []) free refused = elim (make_word word (neither (is_dashes word) false free).0) [
  | inl is ↦ absurd (refused (make-fault (word ∷ []) ∙ one-number word (neither (is_dashes word) false free).0 is.0 is.1))
  | inr bad ↦ ap (option_map Make) (not_within 1 100000 word bad.0)
]
make-refuses (word ∷ second ∷ words) free refused = refl
