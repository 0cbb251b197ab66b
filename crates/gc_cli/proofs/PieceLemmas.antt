-- The pieces of the words behind a mode: their values by name, and what makes the whole no request.
use Rattle.std.proofs.Common.{◌≡◌, ◌⊎◌, inl, inr, ℕ, ◌≤◌, List, [], ◌∷◌, ◌++◌, length, map, filter, Bool, true, false, ◌||◌, cond, Option, Some, None, ◌==◌, codes, refl, sym, ◌∙◌, ap, subst, arith, append-nil, length-append, true≢false}
use Rattle.std.specs.List.{list_any}
use Rattle.std.specs.Str.{bytes_eq}
use Rattle.std.proofs.lemmas.Bool.{ne_eqb}
use Rattle.std.proofs.lemmas.Slice.Eq.{bytes_eq-Decides}
use Rattle.gc_script.specs.Words.{numeral}
use Rattle.gc_cli.specs.declared.opts.Opts.{Opts}
use Rattle.gc_cli.specs.Command.{Piece, drill_from, drill_of, flag_given, number_given, number_within, opts_alone, opts_from, opts_of, values_of}

-- ---- tests

pub neither : (a b : Bool) → (a || b) ≡ false → (a ≡ false) × (b ≡ false)
neither true b e = absurd (true≢false e)
neither false b e = (refl, e)

-- a text is one that it is tested against
pub same_text : (x y : List ℕ) → bytes_eq x y ≡ true → x ≡ y
same_text x y = (bytes_eq-Decides x y).0

pub same_test : (x : List ℕ) → bytes_eq x x ≡ true
same_test x = (bytes_eq-Decides x x).1 refl

-- ---- values by name

-- one of the pieces has this name
abbrev pub has_name : List ℕ → List Piece → Bool
has_name name pieces = list_any (λ piece. bytes_eq piece.0 name) pieces

pub values_of-append : (name : List ℕ) (xs ys : List Piece) → values_of name (xs ++ ys) ≡ values_of name xs ++ values_of name ys
values_of-append name [] ys = refl
values_of-append name (x ∷ xs) ys = go (bytes_eq x.0 name) (values_of-append name xs ys)
  where
    go : (b : Bool) → values_of name (xs ++ ys) ≡ values_of name xs ++ values_of name ys
        → map (λ (piece : Piece). piece.1) (cond b (x ∷ filter (λ piece. bytes_eq piece.0 name) (xs ++ ys))
        (filter (λ piece. bytes_eq piece.0 name) (xs ++ ys)))
        ≡ map (λ (piece : Piece). piece.1) (cond b (x ∷ filter (λ piece. bytes_eq piece.0 name) xs)
        (filter (λ piece. bytes_eq piece.0 name) xs)) ++ values_of name ys
    go true e = ap (λ rest. x.1 ∷ rest) e
    go false e = e

-- no piece of the name has no value of it
pub values_of-none : (name : List ℕ) (pieces : List Piece) → has_name name pieces ≡ false → values_of name pieces ≡ []
values_of-none name [] none = refl
values_of-none name (x ∷ xs) none =
    let parts = neither (bytes_eq x.0 name) (has_name name xs) none in
    rw parts.0 (values_of-none name xs parts.1)

-- a piece of the name has a value
pub values_of-some : (name : List ℕ) (pieces : List Piece) → has_name name pieces ≡ true → 1 ≤ length (values_of name pieces)
values_of-some name [] some = absurd (true≢false (sym some))
values_of-some name (x ∷ xs) some = go (bytes_eq x.0 name) refl (values_of-some name xs)
  where
    go : (b : Bool) → bytes_eq x.0 name ≡ b → (has_name name xs ≡ true → 1 ≤ length (values_of name xs))
        → 1 ≤ length (values_of name (x ∷ xs))
    go true is more = rw is (omega arith)
    go false is more = rw is (more (rw is at some))

-- the values of a piece's own name
pub values_of-here : (before : List Piece) (piece : Piece) (after : List Piece)
    → values_of piece.0 (before ++ piece ∷ after) ≡ values_of piece.0 before ++ piece.1 ∷ values_of piece.0 after
values_of-here before piece after =
    values_of-append piece.0 before (piece ∷ after) ∙ ap (λ rest. values_of piece.0 before ++ rest) here
  where
    here : values_of piece.0 (piece ∷ after) ≡ piece.1 ∷ values_of piece.0 after
    here = rw (same_test piece.0) refl

pub has_name-append : (name : List ℕ) (xs ys : List Piece) → has_name name (xs ++ ys) ≡ (has_name name xs || has_name name ys)
has_name-append name [] ys = refl
has_name-append name (x ∷ xs) ys = go (bytes_eq x.0 name) (has_name-append name xs ys)
  where
    go : (b : Bool) → has_name name (xs ++ ys) ≡ (has_name name xs || has_name name ys)
        → (b || has_name name (xs ++ ys)) ≡ ((b || has_name name xs) || has_name name ys)
    go true e = refl
    go false e = e

-- ---- pieces of which each name stands at most once

abbrev pub AreOnce : List Piece → Type 0
AreOnce pieces = (name : List ℕ) → length (values_of name pieces) ≤ 1

none-once : AreOnce []
none-once name = omega arith

-- one more, of a new name
more-once : (pieces : List Piece) (piece : Piece) → AreOnce pieces → has_name piece.0 pieces ≡ false → AreOnce (pieces ++ piece ∷ [])
more-once pieces piece once new name = go (bytes_eq piece.0 name) refl
  where
    go : (b : Bool) → bytes_eq piece.0 name ≡ b → length (values_of name (pieces ++ piece ∷ [])) ≤ 1
    go true is =
        let none : values_of name pieces ≡ [] = ap (λ n. values_of n pieces) (sym (same_text piece.0 name is))
        ∙ values_of-none piece.0 pieces new in
        rw (values_of-append name pieces (piece ∷ []), none, is) (omega arith)
    go false is = rw (values_of-append name pieces (piece ∷ []), is, append-nil (values_of name pieces)) (once name)

-- each name stands at most once, and where no number is taken there is none
pub record AreRight (takes_number : Bool) (pieces : List Piece) : Type 0 where
  pub once : AreOnce pieces
  pub numberless : takes_number ≡ false → values_of (codes "rounds") pieces ≡ []

-- a piece of this name may stand there
abbrev pub MayStand : Bool → List ℕ → Type 0
MayStand takes_number name = takes_number ≡ false → bytes_eq name (codes "rounds") ≡ false

pub none-right : (takes_number : Bool) → AreRight takes_number []
none-right takes_number = record { once = none-once; numberless = λ never. refl }

pub more-right : (takes_number : Bool) (pieces : List Piece) (piece : Piece) → AreRight takes_number pieces → MayStand takes_number piece.0
    → has_name piece.0 pieces ≡ false → AreRight takes_number (pieces ++ piece ∷ [])
more-right takes_number pieces piece right may new = record {
  once = more-once pieces piece right.once new;
  numberless = λ never. rw (values_of-append (codes "rounds") pieces (piece ∷ []), right.numberless never, may never) refl;
}

-- ---- pieces that are wrong

-- the names that there are
pub data IsName (name : List ℕ) : Type 0 where
  of_nursery : name ≡ codes "nursery" → IsName name
  of_pages : name ≡ codes "pages" → IsName name
  of_reports : name ≡ codes "reports" → IsName name
  of_summary : name ≡ codes "summary" → IsName name
  of_rounds : name ≡ codes "rounds" → IsName name

-- the name is a flag's
abbrev pub is_flag_name : List ℕ → Bool
is_flag_name name = bytes_eq name (codes "reports") || bytes_eq name (codes "summary")

-- what is wrong with a piece behind others: its name stands twice, its value is no number, or no number may stand there
pub data IsWrong (takes_number : Bool) (before : List Piece) (piece : Piece) : Type 0 where
  twice : has_name piece.0 before ≡ true → IsWrong takes_number before piece
  no_number : is_flag_name piece.0 ≡ false → numeral piece.1 ≡ None → IsWrong takes_number before piece
  stray : takes_number ≡ false → piece.0 ≡ codes "rounds" → IsWrong takes_number before piece

-- one of the pieces is wrong
pub record HasWrong (takes_number : Bool) (pieces : List Piece) : Type 0 where
  pub before : List Piece
  pub piece : Piece
  pub after : List Piece
  pub is : pieces ≡ before ++ piece ∷ after
  pub name : IsName piece.0
  pub wrong : IsWrong takes_number before piece

-- several values are no number
number_given-twice : (least most : ℕ) (default : Option ℕ) (xs : List (List ℕ)) (value : List ℕ) (ys : List (List ℕ)) → 1 ≤ length xs
    → number_given least most default (xs ++ value ∷ ys) ≡ None
number_given-twice least most default [] value ys some = absurd (omega arith)
number_given-twice least most default (x ∷ []) value ys some = refl
number_given-twice least most default (x ∷ second ∷ more) value ys some = refl

-- nor are some of which one is none
number_given-none : (least most : ℕ) (default : Option ℕ) (xs : List (List ℕ)) (value : List ℕ) (ys : List (List ℕ)) → numeral value ≡ None
    → number_given least most default (xs ++ value ∷ ys) ≡ None
unfolding number_within
number_given-none least most default [] value [] none = rw none refl
number_given-none least most default [] value (y ∷ ys) none = refl
number_given-none least most default (x ∷ []) value ys none = refl
number_given-none least most default (x ∷ second ∷ more) value ys none = refl

-- a flag twice is none
flag_given-twice : (xs : List (List ℕ)) (value : List ℕ) (ys : List (List ℕ)) → 1 ≤ length xs → flag_given (xs ++ value ∷ ys) ≡ None
flag_given-twice [] value ys some = absurd (omega arith)
flag_given-twice (x ∷ []) value ys some = refl
flag_given-twice (x ∷ second ∷ more) value ys some = refl

-- without one of the four there are no options
opts_from-nursery : (nursery pages : Option ℕ) (reports summary : Option Bool) → nursery ≡ None
    → opts_from nursery pages reports summary ≡ None
opts_from-nursery nursery pages reports summary none = rw none refl

opts_from-pages : (nursery pages : Option ℕ) (reports summary : Option Bool) → pages ≡ None → opts_from nursery pages reports summary ≡ None
opts_from-pages None pages reports summary none = refl
opts_from-pages (Some nursery) pages reports summary none = rw none refl

opts_from-reports : (nursery pages : Option ℕ) (reports summary : Option Bool) → reports ≡ None
    → opts_from nursery pages reports summary ≡ None
opts_from-reports None pages reports summary none = refl
opts_from-reports (Some nursery) None reports summary none = refl
opts_from-reports (Some nursery) (Some pages) reports summary none = rw none refl

opts_from-summary : (nursery pages : Option ℕ) (reports summary : Option Bool) → summary ≡ None
    → opts_from nursery pages reports summary ≡ None
opts_from-summary None pages reports summary none = refl
opts_from-summary (Some nursery) None reports summary none = refl
opts_from-summary (Some nursery) (Some pages) None summary none = refl
opts_from-summary (Some nursery) (Some pages) (Some reports) summary none = rw none refl

-- the number of a wrong piece that has one
wrong-number : (least most : ℕ) (default : Option ℕ) (takes_number : Bool) (name : List ℕ) (before : List Piece) (piece : Piece)
    (after : List Piece)
    → piece.0 ≡ name → (takes_number ≡ false → piece.0 ≡ codes "rounds" → ⊥) → IsWrong takes_number before piece
    → number_given least most default (values_of name (before ++ piece ∷ after)) ≡ None
wrong-number least most default takes_number name before piece after is may (twice e) =
    rw (← is, values_of-here before piece after) (number_given-twice least most default (values_of piece.0 before) piece.1
    (values_of piece.0 after) (values_of-some piece.0 before e))
wrong-number least most default takes_number name before piece after is may (no_number flag none) =
    rw (← is, values_of-here before piece after) (number_given-none least most default (values_of piece.0 before) piece.1
    (values_of piece.0 after) none)
wrong-number least most default takes_number name before piece after is may (stray never rounds) = absurd (may never rounds)

-- a wrong flag
wrong-flag : (takes_number : Bool) (name : List ℕ) (before : List Piece) (piece : Piece) (after : List Piece) → piece.0 ≡ name
    → is_flag_name name ≡ true
    → (piece.0 ≡ codes "rounds" → ⊥) → IsWrong takes_number before piece → flag_given (values_of name (before ++ piece ∷ after)) ≡ None
wrong-flag takes_number name before piece after is flag may (twice e) =
    rw (← is, values_of-here before piece after) (flag_given-twice (values_of piece.0 before) piece.1 (values_of piece.0 after)
    (values_of-some piece.0 before e))
wrong-flag takes_number name before piece after is flag may (no_number other none) = absurd (true≢false (sym (rw (← is) at flag) ∙ other))
wrong-flag takes_number name before piece after is flag may (stray never rounds) = absurd (may rounds)

-- the options, where one of them is wrong
wrong-opts : (takes_number : Bool) (before : List Piece) (piece : Piece) (after : List Piece) → IsName piece.0
    → (piece.0 ≡ codes "rounds" → ⊥)
    → IsWrong takes_number before piece → opts_of (before ++ piece ∷ after) ≡ None
wrong-opts takes_number before piece after (of_nursery is) other wrong =
    opts_from-nursery _ _ _ _
    (wrong-number 64 65536 (Some 4096) takes_number (codes "nursery") before piece after is (λ never rounds. other rounds) wrong)
wrong-opts takes_number before piece after (of_pages is) other wrong =
    opts_from-pages _ _ _ _
    (wrong-number 1 128 (Some 8) takes_number (codes "pages") before piece after is (λ never rounds. other rounds) wrong)
wrong-opts takes_number before piece after (of_reports is) other wrong =
    opts_from-reports _ _ _ _ (wrong-flag takes_number (codes "reports") before piece after is refl other wrong)
wrong-opts takes_number before piece after (of_summary is) other wrong =
    opts_from-summary _ _ _ _ (wrong-flag takes_number (codes "summary") before piece after is refl other wrong)
wrong-opts takes_number before piece after (of_rounds is) other wrong = absurd (other is)

-- a name is that of the number or another
is_rounds : (name : List ℕ) → IsName name → (name ≡ codes "rounds") ⊎ (name ≡ codes "rounds" → ⊥)
is_rounds name (of_nursery is) = inr (λ rounds. true≢false (ap (bytes_eq (codes "nursery")) (sym is ∙ rounds)))
is_rounds name (of_pages is) = inr (λ rounds. true≢false (ap (bytes_eq (codes "pages")) (sym is ∙ rounds)))
is_rounds name (of_reports is) = inr (λ rounds. true≢false (ap (bytes_eq (codes "reports")) (sym is ∙ rounds)))
is_rounds name (of_summary is) = inr (λ rounds. true≢false (ap (bytes_eq (codes "summary")) (sym is ∙ rounds)))
is_rounds name (of_rounds is) = inl is

opts_alone-opts : (pieces : List Piece) → opts_of pieces ≡ None → opts_alone pieces ≡ None
opts_alone-opts pieces none = go (length (values_of (codes "rounds") pieces) == 0)
  where
    go : (b : Bool) → cond b (opts_of pieces) None ≡ None
    go true = none
    go false = refl

-- `play` takes no number
pub opts_alone-rounds : (pieces : List Piece) → 1 ≤ length (values_of (codes "rounds") pieces) → opts_alone pieces ≡ None
opts_alone-rounds pieces some =
    let test : (length (values_of (codes "rounds") pieces) == 0) ≡ false = ne_eqb _ _ (λ e. omega arith) in rw test refl

drill_from-opts : (rounds : Option ℕ) (opts : Option Opts) → opts ≡ None → drill_from rounds opts ≡ None
drill_from-opts None opts none = refl
drill_from-opts (Some rounds) opts none = rw none refl

drill_from-rounds : (rounds : Option ℕ) (opts : Option Opts) → rounds ≡ None → drill_from rounds opts ≡ None
drill_from-rounds rounds opts none = rw none refl

-- a piece has a value
some_value : (before : List Piece) (piece : Piece) (after : List Piece) → 1 ≤ length (values_of piece.0 (before ++ piece ∷ after))
some_value before piece after =
    let all = length-append (values_of piece.0 before) (piece.1 ∷ values_of piece.0 after) in
    rw (values_of-here before piece after) (omega (arith, all))

-- with a wrong piece `play` asks for nothing
pub wrong-play : (pieces : List Piece) → HasWrong false pieces → opts_alone pieces ≡ None
wrong-play pieces h = ap opts_alone h.is ∙ elim (is_rounds h.piece.0 h.name) [
  | inl rounds ↦
      opts_alone-rounds (h.before ++ h.piece ∷ h.after)
      (subst (λ n. 1 ≤ length (values_of n (h.before ++ h.piece ∷ h.after))) rounds (some_value h.before h.piece h.after))
  | inr other ↦ opts_alone-opts (h.before ++ h.piece ∷ h.after) (wrong-opts false h.before h.piece h.after h.name other h.wrong)
]

-- nor does `drill`
pub wrong-drill : (pieces : List Piece) → HasWrong true pieces → drill_of pieces ≡ None
wrong-drill pieces h = ap drill_of h.is ∙ elim (is_rounds h.piece.0 h.name) [
  | inl rounds ↦
      drill_from-rounds _ _
      (wrong-number 1 100000 None true (codes "rounds") h.before h.piece h.after rounds (λ never r. true≢false never) h.wrong)
  | inr other ↦ drill_from-opts _ _ (wrong-opts true h.before h.piece h.after h.name other h.wrong)
]
