-- What the words ask for lies within the limits of the options and of the rounds.
use Rattle.std.proofs.Common.{◌≡◌, ℕ, ◌≤◌, List, [], ◌∷◌, Bool, true, false, Option, Some, None, IfSome, option_map, length, ◌==◌, if◌then◌else◌, nat_le, ◌&&◌, codes, refl, arith}
use Rattle.std.specs.Str.{bytes_eq}
use Rattle.std.proofs.lemmas.Bool.Decides.{nat_tests}
use Rattle.gc_script.specs.Words.{numeral}
use Rattle.gc_cli.specs.declared.command.Request.TheVariants.{Play, Run, Make}
use Rattle.gc_cli.specs.declared.opts.Opts.{Opts}
use Rattle.gc_cli.specs.Command.{Piece, drill_from, drill_of, flag_given, make_of, number_given, number_within, opts_alone, opts_from, opts_of, pieces_of, request_of, rounds_of, values_of, within}
use Rattle.gc_cli.specs.Played.{AreAllowed, AreAllowedRounds, IsAllowed}

-- a fact of what is there, of two
IfSome-if : {X : Type 0} (P : X → Type 0) (b : Bool) (x y : Option X) → IfSome x P → IfSome y P → IfSome (if b then x else y) P
IfSome-if P true x y first second = first
IfSome-if P false x y first second = second

-- a fact of what is there, under a function
IfSome-map : {X Y : Type 0} (P : X → Type 0) (Q : Y → Type 0) (f : X → Y) (o : Option X) → IfSome o P
    → ((x : X) → P x → Q (f x)) → IfSome (option_map f o) Q
IfSome-map P Q f None is next = tt
IfSome-map P Q f (Some x) is next = next x is

-- a number lies within limits
abbrev LiesWithin : ℕ → ℕ → ℕ → Type 0
LiesWithin least most number = (least ≤ number) × (number ≤ most)

-- a number that is tested
tested-limits : (least most number : ℕ) (b : Bool) → (nat_le least number && nat_le number most) ≡ b
    → IfSome (if b then Some number else None) (LiesWithin least most)
tested-limits least most number true is = limits least most number is
  where
    limits : (least most number : ℕ) → (nat_le least number && nat_le number most) ≡ true → LiesWithin least most number
    limits least most number is = grind (arith, nat_tests)
tested-limits least most number false is = tt

-- a number that is tested, where there is one
within-limits : (least most : ℕ) (o : Option ℕ) → IfSome (within least most o) (LiesWithin least most)
within-limits least most None = tt
within-limits least most (Some number) = tested-limits least most number _ refl

-- the number of a word
number_within-limits : (least most : ℕ) (word : List ℕ) → IfSome (number_within least most word) (LiesWithin least most)
unfolding number_within
number_within-limits least most word = within-limits least most (numeral word)

-- the number of an option
number_given-limits : (least most : ℕ) (default : Option ℕ) (values : List (List ℕ)) → IfSome default (LiesWithin least most)
    → IfSome (number_given least most default values) (LiesWithin least most)
number_given-limits least most default [] other = other
number_given-limits least most default (value ∷ []) other = number_within-limits least most value
number_given-limits least most default (value ∷ second ∷ more) other = tt

-- the options, by their parts
opts_from-limits : (nursery pages : Option ℕ) (reports summary : Option Bool) → IfSome nursery (LiesWithin 64 65536)
    → IfSome pages (LiesWithin 1 128) → IfSome (opts_from nursery pages reports summary) AreAllowed
opts_from-limits None pages reports summary half few = tt
opts_from-limits (Some nursery) None reports summary half few = tt
opts_from-limits (Some nursery) (Some pages) None summary half few = tt
opts_from-limits (Some nursery) (Some pages) (Some reports) None half few = tt
opts_from-limits (Some nursery) (Some pages) (Some reports) (Some summary) half few =
    record { least_half = half.0; most_half = half.1; some_pages = few.0; most_pages = few.1 }

-- the options that pieces give
opts_of-limits : (pieces : List Piece) → IfSome (opts_of pieces) AreAllowed
opts_of-limits pieces =
    opts_from-limits _ _ (flag_given (values_of (codes "reports") pieces)) (flag_given (values_of (codes "summary") pieces))
    (number_given-limits 64 65536 (Some 4096) (values_of (codes "nursery") pieces) (omega arith, omega arith))
    (number_given-limits 1 128 (Some 8) (values_of (codes "pages") pieces) (omega arith, omega arith))

-- the options alone
opts_alone-limits : (pieces : List Piece) → IfSome (opts_alone pieces) AreAllowed
opts_alone-limits pieces =
    IfSome-if AreAllowed (length (values_of (codes "rounds") pieces) == 0) (opts_of pieces) None (opts_of-limits pieces) tt

-- what `play` and `run` ask for
play-limits : (pieces : List Piece) → IfSome (option_map Play (opts_alone pieces)) IsAllowed
play-limits pieces =
    IfSome-map AreAllowed IsAllowed Play (opts_alone pieces) (opts_alone-limits pieces) (λ opts allowed. allowed)

run-limits : (pieces : List Piece) → IfSome (option_map Run (opts_alone pieces)) IsAllowed
run-limits pieces = IfSome-map AreAllowed IsAllowed Run (opts_alone pieces) (opts_alone-limits pieces) (λ opts allowed. allowed)

-- what `make` asks for
make_of-limits : (words : List (List ℕ)) → IfSome (make_of words) IsAllowed
make_of-limits [] = tt
make_of-limits (word ∷ []) =
    IfSome-map AreAllowedRounds IsAllowed Make (number_within 1 100000 word) (number_within-limits 1 100000 word)
    (λ rounds allowed. allowed)
make_of-limits (word ∷ second ∷ more) = tt

-- what `drill` asks for
drill_from-limits : (rounds : Option ℕ) (opts : Option Opts) → IfSome rounds AreAllowedRounds → IfSome opts AreAllowed
    → IfSome (drill_from rounds opts) IsAllowed
drill_from-limits None opts few allowed = tt
drill_from-limits (Some rounds) None few allowed = tt
drill_from-limits (Some rounds) (Some opts) few allowed = (few, allowed)

drill_of-limits : (pieces : List Piece) → IfSome (drill_of pieces) IsAllowed
drill_of-limits pieces =
    drill_from-limits (rounds_of pieces) (opts_of pieces) (number_given-limits 1 100000 None (values_of (codes "rounds") pieces) tt)
    (opts_of-limits pieces)

-- whatever the words ask for is allowed
pub request_of-limits : (words : List (List ℕ)) → IfSome (request_of words) IsAllowed
unfolding request_of
request_of-limits [] = tt
request_of-limits (mode ∷ words) =
    let drill = if bytes_eq mode (codes "drill") then drill_of (pieces_of words) else None in
    let make = if bytes_eq mode (codes "make") then make_of words else drill in
    let run = if bytes_eq mode (codes "run") then option_map Run (opts_alone (pieces_of words)) else make in
    IfSome-if IsAllowed (bytes_eq mode (codes "play")) _ run (play-limits (pieces_of words))
    (IfSome-if IsAllowed (bytes_eq mode (codes "run")) _ make (run-limits (pieces_of words))
    (IfSome-if IsAllowed (bytes_eq mode (codes "make")) _ drill (make_of-limits words)
    (IfSome-if IsAllowed (bytes_eq mode (codes "drill")) _ None (drill_of-limits (pieces_of words)) tt)))
