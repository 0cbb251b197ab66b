-- Command lines worked by hand, which the checker computes.
use Rattle.std.proofs.Common.{◌≡◌, ℕ, List, [], ◌∷◌, Bool, true, false, Some, None, is_some, not, codes, refl}
use Rattle.std.specs.List.{list_all}
use Rattle.gc_script.specs.Words.{numeral}
use Rattle.gc_cli.specs.declared.command.Request.TheVariants.{Play, Run, Make, Drill}
use Rattle.gc_cli.specs.declared.opts.Opts.{Opts}
use Rattle.gc_cli.specs.Command.{number_within, pieces_of, request_of}

abbrev opts : ℕ → ℕ → Bool → Bool → Opts
opts nursery pages reports summary = record { nursery = nursery; pages = pages; reports = reports; summary = summary }

-- ---- what is taken

play-alone : request_of (codes "play" ∷ []) ≡ Some (Play (opts 4096 8 false false))
unfolding request_of pieces_of
play-alone = refl

play-all : request_of
    (codes "play" ∷ codes "--summary" ∷ codes "--pages" ∷ codes "2" ∷ codes "--reports" ∷ codes "--nursery=100" ∷ [])
    ≡ Some (Play (opts 100 2 true true))
unfolding request_of pieces_of number_within numeral
play-all = refl

play-least : request_of (codes "play" ∷ codes "--nursery" ∷ codes "64" ∷ codes "--pages=1" ∷ []) ≡ Some (Play (opts 64 1 false false))
unfolding request_of pieces_of number_within numeral
play-least = refl

play-most : request_of (codes "play" ∷ codes "--nursery=65536" ∷ codes "--pages" ∷ codes "128" ∷ [])
    ≡ Some (Play (opts 65536 128 false false))
unfolding request_of pieces_of number_within numeral
play-most = refl

run-alone : request_of (codes "run" ∷ []) ≡ Some (Run (opts 4096 8 false false))
unfolding request_of pieces_of
run-alone = refl

run-all : request_of
    (codes "run" ∷ codes "--pages" ∷ codes "2" ∷ codes "--reports" ∷ codes "--summary" ∷ codes "--nursery=100" ∷ [])
    ≡ Some (Run (opts 100 2 true true))
unfolding request_of pieces_of number_within numeral
run-all = refl

make-least : request_of (codes "make" ∷ codes "1" ∷ []) ≡ Some (Make 1)
unfolding request_of number_within numeral
make-least = refl

make-most : request_of (codes "make" ∷ codes "100000" ∷ []) ≡ Some (Make 100000)
unfolding request_of number_within numeral
make-most = refl

drill-before : request_of (codes "drill" ∷ codes "64" ∷ codes "--reports" ∷ []) ≡ Some (Drill 64 (opts 4096 8 true false))
unfolding request_of pieces_of number_within numeral
drill-before = refl

drill-between : request_of (codes "drill" ∷ codes "--nursery" ∷ codes "64" ∷ codes "7" ∷ codes "--pages=3" ∷ [])
    ≡ Some (Drill 7 (opts 64 3 false false))
unfolding request_of pieces_of number_within numeral
drill-between = refl

drill-behind : request_of (codes "drill" ∷ codes "--summary" ∷ codes "100000" ∷ []) ≡ Some (Drill 100000 (opts 4096 8 false true))
unfolding request_of pieces_of number_within numeral
drill-behind = refl

-- ---- what is refused

-- none of these words behind the mode asks for anything
abbrev are_refused : List ℕ → List (List (List ℕ)) → Bool
are_refused mode lists = list_all (λ words. not (is_some (request_of (mode ∷ words)))) lists

no-words : request_of [] ≡ None
unfolding request_of
no-words = refl

no-mode : (request_of (codes "runs" ∷ []) ≡ None) × (request_of (codes "--reports" ∷ codes "play" ∷ []) ≡ None)
unfolding request_of
no-mode = (refl, refl)

-- a number, dashes, what is unknown, what stands twice, and values that are missing, out of form or out of their limits
play-refused : are_refused (codes "play")
    ((codes "64" ∷ []) ∷ (codes "" ∷ []) ∷ (codes "--" ∷ []) ∷ (codes "-" ∷ []) ∷ (codes "--help" ∷ []) ∷ (codes "-reports" ∷ [])
    ∷ (codes "--reports" ∷ codes "--reports" ∷ []) ∷ (codes "--nursery" ∷ codes "64" ∷ codes "--nursery=64" ∷ [])
    ∷ (codes "--reports=true" ∷ []) ∷ (codes "--nursery" ∷ []) ∷ (codes "--nursery=" ∷ []) ∷ (codes "--nursery" ∷ codes "--reports" ∷ [])
    ∷ (codes "--nursery" ∷ codes "064" ∷ []) ∷ (codes "--nursery" ∷ codes "+64" ∷ []) ∷ (codes "--nursery" ∷ codes "63" ∷ [])
    ∷ (codes "--nursery=65537" ∷ []) ∷ (codes "--pages" ∷ codes "0" ∷ []) ∷ (codes "--pages=129" ∷ []) ∷ [])
    ≡ true
unfolding request_of pieces_of number_within numeral
play-refused = refl

-- no number, two, one out of form or out of its limits, and options
make-refused : are_refused (codes "make")
    ([] ∷ (codes "1" ∷ codes "2" ∷ []) ∷ (codes "064" ∷ []) ∷ (codes "0" ∷ []) ∷ (codes "100001" ∷ [])
    ∷ (codes "--reports" ∷ codes "1" ∷ []) ∷ (codes "1" ∷ codes "--nursery=64" ∷ []) ∷ (codes "--" ∷ codes "1" ∷ []) ∷ [])
    ≡ true
unfolding request_of number_within numeral
make-refused = refl

-- no number, two, one out of its limits, and one behind dashes
drill-refused : are_refused (codes "drill")
    ([] ∷ (codes "--reports" ∷ []) ∷ (codes "--nursery" ∷ codes "64" ∷ []) ∷ (codes "1" ∷ codes "2" ∷ []) ∷ (codes "0" ∷ [])
    ∷ (codes "100001" ∷ []) ∷ (codes "--" ∷ codes "64" ∷ []) ∷ [])
    ≡ true
unfolding request_of pieces_of number_within numeral
drill-refused = refl
