-- The command line, and the line on standard error.
use Rattle.std.specs.Prelude.{ℕ, List, [], ◌∷◌, ◌++◌, length, map, filter, drop, Option, Some, None, Bool, true, false, ◌==◌, ◌&&◌, ◌||◌, nat_le, option_map, if◌then◌else◌, codes, decimal}
use Rattle.std.specs.List.{before_first, after_first}
use Rattle.std.specs.Str.{bytes_eq}
use Rattle.gc_script.specs.Words.{numeral}
use Rattle.gc_cli.specs.declared.command.Request.{Request}
use Rattle.gc_cli.specs.declared.command.Request.TheVariants.{Play, Run, Make, Drill}
use Rattle.gc_cli.specs.declared.opts.Opts.{Opts}
use Rattle.gc_cli.specs.declared.status.Status.{Status}
use Rattle.gc_cli.specs.declared.status.Status.TheVariants.{Done, Usage, Bad, Long, ReadFault, WriteFault, NoMemory}

-- a number that is there, and lies within these limits
abbrev pub within : ℕ → ℕ → Option ℕ → Option ℕ
within least most None = None
within least most (Some number) = if nat_le least number && nat_le number most then Some number else None

-- the number that a word writes, spelled as a script's numbers are, where it lies within these limits
unfoldable pub number_within : ℕ → ℕ → List ℕ → Option ℕ
number_within least most word = within least most (numeral word)

-- a piece of the words behind a mode, by its name and its value: an option is named by its word without the two
-- hyphens, a flag has an empty value, and a number that stands alone is named `rounds`
abbrev pub Piece : Type 0
Piece = List ℕ × List ℕ

-- the options that take a value
abbrev pub takes_value : List ℕ → Bool
takes_value word = bytes_eq word (codes "--nursery") || bytes_eq word (codes "--pages")

-- the options that take none
abbrev pub is_flag : List ℕ → Bool
is_flag word = bytes_eq word (codes "--reports") || bytes_eq word (codes "--summary")

-- an option's name
abbrev pub name_of : List ℕ → List ℕ
name_of word = drop 2 word

-- what stands in a word before its first `=` (61), and what behind it
abbrev pub before_equals : List ℕ → List ℕ
before_equals word = before_first (λ byte. byte == 61) word

abbrev pub after_equals : List ℕ → List ℕ
after_equals word = after_first (λ byte. byte == 61) word

-- the piece that one word is: a flag, an option with its value behind `=`, or else a number. So a word that is none of
-- these is read for a number, and an option that lacks its value has an empty one; neither writes a number
abbrev pub piece_of : List ℕ → Piece
piece_of word =
    if is_flag word then (name_of word, []) else (
    if takes_value (before_equals word) then (name_of (before_equals word), after_equals word) else (codes "rounds", word))

-- the pieces of the words; an option without `=` is one with the next word
unfoldable pub pieces_of : List (List ℕ) → List Piece
pieces_of [] = []
pieces_of (word ∷ []) = piece_of word ∷ []
pieces_of (word ∷ next ∷ words) =
    if takes_value word then (name_of word, next) ∷ pieces_of words else piece_of word ∷ pieces_of (next ∷ words)

-- the values of the pieces with a name
abbrev pub values_of : List ℕ → List Piece → List (List ℕ)
values_of name pieces = map (λ piece. piece.1) (filter (λ piece. bytes_eq piece.0 name) pieces)

-- the number that pieces of one name give by their values: at most one of them, within these limits; else the default
abbrev pub number_given : ℕ → ℕ → Option ℕ → List (List ℕ) → Option ℕ
number_given least most default [] = default
number_given least most default (value ∷ []) = number_within least most value
number_given least most default (value ∷ second ∷ more) = None

-- whether a flag is given, by its values: at most once
abbrev pub flag_given : List (List ℕ) → Option Bool
flag_given [] = Some false
flag_given (value ∷ []) = Some true
flag_given (value ∷ second ∷ more) = None

-- the options where none is given
abbrev pub default_opts : Opts
default_opts = record { nursery = 4096; pages = 8; reports = false; summary = false }

-- the options, where each of them is right
abbrev pub opts_from : Option ℕ → Option ℕ → Option Bool → Option Bool → Option Opts
opts_from (Some nursery) (Some pages) (Some reports) (Some summary) =
    Some (record { nursery = nursery; pages = pages; reports = reports; summary = summary })
opts_from _ _ _ _ = None

-- the options that pieces give, with their limits
abbrev pub opts_of : List Piece → Option Opts
opts_of pieces = opts_from
    (number_given 64 65536 (Some default_opts.nursery) (values_of (codes "nursery") pieces))
    (number_given 1 128 (Some default_opts.pages) (values_of (codes "pages") pieces))
    (flag_given (values_of (codes "reports") pieces))
    (flag_given (values_of (codes "summary") pieces))

-- the number of rounds that pieces give
abbrev pub rounds_of : List Piece → Option ℕ
rounds_of pieces = number_given 1 100000 None (values_of (codes "rounds") pieces)

-- options, with no number
abbrev pub opts_alone : List Piece → Option Opts
opts_alone pieces = if length (values_of (codes "rounds") pieces) == 0 then opts_of pieces else None

-- `make` and a number, with nothing else
abbrev pub make_of : List (List ℕ) → Option Request
make_of (word ∷ []) = option_map Make (number_within 1 100000 word)
make_of _ = None

-- `drill`, a number and options
abbrev pub drill_from : Option ℕ → Option Opts → Option Request
drill_from (Some rounds) (Some opts) = Some (Drill rounds opts)
drill_from _ _ = None

abbrev pub drill_of : List Piece → Option Request
drill_of pieces = drill_from (rounds_of pieces) (opts_of pieces)

-- what the words ask for: the mode is the first of them
unfoldable pub request_of : List (List ℕ) → Option Request
request_of [] = None
request_of (mode ∷ words) =
    if bytes_eq mode (codes "play") then option_map Play (opts_alone (pieces_of words)) else (
    if bytes_eq mode (codes "run") then option_map Run (opts_alone (pieces_of words)) else (
    if bytes_eq mode (codes "make") then make_of words else (
    if bytes_eq mode (codes "drill") then drill_of (pieces_of words) else None)))

-- the word of a cause, by its number
abbrev pub cause_text : ℕ → List ℕ
cause_text number =
    if number == 1 then codes "version" else (
    if number == 2 then codes "word" else (
    if number == 3 then codes "number" else (
    if number == 4 then codes "register" else (
    if number == 5 then codes "type" else (
    if number == 6 then codes "mutator" else codes "duplicate")))))

-- the line on standard error: nothing for Done
abbrev pub status_line : Status → List ℕ
status_line Done = []
status_line Usage = codes "moar_gc: usage\n"
status_line (Bad line cause) = codes "moar_gc: line " ++ decimal line ++ codes ": " ++ cause_text cause ++ codes "\n"
status_line Long = codes "moar_gc: script too long\n"
status_line ReadFault = codes "moar_gc: read fault\n"
status_line WriteFault = codes "moar_gc: write fault\n"
status_line NoMemory = codes "moar_gc: no memory\n"

-- the exit status
abbrev pub code_of : Status → ℕ
code_of Done = 0
code_of Usage = 1
code_of (Bad line cause) = 2
code_of Long = 2
code_of ReadFault = 3
code_of WriteFault = 4
code_of NoMemory = 5
