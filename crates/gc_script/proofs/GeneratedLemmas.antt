-- The generated script is read back from what is written of it.
use Rattle.std.proofs.Common.{◌≡◌, ℕ, zero, suc, ◌+◌, ◌/◌, ◌%◌, ◌<◌, ◌≤◌, ◌^◌, All, List, [], ◌∷◌, ◌++◌, length, flat_map, Bool, true, false, ◌==◌, if◌then◌else◌, Ok, refl, ◌∙◌, length-append, slice_index_or, lit<, lit≤, arith}
use Rattle.std.proofs.lemmas.List.Elements.{All-append, All-from_recursion, All-map, All-weaker}
use Rattle.std.specs.Fmt.{digits}
use Rattle.std.specs.List.{AllByRecursion, range_with_len}
use Rattle.gc_model.specs.declared.call.Call.{Call}
use Rattle.gc_model.specs.declared.call.Call.TheVariants.{New, Share, Collect}
use Rattle.gc_model.specs.declared.call.Line.{Line}
use Rattle.gc_script.specs.Calls.{IsReadable}
use Rattle.gc_script.specs.Generated.{generated, generated_preamble, table, lines_by, table_lines, request_calls, collect_calls, round_lines, first_lines}
use Rattle.gc_script.specs.Grammar.{mutators_line, with_type, shape_of, type_line, body, after_version, script_of_lines}
use Rattle.gc_script.specs.Laws.{IsReadBack}
use Rattle.gc_script.specs.Script.{IsScriptLine}
use Rattle.gc_script.specs.Text.{lines_of, most_bytes}
use Rattle.gc_script.specs.Words.{numeral, number_below, type_from}
use Rattle.gc_script.specs.Written.{preamble_text, call_text}
use Rattle.gc_script.proofs.ListLemmas.{All-flat_map_range, length-flat_map_range}
use Rattle.gc_script.proofs.PlainLemmas.{is_plain}
use Rattle.gc_script.proofs.ReadBackLemmas.{AreReadNames, IsReadPreamble, body-read_back}

-- the names of the two types are read as them
generated-names : AreReadNames generated_preamble.names
unfolding type_from
generated-names = record { plain = plain; read = read } where
  plain : All (λ name. is_plain name ≡ true) generated_preamble.names
  plain = All-from_recursion (λ name. is_plain name ≡ true) generated_preamble.names (refl, (refl, tt))

  read : (index : ℕ) → index < 2 → type_from 1 generated_preamble.names (slice_index_or generated_preamble.names index []) ≡ Ok (suc index)
  read zero within = refl
  read (suc zero) within = refl
  read (suc (suc index)) within = absurd (omega arith)

generated-preamble : IsReadPreamble generated_preamble
generated-preamble = record { mutators = lit≤ tt; names = generated-names }

-- readable calls of one of the mutators are lines of the script
lines_by-fit : (t : ℕ) (calls : List Call) → t < 4 → AllByRecursion (IsReadable 3) calls
    → All (IsScriptLine generated_preamble) (lines_by t calls)
lines_by-fit t calls within readable =
    let Fits : Call → Type 0 = λ call. IsScriptLine generated_preamble (record { mutator = t; call = call }) in
    All-map (IsScriptLine generated_preamble) (λ call. record { mutator = t; call = call }) calls
    (All-weaker (IsReadable 3) Fits (λ call fits. record { mutator = within; call = fits }) calls
    (All-from_recursion (IsReadable 3) calls readable))

table_lines-fit : (t : ℕ) → t < 4 → All (IsScriptLine generated_preamble) (table_lines t)
table_lines-fit t within =
    lines_by-fit t (New 15 table ∷ Share t 15 ∷ []) within ((lit< tt, ((lit< tt, lit< tt), tt)), ((omega arith, (lit< tt, tt)), tt))

-- what asks for a collection is readable
collect-fit : (t i : ℕ) → t < 4 → All (IsScriptLine generated_preamble) (lines_by t (collect_calls i))
collect-fit t i within = go (i % 64 == 63) where
  go : (b : Bool) → All (IsScriptLine generated_preamble) (lines_by t (if b then Collect ∷ [] else []))
  go true = lines_by-fit t (Collect ∷ []) within (tt, tt)
  go false = lines_by-fit t [] within tt

request-fit : (i : ℕ) → i < 2 ^ 32 → All (IsScriptLine generated_preamble) (lines_by (i % 4) (request_calls i))
request-fit i few =
    let place : i / 4 % 8 < 256 = omega arith in
    let neighbour : (i % 4 + 1) % 4 < 16 = omega arith in
    lines_by-fit (i % 4) (request_calls i) (omega arith) (
      (lit< tt, ((lit< tt, lit< tt), tt)),
      (
        (lit< tt, (lit< tt, (omega arith, tt))),
        (
          (lit< tt, ((lit< tt, lit< tt), tt)),
          (
            (lit< tt, (lit< tt, (lit< tt, tt))),
            (
              (lit< tt, (lit< tt, (lit< tt, tt))),
              (
                (lit< tt, (place, (lit< tt, tt))),
                (
                  (lit< tt, (neighbour, tt)),
                  (
                    (lit< tt, (lit< tt, (place, tt))),
                    (
                      (lit< tt, (lit< tt, tt)),
                      (
                        (lit< tt, (lit< tt, (omega arith, (omega arith, tt)))),
                        tt,
                      ),
                    ),
                  ),
                ),
              ),
            ),
          ),
        ),
      ),
    )

-- the lines of a round are lines of the script
round_lines-fit : (i : ℕ) → i < 2 ^ 32 → All (IsScriptLine generated_preamble) (round_lines i)
round_lines-fit i few =
    All-append (IsScriptLine generated_preamble) (lines_by (i % 4) (request_calls i)) (lines_by (i % 4) (collect_calls i))
    (request-fit i few) (collect-fit (i % 4) i (omega arith))

-- so are all lines
generated-fit : (rounds : ℕ) → rounds ≤ 2 ^ 32
    → All (IsScriptLine generated_preamble) (first_lines ++ flat_map round_lines (range_with_len 0 rounds))
generated-fit rounds few =
    let Fits : Line → Type 0 = IsScriptLine generated_preamble in
    All-append Fits first_lines (flat_map round_lines (range_with_len 0 rounds))
    (All-flat_map_range Fits table_lines 0 4 (λ t below. table_lines-fit t (omega arith)))
    (All-flat_map_range Fits round_lines 0 rounds (λ i below. round_lines-fit i (omega arith)))

-- a text that begins with the preamble's is read as what stands behind that, with the two types
preamble-read_back : (behind : List ℕ)
    → script_of_lines (lines_of (preamble_text generated_preamble ++ behind)) ≡ body generated_preamble 5 (lines_of behind)
unfolding script_of_lines after_version mutators_line type_line with_type shape_of number_below numeral digits body
preamble-read_back behind = refl

-- the script is read from what is written of it
pub generated-read_back : (rounds : ℕ) → rounds ≤ 2 ^ 32 → IsReadBack (generated rounds)
unfolding IsReadBack generated
generated-read_back rounds few =
    let lines : List Line = first_lines ++ flat_map round_lines (range_with_len 0 rounds) in
    preamble-read_back (flat_map (call_text generated_preamble.names) lines)
    ∙ body-read_back generated_preamble 5 lines generated-preamble (generated-fit rounds few)

-- a round has at most eleven lines
length-round_lines : (i : ℕ) → length (round_lines i) ≤ 11
length-round_lines i = go (i % 64 == 63) where
  go : (b : Bool) → length (lines_by (i % 4) (request_calls i ++ (if b then Collect ∷ [] else []))) ≤ 11
  go true = lit≤ tt
  go false = lit≤ tt

-- 100,000 rounds have fewer lines than a script has bytes
pub generated-few : (rounds : ℕ) → rounds ≤ 100000 → length (first_lines ++ flat_map round_lines (range_with_len 0 rounds)) ≤ most_bytes
generated-few rounds few =
    let rest = length-flat_map_range round_lines 11 0 rounds length-round_lines in
    omega (arith, length-append first_lines (flat_map round_lines (range_with_len 0 rounds)), rest)
