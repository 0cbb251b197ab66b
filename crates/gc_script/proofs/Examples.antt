-- The grammar, computed at some texts, and the generated script.
use Rattle.std.proofs.Common.{◌≡◌, [], ◌∷◌, ◌++◌, flat_map, Ok, Err, Some, refl, codes}
use Rattle.std.specs.Fmt.{digits}
use Rattle.gc_script.specs.declared.fault.Cause.TheVariants.{Version, Word, Number, Register}
use Rattle.gc_script.specs.Generated.{generated, generated_preamble, round_lines}
use Rattle.gc_script.specs.Grammar.{script_of_lines, after_version, first_fault}
use Rattle.gc_script.specs.Text.{lines_of, words_of}
use Rattle.gc_script.specs.Words.{numeral, number_below, number, small, register}
use Rattle.gc_script.specs.Written.{written, call_text}

-- an empty word stands between two spaces side by side, and behind a last space
empty_words : words_of (codes "0  new ") ≡ codes "0" ∷ [] ∷ codes "new" ∷ [] ∷ []
empty_words = refl

-- the last newline ends a line, and begins none
last_newline : (lines_of (codes "a\nb") ≡ codes "a" ∷ codes "b" ∷ []) × (lines_of (codes "a\nb\n") ≡ codes "a" ∷ codes "b" ∷ [])
last_newline = (refl, refl)

-- an empty line stands between two newlines side by side
empty_lines : lines_of (codes "\n\n") ≡ [] ∷ [] ∷ []
empty_lines = refl

-- a number doesn't begin with a zero, unless it is zero
leading_zero : (number (codes "0") ≡ Ok 0) × (number (codes "00") ≡ Err Number) × (number (codes "01") ≡ Err Number)
unfolding number_below numeral
leading_zero = (refl, refl, refl)

-- the greatest number, and one more
greatest_number : (number (codes "18446744073709551615") ≡ Ok 18446744073709551615) × (number (codes "18446744073709551616") ≡ Err Number)
unfolding number_below numeral
greatest_number = (refl, refl)

-- the greatest small number, and one more
greatest_small : (small (codes "255") ≡ Ok 255) × (small (codes "256") ≡ Err Number)
unfolding number_below numeral
greatest_small = (refl, refl)

-- the last register, and words that are none
registers : (register (codes "r15") ≡ Ok 15) × (register (codes "r16") ≡ Err Register) × (register (codes "r") ≡ Err Register)
unfolding register number_below numeral
registers = (refl, refl, refl)

-- where there is no first line, and where there is no second
lines_left_out : (first_fault [] ≡ Some (record { line = 1; cause = Version }))
    × (first_fault (codes "moar-gc 1\n") ≡ Some (record { line = 2; cause = Word }))
unfolding script_of_lines after_version
lines_left_out = (refl, refl)

-- the generated script of one round
one_round : written (generated 1)
    ≡ codes "moar-gc 1\nmutators 4\ntype node 2 1\ntype table 8 1\n"
    ++ codes "0 new r15 table\n0 share 0 r15\n1 new r15 table\n1 share 1 r15\n"
    ++ codes "2 new r15 table\n2 share 2 r15\n3 new r15 table\n3 share 3 r15\n"
    ++ codes "0 new r0 node\n0 set r0 0 0\n0 new r1 node\n0 put r0 0 r1\n0 put r1 0 r15\n"
    ++ codes "0 put r15 0 r0\n0 take r2 1\n0 get r3 r2 0\n0 ask r3 0\n0 swap r15 0 0 1\n"
unfolding generated digits
one_round = refl

-- its round 63, which is of the last mutator, in the last place of its table, and ends with a collection
collecting_round : flat_map (call_text generated_preamble.names) (round_lines 63)
    ≡ codes "3 new r0 node\n3 set r0 0 63\n3 new r1 node\n3 put r0 0 r1\n3 put r1 0 r15\n"
    ++ codes "3 put r15 7 r0\n3 take r2 0\n3 get r3 r2 7\n3 ask r3 0\n3 swap r15 0 15 16\n3 collect\n"
unfolding digits
collecting_round = refl
