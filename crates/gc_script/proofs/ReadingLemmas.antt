-- Reading one thing after another.
use Rattle.std.proofs.Common.{◌≡◌, ℕ, ◌+◌, List, [], ◌∷◌, ◌++◌, Result, Ok, Err, refl, sym, ap, ◌∙◌, append_assoc}
use Rattle.gc_model.specs.declared.call.Line.{Line}
use Rattle.gc_script.specs.declared.fault.Cause.{Cause}
use Rattle.gc_script.specs.declared.fault.Fault.{Fault}
use Rattle.gc_script.specs.Fault.{◌>>=◌}
use Rattle.gc_script.specs.Grammar.{call_line, call_lines}
use Rattle.gc_script.specs.Script.{Preamble}
use Rattle.gc_script.specs.Text.{words_of}

-- what was read before, and then what these give
abbrev pub with_front : {A E : Type 0} → List A → Result (List A) E → Result (List A) E
with_front front read = read >>= λ rest. Ok (front ++ rest)

-- what is read next goes behind what was read before, and what is left stays
after-next : {A E : Type 0} (front : List A) (next : A) (rest : Result (List A) E)
    → with_front front (rest >>= λ others. Ok (next ∷ others)) ≡ with_front (front ++ next ∷ []) rest
after-next front next (Ok others) = ap Ok (sym (append_assoc front (next ∷ []) others))
after-next front next (Err error) = refl

-- a call line that is read goes behind those before it
pub next-line : (preamble : Preamble) (number : ℕ) (line : List ℕ) (lines : List (List ℕ)) (read : Line)
    (front new : List Line) (whole : Result (List Line) Fault) → call_line preamble (words_of line) ≡ Ok read
    → new ≡ front ++ read ∷ [] → with_front front (call_lines preamble number (line ∷ lines)) ≡ whole
    → with_front new (call_lines preamble (number + 1) lines) ≡ whole
unfolding call_lines
next-line preamble number line lines read front new whole is grown all =
    let first : with_front front (call_lines preamble (number + 1) lines >>= λ others. Ok (read ∷ others)) ≡ whole = rw is at all in
    rw grown (sym (after-next front read (call_lines preamble (number + 1) lines)) ∙ first)

-- and where it is refused, nothing is read
pub no-line : (preamble : Preamble) (number : ℕ) (line : List ℕ) (lines : List (List ℕ)) (cause : Cause) (front : List Line)
    (whole : Result (List Line) Fault) → call_line preamble (words_of line) ≡ Err cause
    → with_front front (call_lines preamble number (line ∷ lines)) ≡ whole
    → whole ≡ Err (record { line = number; cause = cause })
unfolding call_lines
no-line preamble number line lines cause front whole is all = let first = rw is at all in sym first
