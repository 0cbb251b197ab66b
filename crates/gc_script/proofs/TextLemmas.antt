-- Where the first line and the first word end.
use Rattle.std.proofs.Common.{◌≡◌, ℕ, suc, ◌+◌, ◌<◌, ◌≤◌, List, [], ◌∷◌, length, take, drop, Bool, true, false, cond, eqb, refl, ap, sym, subst, ◌-◌, inl, inr, arith}
use Rattle.std.proofs.lemmas.Bool.{cases_lt}
use Rattle.std.proofs.lemmas.List.{take_rest, take_all, drop_all}
use Rattle.std.proofs.Math.Numerals.{add-one}
use Rattle.gc_script.specs.Text.{with_first, lines_of, bytes_before, first_line, after_line}

-- the first line ends before the first newline
pub lines_of-cut : (bytes : List ℕ) → bytes_before 10 bytes < length bytes
    → lines_of bytes ≡ take (bytes_before 10 bytes) bytes ∷ lines_of (drop (suc (bytes_before 10 bytes)) bytes)
lines_of-cut [] h = absurd (omega arith)
lines_of-cut (byte ∷ bytes) h = go (eqb byte 10) h (lines_of-cut bytes) where
  go : (b : Bool) → cond b 0 (suc (bytes_before 10 bytes)) < length (byte ∷ bytes)
      → (bytes_before 10 bytes < length bytes → lines_of bytes
      ≡ take (bytes_before 10 bytes) bytes ∷ lines_of (drop (suc (bytes_before 10 bytes)) bytes))
      → cond b ([] ∷ lines_of bytes) (with_first byte (lines_of bytes))
      ≡ take (cond b 0 (suc (bytes_before 10 bytes))) (byte ∷ bytes) ∷ lines_of
      (drop (suc (cond b 0 (suc (bytes_before 10 bytes)))) (byte ∷ bytes))
  go true h rest = refl
  go false h rest = ap (with_first byte) (rest (omega arith))

-- where there is no newline, all that stands there is the last line
pub lines_of-last : (byte : ℕ) (bytes : List ℕ) → length (byte ∷ bytes) ≤ bytes_before 10 (byte ∷ bytes)
    → lines_of (byte ∷ bytes) ≡ (byte ∷ bytes) ∷ []
lines_of-last byte [] h = go (eqb byte 10) h where
  go : (b : Bool) → 1 ≤ cond b 0 1 → cond b ([] ∷ []) (with_first byte []) ≡ (byte ∷ []) ∷ []
  go true h = absurd (omega arith)
  go false h = refl
lines_of-last byte (next ∷ bytes) h = go (eqb byte 10) h (lines_of-last next bytes) where
  go : (b : Bool) → length (byte ∷ next ∷ bytes) ≤ cond b 0 (suc (bytes_before 10 (next ∷ bytes)))
      → (length (next ∷ bytes) ≤ bytes_before 10 (next ∷ bytes) → lines_of (next ∷ bytes) ≡ (next ∷ bytes) ∷ [])
      → cond b ([] ∷ lines_of (next ∷ bytes)) (with_first byte (lines_of (next ∷ bytes))) ≡ (byte ∷ next ∷ bytes) ∷ []
  go true h rest = absurd (omega arith)
  go false h rest = ap (with_first byte) (rest (omega arith))

-- the first line and what is behind it, as the slices of the text
pub lines_of-at : (bytes : List ℕ) (end : ℕ) → end ≡ bytes_before 10 bytes → end < length bytes
    → lines_of bytes ≡ take end bytes ∷ lines_of (take (length bytes - (end + 1)) (drop (end + 1) bytes))
lines_of-at bytes end is within =
    rw (take_rest bytes (end + 1), add-one) (let P : ℕ → Type 0 = λ n. lines_of bytes
    ≡ take n bytes ∷ lines_of (drop (suc n) bytes) in subst P (sym is) (lines_of-cut bytes (omega (arith, is))))

-- the only line
pub lines_of-only : (bytes : List ℕ) → 0 < length bytes → length bytes ≤ bytes_before 10 bytes → lines_of bytes ≡ bytes ∷ []
lines_of-only [] some h = absurd (omega arith)
lines_of-only (byte ∷ bytes) some h = lines_of-last byte bytes h

-- the first line of a text that isn't empty, and the lines behind it
pub lines_of-first : (bytes : List ℕ) → 0 < length bytes → lines_of bytes ≡ first_line bytes ∷ lines_of (after_line bytes)
unfolding first_line after_line
lines_of-first bytes some =
    elim (cases_lt (bytes_before 10 bytes) (length bytes)) [
      | inl within ↦ lines_of-cut bytes within
      | inr past ↦ rw (
        take_all (bytes_before 10 bytes) bytes past,
        drop_all (suc (bytes_before 10 bytes)) bytes
            (omega arith),
      ) (lines_of-only bytes some past)
    ]
