-- A line is refused for the number of its words by its first seven.
use Rattle.std.proofs.Common.{◌≡◌, ℕ, ◌≤◌, List, [], ◌∷◌, length, take, Result, Ok, Err, cond, eqb, refl, sym, ap, ◌∙◌, lit≤, arith}
use Rattle.std.proofs.lemmas.Bool.Decides.{nat_tests}
use Rattle.gc_model.specs.declared.call.Line.{Line}
use Rattle.gc_script.specs.declared.calls.CallWord.{CallWord}
use Rattle.gc_script.specs.declared.calls.CallWord.TheVariants.{New, Get, Put, Ask, Set, Swap, Same, Copy, Clear, Share, Take, Await, Safepoint, Collect, Block, Unblock}
use Rattle.gc_script.specs.declared.fault.Cause.{Cause}
use Rattle.gc_script.specs.declared.fault.Cause.TheVariants.{Word}
use Rattle.gc_script.specs.Calls.{call_word, kinds_of}
use Rattle.gc_script.specs.Fault.{◌>>=◌}
use Rattle.gc_script.specs.Grammar.{mutators_line, is_type_line, type_line, counted_word, call_line}
use Rattle.gc_script.specs.Script.{Preamble}

pub mutators_line-take : (words : List (List ℕ)) → mutators_line (take 7 words) ≡ mutators_line words
unfolding mutators_line
mutators_line-take [] = refl
mutators_line-take (a ∷ []) = refl
mutators_line-take (a ∷ b ∷ []) = refl
mutators_line-take (a ∷ b ∷ c ∷ words) = refl

pub is_type_line-take : (words : List (List ℕ)) → is_type_line (take 7 words) ≡ is_type_line words
is_type_line-take [] = refl
is_type_line-take (a ∷ words) = refl

pub type_line-take : (preamble : Preamble) (words : List (List ℕ)) → type_line preamble (take 7 words) ≡ type_line preamble words
unfolding type_line
type_line-take preamble [] = refl
type_line-take preamble (a ∷ []) = refl
type_line-take preamble (a ∷ b ∷ []) = refl
type_line-take preamble (a ∷ b ∷ c ∷ []) = refl
type_line-take preamble (a ∷ b ∷ c ∷ d ∷ []) = refl
type_line-take preamble (a ∷ b ∷ c ∷ d ∷ e ∷ words) = refl

-- no call word has more than four words behind it
kinds-few : (word : CallWord) → length (kinds_of word) ≤ 4
kinds-few New = lit≤ tt
kinds-few Get = lit≤ tt
kinds-few Put = lit≤ tt
kinds-few Ask = lit≤ tt
kinds-few Set = lit≤ tt
kinds-few Swap = lit≤ tt
kinds-few Same = lit≤ tt
kinds-few Copy = lit≤ tt
kinds-few Clear = lit≤ tt
kinds-few Share = lit≤ tt
kinds-few Take = lit≤ tt
kinds-few Await = lit≤ tt
kinds-few Safepoint = lit≤ tt
kinds-few Collect = lit≤ tt
kinds-few Block = lit≤ tt
kinds-few Unblock = lit≤ tt

-- five words behind a call word are too many, whichever they are
counted_word-many : (word : List ℕ) (a b c d e : List ℕ) (more : List (List ℕ))
    → counted_word word (a ∷ b ∷ c ∷ d ∷ e ∷ more) ≡ (call_word word >>= λ kind. Err Word)
unfolding counted_word
counted_word-many word a b c d e more = go (call_word word) where
  go : (read : Result CallWord Cause)
      → (read >>= λ kind. cond (eqb (length (a ∷ b ∷ c ∷ d ∷ e ∷ more)) (length (kinds_of kind))) (Ok kind)
      (Err Word)) ≡ (read >>= λ kind. Err Word)
  go (Ok kind) = let few = kinds-few kind in grind (arith, nat_tests)
  go (Err cause) = refl

-- nothing is read where the call word is refused
refused : (read : Result CallWord Cause) (f g : CallWord → Result Line Cause)
    → ((read >>= λ kind. Err Word) >>= f) ≡ ((read >>= λ kind. Err Word) >>= g)
refused (Ok kind) f g = refl
refused (Err cause) f g = refl

pub call_line-take : (preamble : Preamble) (words : List (List ℕ)) → call_line preamble (take 7 words) ≡ call_line preamble words
unfolding call_line
call_line-take preamble [] = refl
call_line-take preamble (t ∷ []) = refl
call_line-take preamble (t ∷ word ∷ []) = refl
call_line-take preamble (t ∷ word ∷ a ∷ []) = refl
call_line-take preamble (t ∷ word ∷ a ∷ b ∷ []) = refl
call_line-take preamble (t ∷ word ∷ a ∷ b ∷ c ∷ []) = refl
call_line-take preamble (t ∷ word ∷ a ∷ b ∷ c ∷ d ∷ []) = refl
call_line-take preamble (t ∷ word ∷ a ∷ b ∷ c ∷ d ∷ e ∷ more) =
    rw (counted_word-many word a b c d e [], counted_word-many word a b c d e more) (refused (call_word word) _ _)

-- what a call line is read as by its first seven words
pub call_line-seven : (preamble : Preamble) (words seven : List (List ℕ)) (read : Result Line Cause) → seven ≡ take 7 words
    → call_line preamble seven ≡ read → call_line preamble words ≡ read
call_line-seven preamble words seven read cut h = sym (call_line-take preamble words) ∙ ap (call_line preamble) (sym cut) ∙ h

pub ruleset truncated = (mutators_line-take, is_type_line-take, type_line-take, call_line-take)
