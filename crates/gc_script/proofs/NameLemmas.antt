-- Names in a set, in the order of their lines.
use Rattle.std.proofs.Common.{◌≡◌, ℕ, suc, ◌+◌, List, [], ◌∷◌, length, map, Bool, true, false, cond, not, Option, Some, None, Result, Ok, Err, refl, ◌∙◌, arith, nat_lt}
use Rattle.std.proofs.lemmas.Bool.Decides.{nat_tests}
use Rattle.std.specs.Cmp.Lexicographic.{nat_list_eq_equiv}
use Rattle.std.specs.List.{list_any, position, position_or_len}
use Rattle.std.specs.Str.{bytes_eq}
use Rattle.gc_script.specs.declared.fault.Cause.{Cause}
use Rattle.gc_script.specs.declared.fault.Cause.TheVariants.{«Type» as TypeCause}
use Rattle.gc_script.specs.Words.{type_from}

-- the type of an index, where the first has this number
abbrev pub type_at : ℕ → Option ℕ → Result ℕ Cause
type_at ty None = Err TypeCause
type_at ty (Some index) = Ok (index + ty)

-- an index among all is the next one among the others
type_at-next : (ty index count : ℕ)
    → type_at (ty + 1) (cond (nat_lt index count) (Some index) None)
    ≡ type_at ty (cond (nat_lt (1 + index) (suc count)) (Some (1 + index)) None)
type_at-next ty index count = grind (arith, nat_tests)

-- the type of a name is that of its index
pub type_from-index : {X : Type 0} (f : X → List ℕ) (xs : List X) (word : List ℕ) (ty : ℕ)
    → type_from ty (map f xs) word ≡ type_at ty (position (λ x. bytes_eq word (f x)) xs)
unfolding type_from
type_from-index f [] word ty = refl
type_from-index {X} f (x ∷ xs) word ty =
    rw (nat_list_eq_equiv.symm (f x) word) (go (bytes_eq word (f x)) (type_from-index f xs word (ty + 1))) where
      behind : ℕ
      behind = position_or_len (λ (x : X). bytes_eq word (f x)) xs

      go : (b : Bool) → type_from (ty + 1) (map f xs) word ≡ type_at (ty + 1) (cond (nat_lt behind (length xs)) (Some behind) None)
          → cond b (Ok ty) (type_from (ty + 1) (map f xs) word)
          ≡ type_at ty (cond (nat_lt (cond (not b) (1 + behind) 0) (suc (length xs)))
          (Some (cond (not b) (1 + behind) 0)) None)
      go true h = grind (arith, nat_tests)
      go false h = h ∙ type_at-next ty behind (length xs)

-- whether a name is declared, whichever of the two comes first
pub list_any-names : {X : Type 0} (f : X → List ℕ) (xs : List X) (word : List ℕ)
    → list_any (λ name. bytes_eq name word) (map f xs) ≡ list_any (λ x. bytes_eq word (f x)) xs
list_any-names f [] word = refl
list_any-names f (x ∷ xs) word =
    rw (nat_list_eq_equiv.symm (f x) word, list_any-names f xs word) refl
