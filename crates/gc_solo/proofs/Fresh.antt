-- What the words hold where a fresh object is written: its header, and zeros in the part behind it.
use Rattle.std.proofs.Common.{◌≡◌, ◌≢◌, inl, inr, ℕ, ◌+◌, ◌-◌, ◌<◌, ◌≤◌, List, ◌++◌, length, replicate, Bool, get_or, set, take, drop, arith, rules, ap, sym, subst, ◌∙◌}
use Rattle.std.proofs.lemmas.List.{places, get_or-set_other, get_or-set_same, length-set, length-drop, length-replicate, length-take, take_at}
use Rattle.gc_layout.specs.declared.shape.TypeNo.{TypeNo}
use Rattle.gc_layout.specs.Head.{fresh_head, head_word}
use Rattle.gc_placement.specs.Changes.{WritesFresh}
use Rattle.gc_placement.proofs.Lists.{replicate-at}
use borrow.Rule.Slice.PartMut.{put_mid}

-- before a part that is written a list is as it was
part-before : (xs ys : List ℕ) (a k i : ℕ) → a ≤ length xs → i < a → get_or (put_mid a k xs ys) i 0 ≡ get_or xs i 0
part-before xs ys a k i inside below = search (rules, places)

-- in the part it is what was written
part-within : (xs ys : List ℕ) (a k i : ℕ) → a ≤ length xs → length ys ≡ k → a ≤ i → i < a + k
    → get_or (put_mid a k xs ys) i 0 ≡ get_or ys (i - a) 0
part-within xs ys a k i inside long from to = search (rules, places)

-- and behind the part it is as it was
part-behind : (xs ys : List ℕ) (a k i : ℕ) → a + k ≤ length xs → length ys ≡ k → a + k ≤ i
    → get_or (put_mid a k xs ys) i 0 ≡ get_or xs i 0
part-behind xs ys a k i inside long past = search (rules, places)

-- it keeps its length
length-part : (xs ys : List ℕ) (a k : ℕ) → a + k ≤ length xs → length ys ≡ k → length (put_mid a k xs ys) ≡ length xs
length-part xs ys a k inside long = search (rules, places)

-- a header is stored, and then so many zeros behind it
part-fresh : (words zeros : List ℕ) (address size k : ℕ) (ty : TypeNo) (in_page : Bool) → 1 + k ≡ size → address + size ≤ length words
    → zeros ≡ replicate k 0
    → WritesFresh (λ a. get_or words a 0)
    (λ a. get_or (put_mid (address + 1) k (set words address (head_word (fresh_head ty in_page))) zeros) a 0) address size ty in_page
part-fresh words zeros address size k ty in_page k_is within are =
    let header = head_word (fresh_head ty in_page) in
    let stored = set words address header in
    let count : length stored ≡ length words = length-set words address header in
    let long : length zeros ≡ k = ap length are ∙ length-replicate k 0 in
    let elsewhere : (a : ℕ) → a ≢ address → get_or stored a 0 ≡ get_or words a 0 =
    λ a differs. get_or-set_other words address a header 0 differs in
    record {
      header = part-before stored zeros (address + 1) k address (omega (arith, count)) (omega arith)
          ∙ get_or-set_same words address header 0 (omega arith);
      zeros = λ a from to. part-within stored zeros (address + 1) k a (omega (arith, count)) long (omega arith) (omega arith)
          ∙ ap (λ (ys : List ℕ). get_or ys (a - (address + 1)) 0) are ∙ replicate-at k (a - (address + 1)) 0;
      elsewhere = λ a out. elim out [
        | inl before ↦ part-before stored zeros (address + 1) k a (omega (arith, count)) (omega arith) ∙ elsewhere a (λ same. omega arith)
        | inr behind ↦ part-behind stored zeros (address + 1) k a (omega (arith, count)) long (omega arith)
            ∙ elsewhere a (λ same. omega arith)
      ];
    }

-- so it is where a Vec of so many words is written through a slice
pub vec-fresh : (words stored zeros rest : List ℕ) (count address size k : ℕ) (ty : TypeNo) (in_page : Bool) → count ≡ length words
    → 1 + k ≡ size → address + size ≤ length words → stored ≡ set words address (head_word (fresh_head ty in_page))
    → zeros ≡ replicate (length (take k (drop (address + 1) stored))) 0
    → WritesFresh (λ a. get_or words a 0)
    (λ a. get_or (take count (put_mid (address + 1) k stored zeros ++ drop (length (put_mid (address + 1) k stored zeros)) rest)) a 0)
    address size ty in_page
vec-fresh words stored zeros rest count address size k ty in_page all k_is within stored_is are =
    let same : length stored ≡ length words = ap length stored_is ∙ length-set words address (head_word (fresh_head ty in_page)) in
    let part : length (take k (drop (address + 1) stored)) ≡ k = simp (length-take, length-drop) (omega (arith, same)) in
    let filled : zeros ≡ replicate k 0 = are ∙ ap (λ n. replicate n 0) part in
    let long : length zeros ≡ k = ap length filled ∙ length-replicate k 0 in
    let new = put_mid (address + 1) k stored zeros in
    let size_is : length new ≡ count =
    length-part stored zeros (address + 1) k (omega (arith, same)) long ∙ same ∙ sym all in
    subst (λ (held : List ℕ). WritesFresh (λ a. get_or words a 0) (λ a. get_or held a 0) address size ty in_page)
    (sym (take_at new (drop (length new) rest) count size_is))
    (subst (λ (each : List ℕ). WritesFresh (λ a. get_or words a 0) (λ a. get_or (put_mid (address + 1) k each zeros) a 0) address size ty
    in_page) (sym stored_is) (part-fresh words zeros address size k ty in_page k_is within filled))
