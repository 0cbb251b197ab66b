-- The list of a search has exactly what is marked, and steps of a search add up.
use Rattle.std.proofs.Common.{◌≡◌, ◌∙◌, ℕ, ◌+◌, ◌<◌, ◌≤◌, Bool, true, false, Option, None, Some, List, [], ◌∷◌, ◌++◌, IfSome, length, take, length-set, inl, inr, refl, ap, sym, subst, arith, slice_index, slice_index_or, slice_set, count_by}
use Rattle.std.proofs.Math.ListN.{get_or-eq_default}
use Rattle.std.proofs.lemmas.Bool.{cases_lt, cases_eq, false≢true, or_left, or_right}
use Rattle.std.proofs.lemmas.List.{get_or_append_left, get_or_push, get_or-set_same, get_or-set_other, length_push, take_more}
use Rattle.std.proofs.lemmas.List.Elements.{All-append, All-nil, All-cons}
use Rattle.std.proofs.lemmas.List.Folds.{list_any-append}
use Rattle.std.proofs.lemmas.List.Sums.{count_by-le-length, sum_by-set}
use Rattle.gc_model.specs.Reach.{names, is_named}
use Rattle.gc_model.specs.Worklist.{Worklist, IsListed, Adds, AreMarked, is_marked}
use Rattle.gc_model.proofs.Lists.{weight}

-- the worklist with one more object that is marked and listed
abbrev with_one : Worklist → ℕ → Worklist
with_one work number = record { marks = slice_set work.marks number true; listed = work.listed ++ number ∷ [] }

-- a mark more counts one more
counted-more : (marks : List Bool) (number : ℕ) → number < length marks → slice_index_or marks number false ≡ false
    → count_by (λ mark. mark) (slice_set marks number true) ≡ count_by (λ mark. mark) marks + 1
counted-more marks number there unmarked =
    let both = sum_by-set weight marks number true false there in
    let none : weight (slice_index_or marks number false) ≡ 0 = ap weight unmarked in
    omega (arith, both, none)

-- at most as many are listed as there are objects
pub listed-few : (work : Worklist) → IsListed work → length work.listed ≤ length work.marks
listed-few work listed = omega (arith, listed.counted, count_by-le-length (λ mark. mark) work.marks)

-- where an object isn't marked, fewer are
pub listed-room : (work : Worklist) → IsListed work → (number : ℕ) → number < length work.marks → is_marked work number ≡ false
    → length work.listed < length work.marks
listed-room work listed number there unmarked =
    let most = count_by-le-length (λ mark. mark) (slice_set work.marks number true) in
    omega (arith, listed.counted, counted-more work.marks number there unmarked, most, length-set work.marks number true)

-- what is marked is there
pub marked-there : (work : Worklist) (number : ℕ) → is_marked work number ≡ true → number < length work.marks
marked-there work number marked =
    elim (cases_lt number (length work.marks)) as (λ _. number < length work.marks) [
      | inl below ↦ below
      | inr above ↦ absurd (false≢true (sym (get_or-eq_default work.marks false above) ∙ marked))
    ]

-- what stands in the list is there
pub listed-there : (work : Worklist) → IsListed work → (index : ℕ) (entry : Option ℕ)
    → IfSome entry (λ number. number ≡ slice_index work.listed index) → IfSome entry (λ _. index < length work.listed)
    → IfSome entry (λ number. number < length work.marks)
listed-there work listed index None is below = tt
listed-there work listed index (Some number) is below =
    marked-there work number (ap (is_marked work) is ∙ listed.marked index below)

-- a mark that is set stays when another is set
set-stays : (marks : List Bool) (number other : ℕ) → slice_index_or marks other false ≡ true
    → slice_index_or (slice_set marks number true) other false ≡ true
set-stays marks number other marked =
    elim (cases_eq other number) as (λ _. slice_index_or (slice_set marks number true) other false ≡ true) [
      | inl same ↦ elim (cases_lt other (length marks)) as (λ _. slice_index_or (slice_set marks number true) other false ≡ true) [
        | inl below ↦
            let own = get_or-set_same marks other true false below in
            subst (λ (index : ℕ). slice_index_or (slice_set marks index true) other false ≡ true) same own
        | inr above ↦ absurd (false≢true (sym (get_or-eq_default marks false above) ∙ marked))
      ]
      | inr differs ↦ get_or-set_other marks number other true false differs ∙ marked
    ]

-- an object that is marked and listed leaves the list in step with the marks
pub listed-more : (work : Worklist) → IsListed work → (number : ℕ) → number < length work.marks → is_marked work number ≡ false
    → IsListed (with_one work number)
listed-more work listed number there unmarked = record {
  marked = λ index within.
      elim (cases_lt index (length work.listed))
      as (λ _. is_marked (with_one work number) (slice_index (with_one work number).listed index) ≡ true) [
        | inl below ↦
            rw (get_or_append_left work.listed (number ∷ []) 0 index below)
            (set-stays work.marks number _ (listed.marked index below))
        | inr above ↦
            rw (get_or_push work.listed number 0 index (omega (arith, length_push work.listed number)))
            (get_or-set_same work.marks number true false there)
      ];
  listed = λ other marked.
      elim (cases_eq other number)
      as (λ _. (index : ℕ) × (index < length (with_one work number).listed) × (slice_index (with_one work number).listed index ≡ other)) [
        | inl same ↦ (
          length work.listed,
          omega (arith, length_push work.listed number),
          get_or_push work.listed number 0 (length work.listed) refl ∙ sym same,
        )
        | inr differs ↦
            let old = listed.listed other (sym (get_or-set_other work.marks number other true false differs) ∙ marked) in (
              old.0,
              omega (arith, old.1, length_push work.listed number),
              get_or_append_left work.listed (number ∷ []) 0 old.0 old.1 ∙ old.2,
            )
      ];
  counted = length_push work.listed number ∙ ap (λ count. count + 1) listed.counted
      ∙ sym (counted-more work.marks number there unmarked);
}

-- each object that belongs and that one name names is marked
abbrev IsMarkedName : (ℕ → Bool) → Worklist → Option ℕ → Type 0
IsMarkedName belongs work name = IfSome name (λ number. belongs number ≡ true → is_marked work number ≡ true)

-- nothing is added where nothing is named
pub adds-nothing : (belongs : ℕ → Bool) (work : Worklist) → Adds belongs [] work work
adds-nothing belongs work = record {
  marks = refl;
  stays = λ number marked. marked;
  longer = omega arith;
  before = λ index below. refl;
  added = All-nil (IsMarkedName belongs work);
  only = λ index above below. absurd (omega (arith, above, below));
}

-- a name that is nothing adds nothing
pub adds-none : (belongs : ℕ → Bool) (work : Worklist) → Adds belongs (None ∷ []) work work
adds-none belongs work = record {
  marks = refl;
  stays = λ number marked. marked;
  longer = omega arith;
  before = λ index below. refl;
  added = All-cons (IsMarkedName belongs work) None [] tt (All-nil (IsMarkedName belongs work));
  only = λ index above below. absurd (omega (arith, above, below));
}

-- a name of what is marked stays so in a later step
name-later : (belongs : ℕ → Bool) (old new : Worklist) → ((number : ℕ) → is_marked old number ≡ true → is_marked new number ≡ true)
    → (name : Option ℕ) → IsMarkedName belongs old name → IsMarkedName belongs new name
name-later belongs old new stays None marked = tt
name-later belongs old new stays (Some number) marked = λ own. stays number (marked own)

-- what is marked stays so in a later step
pub marked-later : (belongs : ℕ → Bool) (old new : Worklist)
    → ((number : ℕ) → is_marked old number ≡ true → is_marked new number ≡ true)
    → (named : List (Option ℕ)) → AreMarked belongs old named → AreMarked belongs new named
marked-later belongs old new stays named marked index d below = name-later belongs old new stays _ (marked index d below)

-- two steps add what both name
pub adds-both : (belongs : ℕ → Bool) (one other : List (Option ℕ)) (first second third : Worklist)
    → Adds belongs one first second → Adds belongs other second third → Adds belongs (one ++ other) first third
adds-both belongs one other first second third begun ended = record {
  marks = ended.marks ∙ begun.marks;
  stays = λ number marked. ended.stays number (begun.stays number marked);
  longer = omega (arith, begun.longer, ended.longer);
  before = λ index below. ended.before index (omega (arith, below, begun.longer)) ∙ begun.before index below;
  added = All-append (IsMarkedName belongs third) one other (marked-later belongs second third ended.stays one begun.added) ended.added;
  only = λ index above below.
      let number = slice_index third.listed index in
      let split = list_any-append (names number) one other in
      elim (cases_lt index (length second.listed)) as (λ _. (belongs number ≡ true) × (is_named number (one ++ other) ≡ true)) [
        | inl within ↦
            let before = ended.before index within in
            let own = begun.only index above within in (
              ap belongs before ∙ own.0,
              split ∙ or_left _ _ (subst (λ (each : ℕ). is_named each one ≡ true) (sym before) own.1),
            )
        | inr beyond ↦
            let own = ended.only index beyond below in
            (own.0, split ∙ or_right _ _ own.1)
      ];
}

-- a step that adds the next name
pub adds-next : (belongs : ℕ → Bool) (named : List (Option ℕ)) (index : ℕ) → index < length named → (name : Option ℕ)
    → slice_index_or named index None ≡ name → (first second third : Worklist) → Adds belongs (take index named) first second
    → Adds belongs (name ∷ []) second third → Adds belongs (take (index + 1) named) first third
adds-next belongs named index below name is first second third begun ended =
    let more : take (index + 1) named ≡ take index named ++ name ∷ [] =
    take_more named index None below ∙ ap (λ (next : Option ℕ). take index named ++ next ∷ []) is in
    subst (λ (all : List (Option ℕ)). Adds belongs all first third) (sym more)
    (adds-both belongs (take index named) (name ∷ []) first second third begun ended)
