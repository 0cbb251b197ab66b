-- What is reached from roots is the least set of objects that is closed under slots: it has what belongs of what the
-- roots name and of what the slots of its members name, and every set that has these has all of it.
use Rattle.std.proofs.Common.{◌≡◌, ◌∙◌, ℕ, zero, suc, ◌<◌, ◌≤◌, ◌⊎◌, Bool, true, false, ◌&&◌, not, List, length, count_by, inl, inr, ap, sym, subst, arith, slice_index_or}
use Rattle.std.proofs.lemmas.Bool.{cases_lt, cases_Bool, false≢true, or_cases, or_left, or_right, and_from, and_parts, not_from_false, true_from_ne_false}
use Rattle.std.proofs.lemmas.List.{get_or_default}
use Rattle.std.proofs.lemmas.List.Folds.{Any-from_list_any, list_any_at}
use Rattle.std.proofs.lemmas.List.FromFn.{length-enumerate_from, get_or-enumerate_from}
use Rattle.std.proofs.lemmas.List.Sums.{count_by-le-length}
use Rattle.std.specs.List.{enumerate_from, list_any}
use Rattle.gc_model.specs.Graph.{Object, common_object, object_at}
use Rattle.gc_model.specs.Reach.{Tracing, IsClosedUnderSlots, is_named, is_reached, is_reached_in}
use Rattle.gc_model.proofs.Lists.{count-less, count-some}

-- the objects of a tracing, with their numbers
abbrev members_of : Tracing → List (ℕ × Object)
members_of tracing = enumerate_from 0 tracing.graph

-- whether an object is a member of a round, and a slot of it names the number
abbrev names_in : Tracing → ℕ → ℕ → ℕ × Object → Bool
names_in tracing rounds number member = is_reached_in tracing rounds member.0 && is_named number member.1.slots

-- a test of members passes at one that is there
some-member : (tracing : Tracing) (test : ℕ × Object → Bool) → list_any test (members_of tracing) ≡ true
    → (member : ℕ) × (member < length tracing.graph) × (test (member, object_at tracing.graph member) ≡ true)
some-member tracing test passes =
    let some = Any-from_list_any test (members_of tracing) passes in
    let there : some.0 < length tracing.graph = omega (arith, some.2, length-enumerate_from 0 tracing.graph) in
    let is : some.1 ≡ (some.0, object_at tracing.graph some.0) =
    sym some.3 ∙ get_or-enumerate_from 0 tracing.graph some.0 some.1 there
    ∙ ap (λ (number : ℕ). (number, slice_index_or tracing.graph some.0 some.1.1)) (omega arith)
    ∙ ap (λ (object : Object). (some.0, object)) (get_or_default tracing.graph some.0 some.1.1 common_object there) in
    (some.0, there, subst (λ (member : ℕ × Object). test member ≡ true) is some.4)

-- and where it passes at one that is there, it passes at some
member-passes : (tracing : Tracing) (test : ℕ × Object → Bool) (member : ℕ) → member < length tracing.graph
    → test (member, object_at tracing.graph member) ≡ true → list_any test (members_of tracing) ≡ true
member-passes tracing test member there passes =
    let first : ℕ × Object = (0, common_object) in
    let is : slice_index_or (members_of tracing) member first ≡ (member, object_at tracing.graph member) =
    get_or-enumerate_from 0 tracing.graph member first there
    ∙ ap (λ (number : ℕ). (number, object_at tracing.graph member)) (omega arith) in
    let within : member < length (members_of tracing) = omega (arith, there, length-enumerate_from 0 tracing.graph) in
    list_any_at test (members_of tracing) member first within (rw is passes)

-- what is reached stays reached
pub reached-later : (tracing : Tracing) (number rounds later : ℕ) → rounds ≤ later → is_reached_in tracing rounds number ≡ true
    → is_reached_in tracing later number ≡ true
reached-later tracing number rounds zero before reached =
    let none : rounds ≡ 0 = omega (arith, before) in
    subst (λ (round : ℕ). is_reached_in tracing round number ≡ true) none reached
reached-later tracing number rounds (suc later) before reached =
    elim (cases_lt later rounds) as (λ _. is_reached_in tracing (suc later) number ≡ true) [
      | inl beyond ↦
          let same : rounds ≡ suc later = omega (arith, before, beyond) in
          subst (λ (round : ℕ). is_reached_in tracing round number ≡ true) same reached
      | inr within ↦ or_left _ _ (reached-later tracing number rounds later within reached)
    ]

-- what belongs and is named by a slot of a member is reached a round later
pub reached-next : (tracing : Tracing) (rounds member number : ℕ) → member < length tracing.graph → tracing.belongs number ≡ true
    → is_reached_in tracing rounds member ≡ true → is_named number (object_at tracing.graph member).slots ≡ true
    → is_reached_in tracing (suc rounds) number ≡ true
reached-next tracing rounds member number there own reached named =
    or_right _ _ (and_from _ _ own (member-passes tracing (names_in tracing rounds number) member there (and_from _ _ reached named)))

-- whether a round adds an object, or has it already: it belongs, and a slot of a member of the round before names it
abbrev adds : Tracing → ℕ → ℕ → Bool
adds tracing rounds number = tracing.belongs number && list_any (names_in tracing rounds number) (members_of tracing)

-- so it does
added-by : (tracing : Tracing) (rounds number : ℕ)
    → adds tracing rounds number ≡ true
    → (tracing.belongs number ≡ true) × ((member : ℕ) × (member < length tracing.graph) × (is_reached_in tracing rounds member ≡ true)
    × (is_named number (object_at tracing.graph member).slots ≡ true))
added-by tracing rounds number added =
    let both = and_parts (tracing.belongs number) (list_any (names_in tracing rounds number) (members_of tracing)) added in
    let some = some-member tracing (names_in tracing rounds number) both.1 in
    let parts = and_parts (is_reached_in tracing rounds some.0) (is_named number (object_at tracing.graph some.0).slots) some.2 in
    (both.0, (some.0, some.1, parts.0, parts.1))

-- a set that is closed under slots has all of each round
pub closed-has_round : (tracing : Tracing) (has : ℕ → Bool) → IsClosedUnderSlots tracing has → (rounds number : ℕ)
    → is_reached_in tracing rounds number ≡ true → has number ≡ true
closed-has_round tracing has closed zero number reached =
    let both = and_parts (tracing.belongs number) (is_named number tracing.roots) reached in
    closed.roots number both.0 both.1
closed-has_round tracing has closed (suc rounds) number reached =
    elim (or_cases (is_reached_in tracing rounds number) (adds tracing rounds number) reached)
    as (λ _. has number ≡ true) [
      | inl before ↦ closed-has_round tracing has closed rounds number before
      | inr added ↦
          let by = added-by tracing rounds number added in
          closed.slots by.1.0 number by.1.1 (closed-has_round tracing has closed rounds by.1.0 by.1.2) by.0 by.1.3
    ]

-- a set that is closed under slots has all that is reached
pub reached-least : (tracing : Tracing) (has : ℕ → Bool) → IsClosedUnderSlots tracing has → (number : ℕ)
    → is_reached tracing number ≡ true → has number ≡ true
reached-least tracing has closed number reached = closed-has_round tracing has closed (length tracing.graph) number reached

-- what is reached belongs
pub reached-belongs : (tracing : Tracing) (number : ℕ) → is_reached tracing number ≡ true → tracing.belongs number ≡ true
reached-belongs tracing number reached =
    let closed : IsClosedUnderSlots tracing tracing.belongs =
    record { roots = λ each own named. own; slots = λ member each there has own named. own } in
    reached-least tracing tracing.belongs closed number reached

-- how many objects of the graph a round has
abbrev count_in : Tracing → ℕ → ℕ
count_in tracing rounds = count_by (λ (member : ℕ × Object). is_reached_in tracing rounds member.0) (members_of tracing)

-- the next round adds nothing
abbrev IsEnd : Tracing → ℕ → Type 0
IsEnd tracing rounds = (number : ℕ) → is_reached_in tracing (suc rounds) number ≡ true → is_reached_in tracing rounds number ≡ true

-- a round that adds no object of the graph is followed by one that adds nothing
end-after : (tracing : Tracing) (rounds : ℕ)
    → ((member : ℕ) → member < length tracing.graph → is_reached_in tracing (suc rounds) member ≡ true
    → is_reached_in tracing rounds member ≡ true)
    → IsEnd tracing (suc rounds)
end-after tracing rounds none number reached =
    elim (or_cases (is_reached_in tracing (suc rounds) number) (adds tracing (suc rounds) number) reached)
    as (λ _. is_reached_in tracing (suc rounds) number ≡ true) [
      | inl before ↦ before
      | inr added ↦
          let by = added-by tracing (suc rounds) number added in
          reached-next tracing rounds by.1.0 number by.1.1 by.0 (none by.1.0 by.1.1 by.1.2) by.1.3
    ]

-- whether a round adds an object of the graph
abbrev adds_member : Tracing → ℕ → ℕ × Object → Bool
adds_member tracing rounds member = is_reached_in tracing (suc rounds) member.0 && not (is_reached_in tracing rounds member.0)

-- a round that adds none has all of the graph's that the next one has
adds-none : (tracing : Tracing) (rounds : ℕ) → list_any (adds_member tracing rounds) (members_of tracing) ≡ false → (member : ℕ)
    → member < length tracing.graph → is_reached_in tracing (suc rounds) member ≡ true → is_reached_in tracing rounds member ≡ true
adds-none tracing rounds none member there reached =
    true_from_ne_false (is_reached_in tracing rounds member) (λ missing.
    let added = and_from _ _ reached (not_from_false (is_reached_in tracing rounds member) missing) in
    false≢true (sym none ∙ member-passes tracing (adds_member tracing rounds) member there added))

-- each round is at an end, or it has more objects of the graph than there were rounds before
ends-or_grows : (tracing : Tracing) (rounds : ℕ) → IsEnd tracing rounds ⊎ (rounds < count_in tracing rounds)
ends-or_grows tracing zero =
    let test : ℕ × Object → Bool = λ member. is_reached_in tracing 0 member.0 in
    elim (cases_Bool (list_any test (members_of tracing))) as (λ _. IsEnd tracing 0 ⊎ (0 < count_in tracing 0)) [
      | inl some ↦ inr (count-some test (members_of tracing) some)
      | inr none ↦ inl (λ number reached.
          elim (or_cases (is_reached_in tracing 0 number) (adds tracing 0 number) reached)
          as (λ _. is_reached_in tracing 0 number ≡ true) [
            | inl before ↦ before
            | inr added ↦
                let by = added-by tracing 0 number added in
                absurd (false≢true (sym none ∙ member-passes tracing test by.1.0 by.1.1 by.1.2))
          ])
    ]
ends-or_grows tracing (suc rounds) =
    elim (ends-or_grows tracing rounds) as (λ _. IsEnd tracing (suc rounds) ⊎ (suc rounds < count_in tracing (suc rounds))) [
      | inl ended ↦ inl (end-after tracing rounds (λ member there reached. ended member reached))
      | inr grown ↦ elim (cases_Bool (list_any (adds_member tracing rounds) (members_of tracing)))
          as (λ _. IsEnd tracing (suc rounds) ⊎ (suc rounds < count_in tracing (suc rounds))) [
            | inl some ↦
                let more : count_in tracing rounds < count_in tracing (suc rounds) =
                count-less (λ (member : ℕ × Object). is_reached_in tracing rounds member.0)
                (λ (member : ℕ × Object). is_reached_in tracing (suc rounds) member.0) (λ member. or_left _ _) (members_of tracing) some in
                inr (omega (arith, grown, more))
            | inr none ↦ inl (end-after tracing rounds (adds-none tracing rounds none))
          ]
    ]

-- after as many rounds as there are objects the next one adds nothing
rounds-end : (tracing : Tracing) → IsEnd tracing (length tracing.graph)
rounds-end tracing =
    elim (ends-or_grows tracing (length tracing.graph)) as (λ _. IsEnd tracing (length tracing.graph)) [
      | inl ended ↦ ended
      | inr grown ↦
          let reached : ℕ × Object → Bool = λ member. is_reached_in tracing (length tracing.graph) member.0 in
          let most = count_by-le-length reached (members_of tracing) in
          absurd (omega (arith, grown, most, length-enumerate_from 0 tracing.graph))
    ]

-- what is reached is closed under slots
pub reached-closed : (tracing : Tracing) → IsClosedUnderSlots tracing (is_reached tracing)
reached-closed tracing = record {
  roots = λ number own named. reached-later tracing number 0 (length tracing.graph) (omega arith) (and_from _ _ own named);
  slots = λ member number there has own named.
      rounds-end tracing number (reached-next tracing (length tracing.graph) member number there own has named);
}

-- with more roots, and where more belongs, more is reached
pub reached-more : (fewer more : Tracing) → more.graph ≡ fewer.graph
    → ((number : ℕ) → is_named number fewer.roots ≡ true → is_named number more.roots ≡ true)
    → ((number : ℕ) → fewer.belongs number ≡ true → more.belongs number ≡ true)
    → (number : ℕ) → is_reached fewer number ≡ true → is_reached more number ≡ true
reached-more fewer more graph roots belongs =
    let closed = reached-closed more in
    reached-least fewer (is_reached more) (record {
      roots = λ number own named. closed.roots number (belongs number own) (roots number named);
      slots = λ member number there has own named.
          let inside : member < length more.graph = rw graph there in
          let by_slot : is_named number (object_at more.graph member).slots ≡ true = rw graph named in
          closed.slots member number inside has (belongs number own) by_slot;
    })
