-- Where a word that isn't done yet names an object, and where what it names is kept.
use Rattle.std.proofs.Common.{◌≡◌, ◌≢◌, ◌∙◌, ◌⊎◌, inl, inr, ℕ, ◌≤◌, ◌&&◌, ◌||◌, Bool, true, false, Option, None, Some, is_some, refl, sym, ap, subst, arith, slice_index}
use Rattle.std.proofs.lemmas.Bool.{false≢true, or_right}
use Rattle.std.proofs.lemmas.Option.{none-some}
use Rattle.std.specs.Prelude.{IfSome}
use Rattle.gc_layout.specs.Places.{Layout}
use Rattle.gc_layout.specs.Shape.{forwarding_address}
use Rattle.gc_model.specs.Reach.{is_reachable, is_reached}
use Rattle.gc_model.specs.World.{World}
use Rattle.gc_model.specs.declared.entry.RunKind.{RunKind}
use Rattle.gc_placement.specs.Extents.{IsInAPage}
use Rattle.gc_placement.specs.Headers.{head_of}
use Rattle.gc_placement.specs.Holders.{Done}
use Rattle.gc_placement.specs.Marks.{IsNameFound, IsNameFoundIn, Marks, is_found}
use Rattle.gc_placement.specs.Memory.{Memory}
use Rattle.gc_placement.specs.Placement.{IsNamePlaced, Placement, name_address, or_nothing, with_place}
use Rattle.gc_placement.specs.Sums.{is_young}
use Rattle.gc_placement.specs.Tracings.{tracing_of}
use Rattle.gc_placement.proofs.CopyWords.{not_kept-at}
use Rattle.gc_placement.proofs.MovePlaces.{moved-elsewhere, outside-young}
use Rattle.gc_placement.proofs.Names.{some-name}
use Rattle.gc_placement.proofs.Placement.{with_place-other, with_place-same}
use Rattle.gc_solo.specs.Collecting.{Beginning, HasMarked, Holds, IsCollecting, IsForwarded, IsReachedBy, IsToCopy, IsToMark, KeepsMore, Stage}
use Rattle.gc_solo.specs.Kept.{Kept, bay_at}
use Rattle.gc_solo.proofs.Collecting.{before-ends, kept-ends}
use Rattle.gc_solo.proofs.Marking.{full-marked}

-- a word that isn't 0 names an object at this address
pub record NamesObject (start : Beginning) (name : Option ℕ) (address : ℕ) : Type 0 where
  pub number : ℕ
  pub named : name ≡ Some number
  pub at : start.placement number ≡ Some address
  pub reached : IsReachedBy start number

-- so does one that isn't done
pub holds-object : (start : Beginning) (name : Option ℕ) (address : ℕ) → Holds start name address → address ≢ 0
    → NamesObject start name address
holds-object start name address holds some =
    let named = some-name start.placement name address holds.placed holds.address_is some in
    let Reached : Option ℕ → Type 0 = λ each. IfSome each (IsReachedBy start) in
    record { number = named.0; named = named.1; at = named.2; reached = subst Reached named.1 holds.reached }

-- ---- what is kept

-- an object that lay in a half is kept where it has a place
found-copied : (layout : Layout) (before after : Placement) (marks : Marks) (number address : ℕ) → after number ≡ Some address
    → is_young layout before number ≡ true → is_found layout before after marks number ≡ true
found-copied layout before after marks number address at young =
    ap (λ (place : Option ℕ). is_some place && (is_young layout before number || marks number)) at
    ∙ ap (λ (is : Bool). is || marks number) young

-- and one that has a place where it is marked
found-marked : (layout : Layout) (before after : Placement) (marks : Marks) (number address : ℕ) → after number ≡ Some address
    → marks number ≡ true → is_found layout before after marks number ≡ true
found-marked layout before after marks number address at marked =
    ap (λ (place : Option ℕ). is_some place && (is_young layout before number || marks number)) at
    ∙ or_right (is_young layout before number) (marks number) marked

-- what is named is kept where its object is, as it is in a full collection
name-kept : (kind : RunKind) (layout : Layout) (before after : Placement) (marks : Marks) (name : Option ℕ) (number : ℕ)
    → name ≡ Some number → (kind ≡ RunKind.Full → is_found layout before after marks number ≡ true)
    → IsNameFoundIn kind layout before after marks name
name-kept RunKind.Minor layout before after marks name number named found = tt
name-kept RunKind.Full layout before after marks name number named found =
    subst (IsNameFound layout before after marks) (sym named) (found refl)

-- nothing is kept as nothing
nothing-kept : (kind : RunKind) (layout : Layout) (before after : Placement) (marks : Marks)
    → IsNameFoundIn kind layout before after marks None
nothing-kept RunKind.Minor layout before after marks = tt
nothing-kept RunKind.Full layout before after marks = tt

-- what lies in a half belongs to a collection of either kind
young-belongs : (kind : RunKind) (memory : Memory) (placement : Placement) (world : World) (number : ℕ)
    → is_young memory.layout placement number ≡ true → (tracing_of kind memory placement world).belongs number ≡ true
young-belongs RunKind.Minor memory placement world number young = young
young-belongs RunKind.Full memory placement world number young = refl

-- what a full collection reaches is reachable
reachable-full : (kind : RunKind) (memory : Memory) (placement : Placement) (world : World) (number : ℕ) → kind ≡ RunKind.Full
    → ((tracing_of kind memory placement world).belongs number ≡ true
    → is_reached (tracing_of kind memory placement world) number ≡ true)
    → is_reachable world number ≡ true
reachable-full kind memory placement world number full reached =
    subst
    (λ (each : RunKind). (tracing_of each memory placement world).belongs number ≡ true
    → is_reached (tracing_of each memory placement world) number ≡ true)
    full reached refl

-- ---- a name is forwarded

-- the name of an object that is kept at an address is forwarded to it
forwarded-to : {kept : Kept} {start : Beginning} {after : Placement} {done : Done} {stage : Stage} (placement : Placement)
    (name : Option ℕ) (number address : ℕ) → (collecting : IsCollecting kept start placement done stage) → KeepsMore after placement
    → name ≡ Some number → placement number ≡ Some address
    → (start.kind ≡ RunKind.Full
    → is_found start.memory.layout start.placement placement collecting.marks number ≡ true)
    → IsForwarded kept start after done stage name address
forwarded-to {kept} {start} placement name number address collecting more named at found = record {
  placement = placement;
  collecting = collecting;
  more = more;
  address_is = sym (ap (name_address placement) named ∙ ap or_nothing at);
  placed = subst (IsNamePlaced placement) (sym named) (record { address = address; at = at });
  found = name-kept start.kind start.memory.layout start.placement placement collecting.marks name number named found;
}

-- nothing stays nothing
pub forwarded-nothing : {kept : Kept} {start : Beginning} {after : Placement} {done : Done} {stage : Stage} (name : Option ℕ)
    → IsCollecting kept start after done stage → Holds start name 0 → IsForwarded kept start after done stage name 0
forwarded-nothing {kept} {start} {after} None collecting holds =
    record {
      placement = after;
      collecting = collecting;
      more = λ number address at. at;
      address_is = refl;
      placed = tt;
      found = nothing-kept start.kind start.memory.layout start.placement after collecting.marks;
    }
forwarded-nothing {kept} {start} {after} (Some number) collecting holds =
    let address = holds.placed.address in
    let nothing : 0 ≡ address = holds.address_is ∙ ap or_nothing holds.placed.at in
    absurd (omega (arith, nothing, (before-ends number address collecting holds.placed.at).0))

-- what is old lies in a page and stays where it is
old-stays : {kept : Kept} {start : Beginning} {after : Placement} {done : Done} {stage : Stage} (number address : ℕ)
    → IsCollecting kept start after done stage → start.placement number ≡ Some address
    → (head_of (slice_index kept.words address)).old ≡ true
    → IsInAPage start.memory.layout address × (after number ≡ Some address)
old-stays number address collecting at old =
    let was = sym (collecting.under_way.headers number address at).old_is ∙ old in
    let page = (collecting.rest.shown.old number address at).0 was in (page, collecting.under_way.keeps.old number address at page)

-- so its name is forwarded to it, where a full collection has marked it
pub forwarded-old : {kept : Kept} {start : Beginning} {after : Placement} {done : Done} {stage : Stage} (name : Option ℕ)
    (address : ℕ) → IsCollecting kept start after done stage → Holds start name address → address ≢ 0
    → (head_of (slice_index kept.words address)).old ≡ true
    → (start.kind ≡ RunKind.Full → (head_of (slice_index kept.words address)).marked ≡ true)
    → IsForwarded kept start after done stage name address
forwarded-old {kept} {start} {after} name address collecting holds some old marked =
    let is = holds-object start name address holds some in
    let stays = old-stays is.number address collecting is.at old in
    forwarded-to after name is.number address collecting (λ number place at. at) is.named stays.1
    (λ full. found-marked start.memory.layout start.placement after collecting.marks is.number address stays.1
    (sym ((full-marked collecting full).bits is.number address stays.1) ∙ marked full))

-- a word names an object that is to be marked
pub record IsNamedToMark (kept : Kept) (start : Beginning) (after : Placement) (name : Option ℕ) (address : ℕ) : Type 0 where
  pub number : ℕ
  pub named : name ≡ Some number
  pub to_mark : IsToMark kept start after number address

-- so does one that names an old object that a full collection hasn't marked
pub named-to_mark : {kept : Kept} {start : Beginning} {after : Placement} {done : Done} {stage : Stage} (name : Option ℕ)
    (address : ℕ) → start.kind ≡ RunKind.Full → IsCollecting kept start after done stage → Holds start name address → address ≢ 0
    → (head_of (slice_index kept.words address)).old ≡ true → (head_of (slice_index kept.words address)).marked ≡ false
    → IsNamedToMark kept start after name address
named-to_mark {kept} {start} {after} name address full collecting holds some old unmarked =
    let is = holds-object start name address holds some in
    let stays = old-stays is.number address collecting is.at old in
    record {
      number = is.number;
      named = is.named;
      to_mark = record {
        full = full;
        at = stays.1;
        page = stays.0;
        unmarked = unmarked;
        reached = reachable-full start.kind start.memory start.placement start.world is.number full is.reached;
      };
    }

-- once it is marked, its name is forwarded to it
pub forwarded-marked : {kept now : Kept} {start : Beginning} {after : Placement} {done : Done} {stage : Stage} (name : Option ℕ)
    (address : ℕ) → (is : IsNamedToMark kept start after name address) → HasMarked now start after done stage is.number
    → IsForwarded now start after done stage name address
forwarded-marked {kept} {now} {start} {after} name address is has =
    forwarded-to after name is.number address has.collecting (λ number place at. at) is.named is.to_mark.at
    (λ full. found-marked start.memory.layout start.placement after has.collecting.marks is.number address is.to_mark.at has.marked)

-- what isn't lies in a half
not_old-young : {kept : Kept} {start : Beginning} {after : Placement} {done : Done} {stage : Stage} (number address : ℕ)
    → IsCollecting kept start after done stage → start.placement number ≡ Some address
    → (head_of (slice_index kept.words address)).old ≡ false → is_young start.memory.layout start.placement number ≡ true
not_old-young {kept} {start} number address collecting at young =
    outside-young start.memory.layout start.placement number address at (λ page.
    false≢true (sym young ∙ (collecting.under_way.headers number address at).old_is
    ∙ (collecting.rest.shown.old number address at).1 page))

-- where it is kept, its forwarding word is the address of the copy
kept-forwarded : {kept : Kept} {start : Beginning} {after : Placement} {done : Done} {stage : Stage} (number address copy : ℕ)
    → IsCollecting kept start after done stage → start.placement number ≡ Some address
    → is_young start.memory.layout start.placement number ≡ true → after number ≡ Some copy
    → (slice_index kept.words (forwarding_address address) ≡ copy) × (1 ≤ copy)
kept-forwarded {kept} {start} {after} number address copy collecting at young moved =
    let under = collecting.under_way in (
      under.standing.forwarded number address copy at moved
          (moved-elsewhere start.memory start.placement start.world (bay_at kept.bays) after collecting.rest under.bays under.flipped
          under.lying under.keeps number address copy at young moved),
      (kept-ends number copy collecting moved).0,
    )

-- and where it isn't, 0
unkept-unforwarded : {kept : Kept} {start : Beginning} {after : Placement} {done : Done} {stage : Stage} (number address : ℕ)
    → IsCollecting kept start after done stage → start.placement number ≡ Some address → after number ≡ None
    → slice_index kept.words (forwarding_address address) ≡ 0
unkept-unforwarded {kept} {start} {after} number address collecting at unkept =
    (collecting.under_way.standing.others number address (not_kept-at start.placement after number address unkept at)).forwarding

-- an object has a place or none
some-or_none : (place : Option ℕ) → (place ≡ None) ⊎ ((address : ℕ) × (place ≡ Some address))
some-or_none None = inl refl
some-or_none (Some address) = inr (address, refl)

-- so an object in a half whose forwarding word isn't 0 is kept there
pub forwarded-copy : {kept : Kept} {start : Beginning} {after : Placement} {done : Done} {stage : Stage} (name : Option ℕ)
    (address copy : ℕ) → IsCollecting kept start after done stage → Holds start name address → address ≢ 0
    → (head_of (slice_index kept.words address)).old ≡ false → copy ≡ slice_index kept.words (forwarding_address address) → copy ≢ 0
    → IsForwarded kept start after done stage name copy
forwarded-copy {kept} {start} {after} name address copy collecting holds some young copy_is moved =
    let is = holds-object start name address holds some in
    elim (some-or_none (after is.number)) [
      | inl unkept ↦ absurd (moved (copy_is ∙ unkept-unforwarded is.number address collecting is.at unkept))
      | inr place ↦
          let in_half = not_old-young is.number address collecting is.at young in
          let there = kept-forwarded is.number address place.0 collecting is.at in_half place.1 in
          let here = place.1 ∙ ap Some (sym (copy_is ∙ there.0)) in
          forwarded-to after name is.number copy collecting (λ number each at. at) is.named here
          (λ full. found-copied start.memory.layout start.placement after collecting.marks is.number copy here in_half)
    ]

-- a word names an object that is to be copied
pub record IsNamedToCopy (start : Beginning) (after : Placement) (name : Option ℕ) (address : ℕ) : Type 0 where
  pub number : ℕ
  pub named : name ≡ Some number
  pub to_copy : IsToCopy start after number address

-- so does one that names an object in a half whose forwarding word is 0
pub named-to_copy : {kept : Kept} {start : Beginning} {after : Placement} {done : Done} {stage : Stage} (name : Option ℕ)
    (address : ℕ) → IsCollecting kept start after done stage → Holds start name address → address ≢ 0
    → (head_of (slice_index kept.words address)).old ≡ false → slice_index kept.words (forwarding_address address) ≡ 0
    → IsNamedToCopy start after name address
named-to_copy {kept} {start} {after} name address collecting holds some young unmoved =
    let is = holds-object start name address holds some in
    let in_half = not_old-young is.number address collecting is.at young in
    let unkept : after is.number ≡ None = elim (some-or_none (after is.number)) [
      | inl none ↦ none
      | inr place ↦
          let there = kept-forwarded is.number address place.0 collecting is.at in_half place.1 in
          absurd (omega (arith, there, unmoved))
    ] in
    record {
      number = is.number;
      named = is.named;
      to_copy = record {
        at = is.at;
        young = in_half;
        unkept = unkept;
        reached = is.reached (young-belongs start.kind start.memory start.placement start.world is.number in_half);
      };
    }

-- once it is copied, its name is forwarded to the copy
pub forwarded-now : {kept : Kept} {start : Beginning} {after : Placement} {done : Done} {stage : Stage} (name : Option ℕ)
    (address copy : ℕ) → (is : IsNamedToCopy start after name address)
    → IsCollecting kept start (with_place after is.number copy) done stage → IsForwarded kept start after done stage name copy
forwarded-now {kept} {start} {after} name address copy is collecting =
    let grown = with_place after is.number copy in
    let here = with_place-same after is.number copy in
    forwarded-to grown name is.number copy collecting
    (λ each place at. with_place-other after is.number copy each (λ same.
    none-some place (sym is.to_copy.unkept ∙ ap after (sym same) ∙ at)) ∙ at)
    is.named here
    (λ full. found-copied start.memory.layout start.placement grown collecting.marks is.number copy here is.to_copy.young)
