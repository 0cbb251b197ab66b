-- The bays of a heap by their mutators: which is read and written, how long their remembered lists are, and how much work is
-- left on them.
use Rattle.std.proofs.Common.{◌≡◌, ◌≢◌, ◌∙◌, inl, inr, ℕ, ◌+◌, ◌<◌, ◌≤◌, List, ◌∷◌, [], ◌++◌, length, refl, sym, ap, arith, slice_index, slice_index_or, slice_set}
use Rattle.std.proofs.lemmas.Bool.{cases_eq}
use Rattle.std.proofs.lemmas.List.{get_or-set_other, get_or-set_same, get_or_read, length_push, set-get_or}
use Rattle.std.proofs.lemmas.List.Sums.{sum_by-set}
use Rattle.gc_bay.specs.Bay.{Bay}
use Rattle.gc_layout.specs.Places.{Layout}
use Rattle.gc_placement.specs.Changes.{ChangesBay}
use Rattle.gc_placement.specs.Holders.{Done}
use Rattle.gc_placement.specs.Placement.{Placement}
use Rattle.gc_solo.specs.Collecting.{Beginning, IsCollecting, Stage, bay_work_left, work_left}
use Rattle.gc_solo.specs.Kept.{Kept, bay_at, no_bay}

-- what is read at a mutator's place is its bay
pub bay_at-read : (bays : List Bay) (t : ℕ) (read : Bay) → t < length bays → read ≡ slice_index_or bays t read → read ≡ bay_at bays t
bay_at-read bays t read there is = get_or_read bays t read there is no_bay

-- a bay is written: the others are as before
pub bay_at-changed : (bays : List Bay) (t : ℕ) (bay : Bay) → t < length bays
    → ChangesBay (bay_at bays) (bay_at (slice_set bays t bay)) t bay
bay_at-changed bays t bay there = record {
  here = get_or-set_same bays t bay no_bay there;
  elsewhere = λ u differs. get_or-set_other bays t u bay no_bay differs;
}

-- each mutator has its bay while a collection is under way
pub bay-inside : {kept : Kept} {start : Beginning} {after : Placement} {done : Done} {stage : Stage} (t : ℕ)
    → IsCollecting kept start after done stage → t < kept.layout.mutators → t < length kept.bays
bay-inside t collecting below =
    omega (arith, below, ap (λ (layout : Layout). layout.mutators) collecting.layout, collecting.bays)

-- a bay that is as it was read is written back
pub written-back : (bays : List Bay) (t : ℕ) (read own : Bay) → t < length bays → read ≡ slice_index_or bays t read → own ≡ read
    → slice_set bays t own ≡ bays
written-back bays t read own there is same =
    ap (slice_set bays t) (same ∙ bay_at-read bays t read there is) ∙ set-get_or bays t no_bay

-- so many bays have no grey object
abbrev pub NoneGrey : List Bay → ℕ → Type 0
NoneGrey bays limit = (t : ℕ) → t < limit → (bay_at bays t).grey ≡ []

-- one more hasn't
pub none_grey-more : (bays : List Bay) (limit : ℕ) (read : Bay) → read ≡ bay_at bays limit → read.grey ≡ [] → NoneGrey bays limit
    → NoneGrey bays (limit + 1)
none_grey-more bays limit read is empty none t below = elim (cases_eq t limit) [
  | inl same ↦ rw same (ap (λ (bay : Bay). bay.grey) (sym is) ∙ empty)
  | inr differs ↦ none t (omega (arith, below, differs))
]

-- a list says of so many mutators how long their remembered lists are
abbrev pub HaveCounts : List Bay → List ℕ → ℕ → Type 0
HaveCounts bays counts limit = (t : ℕ) → t < limit → slice_index counts t ≡ length (bay_at bays t).remembered

-- of one more
pub counts-more : (bays : List Bay) (counts : List ℕ) (limit count : ℕ) → limit < length counts
    → count ≡ length (bay_at bays limit).remembered → HaveCounts bays counts limit
    → HaveCounts bays (slice_set counts limit count) (limit + 1)
counts-more bays counts limit count there is have t below = elim (cases_eq t limit) [
  | inl same ↦ rw same (get_or-set_same counts limit count 0 there ∙ is)
  | inr differs ↦ get_or-set_other counts limit t count 0 differs ∙ have t (omega (arith, below, differs))
]

-- a bay on which as much is left more as on another one takes its place
work-changed : (bays : List Bay) (t : ℕ) (bay : Bay) → t < length bays
    → work_left (slice_set bays t bay) + bay_work_left (bay_at bays t) ≡ work_left bays + bay_work_left bay
work-changed bays t bay there = sum_by-set bay_work_left bays t bay no_bay there

-- a grey object that is taken leaves less work
pub work-taken : (bays : List Bay) (t address : ℕ) (bay : Bay) (rest : List ℕ) → t < length bays
    → bay ≡ record (bay_at bays t) { grey = rest } → (bay_at bays t).grey ≡ rest ++ address ∷ []
    → work_left (slice_set bays t bay) < work_left bays
work-taken bays t address bay rest there is was =
    let less : bay_work_left bay + 1 ≡ bay_work_left (bay_at bays t) =
    omega (arith, ap bay_work_left is, ap length was, length_push rest address) in
    omega (arith, less, work-changed bays t bay there)
