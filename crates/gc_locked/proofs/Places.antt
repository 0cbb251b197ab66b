-- The places of a mutator's calls: which calls stand there, and that they rise.
use Rattle.std.proofs.Common.{◌≡◌, ◌≢◌, ◌∙◌, ℕ, zero, suc, ◌+◌, ◌-◌, ◌<◌, ◌≤◌, Bool, true, false, cond, if◌then◌else◌, List, [], ◌∷◌, ◌++◌, All, Some, append_assoc, filter, length, length-append, map, slice_get, take, refl, sym, ap, ap₂, arith, eq-eqb, eqb-true, ne_eqb}
use Rattle.std.specs.Option.{option_map}
use Rattle.std.proofs.lemmas.List.{append-nil, length-map, length-take-le, map-append}
use Rattle.std.proofs.lemmas.List.Elements.{All-cons, All-nil, All-push}
use Rattle.std.proofs.lemmas.Option.{same_Some, slice_get-map, slice_get_past, slice_get_within}
use Rattle.gc_model.specs.declared.call.Call.{Call}
use Rattle.gc_model.specs.declared.call.Call.TheVariants.{End}
use Rattle.gc_model.specs.declared.call.Line.{Line}
use Rattle.gc_model.specs.History.{calls_in, is_line_of}
use Rattle.gc_locked.specs.Setup.{call_at, call_or_end, mutator_at, mutator_or, places_in, places_of, plan_of}
use Rattle.gc_locked.proofs.Lists.{all-read, take-next}

-- ---- what stands at a place

-- behind the lines stands an End
pub call_at-behind : (lines : List Line) (place : ℕ) → length lines ≤ place → call_at lines place ≡ End
call_at-behind lines place behind = ap call_or_end (slice_get_past lines place behind)

-- of the mutator that comes in that order
pub mutator_at-behind : (lines : List Line) (place : ℕ) → length lines ≤ place → mutator_at lines place ≡ place - length lines
mutator_at-behind lines place behind = ap (mutator_or (place - length lines)) (slice_get_past lines place behind)

-- behind other elements stands the next one
seam : {X : Type 0} (front : List X) (x : X) (back : List X) → slice_get (front ++ x ∷ back) (length front) ≡ Some x
seam [] x back = refl
seam (y ∷ front) x back = seam front x back

-- one element more
grown : {X : Type 0} (front : List X) (x : X) → length (front ++ x ∷ []) ≡ suc (length front)
grown front x = length-append front (x ∷ []) ∙ omega arith

-- ---- the places of a mutator's lines

-- of lines and more lines
pub places_in-append : (t first : ℕ) (front back : List Line)
    → places_in t first (front ++ back) ≡ places_in t first front ++ places_in t (first + length front) back
places_in-append t first [] back = ap (λ (n : ℕ). places_in t n back) (omega arith)
places_in-append t first (line ∷ front) back =
    by_test (is_line_of t line)
    (places_in-append t (suc first) front back
    ∙ ap (λ (n : ℕ). places_in t (suc first) front ++ places_in t n back) (omega arith))
  where
    whole : List ℕ
    whole = places_in t (suc first) (front ++ back)

    one : List ℕ
    one = places_in t (suc first) front

    other : List ℕ
    other = places_in t (first + suc (length front)) back

    by_test : (test : Bool) → whole ≡ one ++ other
        → (if test then first ∷ whole else whole) ≡ (if test then first ∷ one else one) ++ other
    by_test true rest = ap (λ (places : List ℕ). first ∷ places) rest
    by_test false rest = rest

-- there is one for each line
pub places_in-count : (t first : ℕ) (lines : List Line) → length (places_in t first lines) ≡ length (filter (is_line_of t) lines)
places_in-count t first [] = refl
places_in-count t first (line ∷ lines) = by_test (is_line_of t line) (places_in-count t (suc first) lines)
  where
    places : List ℕ
    places = places_in t (suc first) lines

    own : List Line
    own = filter (is_line_of t) lines

    by_test : (test : Bool) → length places ≡ length own
        → length (if test then first ∷ places else places) ≡ length (cond test (line ∷ own) own)
    by_test true rest = ap suc rest
    by_test false rest = rest

-- they are its own
placed : (t : ℕ) (front lines : List Line) → All (λ place. mutator_at (front ++ lines) place ≡ t) (places_in t (length front) lines)
placed t front [] = All-nil (λ place. mutator_at (front ++ []) place ≡ t)
placed t front (line ∷ lines) =
    by_test (is_line_of t line) refl
    (rw (append_assoc front (line ∷ []) lines, grown front line) at (placed t (front ++ line ∷ []) lines))
  where
    IsOwn : ℕ → Type 0
    IsOwn place = mutator_at (front ++ line ∷ lines) place ≡ t

    rest : List ℕ
    rest = places_in t (suc (length front)) lines

    here : mutator_at (front ++ line ∷ lines) (length front) ≡ line.mutator
    here = ap (mutator_or (length front - length (front ++ line ∷ lines))) (seam front line lines)

    by_test : (test : Bool) → is_line_of t line ≡ test → All IsOwn rest → All IsOwn (if test then length front ∷ rest else rest)
    by_test true is all = All-cons IsOwn (length front) rest (here ∙ eqb-true line.mutator t is) all
    by_test false is all = all

-- and its calls stand there
called : (t : ℕ) (front lines : List Line) → map (call_at (front ++ lines)) (places_in t (length front) lines) ≡ calls_in t lines
called t front [] = refl
called t front (line ∷ lines) =
    by_test (is_line_of t line)
    (rw (append_assoc front (line ∷ []) lines, grown front line) at (called t (front ++ line ∷ []) lines))
  where
    at : ℕ → Call
    at = call_at (front ++ line ∷ lines)

    rest : List ℕ
    rest = places_in t (suc (length front)) lines

    own : List Line
    own = filter (is_line_of t) lines

    by_test : (test : Bool) → map at rest ≡ map (λ (each : Line). each.call) own
        → map at (if test then length front ∷ rest else rest) ≡ map (λ (each : Line). each.call) (cond test (line ∷ own) own)
    by_test true same = ap₂ (λ (call : Call) (calls : List Call). call ∷ calls) (ap call_or_end (seam front line lines)) same
    by_test false same = same

-- one line more
places-next : (lines : List Line) (i : ℕ) (line : Line) (t : ℕ) → slice_get lines i ≡ Some line
    → places_in t 0 (take (suc i) lines) ≡ places_in t 0 (take i lines) ++ places_in t i (line ∷ [])
places-next lines i line t there =
    let within = slice_get_within lines i line there in
    ap (places_in t 0) (take-next lines i line there) ∙ places_in-append t 0 (take i lines) (line ∷ [])
    ∙ ap (λ (n : ℕ). places_in t 0 (take i lines) ++ places_in t n (line ∷ []))
    (omega (arith, length-take-le i lines (omega (arith, within))))

-- of the mutator
pub places-own : (lines : List Line) (i : ℕ) (line : Line) (t : ℕ) → slice_get lines i ≡ Some line → line.mutator ≡ t
    → places_in t 0 (take (suc i) lines) ≡ places_in t 0 (take i lines) ++ i ∷ []
places-own lines i line t there own =
    places-next lines i line t there
    ∙ ap (λ (b : Bool). places_in t 0 (take i lines) ++ (if b then i ∷ [] else [])) (eq-eqb line.mutator t own)

-- of another
pub places-other : (lines : List Line) (i : ℕ) (line : Line) (t : ℕ) → slice_get lines i ≡ Some line → line.mutator ≢ t
    → places_in t 0 (take (suc i) lines) ≡ places_in t 0 (take i lines)
places-other lines i line t there other =
    places-next lines i line t there
    ∙ ap (λ (b : Bool). places_in t 0 (take i lines) ++ (if b then i ∷ [] else [])) (ne_eqb line.mutator t other)
    ∙ append-nil (places_in t 0 (take i lines))

-- ---- the places of all its calls

-- each is its own
pub place-own : (lines : List Line) (t k place : ℕ) → slice_get (places_of lines t) k ≡ Some place → mutator_at lines place ≡ t
place-own lines t k place at =
    let end = mutator_at-behind lines (length lines + t) (omega arith) in
    all-read (λ (each : ℕ). mutator_at lines each ≡ t) (places_of lines t) k place
    (All-push (λ (each : ℕ). mutator_at lines each ≡ t) (places_in t 0 lines) (length lines + t) (placed t [] lines)
    (end ∙ omega arith)) at

-- there is one more than it has lines
pub places-count : (lines : List Line) (t : ℕ) → length (places_of lines t) ≡ suc (length (calls_in t lines))
places-count lines t =
    omega (
      arith,
      length-append (places_in t 0 lines) ((length lines + t) ∷ []),
      places_in-count t 0 lines,
      length-map (filter (is_line_of t) lines) (λ (line : Line). line.call),
    )

-- and the calls there are its plan
pub places-plan : (lines : List Line) (t : ℕ) → map (call_at lines) (places_of lines t) ≡ plan_of lines t
places-plan lines t =
    map-append (call_at lines) (places_in t 0 lines) ((length lines + t) ∷ [])
    ∙ ap₂ (λ (front : List Call) (last : Call). front ++ last ∷ []) (called t [] lines)
    (call_at-behind lines (length lines + t) (omega arith))

pub place-plan : (lines : List Line) (t k place : ℕ) → slice_get (places_of lines t) k ≡ Some place
    → slice_get (plan_of lines t) k ≡ Some (call_at lines place)
place-plan lines t k place at =
    ap (λ (calls : List Call). slice_get calls k) (sym (places-plan lines t))
    ∙ slice_get-map (call_at lines) (places_of lines t) k ∙ ap (option_map (call_at lines)) at

-- they rise
rises : (t first last : ℕ) (lines : List Line) → first + length lines ≤ last → (k place : ℕ)
    → slice_get (places_in t first lines ++ last ∷ []) k ≡ Some place
    → (first ≤ place) × (place ≤ last) × All (λ each. each < place) (take k (places_in t first lines ++ last ∷ []))
rises t first last [] few zero place at =
    let same : last ≡ place = same_Some _ _ at in (omega (arith, few, same), omega (arith, same), All-nil (λ each. each < place))
rises t first last [] few (suc k) place at = cc
rises t first last (line ∷ lines) few k place at =
    by_test (is_line_of t line) k at (rises t (suc first) last lines (omega (arith, few)))
  where
    rest : List ℕ
    rest = places_in t (suc first) lines

    by_test : (test : Bool) (i : ℕ) → slice_get ((if test then first ∷ rest else rest) ++ last ∷ []) i ≡ Some place
        → ((n each : ℕ) → slice_get (rest ++ last ∷ []) n ≡ Some each
        → (suc first ≤ each) × (each ≤ last) × All (λ before. before < each) (take n (rest ++ last ∷ [])))
        → (first ≤ place) × (place ≤ last)
        × All (λ each. each < place) (take i ((if test then first ∷ rest else rest) ++ last ∷ []))
    by_test true zero there later =
        let same : first ≡ place = same_Some _ _ there in
        (omega (arith, same), omega (arith, same, few), All-nil (λ each. each < place))
    by_test true (suc i) there later =
        let (above, most, all) = later i place there in (
          omega (arith, above),
          most,
          All-cons (λ each. each < place) first (take i (rest ++ last ∷ [])) (omega (arith, above)) all,
        )
    by_test false i there later = let (above, most, all) = later i place there in (omega (arith, above), most, all)

-- so those before a place are below it
pub places-below : (lines : List Line) (t k place : ℕ) → slice_get (places_of lines t) k ≡ Some place
    → All (λ each. each < place) (take k (places_of lines t))
places-below lines t k place at = (rises t 0 (length lines + t) lines (omega arith) k place at).2

-- and none is behind its End's
pub place-few : (lines : List Line) (t k place : ℕ) → slice_get (places_of lines t) k ≡ Some place → place ≤ length lines + t
place-few lines t k place at = (rises t 0 (length lines + t) lines (omega arith) k place at).1
