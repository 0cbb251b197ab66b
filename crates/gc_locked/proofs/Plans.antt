-- The calls that a journal doesn't have yet: how their weight begins, and how it falls by each call.
use Rattle.std.proofs.Common.{◌≡◌, ◌≢◌, ◌∙◌, ℕ, zero, suc, ◌+◌, ◌*◌, ◌<◌, ◌≤◌, ◌==◌, Bool, true, false, cond, List, [], ◌∷◌, filter, map, sum_by, refl, sym, ap, arith, eqb-true, eq-eqb, ne_eqb, lt_of_not-le, suc-mul}
use Rattle.std.proofs.lemmas.Bool.{true≢false}
use Rattle.std.proofs.lemmas.List.Elements.{All-head, All-tail}
use Rattle.std.proofs.lemmas.List.Sums.{sum_by-append, sum_by-cons}
use Rattle.gc_layout.specs.declared.shape.Shape.{Shape}
use Rattle.gc_model.specs.declared.call.Call.{Call}
use Rattle.gc_model.specs.declared.call.Call.TheVariants.{End}
use Rattle.gc_model.specs.declared.call.Line.{Line}
use Rattle.gc_model.specs.Answer.{IsFit}
use Rattle.gc_model.specs.History.{calls_in, is_line_of}
use Rattle.gc_locked.specs.Locked.{AreFit}
use Rattle.gc_locked.specs.Setup.{plan_of, sum_below}

-- ---- sums over mutators

-- below the next number and not this one is below this one
not-equal-below : (count t : ℕ) → t < suc count → count ≢ t → t < count
not-equal-below count t below other = lt_of_not-le (λ least. other (omega (arith, below, least)))

-- two parts that are the same below a mutator have the same sum below it
pub sum_below-same : (old new : ℕ → ℕ) (count : ℕ) → ((t : ℕ) → t < count → new t ≡ old t) → sum_below new count ≡ sum_below old count
sum_below-same old new zero same = refl
sum_below-same old new (suc count) same =
    omega (arith, same count (omega arith), sum_below-same old new count (λ t below. same t (omega (arith, below))))

-- where one part changes, so does the sum
pub sum_below-changed : (old new : ℕ → ℕ) (count t : ℕ) → t < count → ((u : ℕ) → u ≢ t → new u ≡ old u)
    → sum_below new count + old t ≡ sum_below old count + new t
sum_below-changed old new zero t below others = absurd (omega (arith, below))
sum_below-changed old new (suc count) t below others =
    by_test (count == t) refl (λ under. sum_below-changed old new count t under others)
  where
    by_test : (test : Bool) → (count == t) ≡ test → (t < count → sum_below new count + old t ≡ sum_below old count + new t)
        → sum_below new (suc count) + old t ≡ sum_below old (suc count) + new t
    by_test true is lower =
        let same : count ≡ t = eqb-true count t is in
        let kept = sum_below-same old new count (λ u under. others u (λ own. omega (arith, own, under, same))) in
        omega (arith, kept, ap old same, ap new same)
    by_test false is lower =
        let other : count ≢ t = λ same. true≢false (sym (eq-eqb count t same) ∙ is) in
        omega (arith, lower (not-equal-below count t below other), others count other)

-- the part of one is no more than the sum
pub sum_below-part : (part : ℕ → ℕ) (count t : ℕ) → t < count → part t ≤ sum_below part count
sum_below-part part zero t below = absurd (omega (arith, below))
sum_below-part part (suc count) t below = by_test (count == t) refl (λ under. sum_below-part part count t under)
  where
    by_test : (test : Bool) → (count == t) ≡ test → (t < count → part t ≤ sum_below part count) → part t ≤ sum_below part (suc count)
    by_test true is lower = omega (arith, ap part (eqb-true count t is))
    by_test false is lower =
        let other : count ≢ t = λ same. true≢false (sym (eq-eqb count t same) ∙ is) in
        omega (arith, lower (not-equal-below count t below other))

-- ---- the weight of all plans

-- the weight of a mutator's lines
abbrev own_weight : (Call → ℕ) → List Line → ℕ → ℕ
own_weight weight lines t = sum_by weight (calls_in t lines)

-- and of its plan: its lines and one End
plan-weight : (weight : Call → ℕ) (lines : List Line) (t : ℕ) → sum_by weight (plan_of lines t) ≡ own_weight weight lines t + weight End
plan-weight weight lines t = omega (arith, sum_by-append weight (calls_in t lines) (End ∷ []), sum_by-cons weight End [])

-- a line more weighs on its mutator
line-own : (weight : Call → ℕ) (line : Line) (lines : List Line) (t : ℕ) → line.mutator ≡ t
    → own_weight weight (line ∷ lines) t ≡ weight line.call + own_weight weight lines t
line-own weight line lines t own =
    ap (λ b. sum_by weight (map (λ (each : Line). each.call) (cond b (line ∷ filter (is_line_of t) lines) (filter (is_line_of t) lines))))
    (eq-eqb line.mutator t own)
    ∙ sum_by-cons weight line.call (calls_in t lines)

-- and on no other
line-other : (weight : Call → ℕ) (line : Line) (lines : List Line) (t : ℕ) → line.mutator ≢ t
    → own_weight weight (line ∷ lines) t ≡ own_weight weight lines t
line-other weight line lines t other =
    ap (λ b. sum_by weight (map (λ (each : Line). each.call) (cond b (line ∷ filter (is_line_of t) lines) (filter (is_line_of t) lines))))
    (ne_eqb line.mutator t other)

-- the lines weigh as much by mutators as they do in their order
pub lines-weight : (weight : Call → ℕ) (types : List Shape) (mutators : ℕ) (lines : List Line) → AreFit types mutators lines
    → sum_below (own_weight weight lines) mutators ≡ sum_by (λ line. weight line.call) lines
lines-weight weight types mutators [] fit = nothing mutators
  where
    nothing : (count : ℕ) → sum_below (own_weight weight []) count ≡ 0
    nothing zero = refl
    nothing (suc count) = omega (arith, nothing count)
lines-weight weight types mutators (line ∷ lines) fit =
    let own = All-head (λ (each : Line). IsFit types mutators each.mutator each.call) line lines fit in
    let rest = lines-weight weight types mutators lines
    (All-tail (λ (each : Line). IsFit types mutators each.mutator each.call) line lines fit) in
    let changed = sum_below-changed (own_weight weight lines) (own_weight weight (line ∷ lines)) mutators line.mutator own.0
    (λ u other. line-other weight line lines u (λ same. other (sym same))) in
    omega (
      arith,
      rest,
      changed,
      line-own weight line lines line.mutator refl,
      sum_by-cons (λ (each : Line). weight each.call) line lines,
    )

-- and the plans weigh one End a mutator more
pub plans-weight : (weight : Call → ℕ) (types : List Shape) (mutators : ℕ) (lines : List Line) → AreFit types mutators lines
    → sum_below (λ t. sum_by weight (plan_of lines t)) mutators ≡ sum_by (λ line. weight line.call) lines + mutators * weight End
plans-weight weight types mutators lines fit = ends mutators ∙ ap (λ n. n + mutators * weight End)
    (lines-weight weight types mutators lines fit)
  where
    ends : (count : ℕ) → sum_below (λ t. sum_by weight (plan_of lines t)) count
        ≡ sum_below (own_weight weight lines) count + count * weight End
    ends zero = omega arith
    ends (suc count) = omega (arith, ends count, plan-weight weight lines count, suc-mul count (weight End))
