-- How a journal is kept by places: what it has of each mutator, how it grows by a call, and the replies to the lines.
use Rattle.std.proofs.Common.{◌≡◌, ◌≢◌, ◌∙◌, ℕ, zero, suc, ◌+◌, ◌-◌, ◌<◌, ◌≤◌, ◌==◌, Bool, true, false, cond, if◌then◌else◌, List, [], ◌∷◌, ◌++◌, All, Option, None, Some, append_assoc, drop, filter, length, length-append, map, set, slice_get, slice_index_or, take, refl, sym, ap, ap₂, subst, arith, eq-eqb, eqb-true, ne_eqb}
use Rattle.std.specs.List.{cons_option, range_with_len}
use Rattle.std.proofs.Math.Seq.{get_or-append_seam}
use Rattle.std.proofs.lemmas.Bool.{true≢false}
use Rattle.std.proofs.lemmas.List.{append-nil, get_or_append_left, length-map, length-set, map-append, take_all}
use Rattle.std.proofs.lemmas.List.Elements.{All-append, All-cons, All-head, All-nil, All-tail, filter-append}
use Rattle.std.proofs.lemmas.Option.{get_or_from_slice_get, slice_get-get_or, slice_get_past}
use Rattle.gc_model.specs.declared.call.Call.{Call}
use Rattle.gc_model.specs.declared.call.Line.{Line}
use Rattle.gc_model.specs.declared.entry.Entry.{Entry}
use Rattle.gc_model.specs.declared.entry.Entry.TheVariants.{Made, Run}
use Rattle.gc_model.specs.declared.entry.RunReport.{RunReport}
use Rattle.gc_model.specs.declared.entry.RunReport.TheVariants.{Minor}
use Rattle.gc_model.specs.declared.reply.Reply.{Reply}
use Rattle.gc_model.specs.declared.reply.Reply.TheVariants.{Done}
use Rattle.gc_model.specs.History.{History, calls_of, is_line_of, own_call, own_reply, replies_by_line, replies_to}
use Rattle.gc_locked.specs.Guarded.{entries_of}
use Rattle.gc_locked.specs.Order.{IsKept, entry_at, journal_of, made_or_run, own_order}
use Rattle.gc_locked.specs.Setup.{call_at, count_of, mutator_at, places_in, places_of, plan_of}
use Rattle.gc_locked.proofs.Lists.{drop-next, take-next}
use Rattle.gc_locked.proofs.Places.{mutator_at-behind, place-few, place-own, places-below, places-plan, places_in-append, places_in-count}

-- ---- elements that are read

-- where none is read, the list has ended
none-past : {X : Type 0} (xs : List X) (i : ℕ) → slice_get xs i ≡ None → length xs ≤ i
none-past [] i none = omega arith
none-past (x ∷ xs) zero none = cc
none-past (x ∷ xs) (suc i) none = omega (arith, none-past xs i none)

-- an element that was written
written-here : {X : Type 0} (xs : List X) (i : ℕ) (x : X) → i < length xs → slice_get (set xs i x) i ≡ Some x
written-here [] i x within = absurd (omega (arith, within))
written-here (y ∷ xs) zero x within = refl
written-here (y ∷ xs) (suc i) x within = written-here xs i x (omega (arith, within))

-- and another
written-other : {X : Type 0} (xs : List X) (i j : ℕ) (x : X) → j ≢ i → slice_get (set xs i x) j ≡ slice_get xs j
written-other [] i j x other = refl
written-other (y ∷ xs) zero zero x other = absurd (other refl)
written-other (y ∷ xs) zero (suc j) x other = refl
written-other (y ∷ xs) (suc i) zero x other = refl
written-other (y ∷ xs) (suc i) (suc j) x other = written-other xs i j x (λ same. other (ap suc same))

-- ---- of each mutator

-- behind the places of all calls stands no mutator's
behind-calls : (mutators t : ℕ) (lines : List Line) (replies : List Reply) (place : ℕ) → length replies ≡ length lines + mutators
    → t < mutators → slice_get replies place ≡ None → mutator_at lines place ≢ t
behind-calls mutators t lines replies place places there none same =
    let past = none-past replies place none in
    let at = mutator_at-behind lines place (omega (arith, past, places)) in
    omega (arith, past, places, there, at, same)

-- a mutator's calls are those at its places
pub calls-kept : (mutators t : ℕ) (lines : List Line) (replies : List Reply) (reports : List RunReport) (order : List ℕ)
    → length replies ≡ length lines + mutators → t < mutators
    → calls_of t (journal_of lines replies reports order) ≡ map (call_at lines) (own_order lines t order)
calls-kept mutators t lines replies reports [] places there = refl
calls-kept mutators t lines replies reports (place ∷ order) places there =
    by_read (slice_get replies place) refl (mutator_at lines place == t) refl
    (calls-kept mutators t lines replies reports order places there)
  where
    rest : List Call
    rest = calls_of t (journal_of lines replies reports order)

    own : List ℕ
    own = own_order lines t order

    by_read : (read : Option Reply) → slice_get replies place ≡ read → (test : Bool) → (mutator_at lines place == t) ≡ test
        → rest ≡ map (call_at lines) own
        → cons_option (own_call t (made_or_run read (mutator_at lines place) (call_at lines place)
        (slice_index_or reports (place - length replies) Minor))) rest
        ≡ map (call_at lines) (cond test (place ∷ own) own)
    by_read (Some reply) is true mine same =
        ap (λ (b : Bool). cons_option (if b then Some (call_at lines place) else None) rest) mine
        ∙ ap (λ (calls : List Call). call_at lines place ∷ calls) same
    by_read (Some reply) is false mine same =
        ap (λ (b : Bool). cons_option (if b then Some (call_at lines place) else None) rest) mine ∙ same
    by_read None is true mine same =
        absurd (behind-calls mutators t lines replies place places there is (eqb-true (mutator_at lines place) t mine))
    by_read None is false mine same = same

-- and the replies to them
replies-kept : (mutators t : ℕ) (lines : List Line) (replies : List Reply) (reports : List RunReport) (order : List ℕ)
    → length replies ≡ length lines + mutators → t < mutators
    → replies_to t (journal_of lines replies reports order) ≡ map (λ place. slice_index_or replies place Done) (own_order lines t order)
replies-kept mutators t lines replies reports [] places there = refl
replies-kept mutators t lines replies reports (place ∷ order) places there =
    by_read (slice_get replies place) refl (mutator_at lines place == t) refl
    (replies-kept mutators t lines replies reports order places there)
  where
    rest : List Reply
    rest = replies_to t (journal_of lines replies reports order)

    own : List ℕ
    own = own_order lines t order

    at : ℕ → Reply
    at each = slice_index_or replies each Done

    by_read : (read : Option Reply) → slice_get replies place ≡ read → (test : Bool) → (mutator_at lines place == t) ≡ test
        → rest ≡ map at own
        → cons_option (own_reply t (made_or_run read (mutator_at lines place) (call_at lines place)
        (slice_index_or reports (place - length replies) Minor))) rest
        ≡ map at (cond test (place ∷ own) own)
    by_read (Some reply) is true mine same =
        ap (λ (b : Bool). cons_option (if b then Some reply else None) rest) mine
        ∙ ap₂ (λ (first : Reply) (others : List Reply). first ∷ others)
        (sym (get_or_from_slice_get replies place reply Done is)) same
    by_read (Some reply) is false mine same =
        ap (λ (b : Bool). cons_option (if b then Some reply else None) rest) mine ∙ same
    by_read None is true mine same =
        absurd (behind-calls mutators t lines replies place places there is (eqb-true (mutator_at lines place) t mine))
    by_read None is false mine same = same

-- it has as many calls as places in the order
pub count-kept : (mutators t : ℕ) (lines : List Line) (replies : List Reply) (reports : List RunReport) (order : List ℕ)
    → length replies ≡ length lines + mutators → t < mutators
    → count_of t (journal_of lines replies reports order) ≡ length (own_order lines t order)
count-kept mutators t lines replies reports order places there =
    ap length (calls-kept mutators t lines replies reports order places there) ∙ length-map (own_order lines t order) (call_at lines)

-- ---- before a call

-- the places of no call that was made
pub kept-first : (mutators : ℕ) (lines : List Line) (replies : List Reply) (reports : List RunReport)
    → length replies ≡ length lines + mutators → IsKept mutators lines replies reports []
kept-first mutators lines replies reports places = record {
  places = places;
  there = All-nil (λ place. place < length replies + length reports);
  firsts = λ t there. refl;
}

-- ---- one call more

-- the place of a call that wasn't made isn't in the order
fresh : (lines : List Line) (t place : ℕ) (order : List ℕ) → mutator_at lines place ≡ t
    → All (λ each. each < place) (own_order lines t order) → All (λ each. each ≢ place) order
fresh lines t place [] is below = All-nil (λ each. each ≢ place)
fresh lines t place (first ∷ order) is below = by_test (mutator_at lines first == t) refl below (fresh lines t place order is)
  where
    own : List ℕ
    own = own_order lines t order

    by_test : (test : Bool) → (mutator_at lines first == t) ≡ test → All (λ each. each < place) (cond test (first ∷ own) own)
        → (All (λ each. each < place) own → All (λ each. each ≢ place) order) → All (λ each. each ≢ place) (first ∷ order)
    by_test true mine all later =
        let less = All-head (λ each. each < place) first own all in
        All-cons (λ each. each ≢ place) first order (λ same. omega (arith, less, same))
        (later (All-tail (λ each. each < place) first own all))
    by_test false mine all later =
        All-cons (λ each. each ≢ place) first order
        (λ same. true≢false (sym (eq-eqb (mutator_at lines first) t (ap (mutator_at lines) same ∙ is)) ∙ mine)) (later all)

-- what the other places stand for is as before
entry-same : (lines : List Line) (replies : List Reply) (reports runs : List RunReport) (place : ℕ) (reply : Reply) (each : ℕ)
    → each ≢ place → each < length replies + length reports
    → entry_at lines (set replies place reply) (reports ++ runs) each ≡ entry_at lines replies reports each
entry-same lines replies reports runs place reply each other within =
    ap₂ (λ (read : Option Reply) (count : ℕ). made_or_run read (mutator_at lines each) (call_at lines each)
    (slice_index_or (reports ++ runs) (each - count) Minor)) (written-other replies place each reply other) (length-set replies place reply)
    ∙ by_read (slice_get replies each) refl
  where
    by_read : (read : Option Reply) → slice_get replies each ≡ read
        → made_or_run read (mutator_at lines each) (call_at lines each) (slice_index_or (reports ++ runs) (each - length replies) Minor)
        ≡ made_or_run read (mutator_at lines each) (call_at lines each) (slice_index_or reports (each - length replies) Minor)
    by_read (Some found) is = refl
    by_read None is =
        let past = none-past replies each is in
        ap Run (get_or_append_left reports runs Minor (each - length replies) (omega (arith, within, past)))

entries-same : (lines : List Line) (replies : List Reply) (reports runs : List RunReport) (place : ℕ) (reply : Reply) (order : List ℕ)
    → All (λ each. each ≢ place) order → All (λ each. each < length replies + length reports) order
    → journal_of lines (set replies place reply) (reports ++ runs) order ≡ journal_of lines replies reports order
entries-same lines replies reports runs place reply [] others within = refl
entries-same lines replies reports runs place reply (each ∷ order) others within =
    ap₂ (λ (entry : Entry) (entries : History). entry ∷ entries)
    (entry-same lines replies reports runs place reply each (All-head (λ n. n ≢ place) each order others)
    (All-head (λ n. n < length replies + length reports) each order within))
    (entries-same lines replies reports runs place reply order (All-tail (λ n. n ≢ place) each order others)
    (All-tail (λ n. n < length replies + length reports) each order within))

-- the places of further reports stand for their collections
entries-runs : (lines : List Line) (replies : List Reply) (front runs : List RunReport)
    → journal_of lines replies (front ++ runs) (range_with_len (length replies + length front) (length runs)) ≡ map Run runs
entries-runs lines replies front [] = refl
entries-runs lines replies front (run ∷ runs) =
    ap₂ (λ (entry : Entry) (entries : History). entry ∷ entries) here
    (subst (λ (n : ℕ). journal_of lines replies (front ++ run ∷ runs) (range_with_len n (length runs)) ≡ map Run runs) next
    (rw (append_assoc front (run ∷ []) runs) at (entries-runs lines replies (front ++ run ∷ []) runs)))
  where
    next : length replies + length (front ++ run ∷ []) ≡ length replies + length front + 1
    next = omega (arith, length-append front (run ∷ []))

    at : ℕ
    at = length replies + length front

    here : entry_at lines replies (front ++ run ∷ runs) at ≡ Run run
    here =
        ap (λ (read : Option Reply). made_or_run read (mutator_at lines at) (call_at lines at)
        (slice_index_or (front ++ run ∷ runs) (at - length replies) Minor)) (slice_get_past replies at (omega arith))
        ∙ ap (λ (n : ℕ). Run (slice_index_or (front ++ run ∷ runs) n Minor)) (omega arith)
        ∙ ap Run (get_or-append_seam front run runs Minor)

-- the order with a call's place, behind those of the reports that it brought
abbrev pub order_with : List ℕ → ℕ → ℕ → ℕ → List ℕ
order_with order first count place = (order ++ range_with_len first count) ++ place ∷ []

-- the journal has the entries of the call more
pub journal-more : (mutators t place : ℕ) (lines : List Line) (replies : List Reply) (reports runs : List RunReport) (order : List ℕ)
    (reply : Reply) → IsKept mutators lines replies reports order → t < mutators
    → slice_get (places_of lines t) (count_of t (journal_of lines replies reports order)) ≡ Some place
    → journal_of lines (set replies place reply) (reports ++ runs) (order_with order (length replies + length reports) (length runs) place)
    ≡ journal_of lines replies reports order ++ entries_of runs t (call_at lines place) reply
journal-more mutators t place lines replies reports runs order reply kept there next =
    map-append entry (order ++ range_with_len first (length runs)) (place ∷ [])
    ∙ ap (λ (front : History). front ++ entry place ∷ [])
    (map-append entry order (range_with_len first (length runs))
    ∙ ap₂ (λ (front back : History). front ++ back) before
    (rw (length-set replies place reply) at (entries-runs lines (set replies place reply) reports runs)))
    ∙ append_assoc (journal_of lines replies reports order) (map Run runs) (entry place ∷ [])
    ∙ ap (λ (last : Entry). journal_of lines replies reports order ++ (map Run runs ++ last ∷ [])) here
  where
    first : ℕ
    first = length replies + length reports

    entry : ℕ → Entry
    entry each = entry_at lines (set replies place reply) (reports ++ runs) each

    own : mutator_at lines place ≡ t
    own = place-own lines t (count_of t (journal_of lines replies reports order)) place next

    few : place < length replies
    few = omega (arith, kept.places, there, place-few lines t (count_of t (journal_of lines replies reports order)) place next)

    below : All (λ each. each < place) (own_order lines t order)
    below =
        subst (All (λ each. each < place)) (sym (kept.firsts t there))
        (subst (λ (n : ℕ). All (λ each. each < place) (take n (places_of lines t)))
        (count-kept mutators t lines replies reports order kept.places there)
        (places-below lines t (count_of t (journal_of lines replies reports order)) place next))

    before : map entry order ≡ journal_of lines replies reports order
    before = entries-same lines replies reports runs place reply order (fresh lines t place order own below) kept.there

    here : entry place ≡ Made t (call_at lines place) reply
    here =
        ap₂ (λ (read : Option Reply) (mutator : ℕ). made_or_run read mutator (call_at lines place)
        (slice_index_or (reports ++ runs) (place - length (set replies place reply)) Minor)) (written-here replies place reply few) own

-- the places of reports are no mutator's
none-own : (mutators u first count : ℕ) (lines : List Line) → u < mutators → length lines + mutators ≤ first
    → own_order lines u (range_with_len first count) ≡ []
none-own mutators u first zero lines there past = refl
none-own mutators u first (suc count) lines there past =
    let at = mutator_at-behind lines first (omega (arith, past)) in
    let rest = own_order lines u (range_with_len (first + 1) count) in
    ap (λ (b : Bool). cond b (first ∷ rest) rest) (ne_eqb (mutator_at lines first) u (λ same. omega (arith, at, same, there, past)))
    ∙ none-own mutators u (first + 1) count lines there (omega (arith, past))

-- so of each mutator the order has no more than the call's place
own-more : (mutators u place first count : ℕ) (lines : List Line) (order : List ℕ) → u < mutators → length lines + mutators ≤ first
    → own_order lines u (order_with order first count place) ≡ own_order lines u order ++ own_order lines u (place ∷ [])
own-more mutators u place first count lines order there past =
    let own : ℕ → Bool = λ each. mutator_at lines each == u in
    filter-append own (order ++ range_with_len first count) (place ∷ [])
    ∙ ap (λ (front : List ℕ). front ++ own_order lines u (place ∷ []))
    (filter-append own order (range_with_len first count)
    ∙ ap (λ (back : List ℕ). own_order lines u order ++ back) (none-own mutators u first count lines there past)
    ∙ append-nil (own_order lines u order))

-- places from one on are below the last
below-last : (first count last : ℕ) → first + count ≤ last → All (λ each. each < last) (range_with_len first count)
below-last first zero last few = All-nil (λ each. each < last)
below-last first (suc count) last few =
    All-cons (λ each. each < last) first (range_with_len (first + 1) count) (omega (arith, few))
    (below-last (first + 1) count last (omega (arith, few)))

-- what is below a number is below a greater one
below-more : (few many : ℕ) (order : List ℕ) → few ≤ many → All (λ each. each < few) order → All (λ each. each < many) order
below-more few many [] less all = All-nil (λ each. each < many)
below-more few many (place ∷ order) less all =
    let first = All-head (λ each. each < few) place order all in
    All-cons (λ each. each < many) place order (omega (arith, first, less))
    (below-more few many order less (All-tail (λ each. each < few) place order all))

-- and it is kept as before
pub kept-more : (mutators t place : ℕ) (lines : List Line) (replies : List Reply) (reports runs : List RunReport) (order : List ℕ)
    (reply : Reply) → IsKept mutators lines replies reports order → t < mutators
    → slice_get (places_of lines t) (count_of t (journal_of lines replies reports order)) ≡ Some place
    → IsKept mutators lines (set replies place reply) (reports ++ runs)
    (order_with order (length replies + length reports) (length runs) place)
kept-more mutators t place lines replies reports runs order reply kept there next =
    record {
      places = length-set replies place reply ∙ kept.places;
      there =
          All-append (λ each. each < all) (order ++ range_with_len first (length runs)) (place ∷ [])
          (All-append (λ each. each < all) order (range_with_len first (length runs))
          (below-more first all order (omega (arith, count)) kept.there) (below-last first (length runs) all (omega (arith, count))))
          (All-cons (λ each. each < all) place [] (omega (arith, count, few)) (All-nil (λ each. each < all)));
      firsts = λ u below. by_test u below (t == u) refl;
    }
  where
    first : ℕ
    first = length replies + length reports

    all : ℕ
    all = length (set replies place reply) + length (reports ++ runs)

    made : ℕ
    made = count_of t (journal_of lines replies reports order)

    count : all ≡ first + length runs
    count = omega (arith, length-set replies place reply, length-append reports runs)

    few : place < length replies
    few = omega (arith, kept.places, there, place-few lines t made place next)

    new : List ℕ
    new = order_with order first (length runs) place

    own : mutator_at lines place ≡ t
    own = place-own lines t made place next

    past : length lines + mutators ≤ first
    past = omega (arith, kept.places)

    mine : own_order lines t new ≡ take (length (own_order lines t new)) (places_of lines t)
    mine =
        let so_far = own_order lines t order in
        let counted = count-kept mutators t lines replies reports order kept.places there in
        let grown : own_order lines t new ≡ so_far ++ place ∷ [] =
        own-more mutators t place first (length runs) lines order there past
        ∙ ap (λ (b : Bool). so_far ++ cond b (place ∷ []) []) (eq-eqb (mutator_at lines place) t own) in
        let behind : slice_get (places_of lines t) (length so_far) ≡ Some place =
        subst (λ (n : ℕ). slice_get (places_of lines t) n ≡ Some place) counted next in
        let more : length (own_order lines t new) ≡ suc (length so_far) =
        ap length grown ∙ length-append so_far (place ∷ []) ∙ omega arith in
        grown ∙ ap (λ (front : List ℕ). front ++ place ∷ []) (kept.firsts t there)
        ∙ sym (take-next (places_of lines t) (length so_far) place behind)
        ∙ ap (λ (n : ℕ). take n (places_of lines t)) (sym more)

    by_test : (u : ℕ) → u < mutators → (test : Bool) → (t == u) ≡ test
        → own_order lines u new ≡ take (length (own_order lines u new)) (places_of lines u)
    by_test u below true is =
        subst (λ (n : ℕ). own_order lines n new ≡ take (length (own_order lines n new)) (places_of lines n)) (eqb-true t u is) mine
    by_test u below false is =
        let so_far = own_order lines u order in
        let same : own_order lines u new ≡ so_far =
        own-more mutators u place first (length runs) lines order below past
        ∙ ap (λ (n : ℕ). so_far ++ cond (n == u) (place ∷ []) []) own
        ∙ ap (λ (b : Bool). so_far ++ cond b (place ∷ []) []) is ∙ append-nil so_far in
        same ∙ kept.firsts u below ∙ ap (λ (n : ℕ). take n (places_of lines u)) (sym (ap length same))

-- ---- the replies to the lines

-- where a mutator made all its calls, all its places are in the order
all-own : (mutators t : ℕ) (lines : List Line) (replies : List Reply) (reports : List RunReport) (order : List ℕ)
    → IsKept mutators lines replies reports order → t < mutators → calls_of t (journal_of lines replies reports order) ≡ plan_of lines t
    → own_order lines t order ≡ places_of lines t
all-own mutators t lines replies reports order kept there made =
    let count : length (own_order lines t order) ≡ length (places_of lines t) =
    sym (count-kept mutators t lines replies reports order kept.places there)
    ∙ ap length (made ∙ sym (places-plan lines t)) ∙ length-map (places_of lines t) (call_at lines) in
    kept.firsts t there ∙ take_all (length (own_order lines t order)) (places_of lines t) (omega (arith, count))

-- the reply to the next line is the one at its place
reply-next : (mutators : ℕ) (before : List Line) (line : Line) (lines : List Line) (replies : List Reply) (reports : List RunReport)
    (order : List ℕ) → IsKept mutators (before ++ line ∷ lines) replies reports order → line.mutator < mutators
    → calls_of line.mutator (journal_of (before ++ line ∷ lines) replies reports order) ≡ plan_of (before ++ line ∷ lines) line.mutator
    → slice_index_or (replies_to line.mutator (journal_of (before ++ line ∷ lines) replies reports order))
    (length (filter (is_line_of line.mutator) before)) Done
    ≡ slice_index_or replies (length before) Done
reply-next mutators before line lines replies reports order kept there made =
    ap₂ (λ (own : List Reply) (n : ℕ). slice_index_or own n Done)
    (replies-kept mutators t all replies reports order kept.places there
    ∙ ap (map at) (all-own mutators t all replies reports order kept there made ∙ split)
    ∙ map-append at front (length before ∷ back))
    (sym (places_in-count t 0 before) ∙ sym (length-map front at))
    ∙ get_or-append_seam (map at front) (at (length before)) (map at back) Done
  where
    t : ℕ
    t = line.mutator

    all : List Line
    all = before ++ line ∷ lines

    at : ℕ → Reply
    at place = slice_index_or replies place Done

    front : List ℕ
    front = places_in t 0 before

    back : List ℕ
    back = places_in t (suc (length before)) lines ++ (length all + t) ∷ []

    first : 0 + length before ≡ length before
    first = omega arith

    split : places_of all t ≡ front ++ length before ∷ back
    split =
        ap (λ (places : List ℕ). places ++ (length all + t) ∷ [])
        (places_in-append t 0 before (line ∷ lines)
        ∙ ap (λ (n : ℕ). front ++ places_in t n (line ∷ lines)) first
        ∙ ap (λ (b : Bool). front ++ (if b then length before ∷ places_in t (suc (length before)) lines
        else places_in t (suc (length before)) lines)) (eq-eqb t t refl))
        ∙ append_assoc front (length before ∷ places_in t (suc (length before)) lines) ((length all + t) ∷ [])

replies-behind : (mutators : ℕ) (before lines : List Line) (replies : List Reply) (reports : List RunReport) (order : List ℕ)
    → IsKept mutators (before ++ lines) replies reports order → All (λ line. line.mutator < mutators) lines
    → ((t : ℕ) → t < mutators → calls_of t (journal_of (before ++ lines) replies reports order) ≡ plan_of (before ++ lines) t)
    → replies_by_line (journal_of (before ++ lines) replies reports order) before lines ≡ take (length lines) (drop (length before) replies)
replies-behind mutators before [] replies reports order kept fit made = refl
replies-behind mutators before (line ∷ lines) replies reports order kept fit made =
    let own = All-head (λ (each : Line). each.mutator < mutators) line lines fit in
    let same : before ++ line ∷ lines ≡ (before ++ line ∷ []) ++ lines = sym (append_assoc before (line ∷ []) lines) in
    let rest = replies-behind mutators (before ++ line ∷ []) lines replies reports order
    (subst (λ (all : List Line). IsKept mutators all replies reports order) same kept)
    (All-tail (λ (each : Line). each.mutator < mutators) line lines fit)
    (subst (λ (all : List Line). (t : ℕ) → t < mutators → calls_of t (journal_of all replies reports order) ≡ plan_of all t) same made) in
    let within : length before < length replies =
    omega (arith, kept.places, length-append before (line ∷ lines)) in
    let first = slice_get-get_or replies (length before) Done within in
    let next : length (before ++ line ∷ []) ≡ suc (length before) = length-append before (line ∷ []) ∙ omega arith in
    ap₂ (λ (reply : Reply) (others : List Reply). reply ∷ others)
    (reply-next mutators before line lines replies reports order kept own (made line.mutator own))
    (rw (append_assoc before (line ∷ []) lines) at rest ∙ ap (λ (n : ℕ). take (length lines) (drop n replies)) next)
    ∙ sym (ap (take (suc (length lines))) (drop-next replies (length before) (slice_index_or replies (length before) Done) first))

-- where all lines were made, the replies to them stand at their places
pub replies-all : (mutators : ℕ) (lines : List Line) (replies : List Reply) (reports : List RunReport) (order : List ℕ)
    → IsKept mutators lines replies reports order → All (λ line. line.mutator < mutators) lines
    → ((t : ℕ) → t < mutators → calls_of t (journal_of lines replies reports order) ≡ plan_of lines t)
    → take (length lines) replies ≡ replies_by_line (journal_of lines replies reports order) [] lines
replies-all mutators lines replies reports order kept fit made =
    sym (replies-behind mutators [] lines replies reports order kept fit made)

-- ---- the places of reports

-- one place more
range-push : (first count place : ℕ) → first + count ≡ place → range_with_len first (suc count) ≡ range_with_len first count ++ place ∷ []
range-push first zero place is = ap (λ (n : ℕ). n ∷ []) (omega (arith, is))
range-push first (suc count) place is =
    ap (λ (places : List ℕ). first ∷ places) (range-push (first + 1) count place (omega (arith, is)))

pub range-next : (order : List ℕ) (first place : ℕ) → first ≤ place
    → (order ++ range_with_len first (place - first)) ++ place ∷ [] ≡ order ++ range_with_len first (place + 1 - first)
range-next order first place above =
    let count : suc (place - first) ≡ place + 1 - first = omega (arith, above) in
    append_assoc order (range_with_len first (place - first)) (place ∷ [])
    ∙ ap (λ (back : List ℕ). order ++ back)
    (sym (range-push first (place - first) place (omega (arith, above))) ∙ ap (range_with_len first) count)

-- the order grows by the places of the reports that a call brought, and by its own
pub order-grown : (order more items : List ℕ) (replies : List Reply) (old new runs seen_old seen_new : List RunReport)
    (count_old count_new place : ℕ) → new ≡ old ++ runs → count_old ≡ length replies → count_new ≡ length replies → seen_old ≡ old
    → seen_new ≡ new
    → more ≡ order ++ range_with_len (count_old + length seen_old) (count_new + length seen_new - (count_old + length seen_old))
    → items ≡ more ++ place ∷ [] → items ≡ order_with order (length replies + length old) (length runs) place
order-grown order more items replies old new runs seen_old seen_new count_old count_new place grown one other before after appended pushed =
    let first : count_old + length seen_old ≡ length replies + length old = omega (arith, one, ap length before) in
    let count : count_new + length seen_new - (count_old + length seen_old) ≡ length runs =
    omega (arith, one, other, ap length before, ap length (after ∙ grown), length-append old runs) in
    pushed
    ∙ ap (λ (front : List ℕ). front ++ place ∷ [])
    (appended ∙ ap₂ (λ (from number : ℕ). order ++ range_with_len from number) first count)
