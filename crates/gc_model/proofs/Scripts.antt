-- A history whose calls are a script's lines in their order and then the End of each mutator: it fits the script, and its
-- replies stand in the order of the lines.
use Rattle.std.proofs.Common.{◌≡◌, ◌∙◌, ◌≢◌, ℕ, zero, suc, ◌+◌, ◌<◌, ◌≤◌, ◌==◌, Bool, true, false, None, Some, List, [], ◌∷◌, ◌++◌, All, if◌then◌else◌, cond, length, length-append, map, filter, sum_by, take, append_assoc, slice_index_or, inl, inr, refl, ap, ap₂, sym, arith, eq-eqb, ne_eqb}
use Rattle.std.proofs.Math.Seq.{get_or-append_seam}
use Rattle.std.proofs.lemmas.Bool.{cases_eq, cond-true, cond-false}
use Rattle.std.proofs.lemmas.List.{append-nil, map-append, take_all}
use Rattle.std.proofs.lemmas.List.Elements.{All-nil, All-push, filter-append, filter_map-append}
use Rattle.std.specs.List.{cons_option}
use Rattle.gc_layout.specs.declared.shape.Shape.{Shape}
use Rattle.gc_model.specs.declared.call.Call.{Call}
use Rattle.gc_model.specs.declared.call.Call.TheVariants.{End}
use Rattle.gc_model.specs.declared.call.Line.{Line}
use Rattle.gc_model.specs.declared.entry.Entry.TheVariants.{Made, Run}
use Rattle.gc_model.specs.declared.entry.RunReport.{RunReport}
use Rattle.gc_model.specs.declared.reply.Reply.{Reply}
use Rattle.gc_model.specs.declared.reply.Reply.TheVariants.{Done}
use Rattle.gc_model.specs.Answer.{IsFit}
use Rattle.gc_model.specs.History.{History, FitsScript, allowance_of, calls_in, calls_of, ends_of, is_collection, is_line_of, lines_in, own_reply, replies_by_line, replies_in, replies_to}
use Rattle.gc_model.proofs.Histories.{replies_to-more}

-- there are as many replies as lines
replies-count : (history : History) → length (replies_in history) ≡ length (lines_in history)
replies-count [] = refl
replies-count (Made t call reply ∷ history) = ap suc (replies-count history)
replies-count (Run report ∷ history) = replies-count history

-- a call stands among a mutator's calls where its line stands among the mutator's lines
calls-more : (own : Bool) (line : Line) (calls : List Call) (lines : List Line) → calls ≡ map (λ each. each.call) lines
    → cons_option (if own then Some line.call else None) calls ≡ map (λ each. each.call) (if own then line ∷ lines else lines)
calls-more true line calls lines same = ap (λ rest. line.call ∷ rest) same
calls-more false line calls lines same = same

-- a mutator's calls are those of its lines
pub calls_of-lines : (t : ℕ) (history : History) → calls_of t history ≡ calls_in t (lines_in history)
calls_of-lines t [] = refl
calls_of-lines t (Made mutator call reply ∷ history) =
    calls-more (mutator == t) (record { mutator = mutator; call = call }) (calls_of t history)
    (filter (is_line_of t) (lines_in history)) (calls_of-lines t history)
calls_of-lines t (Run report ∷ history) = calls_of-lines t history

-- the calls of a mutator's lines, of lines and more lines
pub calls_in-append : (t : ℕ) (lines more : List Line) → calls_in t (lines ++ more) ≡ calls_in t lines ++ calls_in t more
calls_in-append t lines more =
    ap (map (λ (line : Line). line.call)) (filter-append (is_line_of t) lines more)
    ∙ map-append (λ (line : Line). line.call) (filter (is_line_of t) lines) (filter (is_line_of t) more)

-- the End of a mutator
abbrev end_of : ℕ → Line
end_of t = record { mutator = t; call = End }

-- it is the mutator's own
end-own : (t mutator : ℕ) → mutator ≡ t → calls_in t (end_of mutator ∷ []) ≡ End ∷ []
end-own t mutator same =
    ap (map (λ (line : Line). line.call)) (cond-true (mutator == t) (end_of mutator ∷ []) [] (eq-eqb mutator t same))

-- it is no other mutator's
end-other : (t mutator : ℕ) → mutator ≢ t → calls_in t (end_of mutator ∷ []) ≡ []
end-other t mutator other =
    ap (map (λ (line : Line). line.call)) (cond-false (mutator == t) (end_of mutator ∷ []) [] (ne_eqb mutator t other))

-- one more End, behind others
ends-more : (t mutators : ℕ) (front back : List Call) → calls_in t (ends_of mutators) ≡ front → calls_in t (end_of mutators ∷ []) ≡ back
    → calls_in t (ends_of (suc mutators)) ≡ front ++ back
ends-more t mutators front back first last =
    calls_in-append t (ends_of mutators) (end_of mutators ∷ []) ∙ ap₂ (λ (left right : List Call). left ++ right) first last

-- a mutator with a larger number has none of the Ends
ends-none : (t mutators : ℕ) → mutators ≤ t → calls_in t (ends_of mutators) ≡ []
ends-none t zero above = refl
ends-none t (suc mutators) above =
    ends-more t mutators [] [] (ends-none t mutators (omega arith)) (end-other t mutators (λ same. omega arith))

-- each mutator has one End
ends-one : (t mutators : ℕ) → t < mutators → calls_in t (ends_of mutators) ≡ End ∷ []
ends-one t zero below = absurd (omega arith)
ends-one t (suc mutators) below =
    elim (cases_eq mutators t) as (λ _. calls_in t (ends_of (suc mutators)) ≡ End ∷ []) [
      | inl same ↦ ends-more t mutators [] (End ∷ []) (ends-none t mutators (omega arith)) (end-own t mutators same)
      | inr other ↦ ends-more t mutators (End ∷ []) [] (ends-one t mutators (omega arith)) (end-other t mutators other)
    ]

-- the End of each of the first mutators is fit
ends-fit_below : (types : List Shape) (mutators count : ℕ) → count ≤ mutators
    → All (λ line. IsFit types mutators line.mutator line.call) (ends_of count)
ends-fit_below types mutators zero below = All-nil (λ line. IsFit types mutators line.mutator line.call)
ends-fit_below types mutators (suc count) below =
    All-push (λ line. IsFit types mutators line.mutator line.call) (ends_of count) _
    (ends-fit_below types mutators count (omega arith)) (omega arith, tt)

-- the End of each mutator is fit
pub ends-fit : (types : List Shape) (mutators : ℕ) → All (λ line. IsFit types mutators line.mutator line.call) (ends_of mutators)
ends-fit types mutators = ends-fit_below types mutators mutators (omega arith)

-- a mutator's reply stands at the count of its replies before it
reply-there : (done rest : History) (t : ℕ) (call : Call) (reply : Reply)
    → slice_index_or (replies_to t (done ++ Made t call reply ∷ rest)) (length (replies_to t done)) Done ≡ reply
reply-there done rest t call reply =
    let own : own_reply t (Made t call reply) ≡ Some reply = cond-true (t == t) (Some reply) None (eq-eqb t t refl) in
    let split : replies_to t (done ++ Made t call reply ∷ rest) ≡ replies_to t done ++ reply ∷ replies_to t rest =
    filter_map-append (own_reply t) done (Made t call reply ∷ rest)
    ∙ ap (λ first. replies_to t done ++ cons_option first (replies_to t rest)) own in
    ap (λ replies. slice_index_or replies (length (replies_to t done)) Done) split
    ∙ get_or-append_seam (replies_to t done) reply (replies_to t rest) Done

-- each mutator has as many replies as lines so far
abbrev AreCounted : History → List Line → Type 0
AreCounted done before = (t : ℕ) → length (replies_to t done) ≡ length (filter (is_line_of t) before)

-- a line counts where its reply does
counted-one : (own : Bool) (line : Line) (reply : Reply)
    → length (cons_option (if own then Some reply else None) []) ≡ length (cond own (line ∷ []) [])
counted-one true line reply = refl
counted-one false line reply = refl

-- so it has after one more line
counted-more : (done : History) (before : List Line) (t : ℕ) (call : Call) (reply : Reply) → AreCounted done before
    → AreCounted (done ++ Made t call reply ∷ []) (before ++ record { mutator = t; call = call } ∷ [])
counted-more done before t call reply counted other =
    let entry = Made t call reply in
    let line : Line = record { mutator = t; call = call } in
    ap length (replies_to-more other done entry) ∙ length-append (replies_to other done) (cons_option (own_reply other entry) [])
    ∙ ap₂ (λ front back. front + back) (counted other) (counted-one (t == other) line reply)
    ∙ sym (ap length (filter-append (is_line_of other) before (line ∷ []))
    ∙ length-append (filter (is_line_of other) before) (filter (is_line_of other) (line ∷ [])))

-- and after a collection
counted-run : (done : History) (before : List Line) (report : RunReport) → AreCounted done before
    → AreCounted (done ++ Run report ∷ []) before
counted-run done before report counted t =
    ap length (replies_to-more t done (Run report) ∙ append-nil (replies_to t done)) ∙ counted t

-- the replies to lines that follow those before stand in the order of the entries
replies-from : (rest done : History) (before lines more : List Line) → AreCounted done before → lines_in rest ≡ lines ++ more
    → replies_by_line (done ++ rest) before lines ≡ take (length lines) (replies_in rest)
replies-from [] done before [] more counted in_order = refl
replies-from [] done before (line ∷ lines) more counted in_order = cc
replies-from (Run report ∷ rest) done before lines more counted in_order =
    ap (λ history. replies_by_line history before lines) (sym (append_assoc done (Run report ∷ []) rest))
    ∙ replies-from rest (done ++ Run report ∷ []) before lines more (counted-run done before report counted) in_order
replies-from (Made t call reply ∷ rest) done before [] more counted in_order = refl
replies-from (Made t call reply ∷ rest) done before (line ∷ lines) more counted in_order =
    let first : Line = record { mutator = t; call = call } in
    let same : line ≡ first = cc in
    let later : lines_in rest ≡ lines ++ more = cc in
    let entry = Made t call reply in
    let here : slice_index_or (replies_to t (done ++ entry ∷ rest)) (length (filter (is_line_of t) before)) Done ≡ reply =
    ap (λ index. slice_index_or (replies_to t (done ++ entry ∷ rest)) index Done) (sym (counted t))
    ∙ reply-there done rest t call reply in
    let moved = ap (λ history. replies_by_line history (before ++ first ∷ []) lines) (sym (append_assoc done (entry ∷ []) rest)) in
    let others =
    replies-from rest (done ++ entry ∷ []) (before ++ first ∷ []) lines more (counted-more done before t call reply counted) later in
    ap (λ (each : Line). replies_by_line (done ++ entry ∷ rest) before (each ∷ lines)) same
    ∙ ap₂ (λ (reply_is : Reply) (replies : List Reply). reply_is ∷ replies) here (moved ∙ others)

-- the history fits the script where it has no more collections than the lines allow
pub fits-in_order : (mutators : ℕ) (lines : List Line) (history : History) → lines_in history ≡ lines ++ ends_of mutators
    → length (filter is_collection history) ≤ sum_by (λ line. allowance_of line.call) lines → FitsScript mutators lines history
fits-in_order mutators lines history in_order few = record {
  calls = λ t below.
      calls_of-lines t history ∙ ap (calls_in t) in_order ∙ calls_in-append t lines (ends_of mutators)
      ∙ ap (λ ends. calls_in t lines ++ ends) (ends-one t mutators below);
  collections = few;
}

-- the replies to the lines are the first ones of the history
pub replies_by_line-front : (history : History) (lines more : List Line) → lines_in history ≡ lines ++ more
    → replies_by_line history [] lines ≡ take (length lines) (replies_in history)
replies_by_line-front history lines more in_order = replies-from history [] [] lines more (λ t. refl) in_order

-- where there are no other lines they are all
pub replies_by_line-all : (history : History) (lines : List Line) → lines_in history ≡ lines
    → replies_by_line history [] lines ≡ replies_in history
replies_by_line-all history lines in_order =
    let many : length (replies_in history) ≤ length lines = omega (arith, replies-count history, ap length in_order) in
    replies_by_line-front history lines [] (in_order ∙ sym (append-nil lines)) ∙ take_all (length lines) (replies_in history) many
