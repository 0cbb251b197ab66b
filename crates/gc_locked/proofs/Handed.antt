-- The journal that is handed back: its heap stands for it, and the replies to the lines are known.
use Rattle.std.proofs.Common.{◌≡◌, ◌∙◌, ℕ, ◌<◌, ◌≤◌, List, [], ◌∷◌, All, length, sym, ap, ap₂, subst, arith}
use Rattle.std.proofs.lemmas.List.Elements.{All-cons, All-head, All-nil, All-tail}
use Rattle.gc_layout.specs.declared.shape.Shape.{Shape}
use Rattle.gc_model.specs.declared.call.Line.{Line}
use Rattle.gc_model.specs.declared.reply.Reply.{Reply}
use Rattle.gc_model.specs.Answer.{IsFit}
use Rattle.gc_solo.specs.Kept.{Kept}
use Rattle.gc_solo.specs.Stands.{StandsFor}
use Rattle.gc_locked.specs.declared.journal.Journal.TheInside.{Inside}
use Rattle.gc_locked.specs.declared.setup.Setup.{Setup}
use Rattle.gc_locked.specs.Guarded.{GuardedHeap, StandsForItsJournal}
use Rattle.gc_locked.specs.Journal.{IsJournal}
use Rattle.gc_locked.specs.Locked.{AreFit}
use Rattle.gc_locked.specs.Order.{IsKept, journal_of}
use Rattle.gc_locked.specs.Setup.{heap_of, lines_of, mutators_of}
use Rattle.gc_locked.proofs.Order.{replies-all}

-- a heap that stands for the journal that is kept of these lines
pub record IsHandedBack (heap : Kept) (lines : List Line) (replies : List Reply) (order : List ℕ) : Type 0 where
  pub stands : StandsFor heap (journal_of lines replies heap.reports order)
  pub kept : IsKept heap.layout.mutators lines replies heap.reports order
  pub few_mutators : heap.layout.mutators < 256
  pub few_lines : length lines ≤ 16777216
  pub mutators : All (λ line. line.mutator < heap.layout.mutators) lines

-- each line's mutator is one
lines-mutators : (types : List Shape) (mutators : ℕ) (lines : List Line) → AreFit types mutators lines
    → All (λ line. line.mutator < mutators) lines
lines-mutators types mutators [] fit = All-nil (λ (line : Line). line.mutator < mutators)
lines-mutators types mutators (line ∷ lines) fit =
    All-cons (λ (each : Line). each.mutator < mutators) line lines
    (All-head (λ (each : Line). IsFit types mutators each.mutator each.call) line lines fit).0
    (lines-mutators types mutators lines (All-tail (λ (each : Line). IsFit types mutators each.mutator each.call) line lines fit))

-- it was found under the lock
pub handed-back : (guarded : GuardedHeap) (key : Setup) (heap : Kept) (lines : List Line) (replies : List Reply) (order : List ℕ)
    → guarded.setup ≡ key → AreFit (heap_of key).types (mutators_of key) (lines_of key) → StandsForItsJournal guarded
    → heap ≡ guarded.heap → lines ≡ lines_of key → mutators_of guarded.setup < 256 → length (lines_of key) ≤ 16777216
    → IsKept (mutators_of guarded.setup) (lines_of guarded.setup) replies guarded.heap.reports order
    → journal_of (lines_of guarded.setup) replies guarded.heap.reports order ≡ guarded.journal
    → IsHandedBack heap lines replies order
handed-back guarded key heap lines replies order setup_is fit stands heap_is lines_are few few_lines kept journal_is =
    let setup = guarded.setup in
    let mutators : mutators_of setup ≡ guarded.heap.layout.mutators = ap (λ layout. layout.mutators) (sym stands.same.layout) in
    let own : IsHandedBack guarded.heap (lines_of setup) replies order = record {
      stands = subst (StandsFor guarded.heap) (sym journal_is) stands.stands;
      kept = subst (λ (n : ℕ). IsKept n (lines_of setup) replies guarded.heap.reports order) mutators kept;
      few_mutators = omega (arith, few, mutators);
      few_lines = subst (λ (each : Setup). length (lines_of each) ≤ 16777216) (sym setup_is) few_lines;
      mutators = subst (λ (n : ℕ). All (λ line. line.mutator < n) (lines_of setup)) mutators
          (lines-mutators (heap_of setup).types (mutators_of setup) (lines_of setup)
          (subst (λ (each : Setup). AreFit (heap_of each).types (mutators_of each) (lines_of each)) (sym setup_is) fit));
    } in
    subst (λ (each : Kept). IsHandedBack each lines replies order) (sym heap_is)
    (subst (λ (each : List Line). IsHandedBack guarded.heap each replies order) (ap lines_of setup_is ∙ sym lines_are) own)

-- and its entries are the journal's
pub handed-entries : (guarded : GuardedHeap) (key : Setup) (heap : Kept) (lines : List Line) (replies : List Reply) (order : List ℕ)
    → guarded.setup ≡ key → heap ≡ guarded.heap → lines ≡ lines_of key
    → journal_of (lines_of guarded.setup) replies guarded.heap.reports order ≡ guarded.journal
    → journal_of lines replies heap.reports order ≡ guarded.journal
handed-entries guarded key heap lines replies order setup_is heap_is lines_are journal_is =
    ap₂ (λ (all : List Line) (each : Kept). journal_of all replies each.reports order) (lines_are ∙ ap lines_of (sym setup_is)) heap_is
    ∙ journal_is

-- so it is a journal
pub handed-journal : (inside : Inside) → IsHandedBack inside.solo inside.lines.items inside.replies.items inside.order.items
    → IsJournal inside
handed-journal inside handed = record {
  stands = handed.stands;
  kept = handed.kept;
  few_mutators = handed.few_mutators;
  few_lines = handed.few_lines;
  answered = λ fits. replies-all inside.solo.layout.mutators inside.lines.items inside.replies.items inside.solo.reports
      inside.order.items handed.kept handed.mutators fits.calls;
}
