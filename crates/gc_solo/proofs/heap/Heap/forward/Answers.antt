use Rattle.std.proofs.Common.{rules, ◌≡◌, ◌≢◌, ◌∙◌, true, false, sym, ap, subst, arith}
use Rattle.std.proofs.lemmas.Bool.{not-false, not-true}
use Rattle.gc_layout.specs.declared.head.Head.{Head}
use Rattle.gc_model.specs.declared.entry.RunKind.{RunKind}
use Rattle.gc_solo.specs.Collecting.{Holds, IsForwarded}
use Rattle.gc_solo.specs.Kept.{kept_of}
use Rattle.gc_solo.proofs.Collecting.{before-ends, before-header, words-few}
use Rattle.gc_solo.proofs.Forwarding.{forwarded-copy, forwarded-marked, forwarded-nothing, forwarded-now, forwarded-old, holds-object, named-to_copy, named-to_mark}
use Rattle.gc_solo.proofs.heap.Heap.forward.Goals as goal
use Rattle.gc_solo.proofs.heap.Heap.forward.Goals.{else-eq-via-then-eq+else-not-head, else-eq-via-else-eq}

pub head-head-requires-clause-header : goal.head-head-requires-clause-header
head-head-requires-clause-header c =
    let h = c.requires.collecting in
    let is = holds-object h.0 h.4 c.args.address h.7 c.if-address-eq0.false in
    (_, before-header is.number c.args.address h.6 is.at)

pub head-head-requires-clause-there : goal.head-head-requires-clause-there
head-head-requires-clause-there c =
    let h = c.requires.collecting in
    let is = holds-object h.0 h.4 c.args.address h.7 c.if-address-eq0.false in
    omega (arith, before-ends is.number c.args.address h.6 is.at)

pub returns-then-address-eq0-clause-forwarded : goal.returns-then-address-eq0-clause-forwarded
returns-then-address-eq0-clause-forwarded c start after done stage name kind_is collecting holds =
    let nothing = subst (Holds start name) c.if-address-eq0.true holds in
    subst (IsForwarded (kept_of c.args.self.now) start after done stage name) (sym c.if-address-eq0.true)
    (forwarded-nothing name collecting nothing)

pub mark-requires : goal.mark-requires
mark-requires c =
    let h = c.requires.collecting in
    let full : c.args.kind ≡ RunKind.Full = search rules in
    let unmarked : c.head-head.result.marked ≡ false = not-true c.head-head.result.marked c.if-not-head.true in
    let is = named-to_mark h.4 c.args.address (h.5 ∙ full) h.6 h.7 c.if-address-eq0.false
    (ap (λ (head : Head). head.old) (sym c.head-head.ensures) ∙ c.if-head.true)
    (ap (λ (head : Head). head.marked) (sym c.head-head.ensures) ∙ unmarked) in
    record { collecting = (h.0, h.1, h.2, h.3, is.number, h.6, is.to_mark) }

pub returns-then-not-head-clause-forwarded : goal.returns-then-not-head-clause-forwarded
returns-then-not-head-clause-forwarded c start after done stage name kind_is collecting holds =
    let full : c.args.kind ≡ RunKind.Full = search rules in
    let unmarked : c.head-head.result.marked ≡ false = not-true c.head-head.result.marked c.if-not-head.true in
    let is = named-to_mark name c.args.address (kind_is ∙ full) collecting holds c.if-address-eq0.false
    (ap (λ (head : Head). head.old) (sym c.head-head.ensures) ∙ c.if-head.true)
    (ap (λ (head : Head). head.marked) (sym c.head-head.ensures) ∙ unmarked) in
    forwarded-marked name c.args.address is (c.mark.ensures.marked start after done stage is.number collecting is.to_mark)

pub returns-else-eq-clause-forwarded : goal.returns-else-eq-clause-forwarded
returns-else-eq-clause-forwarded c start after done stage name kind_is collecting holds =
    forwarded-old name c.args.address collecting holds c.if-address-eq0.false
    (ap (λ (head : Head). head.old) (sym c.head-head.ensures) ∙ c.if-head.true)
    (λ full. ap (λ (head : Head). head.marked) (sym c.head-head.ensures)
    ∙ elim c.else-eq.branch as (λ _. c.head-head.result.marked ≡ true) [
      | else-eq-via-then-eq+else-not-head w ↦ not-false c.head-head.result.marked w.if-not-head.false
      | else-eq-via-else-eq w ↦
          let isnt : c.args.kind ≢ RunKind.Full = search rules in absurd (isnt (sym kind_is ∙ full))
    ])

pub overflow_add-address : goal.overflow_add-address
overflow_add-address c =
    let h = c.requires.collecting in
    let is = holds-object h.0 h.4 c.args.address h.7 c.if-address-eq0.false in
    omega (arith, before-ends is.number c.args.address h.6 is.at, words-few h.6)

pub word-requires : goal.word-requires
word-requires c =
    let h = c.requires.collecting in
    let is = holds-object h.0 h.4 c.args.address h.7 c.if-address-eq0.false in
    omega (arith, before-ends is.number c.args.address h.6 is.at)

pub copy_object-requires : goal.copy_object-requires
copy_object-requires c =
    let h = c.requires.collecting in
    let is = named-to_copy h.4 c.args.address h.6 h.7 c.if-address-eq0.false
    (ap (λ (head : Head). head.old) (sym c.head-head.ensures) ∙ c.if-head.false) (sym c.word.ensures ∙ c.in-0.is) in
    record { collecting = (h.0, h.1, h.2, h.3, is.number, h.5, h.6, is.to_copy) }

pub returns-in-0-clause-forwarded : goal.returns-in-0-clause-forwarded
returns-in-0-clause-forwarded c start after done stage name kind_is collecting holds =
    let is = named-to_copy name c.args.address collecting holds c.if-address-eq0.false
    (ap (λ (head : Head). head.old) (sym c.head-head.ensures) ∙ c.if-head.false) (sym c.word.ensures ∙ c.in-0.is) in
    forwarded-now name c.args.address c.copy_object.result is
    (c.copy_object.ensures.copied start after done stage is.number kind_is collecting is.to_copy)

pub returns-in_default-clause-forwarded : goal.returns-in_default-clause-forwarded
returns-in_default-clause-forwarded c start after done stage name kind_is collecting holds =
    let moved : c.word.result ≢ 0 = search rules in
    forwarded-copy name c.args.address c.word.result collecting holds c.if-address-eq0.false
    (ap (λ (head : Head). head.old) (sym c.head-head.ensures) ∙ c.if-head.false) c.word.ensures moved
