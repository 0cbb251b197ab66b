use Rattle.std.proofs.Common.{sym, ap, ◌∙◌}
use Rattle.gc_model.specs.World.{named_by}
use Rattle.gc_placement.specs.Placement.{name_address}
use Rattle.gc_solo.specs.Kept.{kept_of, memory_of}
use Rattle.gc_solo.proofs.Names.{answer-no, answer-yes, name-same}
use Rattle.gc_solo.proofs.Registers.{ready-mutator}
use Rattle.gc_solo.proofs.heap.Heap.same.Goals as goal

pub returns-then-register : goal.returns-then-register
returns-then-register c placement world ready =
    let kept = kept_of c.args.self.now in
    let shown = ready.shows.rest.shown in
    let there = ready-mutator kept placement world c.args.t ready in
    let left = named_by world c.args.t c.args.left in
    let right = named_by world c.args.t c.args.right in
    let holds = shown.registers c.args.t in
    let same = name-same (memory_of kept) placement world left right shown (shown.covers.registers c.args.t c.args.left)
    (shown.covers.registers c.args.t c.args.right)
    (sym (holds c.args.left there) ∙ sym c.register.ensures ∙ c.if-register.true ∙ c.register-2.ensures ∙ holds c.args.right there) in
    record { reply_is = answer-yes left right same; placement = placement; shown = ready.shows }

pub returns-else-register : goal.returns-else-register
returns-else-register c placement world ready =
    let kept = kept_of c.args.self.now in
    let shown = ready.shows.rest.shown in
    let there = ready-mutator kept placement world c.args.t ready in
    let left = named_by world c.args.t c.args.left in
    let right = named_by world c.args.t c.args.right in
    let holds = shown.registers c.args.t in
    record {
      reply_is = answer-no left right (λ same. c.if-register.false (c.register.ensures ∙ holds c.args.left there
          ∙ ap (name_address placement) same ∙ sym (holds c.args.right there) ∙ sym c.register-2.ensures));
      placement = placement;
      shown = ready.shows;
    }
