use Rattle.std.proofs.Common.{◌≡◌, ◌∙◌, ap, subst, sym}
use Rattle.gc_layout.specs.Places.{Layout, cell_address}
use Rattle.gc_model.specs.declared.entry.RunKind.{RunKind}
use Rattle.gc_solo.specs.Collecting.{IsToMark, beginning, first_stage}
use Rattle.gc_solo.specs.Kept.{kept_of, memory_of}
use Rattle.gc_solo.specs.declared.heap.Heap.{Heap}
use Rattle.gc_solo.proofs.FullWhole.{begun-marked}
use Rattle.gc_solo.proofs.heap.Heap.begin_full.Goals as goal

pub mark-requires : goal.mark-requires
mark-requires c =
    let ready = c.requires.ready in
    let kept = kept_of c.args.self.now in
    let start = beginning RunKind.Full (memory_of kept) ready.placement ready.world in
    let flipped = c.flip_full.ensures.flipped ready.placement ready.world ready.ready in
    let there : c.cell_address-common.result ≡ cell_address c.args.self.now.places 0 0 =
    c.cell_address-common.ensures.address
    ∙ ap (λ (layout : Layout). cell_address layout 0 0) (ap (λ (heap : Heap). heap.places) c.flip_full.ensures.rest) in
    record {
      collecting = (
        start,
        flipped.placement,
        flipped.done,
        first_stage start,
        0,
        flipped.collecting,
        subst (IsToMark (kept_of c.flip_full.new.self) start flipped.placement 0) (sym there) flipped.common,
      );
    }

pub returns-clause-begun : goal.returns-clause-begun
returns-clause-begun c placement world ready =
    let kept = kept_of c.args.self.now in
    let start = beginning RunKind.Full (memory_of kept) placement world in
    let flipped = c.flip_full.ensures.flipped placement world ready in
    let there : c.cell_address-common.result ≡ cell_address c.args.self.now.places 0 0 =
    c.cell_address-common.ensures.address
    ∙ ap (λ (layout : Layout). cell_address layout 0 0) (ap (λ (heap : Heap). heap.places) c.flip_full.ensures.rest) in
    begun-marked (kept_of c.mark.new.self) start flipped.placement flipped.done flipped.registers
    (c.mark.ensures.marked start flipped.placement flipped.done (first_stage start) 0 flipped.collecting
    (subst (IsToMark (kept_of c.flip_full.new.self) start flipped.placement 0) (sym there) flipped.common))
