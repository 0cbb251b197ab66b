use Rattle.std.proofs.Common.{rules, ◌<◌, ◌∙◌, sym, subst, arith}
use Rattle.std.proofs.lemmas.Option.{slice_get-get_or}
use Rattle.gc_layout.specs.Shape.{common_shape}
use Rattle.gc_placement.specs.Placement.{with_place}
use Rattle.gc_solo.specs.Collecting.{IsCollecting, work_left}
use Rattle.gc_solo.specs.Kept.{kept_of}
use Rattle.gc_solo.specs.declared.heap.Heap.{Heap}
use Rattle.gc_solo.proofs.Collecting.{before-ends}
use Rattle.gc_solo.proofs.Copying.{can_take-read, object-copied, owner-found, put-apart, to_copy-read, type-known, work-read}
use Rattle.gc_solo.proofs.heap.Heap.copy_object.Goals as goal

pub head-head-requires-clause-there : goal.head-head-requires-clause-there
head-head-requires-clause-there c =
    let h = c.requires.collecting in omega (arith, before-ends h.4 c.args.address h.6 h.7.at)

pub unwrap-shape-requires : goal.unwrap-shape-requires
unwrap-shape-requires c =
    let h = c.requires.collecting in
    let known = type-known h.4 c.args.address c.head-head.result h.6 h.7.at c.head-head.ensures in
    rw (c.shape.ensures.value ∙ slice_get-get_or c.args.self.now.types c.head-head.result.ty.0 common_shape known) (search rules)

pub unwrap-owner-requires : goal.unwrap-owner-requires
unwrap-owner-requires c =
    let h = c.requires.collecting in
    rw (owner-found h.4 c.args.address c.owner.result h.6 h.7 c.owner.ensures.exact) (search rules)

pub place_copy-copy-requires : goal.place_copy-copy-requires
place_copy-copy-requires c =
    let h = c.requires.collecting in
    let read =
    to_copy-read h.4 c.args.address c.head-head.result c.shape.result c.unwrap-shape.result c.size-size.result c.owner.result
    c.unwrap-owner.result c.from.result c.index_mut-bay.result.now h.6 h.7 c.head-head.ensures c.shape.ensures.value
    c.unwrap-shape.ensures c.size-size.ensures c.owner.ensures.exact c.unwrap-owner.ensures c.from.ensures c.index_mut-bay.ensures.value in
    rw (sym h.5)
    (can_take-read h.4 c.args.address c.head-head.result c.unwrap-shape.result c.size-size.result c.from.result
    c.index_mut-bay.result.now h.6 h.7 read)

pub copy_words-requires : goal.copy_words-requires
copy_words-requires c =
    let h = c.requires.collecting in
    let read =
    to_copy-read h.4 c.args.address c.head-head.result c.shape.result c.unwrap-shape.result c.size-size.result c.owner.result
    c.unwrap-owner.result c.from.result c.index_mut-bay.result.now h.6 h.7 c.head-head.ensures c.shape.ensures.value
    c.unwrap-shape.ensures c.size-size.ensures c.owner.ensures.exact c.unwrap-owner.ensures c.from.ensures c.index_mut-bay.ensures.value in
    let apart =
    put-apart c.place_copy-copy.result.0 c.place_copy-copy.new.bay c.place_copy-copy.result.1 h.6 h.7 read
    (rw (sym h.5) at c.place_copy-copy.ensures) in
    record { least = apart.least; within = apart.within; room = apart.room; apart = apart.apart }

pub returns-clause-copied : goal.returns-clause-copied
returns-clause-copied c start after done stage number kind_is collecting is =
    let read =
    to_copy-read number c.args.address c.head-head.result c.shape.result c.unwrap-shape.result c.size-size.result c.owner.result
    c.unwrap-owner.result c.from.result c.index_mut-bay.result.now collecting is c.head-head.ensures c.shape.ensures.value
    c.unwrap-shape.ensures c.size-size.ensures c.owner.ensures.exact c.unwrap-owner.ensures c.from.ensures c.index_mut-bay.ensures.value in
    subst (λ (heap : Heap). IsCollecting (kept_of heap) start (with_place after number c.place_copy-copy.result.0) done stage)
    (sym c.copy_words.ensures.rest)
    (object-copied c.place_copy-copy.result.0 c.place_copy-copy.new.bay c.place_copy-copy.result.1 c.word.result
    c.copy_words.new.self.words.items collecting is read (rw (sym kind_is) at c.place_copy-copy.ensures) c.copy_words.ensures.copied
    c.word.ensures c.copy_words.ensures.count)

pub returns-clause-ends : goal.returns-clause-ends
returns-clause-ends c =
    let h = c.requires.collecting in
    let read =
    to_copy-read h.4 c.args.address c.head-head.result c.shape.result c.unwrap-shape.result c.size-size.result c.owner.result
    c.unwrap-owner.result c.from.result c.index_mut-bay.result.now h.6 h.7 c.head-head.ensures c.shape.ensures.value
    c.unwrap-shape.ensures c.size-size.ensures c.owner.ensures.exact c.unwrap-owner.ensures c.from.ensures c.index_mut-bay.ensures.value in
    subst (λ (heap : Heap). work_left heap.bays.items < work_left c.args.self.now.bays.items) (sym c.copy_words.ensures.rest)
    (work-read c.place_copy-copy.result.0 c.place_copy-copy.new.bay c.place_copy-copy.result.1 h.6 h.7 read
    (rw (sym h.5) at c.place_copy-copy.ensures))
