use Rattle.std.proofs.Common.{rules, ◌≡◌, ◌∙◌, ◌<◌, ℕ, true, refl, sym, ap, subst, arith, Contains, length, nat_lt, slice_index_or, slice_set}
use Rattle.std.specs.Vec.{with_item}
use Rattle.std.proofs.lemmas.Option.{slice_get-get_or}
use Rattle.gc_bay.specs.Bay.{Bay, Tally}
use Rattle.gc_bay.specs.Room.{grey_room}
use Rattle.gc_layout.specs.declared.head.Head.{Head}
use Rattle.gc_layout.specs.Head.{head_word}
use Rattle.gc_layout.specs.Shape.{common_shape, size_of}
use Rattle.gc_placement.specs.Changes.{Stores}
use Rattle.gc_solo.specs.Collecting.{HasMarked, work_left}
use Rattle.gc_solo.specs.Copying.{grey_after}
use Rattle.gc_solo.specs.Kept.{kept_of, memory_of}
use Rattle.gc_solo.specs.declared.heap.Heap.{Heap}
use Rattle.gc_solo.proofs.Collecting.{kept-ends, kept-header}
use Rattle.gc_solo.proofs.Copying.{type-known}
use Rattle.gc_solo.proofs.Marking.{can_take-marked, greyed-with, greyed-without, mark-goes_on, mark-work_falls, marked_bay-is, owner_found-to_mark, to_mark-before, to_mark-read}
use Rattle.gc_solo.proofs.heap.Heap.mark.Goals as goal
use Rattle.gc_solo.proofs.heap.Heap.mark.Goals.{then-shape-gt0, else-shape-gt0}

pub head-head-requires-clause-header : goal.head-head-requires-clause-header
head-head-requires-clause-header c =
    let h = c.requires.collecting in (_, kept-header h.4 c.args.address h.5 h.6.at)

pub head-head-requires-clause-there : goal.head-head-requires-clause-there
head-head-requires-clause-there c =
    let h = c.requires.collecting in omega (arith, kept-ends h.4 c.args.address h.5 h.6.at)

pub unwrap-shape-requires : goal.unwrap-shape-requires
unwrap-shape-requires c =
    let h = c.requires.collecting in
    let known = type-known h.4 c.args.address c.head-head.result h.5 (to_mark-before h.4 c.args.address h.5 h.6) c.head-head.ensures in
    rw (c.shape.ensures.value ∙ slice_get-get_or c.args.self.now.types c.head-head.result.ty.0 common_shape known) (search rules)

pub unwrap-owner-requires : goal.unwrap-owner-requires
unwrap-owner-requires c =
    let h = c.requires.collecting in
    rw (owner_found-to_mark h.4 c.args.address c.owner.result h.5 h.6 c.owner.ensures.exact) (search rules)

pub remember-requires-clause-absent : goal.remember-requires-clause-absent
remember-requires-clause-absent c =
    let h = c.requires.collecting in
    let read =
    to_mark-read h.4 c.args.address c.head-head.result c.shape.result c.unwrap-shape.result (size_of c.unwrap-shape.result) c.owner.result
    c.unwrap-owner.result c.from.result c.index_mut-bay.result.now h.5 h.6 c.head-head.ensures c.shape.ensures.value
    c.unwrap-shape.ensures refl c.owner.ensures.exact c.unwrap-owner.ensures c.from.ensures
    (subst (λ (heap : Heap). c.index_mut-bay.result.now ≡ slice_index_or heap.bays.items c.from.result c.index_mut-bay.result.now)
    c.store.ensures.rest c.index_mut-bay.ensures.value) in
    (can_take-marked h.5 h.6 read).listed.absent

pub remember-requires-clause-room : goal.remember-requires-clause-room
remember-requires-clause-room c =
    let h = c.requires.collecting in
    let read =
    to_mark-read h.4 c.args.address c.head-head.result c.shape.result c.unwrap-shape.result (size_of c.unwrap-shape.result) c.owner.result
    c.unwrap-owner.result c.from.result c.index_mut-bay.result.now h.5 h.6 c.head-head.ensures c.shape.ensures.value
    c.unwrap-shape.ensures refl c.owner.ensures.exact c.unwrap-owner.ensures c.from.ensures
    (subst (λ (heap : Heap). c.index_mut-bay.result.now ≡ slice_index_or heap.bays.items c.from.result c.index_mut-bay.result.now)
    c.store.ensures.rest c.index_mut-bay.ensures.value) in
    (can_take-marked h.5 h.6 read).listed.fewer

pub grey-requires-clause-absent : goal.grey-requires-clause-absent
grey-requires-clause-absent c =
    let h = c.requires.collecting in
    let read =
    to_mark-read h.4 c.args.address c.head-head.result c.shape.result c.unwrap-shape.result (size_of c.unwrap-shape.result) c.owner.result
    c.unwrap-owner.result c.from.result c.index_mut-bay.result.now h.5 h.6 c.head-head.ensures c.shape.ensures.value
    c.unwrap-shape.ensures refl c.owner.ensures.exact c.unwrap-owner.ensures c.from.ensures
    (subst (λ (heap : Heap). c.index_mut-bay.result.now ≡ slice_index_or heap.bays.items c.from.result c.index_mut-bay.result.now)
    c.store.ensures.rest c.index_mut-bay.ensures.value) in
    subst (λ (each : Bay). ¬ Contains each.grey c.args.address) (sym c.remember.ensures.list)
    (can_take-marked h.5 h.6 read).grey.absent

pub grey-requires-clause-room : goal.grey-requires-clause-room
grey-requires-clause-room c =
    let h = c.requires.collecting in
    let read =
    to_mark-read h.4 c.args.address c.head-head.result c.shape.result c.unwrap-shape.result (size_of c.unwrap-shape.result) c.owner.result
    c.unwrap-owner.result c.from.result c.index_mut-bay.result.now h.5 h.6 c.head-head.ensures c.shape.ensures.value
    c.unwrap-shape.ensures refl c.owner.ensures.exact c.unwrap-owner.ensures c.from.ensures
    (subst (λ (heap : Heap). c.index_mut-bay.result.now ≡ slice_index_or heap.bays.items c.from.result c.index_mut-bay.result.now)
    c.store.ensures.rest c.index_mut-bay.ensures.value) in
    subst (λ (each : Bay). length each.grey < grey_room each.layout) (sym c.remember.ensures.list)
    (can_take-marked h.5 h.6 read).grey.fewer

pub count_kept-requires-clause-objects : goal.count_kept-requires-clause-objects
count_kept-requires-clause-objects c =
    let h = c.requires.collecting in
    let read =
    to_mark-read h.4 c.args.address c.head-head.result c.shape.result c.unwrap-shape.result c.size.result c.owner.result
    c.unwrap-owner.result c.from.result c.index_mut-bay.result.now h.5 h.6 c.head-head.ensures c.shape.ensures.value
    c.unwrap-shape.ensures c.size.ensures c.owner.ensures.exact c.unwrap-owner.ensures c.from.ensures
    (subst (λ (heap : Heap). c.index_mut-bay.result.now ≡ slice_index_or heap.bays.items c.from.result c.index_mut-bay.result.now)
    c.store.ensures.rest c.index_mut-bay.ensures.value) in
    let grown : c.if-shape-gt0.bay ≡ record c.remember.new.self {
      grey = grey_after c.remember.new.self.grey (nat_lt 0 c.unwrap-shape.result.slots) c.args.address;
    } = elim c.if-shape-gt0.branch [
      | then-shape-gt0 w ↦
          greyed-with c.remember.new.self c.if-shape-gt0.bay c.args.address c.unwrap-shape.result.slots w.if-shape-gt0.true
          (w.bay-is ∙ w.grey.ensures.list)
      | else-shape-gt0 w ↦
          greyed-without c.remember.new.self c.if-shape-gt0.bay c.args.address c.unwrap-shape.result.slots w.if-shape-gt0.false w.bay-is
    ] in
    let tally : c.if-shape-gt0.bay.tally ≡ c.index_mut-bay.result.now.tally =
    ap (λ (each : Bay). each.tally) grown ∙ ap (λ (each : Bay). each.tally) c.remember.ensures.list in
    omega (arith, ap (λ (each : Tally). each.objects) tally, (can_take-marked h.5 h.6 read).counted.objects)

pub count_kept-requires-clause-words : goal.count_kept-requires-clause-words
count_kept-requires-clause-words c =
    let h = c.requires.collecting in
    let read =
    to_mark-read h.4 c.args.address c.head-head.result c.shape.result c.unwrap-shape.result c.size.result c.owner.result
    c.unwrap-owner.result c.from.result c.index_mut-bay.result.now h.5 h.6 c.head-head.ensures c.shape.ensures.value
    c.unwrap-shape.ensures c.size.ensures c.owner.ensures.exact c.unwrap-owner.ensures c.from.ensures
    (subst (λ (heap : Heap). c.index_mut-bay.result.now ≡ slice_index_or heap.bays.items c.from.result c.index_mut-bay.result.now)
    c.store.ensures.rest c.index_mut-bay.ensures.value) in
    let grown : c.if-shape-gt0.bay ≡ record c.remember.new.self {
      grey = grey_after c.remember.new.self.grey (nat_lt 0 c.unwrap-shape.result.slots) c.args.address;
    } = elim c.if-shape-gt0.branch [
      | then-shape-gt0 w ↦
          greyed-with c.remember.new.self c.if-shape-gt0.bay c.args.address c.unwrap-shape.result.slots w.if-shape-gt0.true
          (w.bay-is ∙ w.grey.ensures.list)
      | else-shape-gt0 w ↦
          greyed-without c.remember.new.self c.if-shape-gt0.bay c.args.address c.unwrap-shape.result.slots w.if-shape-gt0.false w.bay-is
    ] in
    let tally : c.if-shape-gt0.bay.tally ≡ c.index_mut-bay.result.now.tally =
    ap (λ (each : Bay). each.tally) grown ∙ ap (λ (each : Bay). each.tally) c.remember.ensures.list in
    omega (arith, ap (λ (each : Tally). each.words) tally, (can_take-marked h.5 h.6 read).counted.words)

pub returns-clause-marked : goal.returns-clause-marked
returns-clause-marked c start after done stage number collecting is =
    let read =
    to_mark-read number c.args.address c.head-head.result c.shape.result c.unwrap-shape.result c.size.result c.owner.result
    c.unwrap-owner.result c.from.result c.index_mut-bay.result.now collecting is c.head-head.ensures c.shape.ensures.value
    c.unwrap-shape.ensures c.size.ensures c.owner.ensures.exact c.unwrap-owner.ensures c.from.ensures
    (subst (λ (heap : Heap). c.index_mut-bay.result.now ≡ slice_index_or heap.bays.items c.from.result c.index_mut-bay.result.now)
    c.store.ensures.rest c.index_mut-bay.ensures.value) in
    let grown : c.if-shape-gt0.bay ≡ record c.remember.new.self {
      grey = grey_after c.remember.new.self.grey (nat_lt 0 c.unwrap-shape.result.slots) c.args.address;
    } = elim c.if-shape-gt0.branch [
      | then-shape-gt0 w ↦
          greyed-with c.remember.new.self c.if-shape-gt0.bay c.args.address c.unwrap-shape.result.slots w.if-shape-gt0.true
          (w.bay-is ∙ w.grey.ensures.list)
      | else-shape-gt0 w ↦
          greyed-without c.remember.new.self c.if-shape-gt0.bay c.args.address c.unwrap-shape.result.slots w.if-shape-gt0.false w.bay-is
    ] in
    let new = marked_bay-is c.index_mut-bay.result.now c.remember.new.self c.if-shape-gt0.bay c.count_kept.new.self c.args.address
    c.size.result (nat_lt 0 c.unwrap-shape.result.slots) c.remember.ensures.list grown c.count_kept.ensures.tally in
    let header = c.word.ensures ∙ ap (λ (head : Head). head_word (record head { remembered = true; marked = true })) c.head-head.ensures in
    let stored =
    subst
    (λ (word : ℕ). Stores (memory_of (kept_of c.args.self.now)).word (memory_of (kept_of c.store.new.self)).word c.args.address word)
    header c.store.ensures.stored in
    subst
    (λ (heap : Heap). HasMarked (kept_of (record heap { bays = with_item heap.bays c.from.result c.count_kept.new.self })) start after
    done stage number)
    (sym c.store.ensures.rest)
    (mark-goes_on c.count_kept.new.self c.store.new.self.words.items collecting is read new c.count_kept.ensures.bay stored
    c.store.ensures.count)

pub returns-clause-ends : goal.returns-clause-ends
returns-clause-ends c =
    let h = c.requires.collecting in
    let read =
    to_mark-read h.4 c.args.address c.head-head.result c.shape.result c.unwrap-shape.result c.size.result c.owner.result
    c.unwrap-owner.result c.from.result c.index_mut-bay.result.now h.5 h.6 c.head-head.ensures c.shape.ensures.value
    c.unwrap-shape.ensures c.size.ensures c.owner.ensures.exact c.unwrap-owner.ensures c.from.ensures
    (subst (λ (heap : Heap). c.index_mut-bay.result.now ≡ slice_index_or heap.bays.items c.from.result c.index_mut-bay.result.now)
    c.store.ensures.rest c.index_mut-bay.ensures.value) in
    let grown : c.if-shape-gt0.bay ≡ record c.remember.new.self {
      grey = grey_after c.remember.new.self.grey (nat_lt 0 c.unwrap-shape.result.slots) c.args.address;
    } = elim c.if-shape-gt0.branch [
      | then-shape-gt0 w ↦
          greyed-with c.remember.new.self c.if-shape-gt0.bay c.args.address c.unwrap-shape.result.slots w.if-shape-gt0.true
          (w.bay-is ∙ w.grey.ensures.list)
      | else-shape-gt0 w ↦
          greyed-without c.remember.new.self c.if-shape-gt0.bay c.args.address c.unwrap-shape.result.slots w.if-shape-gt0.false w.bay-is
    ] in
    let new = marked_bay-is c.index_mut-bay.result.now c.remember.new.self c.if-shape-gt0.bay c.count_kept.new.self c.args.address
    c.size.result (nat_lt 0 c.unwrap-shape.result.slots) c.remember.ensures.list grown c.count_kept.ensures.tally in
    subst
    (λ (heap : Heap). work_left (slice_set heap.bays.items c.from.result c.count_kept.new.self) < work_left c.args.self.now.bays.items)
    (sym c.store.ensures.rest) (mark-work_falls c.count_kept.new.self h.5 h.6 read new c.count_kept.ensures.bay)
