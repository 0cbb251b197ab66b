use Rattle.std.proofs.Common.{◌≡◌, ◌∙◌, ◌<◌, ap, arith, false, length, refl, subst, sym, true}
use Rattle.gc_bay.specs.Bay.{Bay}
use Rattle.gc_gen2.specs.Cells.{GivesCell, class_at, without_cell}
use Rattle.gc_layout.specs.Places.{cell_address}
use Rattle.gc_layout.specs.declared.head.Head.{Head}
use Rattle.gc_layout.specs.Head.{head_word}
use Rattle.gc_solo.specs.Kept.{bay_at, kept_of}
use Rattle.gc_solo.specs.declared.heap.Heap.{Heap}
use Rattle.gc_solo.proofs.Sweeping.{freed-pages, swept-bay, swept-freed, swept-header, swept-marked, swept-read}
use Rattle.gc_solo.proofs.Registers.{bay-written}
use Rattle.gc_solo.proofs.heap.Heap.sweep_cell.Goals as goal

pub head-head-requires-clause-header : goal.head-head-requires-clause-header
head-head-requires-clause-header c =
    let some = c.requires.swept in
    swept-header (kept_of c.args.self.now) some.start some.after c.args.t c.args.offset c.cell_address-address.result some.swept
    c.requires.there c.requires.used c.cell_address-address.ensures.address

pub returns-then-head-clause-swept : goal.returns-then-head-clause-swept
returns-then-head-clause-swept c start after swept =
    let head = c.head-head.ensures in
    swept-marked (kept_of c.args.self.now) (kept_of c.store.new.self) start after c.args.t c.args.offset c.cell_address-address.result
    c.word.result swept c.requires.there c.requires.used c.cell_address-address.ensures.address
    (sym (ap (λ (each : Head). each.marked) head) ∙ c.if-head.true)
    (c.word.ensures ∙ ap (λ (each : Head). head_word (record each { marked = false })) head)
    (ap kept_of c.store.ensures.rest) c.store.ensures.count c.store.ensures.stored

-- the bay that was read is the mutator's, and its cell at the offset was given back
pub returns-else-head-clause-swept : goal.returns-else-head-clause-swept
returns-else-head-clause-swept c start after swept =
    let kept = kept_of c.args.self.now in
    let t = c.args.t in
    let offset = c.args.offset in
    let address = c.cell_address-address.result in
    let read : c.index_mut.result.now ≡ bay_at kept.bays t =
    swept-read kept start after t offset t c.from.result c.index_mut.result.now swept c.requires.there c.from.ensures
    c.index_mut.ensures.value in
    let pages = freed-pages kept start after t offset address c.index_mut.result.now c.free.new.self swept c.requires.there read
    c.cell_address-address.ensures.address c.free.ensures.pages c.free.ensures.cell in
    rw c.from.ensures (swept-freed kept start after t offset address c.free.new.self swept c.requires.there c.requires.used
    c.cell_address-address.ensures.address (sym (ap (λ (each : Head). each.marked) c.head-head.ensures) ∙ c.if-head.false)
    (c.free.ensures.rest ∙ ap (λ (bay : Bay). record bay { pages = c.free.new.self.pages }) read) c.free.ensures.bay pages.0 pages.1)

pub returns-else-head-clause-classes : goal.returns-else-head-clause-classes
returns-else-head-clause-classes c page =
    let kept = kept_of c.args.self.now in
    let some = c.requires.swept in
    let t = c.args.t in
    let offset = c.args.offset in
    let read : c.index_mut.result.now ≡ bay_at kept.bays t =
    swept-read kept some.start some.after t offset t c.from.result c.index_mut.result.now some.swept c.requires.there c.from.ensures
    c.index_mut.ensures.value in
    let pages = freed-pages kept some.start some.after t offset c.cell_address-address.result c.index_mut.result.now c.free.new.self
    some.swept c.requires.there read c.cell_address-address.ensures.address c.free.ensures.pages c.free.ensures.cell in
    let changes = bay-written kept.bays t c.free.new.self
    (swept-bay kept some.start some.after t offset t some.swept c.requires.there) in
    rw c.from.ensures (ap (λ (bay : Bay). class_at bay.pages page) changes.here ∙ pages.1.classes page)
