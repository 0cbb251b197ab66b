use Rattle.std.proofs.Common.{◌≢◌, ◌-◌, ◌/◌, Some, ap, sym, ◌∙◌}
use Rattle.std.specs.Prelude.{slice_index}
use Rattle.std.specs.Int.{w128, trailing_zeros}
use Rattle.gc_gen2.specs.Cells.{first_page_with_room}
use Rattle.gc_gen2.proofs.RoomLemmas.{first_page_with_room-lowest, first_page_with_room-none}
use Rattle.gc_gen2.proofs.gen2.Gen2.page_with_room.Goals as goal

pub returns-then-rooms-eq0-clause-page : goal.returns-then-rooms-eq0-clause-page
returns-then-rooms-eq0-clause-page c =
    let none = ap (slice_index c.self.inside.rooms) (sym c.index_of.ensures.index) ∙ c.if-rooms-eq0.true in
    sym (first_page_with_room-none _ _ _ _ _ c.args.class c.self.invariant c.requires none)
    ∙ ap (λ pages. first_page_with_room pages c.args.class) c.self.view_is

pub returns-else-rooms-eq0-clause-page : goal.returns-else-rooms-eq0-clause-page
returns-else-rooms-eq0-clause-page c =
    let some : slice_index c.self.inside.rooms (c.args.class / 4 - 1) ≢ 0 =
    λ none. c.if-rooms-eq0.false (ap (slice_index c.self.inside.rooms) c.index_of.ensures.index ∙ none) in
    ap (λ i. Some (trailing_zeros w128 (slice_index c.self.inside.rooms i))) c.index_of.ensures.index
    ∙ sym (first_page_with_room-lowest _ _ _ _ _ c.args.class c.self.invariant c.requires some)
    ∙ ap (λ pages. first_page_with_room pages c.args.class) c.self.view_is
