use Rattle.std.proofs.Common.{◌*◌, ◌/◌, ◌%◌, ◌^◌, ◌<◌, ap, ◌∙◌, arith}
use Rattle.std.specs.Prelude.{bit_and, slice_index, slice_set, ◌==◌}
use Rattle.std.specs.Int.{w64, bit_not}
use Rattle.std.proofs.lemmas.Nat.Bits.{bit_at_clear_same}
use Rattle.gc_gen2.specs.Page.{with_used}
use Rattle.gc_gen2.proofs.BitLemmas.{SameBut-clear}
use Rattle.gc_gen2.proofs.FreeSetLemmas.{IsFreeSet-set, used_of-set, cell-within, word-within}
use Rattle.gc_gen2.proofs.page.PageCells.take.Goals as goal

pub bounds-self-inside-number : goal.bounds-self-inside-number
bounds-self-inside-number c = word-within _ _ c.args.self.now c.args.number c.self.view_is c.self.invariant c.requires

pub bounds-self-inside-number-2 : goal.bounds-self-inside-number-2
bounds-self-inside-number-2 c = word-within _ _ c.args.self.now c.args.number c.self.view_is c.self.invariant c.requires

pub invariant_of-self : goal.invariant_of-self
invariant_of-self c =
    IsFreeSet-set _ _ _ c.args.number c.self.invariant (cell-within _ _ _ _ c.self.view_is c.requires)
    (SameBut-clear w64 _ _ (c.self.invariant.fit (c.args.number / 64)) (omega arith))

pub returns : goal.returns
returns c =
    let own = c.self.inside.class in
    let words = c.self.inside.free in
    let n = c.args.number in
    let word = slice_index words (n / 64) in
    let v = bit_and word (bit_not w64 (1 * 2 ^ (n % 64) % 2 ^ 64)) in
    let column : n % 64 < 64 = omega arith in
    let used =
    used_of-set own words v n c.self.invariant (cell-within _ _ _ _ c.self.view_is c.requires)
    (SameBut-clear w64 word (n % 64) (c.self.invariant.fit (n / 64)) column) in
    let on = ap (λ b. b == 0) (bit_at_clear_same w64 word (n % 64) column) in
    ap (λ marks. record { class = own; used = marks }) (used ∙ ap (slice_set _ n) on) ∙ ap (λ page. with_used page n) c.self.view_is
