use Rattle.std.proofs.Common.{◌≡◌, ◌∙◌, ◌+◌, if◌then◌else◌, ap, slice_get, subst, sym, arith, List, Some, [], ◌∷◌}
use Rattle.atomic_table.specs.Table.{Me}
use Rattle.gc_locked.specs.declared.view.Carried.{Carried}
use Rattle.gc_locked.specs.declared.view.View.{View}
use Rattle.gc_locked.specs.Guarded.{GuardedHeap}
use Rattle.gc_locked.specs.Locked.{IsPassOf, LockedHeap, PassView, number_of, pass_of}
use Rattle.gc_locked.specs.Rule.{IsClaim, free_view}
use Rattle.gc_locked.specs.Setup.{lines_of, places_of}
use Rattle.gc_locked.specs.Turns.{made_by}
use Rattle.gc_locked.proofs.Turns.{claim-requires, claimed, counted, holds-for, made-in, release-requires, released, rests}
use Rattle.gc_locked.proofs.locked.Locked.turn.Goals as goal
use Rattle.gc_locked.proofs.locked.Locked.turn.Goals.{else-entered, then-entered}

-- the seat carries its mutator's number and hasn't the lock
pub compare_exchange-requires : goal.compare_exchange-requires
compare_exchange-requires c =
    let own = c.args.pass.now in
    let number = number_of c.args.self.now.setup own.mutator own.made in
    let me = c.pass.invariant.seat ∙ ap (λ (carried : List Carried). (free_view carried, []))
    (ap (λ (pass : PassView). pass.carried) c.pass.view_is ∙ c.requires.own.carried) in (
      ap (λ (pass : PassView). pass.table) c.pass.view_is ∙ c.requires.own.table
          ∙ sym (ap (λ (locked : LockedHeap). locked.table) c.self.view_is),
      omega (arith, c.self.invariant.words),
      claim-requires c.self.inside.table.shared.key c.self.inside.table.shared.table_id.slots c.pass.inside.seat.id c.pass.inside.seat.me
          number c.self.invariant.slots me,
    )

-- the lock was claimed
pub enter-entered-requires-clause-holds : goal.enter-entered-requires-clause-holds
enter-entered-requires-clause-holds c =
    let setup = c.args.self.now.setup in
    let pass = pass_of c.pass.inside in
    let own = subst (IsPassOf c.args.self.now) (sym c.pass.view_is) c.requires.own in
    let next = subst (λ (each : PassView). slice_get (places_of (lines_of setup) each.mutator) each.made ≡ Some c.args.place)
    (sym c.pass.view_is) c.requires.next in
    let number = number_of setup pass.mutator pass.made in
    let me = c.pass.invariant.seat ∙ ap (λ (carried : List Carried). (free_view carried, [])) own.carried in
    let has = subst (λ n. IsClaim n c.pass.inside.seat.me c.compare_exchange.new.seat.me) c.if-compare_exchange-ne0.false
    c.compare_exchange.ensures.2 in
    let held = claimed number c.pass.inside.seat.me c.compare_exchange.new.seat.me me has in
    holds-for setup pass.mutator pass.made c.args.place c.compare_exchange.new.seat.me held next

-- the call was made
pub store-requires : goal.store-requires
store-requires c =
    let setup = c.args.self.now.setup in
    let pass = pass_of c.pass.inside in
    let own = subst (IsPassOf c.args.self.now) (sym c.pass.view_is) c.requires.own in
    let number = number_of setup pass.mutator pass.made in
    let me = c.pass.invariant.seat ∙ ap (λ (carried : List Carried). (free_view carried, [])) own.carried in
    let has = subst (λ n. IsClaim n c.pass.inside.seat.me c.compare_exchange.new.seat.me) c.if-compare_exchange-ne0.false
    c.compare_exchange.ensures.2 in
    let held = claimed number c.pass.inside.seat.me c.compare_exchange.new.seat.me me has in
    let after = made-in setup pass.mutator pass.made c.args.call.now c.enter-entered.result c.compare_exchange.new.seat.me
    c.enter-entered.new.seat.me held c.enter-entered.ensures.seat.2 c.enter-entered.ensures.made in (
      c.enter-entered.ensures.seat.0 ∙ c.compare_exchange.ensures.0 ∙ own.table
          ∙ sym (ap (λ (locked : LockedHeap). locked.table) c.self.view_is),
      omega (arith, c.self.invariant.words),
      release-requires c.self.inside.table.shared.key setup c.self.inside.table.shared.table_id.slots c.enter-entered.new.seat.id
          pass.mutator pass.made c.args.call.now c.enter-entered.result c.enter-entered.new.seat.me c.self.invariant.slots
          (ap (λ (locked : LockedHeap). locked.setup) c.self.view_is) after,
    )

-- the seat is at rest again
pub invariant_of-pass-2 : goal.invariant_of-pass-2
invariant_of-pass-2 c =
    let setup = c.args.self.now.setup in
    let pass = pass_of c.pass.inside in
    let own = subst (IsPassOf c.args.self.now) (sym c.pass.view_is) c.requires.own in
    let number = number_of setup pass.mutator pass.made in
    let me = c.pass.invariant.seat ∙ ap (λ (carried : List Carried). (free_view carried, [])) own.carried in
    let has = subst (λ n. IsClaim n c.pass.inside.seat.me c.compare_exchange.new.seat.me) c.if-compare_exchange-ne0.false
    c.compare_exchange.ensures.2 in
    let held = claimed number c.pass.inside.seat.me c.compare_exchange.new.seat.me me has in
    let after = made-in setup pass.mutator pass.made c.args.call.now c.enter-entered.result c.compare_exchange.new.seat.me
    c.enter-entered.new.seat.me held c.enter-entered.ensures.seat.2 c.enter-entered.ensures.made in
    record {
      seat = rests _ c.store.new.seat.me (released setup pass.mutator pass.made c.args.call.now c.enter-entered.result
          c.enter-entered.new.seat.me c.store.new.seat.me after c.store.ensures.2);
    }

-- and carries one call more where it entered the journal
pub returns : goal.returns
returns c =
    let setup = c.args.self.now.setup in
    let pass = pass_of c.pass.inside in
    let own = subst (IsPassOf c.args.self.now) (sym c.pass.view_is) c.requires.own in
    let number = number_of setup pass.mutator pass.made in
    let me = c.pass.invariant.seat ∙ ap (λ (carried : List Carried). (free_view carried, [])) own.carried in
    let has = subst (λ n. IsClaim n c.pass.inside.seat.me c.compare_exchange.new.seat.me) c.if-compare_exchange-ne0.false
    c.compare_exchange.ensures.2 in
    let held = claimed number c.pass.inside.seat.me c.compare_exchange.new.seat.me me has in
    let after = made-in setup pass.mutator pass.made c.args.call.now c.enter-entered.result c.compare_exchange.new.seat.me
    c.enter-entered.new.seat.me held c.enter-entered.ensures.seat.2 c.enter-entered.ensures.made in
    let now = released setup pass.mutator pass.made c.args.call.now c.enter-entered.result c.enter-entered.new.seat.me
    c.store.new.seat.me after c.store.ensures.2 in
    let turn = c.if-entered.result in
    let more : (if c.enter-entered.result then 1 else 0) ≡ made_by turn = elim c.if-entered.branch [
      | then-entered w ↦ ap (λ entered. if entered then 1 else 0) w.if-entered.true ∙ sym (ap made_by w.result-is)
      | else-entered w ↦ ap (λ entered. if entered then 1 else 0) w.if-entered.false ∙ sym (ap made_by w.result-is)
    ] in
    let same = c.pass.view_is in
    record {
      counted = counted c.args.self.now c.args.pass.now
          (pass_of (record { mutator = pass.mutator; made = pass.made; seat = c.store.new.seat }))
          (made_by turn)
          (c.store.ensures.0 ∙ c.enter-entered.ensures.seat.0 ∙ c.compare_exchange.ensures.0 ∙ ap (λ (each : PassView). each.table) same)
          (ap (λ (each : PassView). each.mutator) same) (ap (λ (each : PassView). each.made) same)
          (ap (λ (seat : Me GuardedHeap View). seat.0.carried) now
          ∙ ap (λ n. number_of setup pass.mutator (pass.made + n) ∷ []) more
          ∙ ap (λ (each : PassView). number_of setup each.mutator (each.made + made_by turn) ∷ []) same);
    }
