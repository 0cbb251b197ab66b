use Rattle.std.proofs.Common.{rules, ◌≡◌, ◌<◌, ◌∙◌, ◌++◌, All, append_assoc, ap, map, subst, sym, arith, List, [], ◌∷◌}
use Rattle.std.proofs.lemmas.List.{map-append}
use Rattle.std.specs.Option.{option_to_list}
use Rattle.atomic_table.specs.Table.{Me}
use Rattle.gc_locked.specs.declared.view.Carried.{Carried}
use Rattle.gc_locked.specs.declared.view.View.{View}
use Rattle.gc_locked.specs.Guarded.{GuardedHeap}
use Rattle.gc_locked.specs.Locked.{IsPassOf, LockedHeap, PassView}
use Rattle.gc_locked.specs.Rule.{both_of, free_view}
use Rattle.gc_locked.proofs.Lists.{all-last}
use Rattle.gc_locked.proofs.Passes.{own_number, passes-some}
use Rattle.gc_locked.proofs.Steps.{gathers}
use Rattle.gc_locked.proofs.locked.Locked.gather.Goals as goal

-- there is a pass
pub unwrap-requires : goal.unwrap-requires
unwrap-requires c =
    c.pop.ensures.variant.1
    (subst (λ n. 0 < n) (search rules) (passes-some c.args.self.now c.args.passes.items c.requires.all c.requires.some))

-- the seat of the last one carries its number
pub loop-pass-init : goal.loop-pass-init
loop-pass-init c =
    let setup = c.args.self.now.setup in
    let pass = c.unwrap.result in
    let rest = c.pop.new.self.items in
    let split : c.args.passes.items ≡ rest ++ pass ∷ [] =
    c.pop.ensures.items ∙ ap (λ popped. rest ++ option_to_list popped) c.unwrap.ensures in
    let (others, own) = all-last (IsPassOf c.args.self.now) rest pass
    (subst (λ (passes : List PassView). All (IsPassOf c.args.self.now) passes) split c.requires.all.own) in
    record {
      table = ap (λ (each : PassView). each.table) c.seat.view_is ∙ own.table;
      carried = own_number setup pass ∷ [];
      carries = c.seat.invariant.seat ∙ ap (λ (carried : List Carried). (free_view carried, []))
          (ap (λ (each : PassView). each.carried) c.seat.view_is ∙ own.carried);
      own = others;
      all = sym (ap (λ (passes : List PassView). map (own_number setup) passes) split ∙ map-append (own_number setup) rest (pass ∷ []));
    }

-- neither seat has the lock
pub join_seat-requires : goal.join_seat-requires
join_seat-requires c =
    let invariant = c.loop-pass.invariant in
    let pass = c.in-Some.pass in
    let rest = c.pop-in-loop-pass.new.self.items in
    let split : c.loop-pass.passes.items ≡ rest ++ pass ∷ [] =
    c.pop-in-loop-pass.ensures.items ∙ ap (λ popped. rest ++ option_to_list popped) c.in-Some.is in
    let (others, own) = all-last (IsPassOf c.args.self.now) rest pass
    (subst (λ (passes : List PassView). All (IsPassOf c.args.self.now) passes) split invariant.own) in
    let table = sym (ap (λ (locked : LockedHeap). locked.table) c.self.view_is) in (
      invariant.table ∙ table,
      ap (λ (each : PassView). each.table) c.pass.view_is ∙ own.table ∙ table,
      ap (λ (me : Me GuardedHeap View). me.1) c.pass.invariant.seat,
      omega (arith, c.self.invariant.words),
      gathers c.self.inside.table.shared.key c.loop-pass.seat.id c.loop-pass.seat.me.0 c.pass.inside.seat.id c.pass.inside.seat.me.0
          (ap (λ (me : Me GuardedHeap View). me.0.lock) invariant.carries)
          (ap (λ (me : Me GuardedHeap View). me.0.lock) c.pass.invariant.seat),
    )

-- it takes the number of one more
pub loop-pass-preserved : goal.loop-pass-preserved
loop-pass-preserved c =
    let setup = c.args.self.now.setup in
    let invariant = c.loop-pass.invariant in
    let pass = c.in-Some.pass in
    let rest = c.pop-in-loop-pass.new.self.items in
    let split : c.loop-pass.passes.items ≡ rest ++ pass ∷ [] =
    c.pop-in-loop-pass.ensures.items ∙ ap (λ popped. rest ++ option_to_list popped) c.in-Some.is in
    let (others, own) = all-last (IsPassOf c.args.self.now) rest pass
    (subst (λ (passes : List PassView). All (IsPassOf c.args.self.now) passes) split invariant.own) in
    let other : View = c.pass.inside.seat.me.0 in
    let carried = ap (λ (each : PassView). each.carried) c.pass.view_is ∙ own.carried in
    let (table, id, me) = c.join_seat.ensures in
    record {
      table = table ∙ invariant.table;
      carried = own_number setup pass ∷ invariant.carried;
      carries = me ∙ ap (λ (each : Me GuardedHeap View). (both_of each.0 other, each.1)) invariant.carries
          ∙ ap (λ (numbers : List Carried). (free_view (numbers ++ invariant.carried), [])) carried;
      own = others;
      all = sym (append_assoc (map (own_number setup) rest) (own_number setup pass ∷ []) invariant.carried)
          ∙ ap (λ (numbers : List Carried). numbers ++ invariant.carried)
          (sym (ap (λ (passes : List PassView). map (own_number setup) passes) split ∙ map-append (own_number setup) rest (pass ∷ [])))
          ∙ invariant.all;
    }
