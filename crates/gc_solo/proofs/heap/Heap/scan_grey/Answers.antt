use Rattle.std.proofs.Common.{arith, refl, subst, sym}
use Rattle.gc_solo.specs.Collecting.{HasGoneOn}
use Rattle.gc_solo.specs.Kept.{Kept, kept_of}
use Rattle.gc_solo.proofs.Changed.{changed-bays, changed-then}
use Rattle.gc_solo.proofs.Scanned.{gone_on-scanned, gone_on-under_way}
use Rattle.gc_solo.proofs.Slots.{gone_on-here}
use Rattle.gc_solo.proofs.heap.Heap.scan_grey.Goals as goal

pub loop-address-init : goal.loop-address-init
loop-address-init c = record {
  rest = refl;
  gone = λ start after done stage kind_is idle collecting. gone_on-here collecting;
}

pub next_grey-requires : goal.next_grey-requires
next_grey-requires c = record {
  collecting = gone_on-under_way c.args.kind (kept_of c.args.self.now) (kept_of c.loop-address.self) c.loop-address.invariant.gone
      c.requires.collecting;
}

pub scan-requires : goal.scan-requires
scan-requires c =
    let some = c.requires.collecting in
    let gone = c.loop-address.invariant.gone some.start some.after some.done some.stage some.kind_is some.idle some.collecting in
    let taken = c.in-Some.ensures.taken some.start gone.placement gone.now_done some.stage some.kind_is some.idle gone.collecting in
    record { collecting = (some.start, gone.placement, gone.now_done, some.stage, taken.0, some.kind_is, taken.1, taken.2) }

pub loop-address-smaller : goal.loop-address-smaller
loop-address-smaller c = omega (arith, c.scan.ensures.ends, c.in-Some.ensures.ends)

pub loop-address-preserved : goal.loop-address-preserved
loop-address-preserved c = record {
  rest = changed-then c.args.self.now c.loop-address.self c.scan.new.self c.loop-address.invariant.rest
      (changed-then c.loop-address.self c.next_grey.new.self c.scan.new.self
      (changed-bays c.loop-address.self c.next_grey.new.self c.next_grey.ensures.rest) c.scan.ensures.rest);
  gone = gone_on-scanned c.args.kind (kept_of c.args.self.now) (kept_of c.loop-address.self) (kept_of c.next_grey.new.self)
      (kept_of c.scan.new.self) c.in-Some.address c.loop-address.invariant.gone c.in-Some.ensures.taken c.scan.ensures.scanned;
}

pub returns-clause-scanned : goal.returns-clause-scanned
returns-clause-scanned c start after done stage kind_is idle collecting =
    subst (λ (kept : Kept). HasGoneOn kept start after done stage) (sym c.in_default.ensures.unchanged)
    (c.loop-address.invariant.gone start after done stage kind_is idle collecting)

pub returns-clause-rest : goal.returns-clause-rest
returns-clause-rest c =
    changed-then c.args.self.now c.loop-address.self c.next_grey.new.self c.loop-address.invariant.rest
    (changed-bays c.loop-address.self c.next_grey.new.self c.next_grey.ensures.rest)
