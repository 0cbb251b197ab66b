use Rattle.std.proofs.Common.{◌≡◌, ◌+◌, ◌<◌, ℕ, arith, refl, slice_index, subst}
use Rattle.gc_solo.specs.Collecting.{AreTraced, at_list}
use Rattle.gc_solo.specs.Kept.{kept_of}
use Rattle.gc_solo.proofs.Changed.{changed-then}
use Rattle.gc_solo.proofs.RootLists.{HasTracedRegisters, listed-bay, listed-hand, listed-within, listed_to-more, listed_to-next, some-listed}
use Rattle.gc_solo.proofs.heap.Heap.trace_remembered.Goals as goal

pub loop-t-init : goal.loop-t-init
loop-t-init c = record { rest = refl; listed = λ start minor counted traced. traced }

pub loop-index-init : goal.loop-index-init
loop-index-init c = record { rest = c.loop-t.invariant.rest; listed = c.loop-t.invariant.listed }

pub index-requires : goal.index-requires
index-requires c =
    let some = c.requires.collecting in
    let bays = c.loop-index.self.bays in
    let has : HasTracedRegisters (kept_of c.args.self.now) some.0 c.args.counts.now = record {
      minor = some.1;
      counted = some.3;
      traced = some.2;
    } in
    let there = listed-bay (kept_of c.args.self.now) (kept_of c.loop-index.self) some.0 c.args.counts.now c.loop-t.t c.loop-index.index has
    (omega (arith, c.loop-t-test.true, c.mutators-t-end.ensures.mutators)) c.loop-index.invariant.listed in
    omega (arith, there, bays.ok.0, c.from-in-loop-index.ensures)

pub unwrap-address-requires : goal.unwrap-address-requires
unwrap-address-requires c =
    let some = c.requires.collecting in
    let index = c.loop-index.index in
    let counts = c.args.counts.now in
    let has : HasTracedRegisters (kept_of c.args.self.now) some.0 counts = record {
      minor = some.1;
      counted = some.3;
      traced = some.2;
    } in
    let within : index < slice_index counts c.loop-t.t = rw c.from.ensures at c.loop-index-test.true in
    some-listed c.remembered.result c.index.result.now.remembered index c.remembered.ensures.none.0
    (listed-within (kept_of c.args.self.now) (kept_of c.loop-index.self) some.0 counts c.loop-t.t index c.from-in-loop-index.result
    c.index.result.now has (omega (arith, c.loop-t-test.true, c.mutators-t-end.ensures.mutators)) within c.loop-index.invariant.listed
    c.from-in-loop-index.ensures c.index.ensures)

pub scan-requires : goal.scan-requires
scan-requires c =
    let some = c.requires.collecting in
    let old = kept_of c.args.self.now in
    let t = c.loop-t.t in
    let index = c.loop-index.index in
    let counts = c.args.counts.now in
    let within : index < slice_index counts t = rw c.from.ensures at c.loop-index-test.true in
    let now = c.loop-index.invariant.listed some.0 some.1 some.3 some.2 in
    let hand = listed-hand old (kept_of c.loop-index.self) some.0 counts t index c.from-in-loop-index.result c.unwrap-address.result
    c.remembered.result c.index.result.now (omega (arith, c.loop-t-test.true, c.mutators-t-end.ensures.mutators)) within
    c.from-in-loop-index.ensures c.index.ensures c.remembered.ensures.address c.unwrap-address.ensures some.1 some.3 some.2 now in
    record { collecting = (some.0, now.placement, now.done, at_list t (index + 1), hand.0, some.1, hand.1, hand.2) }

pub loop-index-preserved : goal.loop-index-preserved
loop-index-preserved c =
    let within : c.loop-index.index < slice_index c.args.counts.now c.loop-t.t = rw c.from.ensures at c.loop-index-test.true in
    record {
      rest = changed-then c.args.self.now c.loop-index.self c.scan.new.self c.loop-index.invariant.rest c.scan.ensures.rest;
      listed = listed_to-more (kept_of c.args.self.now) (kept_of c.loop-index.self) (kept_of c.scan.new.self) c.args.counts.now
          c.loop-t.t c.loop-index.index c.from-in-loop-index.result c.unwrap-address.result c.remembered.result c.index.result.now
          (omega (arith, c.loop-t-test.true, c.mutators-t-end.ensures.mutators)) within c.from-in-loop-index.ensures c.index.ensures
          c.remembered.ensures.address c.unwrap-address.ensures c.loop-index.invariant.listed c.scan.ensures.scanned;
    }

pub loop-t-preserved : goal.loop-t-preserved
loop-t-preserved c =
    let all = rw c.from.ensures at c.loop-index-test.false in
    record {
      rest = c.loop-index.invariant.rest;
      listed = listed_to-next (kept_of c.args.self.now) (kept_of c.loop-index.self) c.args.counts.now c.loop-t.t c.loop-index.index
          (omega (arith, c.loop-t-test.true, c.mutators-t-end.ensures.mutators)) all c.loop-index.invariant.listed;
    }

pub returns-clause-traced : goal.returns-clause-traced
returns-clause-traced c start minor counted traced =
    let end : c.loop-t.t ≡ c.args.self.now.places.mutators =
    omega (arith, c.loop-t-test.false, c.loop-t.auto.t-end, c.mutators-t-end.ensures.mutators) in
    subst (λ (t : ℕ). AreTraced (kept_of c.loop-t.self) start c.args.self.now.places.mutators 0 (at_list t 0)) end
    (c.loop-t.invariant.listed start minor counted traced)
