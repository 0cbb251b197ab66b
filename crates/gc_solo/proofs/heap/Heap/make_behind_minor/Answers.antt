-- Behind the minor collection the object was made in the half, or a full one was made too.
use Rattle.std.proofs.Common.{◌≡◌, refl, subst, sym}
use Rattle.gc_model.specs.declared.entry.RunKind.{RunKind}
use Rattle.gc_model.specs.declared.reply.Reply.TheVariants.{Done}
use Rattle.gc_solo.specs.Allocation.{HasMadeBehindFull, IsMadeBehindMinor}
use Rattle.gc_solo.specs.Kept.{Kept, kept_of}
use Rattle.gc_solo.specs.Stands.{IsReadyFor}
use Rattle.gc_solo.proofs.MadeBehind.{half-fits, half-full, ready-first, ready-run}
use Rattle.gc_solo.proofs.heap.Heap.make_behind_minor.Goals as goal

-- the half had room
pub returns-then-make_in_half-clause-made : goal.returns-then-make_in_half-clause-made
returns-then-make_in_half-clause-made c placement world ready =
    let t = c.args.t in
    let ty = c.args.ty.0 in
    let old = kept_of c.args.self.now in
    let mid = kept_of c.collect.new.self in
    let new = kept_of c.make_in_half.new.self in
    let report = c.collect.result in
    let run = c.collect.ensures.run placement world (ready-first old placement world t ready) in
    let still = ready-run old mid RunKind.Minor placement run.0 world report t ready run.1 in
    let half = c.make_in_half.ensures in
    record {
      mid = mid;
      after = run.0;
      report = report;
      run = run.1;
      made = subst (λ fits. IsMadeBehindMinor fits mid new run.0 world t c.args.into ty Done)
          (sym (half-fits mid t ty (half.fits c.if-make_in_half.true)))
          (refl, half.made run.0 world still c.if-make_in_half.true);
    }

-- it had none, and the heap is still ready
pub make_behind_full-requires-clause-ready : goal.make_behind_full-requires-clause-ready
make_behind_full-requires-clause-ready c =
    let t = c.args.t in
    let old = kept_of c.args.self.now in
    let mid = kept_of c.collect.new.self in
    let held = c.requires.ready in
    let run = c.collect.ensures.run held.placement held.world (ready-first old held.placement held.world t held.ready) in
    let still = ready-run old mid RunKind.Minor held.placement run.0 held.world c.collect.result t held.ready run.1 in
    record {
      placement = run.0;
      world = held.world;
      ready = subst (λ (each : Kept). IsReadyFor each run.0 held.world t)
          (sym (c.make_in_half.ensures.unchanged c.if-make_in_half.false)) still;
    }

-- and the full collection was made
pub returns-clause-made : goal.returns-clause-made
returns-clause-made c placement world ready =
    let t = c.args.t in
    let ty = c.args.ty.0 in
    let old = kept_of c.args.self.now in
    let mid = kept_of c.collect.new.self in
    let new = kept_of c.make_behind_full.new.self in
    let report = c.collect.result in
    let run = c.collect.ensures.run placement world (ready-first old placement world t ready) in
    let still = ready-run old mid RunKind.Minor placement run.0 world report t ready run.1 in
    let half = c.make_in_half.ensures in
    let same : kept_of c.make_in_half.new.self ≡ mid = half.unchanged c.if-make_in_half.false in
    let behind : HasMadeBehindFull mid new run.0 world t c.args.into ty c.make_behind_full.result =
    subst (λ (each : Kept). HasMadeBehindFull each new run.0 world t c.args.into ty c.make_behind_full.result) same
    (c.make_behind_full.ensures.made run.0 world (subst (λ (each : Kept). IsReadyFor each run.0 world t) (sym same) still)) in
    record {
      mid = mid;
      after = run.0;
      report = report;
      run = run.1;
      made = subst (λ fits. IsMadeBehindMinor fits mid new run.0 world t c.args.into ty c.make_behind_full.result)
          (sym (half-full mid t ty (half.full c.if-make_in_half.false))) behind;
    }
