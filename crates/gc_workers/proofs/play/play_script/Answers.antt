use Rattle.std.proofs.Common.{◌∙◌, ap, subst, sym, List}
use Rattle.gc_layout.specs.Places.{Layout}
use Rattle.gc_locked.specs.Locked.{AreAllPasses, IsFinished, PassView}
use Rattle.gc_workers.proofs.Played.{done-all, fresh-from, played-fits}
use Rattle.gc_workers.proofs.play.play_script.Goals as goal

-- no pass made a call yet
pub play_all-passes-requires-clause-fresh : goal.play_all-passes-requires-clause-fresh
play_all-passes-requires-clause-fresh g c κs within =
    fresh-from c.in_ok-locked.locked 0 c.in_ok-locked.passes.items c.in_ok-locked.ensures.passes.own

-- the passes that are done are all passes
pub finish-requires : goal.finish-requires
finish-requires g c =
    record {
      all = subst (λ (passes : List PassView). AreAllPasses c.in_ok-locked.locked passes) (sym c.play_all-passes.ensures.done)
          (done-all c.in_ok-locked.locked c.in_ok-locked.passes.items c.in_ok-locked.ensures.passes);
    }

-- and the journal has all their calls
pub returns-clause-fits : goal.returns-clause-fits
returns-clause-fits g c =
    let made = c.in_ok-locked.ensures in
    let locked = c.in_ok-locked.locked in
    let passes = c.in_ok-locked.passes.items in
    let script = c.args.script in
    let count = ap (λ (layout : Layout). layout.mutators) made.layout ∙ c.requires.mutators in
    let finished = subst (λ (each : List PassView). IsFinished locked each c.finish.result) c.play_all-passes.ensures.done
    c.finish.ensures.finished in
    played-fits locked passes c.finish.result script.preamble.mutators script.lines made.passes finished count
    (made.lines ∙ c.into_parts-heading.ensures.lines)
