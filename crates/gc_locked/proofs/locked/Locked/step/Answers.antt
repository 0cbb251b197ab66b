use Rattle.std.proofs.Common.{◌≡◌, ◌∙◌, ap, arith}
use Rattle.gc_locked.specs.Locked.{PassView}
use Rattle.gc_locked.proofs.locked.Locked.step.Goals as goal
use Rattle.gc_locked.proofs.locked.Locked.step.Goals.{in-None, in-Some+in-Made}

-- there are few calls before this one
pub overflow_add-pass : goal.overflow_add-pass
overflow_add-pass g c =
    let same : c.match-next.pass.made ≡ c.args.pass.now.made = elim c.match-next.branch [
      | in-None w ↦ ap (λ (pass : PassView). pass.made) (w.pass-is ∙ c.loop.invariant)
      | in-Some+in-Made w ↦ ap (λ (pass : PassView). pass.made) (w.pass-is ∙ w.turn.ensures.counted) ∙ ap
          (λ (pass : PassView). pass.made) c.loop.invariant
    ] in
    omega (
      arith,
      ap (λ (pass : PassView). pass.made) c.pass-2.view_is,
      ap (λ (pass : PassView). pass.made) c.pass.view_is,
      same,
      c.next_call-place.ensures.few,
    )
