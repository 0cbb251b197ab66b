use Rattle.std.proofs.Common.{◌≡◌, Option, Some, ap, inr, subst, sym, ◌∙◌}
use Rattle.std.proofs.lemmas.Option.{same_Some}
use Rattle.gc_cli.specs.declared.command.Request.{Request}
use Rattle.gc_cli.specs.declared.status.Left.TheVariants.{Nothing}
use Rattle.gc_cli.specs.declared.status.Status.{Status}
use Rattle.gc_cli.specs.declared.status.Status.TheVariants.{Done, NoMemory, Usage, WriteFault}
use Rattle.gc_cli.specs.declared.status.Outcome.{Outcome}
use Rattle.gc_cli.specs.Played.{ReadsScript}
use Rattle.gc_cli.proofs.AllowedLemmas.{request_of-limits}
use Rattle.gc_cli.proofs.top.moar_gc.Goals as goal
use Rattle.gc_cli.proofs.top.moar_gc.Goals.{in-Ok-Some-Play, in-Ok-Some-Run, in-Ok-Some-Make, in-Ok-Some-Drill, in-Ok-None, in-Err}

-- the status that was told, of an outcome that has it
told_is : (outcome : Outcome) (told status : Status) → outcome ≡ record { status = told; left = Nothing } → outcome.status ≡ status
    → told ≡ status
told_is outcome told status is same = sym (ap (λ (each : Outcome). each.status) is) ∙ same

-- two requests of the same words read a script alike
reads-same : (asked : Option Request) (request other : Request) → asked ≡ Some request → asked ≡ Some other → ReadsScript request
    → ReadsScript other
reads-same asked request other is same reads = subst ReadsScript (same_Some request other (sym is ∙ same)) reads

pub returns-clause-allowed : goal.returns-clause-allowed
returns-clause-allowed g c = request_of-limits _

-- what the mode did is what was asked for
pub returns-clause-done : goal.returns-clause-done
returns-clause-done g c =
    elim c.match-request_of.branch [
      | in-Ok-Some-Play w ↦
          let asked = sym w.in-Ok-Some-Play.ensures.value ∙ w.in-Ok-Some-Play.field-0-is ∙ ap Some w.in-Ok-Some-Play.field-0-0-is in
          rw (asked, w.outcome-is, w.src-is, w.out-is) w.play_bytes-outcome.ensures.done
      | in-Ok-Some-Run w ↦
          let asked = sym w.in-Ok-Some-Run.ensures.value ∙ w.in-Ok-Some-Run.field-0-is ∙ ap Some w.in-Ok-Some-Run.field-0-0-is in
          rw (asked, w.outcome-is, w.src-is, w.out-is) w.run_bytes-outcome.ensures.done
      | in-Ok-Some-Make w ↦
          let asked = sym w.in-Ok-Some-Make.ensures.value ∙ w.in-Ok-Some-Make.field-0-is ∙ ap Some w.in-Ok-Some-Make.field-0-0-is in
          rw (asked, w.outcome-is, w.out-is) (λ done. (w.make-outcome.ensures.done done, w.make-outcome.ensures.left))
      | in-Ok-Some-Drill w ↦
          let asked = sym w.in-Ok-Some-Drill.ensures.value ∙ w.in-Ok-Some-Drill.field-0-is ∙ ap Some w.in-Ok-Some-Drill.field-0-0-is in
          rw (asked, w.outcome-is, w.out-is) w.drill-outcome.ensures.done
      | in-Ok-None w ↦ λ done.
          let is = told_is _ Usage Done (w.outcome-is ∙ w.nothing_left-outcome.ensures) done in
          absurd (let e : ⊥ = cc in e)
      | in-Err w ↦ λ done.
          let is = told_is _ NoMemory Done (w.outcome-is ∙ w.nothing_left-outcome-in-Err.ensures) done in
          absurd (let e : ⊥ = cc in e)
    ]

-- and in part where the sink failed
pub returns-clause-write_part : goal.returns-clause-write_part
returns-clause-write_part g c =
    elim c.match-request_of.branch [
      | in-Ok-Some-Play w ↦
          let asked = sym w.in-Ok-Some-Play.ensures.value ∙ w.in-Ok-Some-Play.field-0-is ∙ ap Some w.in-Ok-Some-Play.field-0-0-is in
          rw (asked, w.outcome-is, w.src-is, w.out-is) w.play_bytes-outcome.ensures.write_part
      | in-Ok-Some-Run w ↦
          let asked = sym w.in-Ok-Some-Run.ensures.value ∙ w.in-Ok-Some-Run.field-0-is ∙ ap Some w.in-Ok-Some-Run.field-0-0-is in
          rw (asked, w.outcome-is, w.src-is, w.out-is) w.run_bytes-outcome.ensures.write_part
      | in-Ok-Some-Make w ↦
          let asked = sym w.in-Ok-Some-Make.ensures.value ∙ w.in-Ok-Some-Make.field-0-is ∙ ap Some w.in-Ok-Some-Make.field-0-0-is in
          rw (asked, w.outcome-is, w.out-is) (λ fault. (w.make-outcome.ensures.write_part fault, w.make-outcome.ensures.left))
      | in-Ok-Some-Drill w ↦
          let asked = sym w.in-Ok-Some-Drill.ensures.value ∙ w.in-Ok-Some-Drill.field-0-is ∙ ap Some w.in-Ok-Some-Drill.field-0-0-is in
          rw (asked, w.outcome-is, w.out-is) w.drill-outcome.ensures.write_part
      | in-Ok-None w ↦ λ fault.
          let is = told_is _ Usage WriteFault (w.outcome-is ∙ w.nothing_left-outcome.ensures) fault in
          absurd (let e : ⊥ = cc in e)
      | in-Err w ↦ λ fault.
          let is = told_is _ NoMemory WriteFault (w.outcome-is ∙ w.nothing_left-outcome-in-Err.ensures) fault in
          absurd (let e : ⊥ = cc in e)
    ]

-- the fault that playing tells is the fault that the top call tells
pub returns-clause-bad_is_told : goal.returns-clause-bad_is_told
returns-clause-bad_is_told g c bytes line cause asked tells few fault =
    elim c.match-request_of.branch [
      | in-Ok-Some-Play w ↦ rw w.outcome-is (w.play_bytes-outcome.ensures.bad_is_told bytes line cause (rw w.src-is at tells) few fault)
      | in-Ok-Some-Run w ↦ rw w.outcome-is (w.run_bytes-outcome.ensures.bad_is_told bytes line cause (rw w.src-is at tells) few fault)
      | in-Ok-Some-Make w ↦
          let is = sym w.in-Ok-Some-Make.ensures.value ∙ w.in-Ok-Some-Make.field-0-is ∙ ap Some w.in-Ok-Some-Make.field-0-0-is in
          absurd (reads-same _ asked.0 _ asked.1 is asked.2)
      | in-Ok-Some-Drill w ↦
          let is = sym w.in-Ok-Some-Drill.ensures.value ∙ w.in-Ok-Some-Drill.field-0-is ∙ ap Some w.in-Ok-Some-Drill.field-0-0-is in
          absurd (reads-same _ asked.0 _ asked.1 is asked.2)
      | in-Ok-None w ↦
          let is = sym w.in-Ok-None.ensures.value ∙ w.in-Ok-None.field-0-is in
          let asks = asked.1 in
          absurd (let e : ⊥ = cc in e)
      | in-Err w ↦ inr (ap (λ (outcome : Outcome). outcome.status) (w.outcome-is ∙ w.nothing_left-outcome-in-Err.ensures))
    ]

-- the source is touched only where a script is read
pub returns-clause-reads_nothing : goal.returns-clause-reads_nothing
returns-clause-reads_nothing g c none =
    elim c.match-request_of.branch [
      | in-Ok-Some-Play w ↦
          let is = sym w.in-Ok-Some-Play.ensures.value ∙ w.in-Ok-Some-Play.field-0-is ∙ ap Some w.in-Ok-Some-Play.field-0-0-is in
          absurd (none _ is tt)
      | in-Ok-Some-Run w ↦
          let is = sym w.in-Ok-Some-Run.ensures.value ∙ w.in-Ok-Some-Run.field-0-is ∙ ap Some w.in-Ok-Some-Run.field-0-0-is in
          absurd (none _ is tt)
      | in-Ok-Some-Make w ↦ w.src-is
      | in-Ok-Some-Drill w ↦ w.src-is
      | in-Ok-None w ↦ w.src-is
      | in-Err w ↦ w.src-is
    ]
