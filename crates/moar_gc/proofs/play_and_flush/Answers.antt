use Rattle.std.proofs.Common.{◌≡◌, ◌∙◌, inl, inr, ℕ, ◌≤◌, List, [], IfSome, Option, Some, ap, arith, refl, subst, sym}
use Rattle.gc_io.proofs.StreamLemmas.{Appends-append}
use Rattle.gc_io.specs.Faults.{HasRisen}
use Rattle.gc_io.specs.Streams.{Appends}
use Rattle.gc_cli.specs.Command.{status_line}
use Rattle.gc_cli.specs.declared.command.Request.{Request}
use Rattle.gc_cli.specs.declared.command.Request.TheVariants.{Drill, Make, Play, Run}
use Rattle.gc_cli.specs.declared.status.Left.{Left}
use Rattle.gc_cli.specs.declared.status.Status.{Status}
use Rattle.gc_cli.specs.Played.{GivesScript, HasDone, HasDoneInPart, ReadsScript}
use Rattle.moar_gc.proofs.play_and_flush.Goals as goal

-- a count that rose earlier has risen
risen-earlier : (old mid new : ℕ) → old ≤ mid → mid ≤ new → HasRisen old mid → HasRisen old new
risen-earlier old mid new first second (inl less) = inl (omega (arith, first, second, less))
risen-earlier old mid new first second (inr most) = search arith

-- and one that rose later
risen-later : (old mid new : ℕ) → old ≤ mid → HasRisen mid new → HasRisen old new
risen-later old mid new first (inl less) = inl (omega (arith, first, less))
risen-later old mid new first (inr most) = inr most

-- what was done was done for a script, where one was asked for
gives-script : (request : Request) (rest_old rest_new written_old written_new : Option (List ℕ)) (left : Left) → ReadsScript request
    → HasDone request rest_old rest_new written_old written_new left → GivesScript rest_old rest_new
gives-script (Play opts) rest_old rest_new written_old written_new left reads (bytes, script, history, plays) =
    (bytes, script, plays.read, plays.script_is)
gives-script (Run opts) rest_old rest_new written_old written_new left reads (bytes, script, history, plays) =
    (bytes, script, plays.read, plays.script_is)
gives-script (Make rounds) rest_old rest_new written_old written_new left reads done = absurd reads
gives-script (Drill rounds opts) rest_old rest_new written_old written_new left reads done = absurd reads

-- and so where it was done in part
gives-in-part : (request : Request) (rest_old rest_new written_old written_new : Option (List ℕ)) (left : Left) → ReadsScript request
    → HasDoneInPart request rest_old rest_new written_old written_new left → GivesScript rest_old rest_new
gives-in-part (Play opts) rest_old rest_new written_old written_new left reads (bytes, script, history, plays) =
    (bytes, script, plays.read, plays.script_is)
gives-in-part (Run opts) rest_old rest_new written_old written_new left reads (bytes, script, history, plays) =
    (bytes, script, plays.read, plays.script_is)
gives-in-part (Make rounds) rest_old rest_new written_old written_new left reads done = absurd reads
gives-in-part (Drill rounds opts) rest_old rest_new written_old written_new left reads done = absurd reads

-- the script was played and printed
pub returns-in-All-clause-done : goal.returns-in-All-clause-done
returns-in-All-clause-done g c (request, asked, reads) done =
    gives-script request _ _ _ _ _ reads (rw asked at (c.moar_gc-status.ensures.done c.in-Done.is))

-- the last flush failed
pub returns-in-Failed-clause-write_fault : goal.returns-in-Failed-clause-write_fault
returns-in-Failed-clause-write_fault g c (request, asked, reads) fault =
    gives-script request _ _ _ _ _ reads (rw asked at (c.moar_gc-status.ensures.done c.in-Done.is))

-- a write failed before it
pub returns-in_default-clause-write_fault : goal.returns-in_default-clause-write_fault
returns-in_default-clause-write_fault g c (request, asked, reads) fault =
    gives-in-part request _ _ _ _ _ reads (rw asked at (c.moar_gc-status.ensures.write_part fault))

-- the top call had no line to write, and that of the failed flush stands behind it
pub returns-in-Failed-clause-told : goal.returns-in-Failed-clause-told
returns-in-Failed-clause-told g c quiet =
    let old = g.E.Sink.written c.args.err.now in
    let mid = g.E.Sink.written c.moar_gc-status.new.err in
    let new = g.E.Sink.written c.refused.new.err in
    let falls = c.moar_gc-status.ensures.err_never_falls in
    let told = c.moar_gc-status.ensures.told (λ risen. quiet (risen-earlier _ _ _ falls c.refused.ensures.never_falls risen)) in
    let done = c.in-Done.is in
    let first : Appends old mid [] = subst (λ (status : Status). Appends old mid (status_line status)) done told in
    let second = c.refused.ensures.told (λ risen. quiet (risen-later _ _ _ falls risen)) in
    let whole = Appends-append old mid new [] _ first second in
    rw c.refused.ensures.same whole

-- nothing was done
pub returns-in_default-clause-done : goal.returns-in_default-clause-done
returns-in_default-clause-done g c asked done = absurd (c.in_default.not-Done done)
