use Rattle.std.specs.List.{flat_map}
use Rattle.gc_io.proofs.StreamLemmas.{Appends-append, AppendsPrefix-front, AppendsPrefix-last}
use Rattle.gc_script.specs.Written.{preamble_text, call_text}
use Rattle.gc_script.proofs.write.write_script.Goals as goal

pub returns-in-All-clause-all : goal.returns-in-All-clause-all
returns-in-All-clause-all g c = λ is.
    let s = c.args.s.now in
    let front = rw c.preamble.ensures.preamble at (c.write_preamble.ensures.all c.in-All.is) in
    Appends-append _ _ _ (preamble_text s.preamble) (flat_map (call_text s.preamble.names) s.lines) front (c.write_calls.ensures.all is)

pub returns-in-All-clause-part : goal.returns-in-All-clause-part
returns-in-All-clause-part g c = λ is.
    let s = c.args.s.now in
    let front = rw c.preamble.ensures.preamble at (c.write_preamble.ensures.all c.in-All.is) in
    AppendsPrefix-last _ _ _ (preamble_text s.preamble) (flat_map (call_text s.preamble.names) s.lines) front
    (c.write_calls.ensures.part is)

pub returns-in-Failed-clause-part : goal.returns-in-Failed-clause-part
returns-in-Failed-clause-part g c = λ _.
    let s = c.args.s.now in
    let front = rw c.preamble.ensures.preamble at (c.write_preamble.ensures.part c.in-Failed.is) in
    AppendsPrefix-front _ _ (preamble_text s.preamble) (flat_map (call_text s.preamble.names) s.lines) front
