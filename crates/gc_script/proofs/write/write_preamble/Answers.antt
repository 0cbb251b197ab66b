use Rattle.gc_io.proofs.StreamLemmas.{Appends-append, AppendsPrefix-front, AppendsPrefix-last}
use Rattle.gc_script.specs.Written.{head_text, types_text, declared_shapes}
use Rattle.gc_script.proofs.write.write_preamble.Goals as goal

pub returns-in-All-clause-all : goal.returns-in-All-clause-all
returns-in-All-clause-all g c = λ is.
    let p = c.args.preamble.now in
    let head = rw c.mutators.ensures.mutators at (c.write_head.ensures.all c.in-All.is) in
    Appends-append _ _ _ (head_text p.mutators) (types_text p.names (declared_shapes p.types)) head (c.write_types.ensures.all is)

pub returns-in-All-clause-part : goal.returns-in-All-clause-part
returns-in-All-clause-part g c = λ is.
    let p = c.args.preamble.now in
    let head = rw c.mutators.ensures.mutators at (c.write_head.ensures.all c.in-All.is) in
    AppendsPrefix-last _ _ _ (head_text p.mutators) (types_text p.names (declared_shapes p.types)) head (c.write_types.ensures.part is)

pub returns-in-Failed-clause-part : goal.returns-in-Failed-clause-part
returns-in-Failed-clause-part g c = λ _.
    let p = c.args.preamble.now in
    let head = rw c.mutators.ensures.mutators at (c.write_head.ensures.part c.in-Failed.is) in
    AppendsPrefix-front _ _ (head_text p.mutators) (types_text p.names (declared_shapes p.types)) head
