use Rattle.std.proofs.Common.{[], ◌∷◌, codes, decimal}
use Rattle.gc_io.proofs.StreamLemmas.{Appends-append, AppendsPrefix-front, AppendsPrefix-last}
use Rattle.gc_script.specs.Written.{spelled_line}
use Rattle.gc_script.proofs.write.write_head.Goals as goal

pub returns-in-All-clause-all : goal.returns-in-All-clause-all
returns-in-All-clause-all g c = λ is.
    let next = rw (c.as_slice.ensures.value, c.mutators_text.ensures) at (c.put-in-All.ensures.all is) in
    Appends-append _ _ _ (spelled_line (codes "moar-gc 1" ∷ []))
    (spelled_line (codes "mutators" ∷ decimal c.args.mutators ∷ [])) (c.put.ensures.all c.in-All.is) next

pub returns-in-All-clause-part : goal.returns-in-All-clause-part
returns-in-All-clause-part g c = λ is.
    let next = rw (c.as_slice.ensures.value, c.mutators_text.ensures) at (c.put-in-All.ensures.first_bytes is) in
    AppendsPrefix-last _ _ _ (spelled_line (codes "moar-gc 1" ∷ []))
    (spelled_line (codes "mutators" ∷ decimal c.args.mutators ∷ [])) (c.put.ensures.all c.in-All.is) next

pub returns-in-Failed-clause-part : goal.returns-in-Failed-clause-part
returns-in-Failed-clause-part g c = λ _.
    AppendsPrefix-front _ _ (spelled_line (codes "moar-gc 1" ∷ []))
    (spelled_line (codes "mutators" ∷ decimal c.args.mutators ∷ [])) (c.put.ensures.first_bytes c.in-Failed.is)
