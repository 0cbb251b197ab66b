use Rattle.std.proofs.Common.{◌%◌, List, [], ◌∷◌, ◌++◌, ap, ◌∙◌, append_assoc, eq-eqb}
use Rattle.gc_model.specs.declared.call.Call.TheVariants.{Collect}
use Rattle.gc_model.specs.declared.call.Line.{Line}
use Rattle.gc_script.specs.Generated.{lines_by, request_calls}
use Rattle.gc_script.proofs.generate.push_round.Goals as goal

pub returns-in_ok-push_calls : goal.returns-in_ok-push_calls
returns-in_ok-push_calls c =
    let i = c.args.i in
    let request : List Line = lines_by (i % 4) (request_calls i) in
    let collect : List Line = lines_by (i % 4) (Collect ∷ []) in
    rw (eq-eqb _ _ c.if-i-eq63.true) (c.in_ok-push_calls.ensures
    ∙ ap (λ lines. lines ++ collect) c.in_ok-push_request.ensures
    ∙ append_assoc c.args.lines.now request collect)
