use Rattle.std.proofs.Common.{◌∙◌, ap, length, arith, append_assoc}
use Rattle.gc_io.proofs.StreamLemmas.{Appends-append, AppendsPrefix-behind}
use Rattle.gc_script.proofs.WriteLemmas.{types_text-next}
use Rattle.gc_script.proofs.write.write_types.Goals as goal

pub returns-in-Failed-clause-part : goal.returns-in-Failed-clause-part
returns-in-Failed-clause-part g c = λ _.
    let so_far = c.loop-index.invariant in
    let next = rw (types_text-next c.args.preamble.now.names c.args.preamble.now.types c.loop-index.index
    c.as_slice.result.now (omega (arith, ap length c.names.ensures.names))
    (omega (arith, ap length c.names.ensures.names)) (rw c.as_slice.ensures.value c.type_line-line.ensures))
    at so_far.left in
    AppendsPrefix-behind _ _ _ so_far.text _ _ _ so_far.got (c.put.ensures.first_bytes c.in-Failed.is) next

pub loop-index-preserved : goal.loop-index-preserved
loop-index-preserved g c =
    let so_far = c.loop-index.invariant in
    let next = rw (types_text-next c.args.preamble.now.names c.args.preamble.now.types c.loop-index.index
    c.as_slice.result.now (omega (arith, ap length c.names.ensures.names))
    (omega (arith, ap length c.names.ensures.names)) (rw c.as_slice.ensures.value c.type_line-line.ensures))
    at so_far.left in
    record {
      text = _;
      got = Appends-append _ _ _ so_far.text _ so_far.got (c.put.ensures.all c.in-All.is);
      left = rw append_assoc next;
      quiet = c.put.ensures.quiet (λ failed. cc) ∙ so_far.quiet;
    }
