use Rattle.gc_script.proofs.generate.push_request.Goals as goal

pub returns : goal.returns
returns c =
    rw (
      c.register-r0.ensures,
      c.register-r1.ensures,
      c.register-r2.ensures,
      c.register-r3.ensures,
      c.register-r15.ensures,
      c.from.ensures,
      c.from-2.ensures,
      c.from-3.ensures,
      c.requires,
    ) at c.push_calls.ensures
