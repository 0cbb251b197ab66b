use Rattle.std.proofs.Common.{ap, sym, ◌∙◌}
use Rattle.gc_script.proofs.NameLemmas.{type_at, type_from-index}
use Rattle.gc_script.proofs.names.Names.type_named.Goals as goal

pub returns-in-Some : goal.returns-in-Some
returns-in-Some c =
    rw (← c.self.view_is) (ap (type_at 1) c.in-Some.ensures.index
    ∙ sym (type_from-index (λ name. name.items) c.self.inside.names.keys c.args.word.now 1))

pub returns-in-None : goal.returns-in-None
returns-in-None c =
    rw (← c.self.view_is) (ap (type_at 1) c.in-None.ensures.index
    ∙ sym (type_from-index (λ name. name.items) c.self.inside.names.keys c.args.word.now 1))
