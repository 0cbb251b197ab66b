use Rattle.std.proofs.Common.{arith}
use Rattle.std.proofs.lemmas.Grind.{common_steps}
use Rattle.gc_script.proofs.NameLemmas.{list_any-names}
use Rattle.gc_script.proofs.names.Names.is_in_use.Goals as goal

pub returns-else-eq : goal.returns-else-eq
returns-else-eq c =
    rw (← c.self.view_is, list_any-names (λ name. name.items) c.self.inside.names.keys c.args.name.now) (grind (arith, common_steps))
