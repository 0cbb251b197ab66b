use Rattle.std.proofs.Common.{◌≡◌, false, refl, arith}
use Rattle.std.proofs.lemmas.Grind.{common_steps}
use Rattle.std.proofs.lemmas.List.{map-append}
use Rattle.std.specs.List.{list_any}
use Rattle.std.specs.Str.{bytes_eq}
use Rattle.gc_script.proofs.NameLemmas.{list_any-names}
use Rattle.gc_script.proofs.names.Names.add.Goals as goal

pub returns : goal.returns
returns c =
    let new : list_any (λ name. bytes_eq c.in_ok-from_slice.field-0.items name.items) c.self.inside.names.keys ≡ false =
    rw (
      ← list_any-names (λ name. name.items) c.self.inside.names.keys c.in_ok-from_slice.field-0.items,
      c.self.view_is,
      c.in_ok-from_slice.ensures.items,
    ) (grind (arith, common_steps)) in
    let keys = rw new at c.in_ok-insert.ensures.keys in
    rw (keys, map-append, c.in_ok-from_slice.ensures.items, c.self.view_is) refl
