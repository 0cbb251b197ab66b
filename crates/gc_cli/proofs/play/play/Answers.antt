use Rattle.std.proofs.Common.{◌≡◌, ◌∙◌, ℕ, List, [], ap, ap₂}
use Rattle.gc_layout.specs.declared.shape.Shape.{Shape}
use Rattle.gc_layout.specs.Places.{Layout}
use Rattle.gc_model.specs.History.{Configuration}
use Rattle.gc_solo.specs.Stands.{configuration_of}
use Rattle.gc_cli.specs.Played.{heap_for}
use Rattle.gc_cli.proofs.PlayLemmas.{played-history}
use Rattle.gc_cli.proofs.play.play.Goals as goal

-- the heap stood for no entry, and the lines and the Ends stand behind that
pub returns-clause-played : goal.returns-clause-played
returns-clause-played c =
    let script = c.args.script.now in
    let opts = c.args.opts.now in
    let made = c.in_ok-solo.ensures in
    let after = c.play_lines.ensures.same in
    let places = rw c.unwrap-places.ensures at c.make.ensures.made in
    let types : c.play_lines.new.solo.types ≡ script.preamble.types = after.types ∙ made.types ∙ c.types.ensures in
    let layout = after.layout ∙ made.layout ∙ places in
    let laid_out : (shapes : List Shape) (each : Layout) → Configuration =
    λ shapes each. record { types = shapes; mutators = each.mutators; nursery = each.nursery; pages = each.pages } in
    let asked : ℕ → Configuration =
    λ mutators. record { types = script.preamble.types; mutators = mutators; nursery = opts.nursery; pages = opts.pages } in
    let same : configuration_of c.play_lines.new.solo ≡ heap_for opts script = ap₂ laid_out types layout
    ∙ ap asked c.mutators.ensures.mutators in
    let (more, played) = c.play_lines.ensures.played [] made.stands in
    let history = played-history c.play_lines.new.solo opts script c.play_lines.new.replies.list more same played in
    (more, history.0, history.1, history.2, history.3)
