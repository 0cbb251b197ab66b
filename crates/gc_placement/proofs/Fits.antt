-- What is reachable fits the heap, and so does a new object beside it.
use Rattle.std.proofs.Common.{◌≡◌, ℕ, suc, ◌+◌, ◌*◌, ◌≤◌, Bool, true, [], ◌∷◌, ◌++◌, length, Some, is_some, refl, ap, ◌∙◌, arith}
use Rattle.std.proofs.lemmas.List.{length_push}
use Rattle.gc_layout.specs.Shape.{size_of}
use Rattle.gc_layout.specs.Sizes.{page_words}
use Rattle.gc_model.specs.Answer.{shape_at, with_new}
use Rattle.gc_model.specs.Graph.{Graph, Object, fresh_object, object_size}
use Rattle.gc_model.specs.Reach.{is_reachable, live}
use Rattle.gc_model.specs.World.{World}
use Rattle.gc_model.proofs.Objects.{fresh_object-size}
use Rattle.gc_placement.specs.Memory.{Memory}
use Rattle.gc_placement.specs.Names.{Covers}
use Rattle.gc_placement.specs.Placement.{IsPlaced, Placement}
use Rattle.gc_placement.specs.Shows.{Shows}
use Rattle.gc_placement.specs.Sums.{words_where}
use Rattle.gc_placement.proofs.Graphs.{push-before, push-last}
use Rattle.gc_placement.proofs.Names.{reachable-placed}
use Rattle.gc_placement.proofs.Sums.{counted, counted_size, placed-fits, sum-same, sum_below, words-fewer, words-sum}

-- one more object that has the property adds its words
words-push : (has : ℕ → Bool) (graph : Graph) (object : Object) → has (length graph) ≡ true
    → words_where has (graph ++ object ∷ []) ≡ words_where has graph + object_size object
words-push has graph object is =
    let more : Graph = graph ++ object ∷ [] in
    let count : length more ≡ suc (length graph) = omega (arith, length_push graph object) in
    let before : sum_below (counted_size has more) (length graph) ≡ sum_below (counted_size has graph) (length graph) =
    sum-same (counted_size has more) (counted_size has graph) (length graph)
    (λ i below. ap (λ (each : Object). counted (has i) (object_size each)) (push-before graph object i below)) in
    let last : counted_size has more (length graph) ≡ object_size object =
    rw (is, push-last graph object) refl in
    let sum : words_where has more ≡ sum_below (counted_size has more) (length graph) + counted_size has more (length graph) =
    words-sum has more ∙ ap (sum_below (counted_size has more)) count in
    omega (arith, sum, before, last, words-sum has graph)

-- what was reachable before a new object was made and the new object are together no more than the halves and pages have
pub new-fits : (old new : Memory) (before after : Placement) (world : World) (t into ty : ℕ) → Covers before world
    → Shows new after (with_new old.types world t into ty)
    → ((number address : ℕ) → before number ≡ Some address → after number ≡ Some address) → IsPlaced after (length world.graph)
    → (live world).words + size_of (shape_at old.types ty)
    ≤ new.layout.mutators * (new.layout.nursery + page_words * new.layout.pages)
new-fits old new before after world t into ty covers shown more placed =
    let object = fresh_object ty (Some t) (shape_at old.types ty) in
    let has : ℕ → Bool = λ number. is_some (after number) in
    let fewer : words_where (is_reachable world) world.graph ≤ words_where has world.graph =
    words-fewer (is_reachable world) has world.graph (λ n reached.
    let at = reachable-placed before world covers n reached in
    ap is_some (more n at.address at.at)) in
    let pushed = words-push has world.graph object (ap is_some placed.at) in
    let all = placed-fits new.layout new.bay after (world.graph ++ object ∷ []) shown.bays shown.lying shown.apart in
    omega (arith, fewer, pushed, all, fresh_object-size ty (Some t) (shape_at old.types ty))
