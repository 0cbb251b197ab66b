-- The sum over the marked objects, object by object.
use Rattle.std.proofs.Common.{◌≡◌, ◌∙◌, ℕ, ◌+◌, ◌<◌, Bool, true, false, cond, List, [], ◌∷◌, ◌++◌, length, take, filter, ap, sym, arith, slice_index_or}
use Rattle.std.proofs.lemmas.List.{append-nil, length_push}
use Rattle.std.proofs.lemmas.List.Elements.{filter_more}
use Rattle.std.proofs.lemmas.List.FromFn.{get_or-enumerate_from, length-enumerate_from}
use Rattle.std.proofs.lemmas.List.Sums.{sum_by_push}
use Rattle.std.specs.List.{enumerate_from}
use Rattle.gc_model.specs.declared.world.Live.{Live}
use Rattle.gc_model.specs.Graph.{Graph, Object, object_size}
use Rattle.gc_model.specs.Worklist.{Worklist, is_marked, sum_of}

-- the marked ones among the first so many objects, with their numbers
abbrev pub marked_before : Graph → Worklist → ℕ → List (ℕ × Object)
marked_before graph work count = filter (λ member. is_marked work member.0) (take count (enumerate_from 0 graph))

-- what stands at a index, with its number
member-is : (graph : Graph) (index : ℕ) (object : Object) → index < length graph → object ≡ slice_index_or graph index object
    → slice_index_or (enumerate_from 0 graph) index (index, object) ≡ (index, object)
member-is graph index object there is =
    get_or-enumerate_from 0 graph index (index, object) there
    ∙ ap (λ (number : ℕ). (number, slice_index_or graph index object)) (omega arith)
    ∙ ap (λ (each : Object). (index, each)) (sym is)

-- one more among the first objects
marked-more : (graph : Graph) (work : Worklist) (index : ℕ) (object : Object) → index < length graph
    → object ≡ slice_index_or graph index object
    → marked_before graph work (index + 1) ≡ marked_before graph work index ++ cond (is_marked work index) ((index, object) ∷ []) []
marked-more graph work index object there is =
    let members = enumerate_from 0 graph in
    let before = marked_before graph work index in
    filter_more (λ (member : ℕ × Object). is_marked work member.0) members index (index, object)
    (omega (arith, there, length-enumerate_from 0 graph))
    ∙ ap (λ (member : ℕ × Object). before ++ cond (is_marked work member.0) (member ∷ []) []) (member-is graph index object there is)

-- the sums with one more object
abbrev pub sum_and : Live → ℕ → Live
sum_and live size = record { objects = live.objects + 1; words = live.words + size }

-- an object that is marked counts
pub sum-marked : (graph : Graph) (work : Worklist) (index : ℕ) (object : Object) → index < length graph
    → object ≡ slice_index_or graph index object → is_marked work index ≡ true
    → sum_of (marked_before graph work (index + 1)) ≡ sum_and (sum_of (marked_before graph work index)) (object_size object)
sum-marked graph work index object there is marked =
    let before = marked_before graph work index in
    let member : ℕ × Object = (index, object) in
    let more : marked_before graph work (index + 1) ≡ before ++ member ∷ [] =
    marked-more graph work index object there is ∙ ap (λ (mark : Bool). before ++ cond mark (member ∷ []) []) marked in
    ap sum_of more
    ∙ ap (λ (count : ℕ). record { objects = count; words = (sum_of (before ++ member ∷ [])).words }) (length_push before member)
    ∙ ap (λ (words : ℕ). record { objects = length before + 1; words = words })
    (sum_by_push (λ (each : ℕ × Object). object_size each.1) before member)

-- another one doesn't
pub sum-unmarked : (graph : Graph) (work : Worklist) (index : ℕ) (object : Object) → index < length graph
    → object ≡ slice_index_or graph index object → is_marked work index ≡ false
    → sum_of (marked_before graph work (index + 1)) ≡ sum_of (marked_before graph work index)
sum-unmarked graph work index object there is unmarked =
    let before = marked_before graph work index in
    ap sum_of (marked-more graph work index object there is
    ∙ ap (λ (mark : Bool). before ++ cond mark ((index, object) ∷ []) []) unmarked ∙ append-nil before)
