-- The text of the lines that are left to write.
use Rattle.std.proofs.Common.{◌≡◌, ℕ, ◌+◌, ◌<◌, List, [], ◌++◌, length, drop, refl, arith, slice_index_or}
use Rattle.std.proofs.Math.Seq.{drop-cons}
use Rattle.std.proofs.Math.Numerals.{add-one}
use Rattle.gc_layout.specs.declared.shape.Shape.{Shape}
use Rattle.gc_layout.specs.Shape.{common_shape}
use Rattle.gc_script.specs.Written.{type_text, types_text}

-- the type lines that are left begin with the next
pub types_text-next : (names : List (List ℕ)) (shapes : List Shape) (i : ℕ) (piece : List ℕ) → i < length names
    → length names + 1 ≡ length shapes → piece ≡ type_text (slice_index_or names i []) (slice_index_or shapes (i + 1) common_shape)
    → types_text (drop i names) (drop (i + 1) shapes) ≡ piece ++ types_text (drop (i + 1) names) (drop (i + 1 + 1) shapes)
types_text-next names shapes i piece h e is =
    let within : i + 1 < length shapes = omega arith in
    rw (drop-cons names i [], drop-cons shapes (i + 1) common_shape, is, add-one (i + 1), add-one i) refl
