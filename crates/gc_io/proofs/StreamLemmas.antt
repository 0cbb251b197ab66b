-- What one piece after another writes.
use Rattle.std.proofs.Common.{◌≡◌, ℕ, ◌+◌, List, ◌++◌, length, take, Option, Some, None, ap, ◌∙◌, append_assoc, arith, length-append}
use Rattle.std.proofs.Math.Seq.{take-append-add}
use Rattle.std.proofs.lemmas.List.{take-append-le}
use Rattle.gc_io.specs.Streams.{Appends, AppendsPrefix}

-- pieces that a sink gets one after another are appended together
pub Appends-append : (old mid new : Option (List ℕ)) (xs ys : List ℕ)
    → Appends old mid xs → Appends mid new ys → Appends old new (xs ++ ys)
Appends-append None mid new xs ys first second = rw first at second
Appends-append (Some written) mid new xs ys first second =
    (rw first at second) ∙ ap Some (append_assoc written xs ys)

-- a first part of the first piece is a first part of the whole
pub AppendsPrefix-front : (old new : Option (List ℕ)) (piece rest : List ℕ)
    → AppendsPrefix old new piece → AppendsPrefix old new (piece ++ rest)
AppendsPrefix-front old new piece rest first =
    let (count, within, appended) = first in (
      count,
      omega (arith, length-append piece rest, within),
      rw (take-append-le count piece rest within) appended,
    )

-- a first part of the last piece goes behind the pieces before it
pub AppendsPrefix-last : (old mid new : Option (List ℕ)) (front piece : List ℕ)
    → Appends old mid front → AppendsPrefix mid new piece → AppendsPrefix old new (front ++ piece)
AppendsPrefix-last old mid new front piece first second =
    let (count, within, appended) = second in (
      length front + count,
      omega (arith, length-append front piece, within),
      rw (take-append-add front piece count) (Appends-append old mid new front (take count piece) first appended),
    )

-- a first part of the next piece is a first part of the whole
pub AppendsPrefix-behind : (old mid new : Option (List ℕ)) (front piece rest whole : List ℕ)
    → Appends old mid front → AppendsPrefix mid new piece → front ++ (piece ++ rest) ≡ whole → AppendsPrefix old new whole
AppendsPrefix-behind old mid new front piece rest whole first second is =
    let behind = AppendsPrefix-front mid new piece rest second in
    rw (← is) (AppendsPrefix-last old mid new front (piece ++ rest) first behind)
