-- what was written so far, and the next bytes of the piece
use Rattle.std.proofs.Common.{◌≡◌, ◌+◌, ◌∙◌, List, ℕ, Option, length, take, drop, arith, subst, ap, length-drop}
use Rattle.std.proofs.Math.Seq.{take-add}
use Rattle.std.proofs.lemmas.List.{take_rest, drop-drop}
use Rattle.std.proofs.KnownBytes.{Appends-trans, Appends-kept}
use Rattle.std.specs.Io.KnownBytes.{Appends}
use Rattle.gc_io.proofs.std_sink.write_whole.Goals as goal
use Rattle.gc_io.proofs.std_sink.write_whole.Goals.{in-Ok, in-Err+else-ne}

-- the next bytes of a piece, behind those that were appended already
Appends-next : (piece rest : List ℕ) (count more : ℕ) (first middle last : Option (List ℕ))
    → rest ≡ drop count piece → Appends first middle (take count piece) → Appends middle last (take more rest)
    → Appends first last (take (count + more) piece)
Appends-next piece rest count more first middle last same before next =
    let after = subst (λ (bytes : List ℕ). Appends middle last (take more bytes)) same next in
    rw take-add (Appends-trans _ _ _ _ _ before after)

pub loop-preserved : goal.loop-preserved
loop-preserved g c =
    let (count, within, same, appended) = c.loop.invariant in
    let piece = c.args.piece.now in
    elim c.match-write.branch [
      | in-Ok w ↦
          let more = w.in-Ok.count in (
            count + more,
            omega (arith, w.in-Ok.ensures.bound, ap length same, length-drop count piece),
            rw w.rest-is (take_rest c.loop.rest.now more ∙ ap (λ (bytes : List ℕ). drop more bytes) same ∙ drop-drop more count piece),
            Appends-next piece _ count more _ _ _ same appended w.in-Ok.ensures.bytes,
          )
      | in-Err+else-ne w ↦
          rw w.rest-is (count, within, same, Appends-kept _ _ _ _ appended w.in-Err.ensures.bytes)
    ]
