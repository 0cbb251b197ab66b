-- A heap that changed in its words and bays alone, step by step.
use Rattle.std.proofs.Common.{◌≡◌, ◌∙◌, Global, Vec, ap, sym}
use Rattle.gc_bay.specs.declared.bay.Bay.{Bay}
use Rattle.gc_solo.specs.declared.heap.Heap.{Heap}

-- all but the words and bays is as before
abbrev pub IsChanged : Heap → Heap → Type 0
IsChanged old new = new ≡ record old { words = new.words; bays = new.bays }

-- one change after another
pub changed-then : (old mid new : Heap) → IsChanged old mid → IsChanged mid new → IsChanged old new
changed-then old mid new first second =
    second ∙ ap (λ (heap : Heap). record heap { words = new.words; bays = new.bays }) first

-- a change of the words
pub changed-words : (old new : Heap) → new ≡ record old { words = new.words } → IsChanged old new
changed-words old new rest =
    rest ∙ ap (λ (bays : Vec Bay Global). record old { words = new.words; bays = bays }) (sym (ap (λ (heap : Heap). heap.bays) rest))

-- a change of the bays
pub changed-bays : (old new : Heap) → new ≡ record old { bays = new.bays } → IsChanged old new
changed-bays old new rest =
    rest ∙ ap (λ words. record old { words = words; bays = new.bays }) (sym (ap (λ (heap : Heap). heap.words) rest))
