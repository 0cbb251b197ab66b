use Rattle.std.proofs.Common.{◌≡◌, ℕ, List, [], ◌∷◌, length, map, Bor, sym, ◌∙◌, arith}
use Rattle.std.proofs.lemmas.Bool.Decides.{nat_tests}
use Rattle.std.proofs.lemmas.List.{take_at, length-map}
use Rattle.gc_script.proofs.cut.append_word.Goals as goal

pub returns-else-not-is_full : goal.returns-else-not-is_full
returns-else-not-is_full c =
    let words = map (λ (word : Bor (List ℕ)). word.now) c.args.words.now.items in
    let seven : length c.args.words.now.items ≡ 7 = grind (arith, nat_tests) in
    sym (take_at words (c.args.word.now ∷ []) 7 (length-map c.args.words.now.items (λ (word : Bor (List ℕ)). word.now) ∙ seven))
