use Rattle.std.proofs.Common.{◌≡◌, ◌∙◌, ◌*◌, Some, ap, ap₂, arith}
use Rattle.gc_layout.specs.Places.{region_words, words_before, owner_of}
use Rattle.gc_layout.proofs.PlacesLemmas.{address-owner, same_part}
use Rattle.gc_layout.proofs.places.Places.part.Goals as goal

-- the part that was computed and the part at that address have as many words before them
pub returns-then-is_address-clause-exact : goal.returns-then-is_address-clause-exact
returns-then-is_address-clause-exact c = λ m part there inside address.
    let owner : owner_of c.args.self.now c.args.a ≡ m = address-owner c.args.self.now m c.args.a part inside address in
    let same : c.regions_before-owner.result ≡ m = cc in
    let product : c.from.result * c.region.result ≡ m * region_words c.args.self.now =
    ap₂ (λ left right. left * right) (c.from.ensures ∙ same) c.region.ensures.words in
    let before : words_before c.args.self.now c.part_after.result ≡ words_before c.args.self.now part =
    omega (arith, product, c.part_after.ensures.before, address) in
    ap Some (same_part c.args.self.now c.part_after.result part c.part_after.ensures.inside inside before)
