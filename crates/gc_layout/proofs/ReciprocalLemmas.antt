-- A quotient by a multiplication with a scaled reciprocal that is rounded up.
use Rattle.std.proofs.Common.{◌≡◌, ◌∙◌, ℕ, ◌+◌, ◌-◌, ◌*◌, ◌/◌, ◌%◌, ◌<◌, ◌≤◌, ap, sym, arith, lit≤}
use Rattle.std.proofs.Math.Nat.{div-add-mod, div-lt_iff_lt-mul, mul-le-mul, mul-le-mul_left, mul-le-mul_right}
use Rattle.std.proofs.lemmas.Nat.{div-mul-add, le-div, mod_below}
use Rattle.gc_layout.specs.Places.{Layout, IsWithinLimits, region_words, word_count}
use Rattle.gc_layout.specs.Reciprocal.{reciprocal_of}

-- the error of a product with the reciprocal is below the scale
error-below : (n r q k m excess scale : ℕ) → n ≡ r * q + k → k + 1 ≤ r → r * m ≡ scale + excess → excess ≤ r
    → n + r < m → q * excess + k * m < scale
error-below n r q k m excess scale n_is below product few large =
    omega (arith, n_is, product, mul-le-mul_left q few, mul-le-mul_right m below)

-- the product is the quotient, scaled, and that error
product-is : (n r q k m excess scale : ℕ) → n ≡ r * q + k → r * m ≡ scale + excess
    → n * m ≡ q * scale + (q * excess + k * m)
product-is n r q k m excess scale n_is product =
    omega (arith, ap (λ x. x * m) n_is, ap (λ x. q * x) product)

-- a reciprocal that is rounded up, times its number, is the scale and no more than the number beside it
rounded-up : (scale r : ℕ) → 0 < r → r * (scale / r + 1) ≡ scale + (r - scale % r)
rounded-up scale r some = omega (arith, div-add-mod scale r, mod_below scale r some)

-- the scaled reciprocal gives the quotient of each number that is small against the scale
pub quotient-by-reciprocal : (scale n r : ℕ) → 0 < r → n + r < scale / r + 1 → n * (scale / r + 1) / scale ≡ n / r
quotient-by-reciprocal scale n r some large =
    let q = n / r in
    let k = n % r in
    let m = scale / r + 1 in
    let excess = r - scale % r in
    let n_is : n ≡ r * q + k = sym (div-add-mod n r) in
    let product : r * m ≡ scale + excess = rounded-up scale r some in
    let below : q * excess + k * m < scale =
    error-below n r q k m excess scale n_is (omega (arith, mod_below n r some)) product (omega arith) large in
    ap (λ x. x / scale) (product-is n r q k m excess scale n_is product) ∙ div-mul-add q scale (q * excess + k * m) below

-- a number that is at most another one has at least its reciprocal
reciprocal-above : (scale bound r most : ℕ) → 0 < r → r ≤ most → most * bound ≤ scale → bound ≤ scale / r
reciprocal-above scale bound r most some few enough =
    le-div bound scale r some (omega (arith, mul-le-mul_right bound few))

-- the words of a region, which has a root word for each register
region-some : (layout : Layout) → 0 < region_words layout
region-some layout = omega arith

-- no region has more words than one of the largest halves and the most pages
region-most : (layout : Layout) → IsWithinLimits layout → region_words layout ≤ 262160
region-most layout limits = omega arith

-- the words of no heap are more than those of the largest
words-most : (layout : Layout) → IsWithinLimits layout → word_count layout ≤ 2097280
words-most layout limits =
    omega (arith, mul-le-mul limits.few_mutators (region-most layout limits))

-- so it gives the regions before each address of the heap
pub regions-by-reciprocal : (layout : Layout) (before : ℕ) → IsWithinLimits layout → before < word_count layout
    → before * reciprocal_of layout / 4398046511104 ≡ before / region_words layout
regions-by-reciprocal layout before limits inside =
    let region = region_words layout in
    let most : region ≤ 262160 = region-most layout limits in
    let above : 16776192 ≤ 4398046511104 / region =
    reciprocal-above 4398046511104 16776192 region 262160 (region-some layout) most (lit≤ tt) in
    quotient-by-reciprocal 4398046511104 before region (region-some layout) (omega (arith, words-most layout limits))

-- the owner of each address of the heap is one of its mutators
pub regions-below : (layout : Layout) (before : ℕ) → before < word_count layout
    → before / region_words layout < layout.mutators
regions-below layout before inside = (div-lt_iff_lt-mul (region-some layout)).1 inside
