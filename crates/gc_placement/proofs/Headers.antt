-- What is read back from a header's word.
use Rattle.std.proofs.Common.{◌≡◌, ◌∙◌, ℕ, ◌+◌, ◌*◌, ◌/◌, ◌%◌, ◌<◌, ◌≤◌, ◌==◌, Bool, true, false, cond, refl, ap, arith}
use Rattle.std.proofs.lemmas.Nat.{div-mul-add, mod-mul-add}
use Rattle.gc_layout.specs.declared.head.Head.{Head}
use Rattle.gc_layout.specs.declared.shape.TypeNo.{TypeNo}
use Rattle.gc_layout.specs.Head.{flag_value, fresh_head, head_word}
use Rattle.gc_placement.specs.Headers.{IsHeader, has_flag, head_of}

-- how often a flag counts
abbrev count_of : Bool → ℕ
count_of on = cond on 1 0

-- a flag adds its value as often as it counts, which is at most once
flag_value-counted : (on : Bool) (flag : ℕ) → (flag_value on flag ≡ count_of on * flag) × (count_of on ≤ 1)
flag_value-counted true flag = (omega arith, omega arith)
flag_value-counted false flag = (omega arith, omega arith)

-- an odd number is odd, and an even one isn't
parity : (on : Bool) (above : ℕ) → ((above * 2 + count_of on) % 2 == 1) ≡ on
parity true above = ap (λ n. n == 1) (mod-mul-add above 2 1 (omega arith))
parity false above = ap (λ n. n == 1) (mod-mul-add above 2 0 (omega arith))

-- a flag is read back that stands above less than its value, and below multiples of twice its value
has_flag-read : (word flag low above : ℕ) (on : Bool) → low < flag → word ≡ (above * 2 + count_of on) * flag + low
    → has_flag word flag ≡ on
has_flag-read word flag low above on below is =
    ap (λ n. n % 2 == 1) (ap (λ n. n / flag) is ∙ div-mul-add (above * 2 + count_of on) flag low below) ∙ parity on above

-- heads with the same type and flags are one
same_head : (ty : ℕ) (old seen remembered marked : Bool) (head : Head) → ty ≡ head.ty.0 → old ≡ head.old → seen ≡ head.seen
    → remembered ≡ head.remembered → marked ≡ head.marked
    → record { ty = record { 0 = ty }; old = old; seen = seen; remembered = remembered; marked = marked } ≡ head
same_head ty old seen remembered marked head ty_is old_is seen_is remembered_is marked_is =
    rw (ty_is, old_is, seen_is, remembered_is, marked_is) refl

-- a head is read back from its word
pub head_of-head_word : (head : Head) → head.ty.0 < 256 → head_of (head_word head) ≡ head
head_of-head_word head below =
    let word = head_word head in
    let old = flag_value-counted head.old 256 in
    let seen = flag_value-counted head.seen 512 in
    let remembered = flag_value-counted head.remembered 1024 in
    let marked = flag_value-counted head.marked 2048 in
    let above_old : ℕ = count_of head.seen + 2 * count_of head.remembered + 4 * count_of head.marked + 8 in
    let above_seen : ℕ = count_of head.remembered + 2 * count_of head.marked + 4 in
    let above_remembered : ℕ = count_of head.marked + 2 in
    let low_seen : ℕ = head.ty.0 + flag_value head.old 256 in
    let low_remembered : ℕ = low_seen + flag_value head.seen 512 in
    let low_marked : ℕ = low_remembered + flag_value head.remembered 1024 in
    same_head (word % 256) (has_flag word 256) (has_flag word 512) (has_flag word 1024) (has_flag word 2048) head
    (omega (arith, old, seen, remembered, marked))
    (has_flag-read word 256 head.ty.0 above_old head.old below (omega (arith, old, seen, remembered, marked)))
    (has_flag-read word 512 low_seen above_seen head.seen (omega (arith, old)) (omega (arith, seen, remembered, marked)))
    (has_flag-read word 1024 low_remembered above_remembered head.remembered (omega (arith, old, seen))
    (omega (arith, remembered, marked)))
    (has_flag-read word 2048 low_marked 1 head.marked (omega (arith, old, seen, remembered)) (omega (arith, marked)))

-- the word of a new object's header is a header's
pub IsHeader-fresh : (ty : TypeNo) (in_page : Bool) → ty.0 < 256 → IsHeader (head_word (fresh_head ty in_page)) ty.0
IsHeader-fresh ty in_page below =
    let read = head_of-head_word (fresh_head ty in_page) below in
    record { header = ap head_word read; type_is = ap (λ (head : Head). head.ty.0) read }

-- a header's type number is below 256
pub head_of-type : (word ty : ℕ) → IsHeader word ty → ty < 256
head_of-type word ty header = omega (arith, header.type_is)
