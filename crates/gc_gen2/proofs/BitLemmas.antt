-- A word of which one bit was set or cleared.
use Rattle.std.proofs.Common.{◌≡◌, ◌≢◌, ℕ, ◌*◌, ◌^◌, ◌%◌, ◌<◌, arith}
use Rattle.std.specs.Prelude.{bit_and, bit_or}
use Rattle.std.specs.Int.{Width, bit_at, bit_not}
use mir.Val.{bits}
use Rattle.std.proofs.lemmas.Nat.{or_lt, and_le_l, mod_below, pow_pos}
use Rattle.std.proofs.lemmas.Nat.Bits.{bit_at_set_other, bit_at_clear_other}

-- of the width w, the word v is the word u but for bit i
pub record SameBut (w : Width) (u v i : ℕ) : Type 0 where
  pub fits : v < 2 ^ bits w
  pub others : (k : ℕ) → k < bits w → k ≢ i → bit_at v k ≡ bit_at u k

pub SameBut-set : (w : Width) (u i : ℕ) → u < 2 ^ bits w → i < bits w → SameBut w u (bit_or u (1 * 2 ^ i % 2 ^ bits w)) i
SameBut-set w u i fits within = record {
  fits = or_lt (bits w) u (1 * 2 ^ i % 2 ^ bits w) fits (mod_below (1 * 2 ^ i) (2 ^ bits w) (pow_pos (bits w)));
  others = λ k low apart. bit_at_set_other w u i within k apart;
}

pub SameBut-clear : (w : Width) (u i : ℕ) → u < 2 ^ bits w → i < bits w → SameBut w u (bit_and u (bit_not w (1 * 2 ^ i % 2 ^ bits w))) i
SameBut-clear w u i fits within = record {
  fits = omega (arith, and_le_l u (bit_not w (1 * 2 ^ i % 2 ^ bits w)));
  others = λ k low apart. bit_at_clear_other w u i within k low apart;
}
