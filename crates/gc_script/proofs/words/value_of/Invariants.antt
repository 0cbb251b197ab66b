use Rattle.std.proofs.Common.{◌≡◌, ◌<◌, ◌^◌, drop}
use Rattle.std.specs.Str.{all_ascii_digits}
use Rattle.std.specs.Str.Parse.{digits_value, digits_value_after}
use Rattle.gc_script.proofs.words.value_of.Given as goal

-- the value goes on over the digits that are left, which are all that can still spoil the word
abbrev pub invariant-loop-byte : goal.invariant-loop-byte
invariant-loop-byte l = record {
  fits : l.value < 2 ^ 64;
  value : digits_value_after 10 l.value (drop l.byte-index l.digits) ≡ digits_value 10 l.digits;
  digits : all_ascii_digits (drop l.byte-index l.digits) ≡ all_ascii_digits l.digits;
}
