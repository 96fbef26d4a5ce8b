-- A set of weekdays by the bits of a number: the number is that of its flags.
use Rattle.std.proofs.Common.{◌≡◌, ℕ, ◌<◌, cond, arith}
use Rattle.std.{proofs.lemmas.Bool.Decides.nat_tests, specs.Int.bit_at}
use Rattle.cif_columns.specs.DaysRun.{flag, flags, bits_of}

-- a flag as a number
bit-flag : (bits weekday : ℕ) → cond (flag bits weekday) 1 0 ≡ bit_at bits weekday
bit-flag bits weekday = grind (arith, nat_tests)

pub bits_of-flags : (bits : ℕ) → bits < 128 → bits_of (flags bits) ≡ bits
bits_of-flags bits within = omega (
  arith,
  bit-flag bits 0,
  bit-flag bits 1,
  bit-flag bits 2,
  bit-flag bits 3,
  bit-flag bits 4,
  bit-flag bits 5,
  bit-flag bits 6,
)
