-- Arithmetic on mathematical whole numbers, with the range of 32 bits as a guard.
use Rattle.std.specs.Prelude.{◌≡◌, ℕ, zero, suc, Bool, cond, ◌&&◌, ℤ, pos, negsuc, ◌+ℤ◌, ◌*ℤ◌, ◌≤ℤ◌, ◌<ℤ◌, unsigned_abs, int_le, ◌==◌, Result, Ok, Err}
use Rattle.std.specs.Int.{int_div_euclid, int_rem_euclid}
use Rattle.kumir_values.specs.declared.run_end.RunFault.{RunFault}
use Rattle.kumir_values.specs.declared.run_end.RunFault.TheVariants.{Range, Divisor, Exponent}

-- from -2147483648 to 2147483647
abbrev pub in_range : ℤ → Bool
in_range z = int_le (negsuc 2147483647) z && int_le z (pos 2147483647)

-- the number itself, where it is in range
abbrev pub ranged : ℤ → Result ℤ RunFault
ranged z = cond (in_range z) (Ok z) (Err Range)

-- q and r are what division of a by b gives: the remainder lies from 0 to below the absolute value of the divisor
pub record IsDivision (a b q r : ℤ) : Type 0 where
  pub whole : a ≡ b *ℤ q +ℤ r
  pub low : pos 0 ≤ℤ r
  pub high : r <ℤ pos (unsigned_abs b)

-- the two numbers of which that holds, where b is not 0
abbrev pub quotient : ℤ → ℤ → ℤ
quotient a b = int_div_euclid a b

abbrev pub remainder : ℤ → ℤ → ℤ
remainder a b = int_rem_euclid a b

abbrev pub is_zero : ℤ → Bool
is_zero z = unsigned_abs z == 0

-- z multiplied n times with itself, 1 for n = 0
unfoldable pub power_of : ℤ → ℕ → ℤ
power_of z zero = pos 1
power_of z (suc n) = power_of z n *ℤ z

-- ---- the answers of the operations
abbrev pub divided : ℤ → ℤ → Result ℤ RunFault
divided a b = cond (is_zero b) (Err Divisor) (ranged (quotient a b))

abbrev pub remaindered : ℤ → ℤ → Result ℤ RunFault
remaindered a b = cond (is_zero b) (Err Divisor) (ranged (remainder a b))

abbrev pub raised : ℤ → ℤ → Result ℤ RunFault
raised a (pos n) = ranged (power_of a n)
raised a (negsuc n) = Err Exponent
