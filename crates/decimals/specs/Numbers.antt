-- The numbers that words are, each in its one spelling.
use Rattle.std.specs.Prelude.{ℕ, ℤ, ◌^◌, ◌&&◌, if◌then◌else◌, Option, Some, None, List, nat_lt}
use Rattle.std.specs.Int.Signed.{mag}
use Rattle.std.specs.Fmt.{decimal, signed_decimal}
use Rattle.std.specs.Str.{bytes_eq}
use Rattle.std.specs.Str.Parse.{digits_value, signed_digits_value}

-- the number below 2 ^ 32 that the word is
unfoldable pub number_of : List ℕ → Option ℕ
number_of word = if nat_lt (digits_value 10 word) (2 ^ 32) && bytes_eq (decimal (digits_value 10 word)) word then Some (digits_value 10 word) else None

-- the number of the range of `цел` that the word is; `mag z` is z, or -z - 1 below zero
unfoldable pub whole_of : List ℕ → Option ℤ
whole_of word = if nat_lt (mag (signed_digits_value 10 word)) (2 ^ 31) && bytes_eq (signed_decimal (signed_digits_value 10 word)) word then Some (signed_digits_value 10 word) else None

-- the number of 64 bits with a sign that the word is
unfoldable pub wide_of : List ℕ → Option ℤ
wide_of word = if nat_lt (mag (signed_digits_value 10 word)) (2 ^ 63) && bytes_eq (signed_decimal (signed_digits_value 10 word)) word then Some (signed_digits_value 10 word) else None
