-- The law of a beacon, over the numbers that were raised and the numbers that were shown.
use Rattle.std.specs.Prelude.{◌≡◌, ◌⊎◌, ℕ, ◌-◌, List, length, All, Contains, slice_index_or}
use Rattle.std.specs.List.Sorted.{IsNonDecreasing}

-- the last number, or 0 where there is none
abbrev pub last_or_zero : List ℕ → ℕ
last_or_zero numbers = slice_index_or numbers (length numbers - 1) 0

-- neither the numbers raised nor those shown fall, and each number shown is 0 or was raised
pub record BeaconLaw (raised shown : List ℕ) : Type 0 where
  pub raised_rise : IsNonDecreasing raised
  pub shown_rise : IsNonDecreasing shown
  pub shown_known : All (λ n. (n ≡ 0) ⊎ Contains raised n) shown
