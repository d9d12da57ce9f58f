-- How far a pen can be from 0, 0.
use Rattle.std.specs.Prelude.{ℕ, ℤ, pos, neg_ℤ, ◌*◌, ◌^◌, ◌≤ℤ◌}

-- within 2 ^ 31 for each of the moves
abbrev pub IsNear : ℕ → ℤ → Type 0
IsNear moves z = (neg_ℤ (pos (2 ^ 31 * moves)) ≤ℤ z) × (z ≤ℤ pos (2 ^ 31 * moves))
