-- The bytes of the lines of a text.
use Rattle.std.specs.Prelude.{ℕ, ◌+◌, List, [], ◌∷◌, length, All, ◌≢◌}

-- no byte is a line feed
abbrev pub HasNoFeed : List ℕ → Type 0
HasNoFeed bytes = All (λ b. b ≢ 10) bytes

-- the bytes of all lines, and one for each line
abbrev pub weight : List (List ℕ) → ℕ
weight [] = 0
weight (x ∷ xs) = length x + 1 + weight xs
