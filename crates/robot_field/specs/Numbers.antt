-- Numbers of a field text. docs/PROGRAM.md, "Field text".
use Rattle.std.specs.Prelude.{◌≡◌, ◌≢◌, ℕ, ◌^◌, ◌<◌, List, ◌∷◌, ◌++◌, Option, MatchOption}
use Rattle.std.specs.Fmt.{decimal}

-- numbers count from 1
abbrev pub IsCount : ℕ → Type 0
IsCount n = (0 < n) × (n < 2 ^ 32)

-- two numbers parted by one blank; each has one spelling, decimal without leading zeros
abbrev pub pair_text : ℕ → ℕ → List ℕ
pair_text x y = decimal x ++ 32 ∷ decimal y

-- the number that the text is, and none where it is no number
abbrev pub ReadsOne : List ℕ → Option ℕ → Type 0
ReadsOne text r = MatchOption r ((n : ℕ) → IsCount n → text ≢ decimal n) (λ n. IsCount n × (text ≡ decimal n))
