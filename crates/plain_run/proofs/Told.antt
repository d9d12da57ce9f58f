-- What a source that tells what is left tells of an input.
use Rattle.std.proofs.Common.{◌≡◌, ℕ, ◌<◌, List, length, Option, None, Some, arith, ap, ◌∙◌}
use Rattle.km_ports.specs.Ports.{SourceState}
use Rattle.km_ports.specs.Whole.{IsAll, HasMore, IsWhole, IsLongerThan}

all_told : (before now : Option (List ℕ)) (bytes input : List ℕ) → IsAll before now bytes → before ≡ Some input → bytes ≡ input
all_told None now bytes input h e = absurd (let none : ⊥ = cc in none)
all_told (Some left) now bytes input h e = h.0 ∙ (let same : left ≡ input = cc in same)

more_told : (most : ℕ) (before : Option (List ℕ)) (input : List ℕ) → HasMore most before → before ≡ Some input → most < length input
more_told most None input h e = absurd (let none : ⊥ = cc in none)
more_told most (Some left) input h e = let same : length left ≡ length input = ap length (let same : left ≡ input = cc in same) in omega (arith, h, same)

pub whole_told : (before now : SourceState) (bytes input : List ℕ) → IsWhole before now bytes → before.left ≡ Some input → bytes ≡ input
whole_told before now = all_told before.left now.left

pub long_told : (most : ℕ) (before : SourceState) (input : List ℕ) → IsLongerThan most before → before.left ≡ Some input → most < length input
long_told most before = more_told most before.left
