-- What breaks off an analysis.
use Rattle.std.specs.Prelude.{◌≡◌, ℕ, List, ◌++◌, ◌<◌, Option, Some, None, Contains, ⊤}

-- a number is among those that came
abbrev pub IsAmong : List ℕ → Option ℕ → Type 0
IsAmong came None = ⊤
IsAmong came (Some n) = Contains came n

-- more numbers were seen, and the answer is one of them
abbrev pub SeesMore : List ℕ → List ℕ → Option ℕ → Type 0
SeesMore before now answer = (came : List ℕ) × (now ≡ before ++ came) × IsAmong came answer

-- the answer, if there is one, is above this version
abbrev pub IsNewer : ℕ → Option ℕ → Type 0
IsNewer version None = ⊤
IsNewer version (Some n) = version < n
