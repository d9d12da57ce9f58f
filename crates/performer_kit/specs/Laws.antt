-- What it means that names are different.
use Rattle.std.specs.Prelude.{◌≡◌, ◌≢◌, ℕ, List, Option, Some, None}

-- each thing is found by its name, what is found has that name, and nothing is found exactly by all other names
pub record AreInverse {T : Type 0} (name : T → List ℕ) (named : List ℕ → Option T) : Type 0 where
  pub found : (t : T) → named (name t) ≡ Some t
  pub has_name : (text : List ℕ) (t : T) → named text ≡ Some t → name t ≡ text
  pub other : (text : List ℕ) → named text ≡ None → (t : T) → name t ≢ text
