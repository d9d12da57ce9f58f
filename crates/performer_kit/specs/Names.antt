-- Things with names, looked up by the name.
use Rattle.std.specs.Prelude.{ℕ, List, Option, find}
use Rattle.std.specs.Str.{bytes_eq}

-- the first of the things with that name
abbrev pub first_named : {T : Type 0} → (T → List ℕ) → List T → List ℕ → Option T
first_named name things text = find (λ t. bytes_eq (name t) text) things
