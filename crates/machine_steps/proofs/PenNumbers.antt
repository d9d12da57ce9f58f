-- The numbers of a command.
use Rattle.std.proofs.Common.{◌≡◌, List, [], ◌∷◌, map, refl}
use Rattle.kumir_values.specs.declared.value.Value.{Value}
use Rattle.kumir_meaning.specs.Operators.{number_of, first_number, second_number}
use Rattle.kumir_meaning.specs.Runs.{first_of_all, second_of_all}

pub first_same : (vs : List Value) → first_number vs ≡ first_of_all (map number_of vs)
first_same [] = refl
first_same (v ∷ vs) = refl

pub second_same : (vs : List Value) → second_number vs ≡ second_of_all (map number_of vs)
second_same [] = refl
second_same (v ∷ []) = refl
second_same (v ∷ (w ∷ vs)) = refl
