-- The return of an algorithm.
use Rattle.std.specs.Prelude.{◌≡◌, ℕ, ◌<◌, List, ◌∷◌, Option, Some, None, Result, Ok, Err}
use Rattle.kumir_values.specs.declared.value.Value.{Value}
use Rattle.kumir_values.specs.declared.run_end.RunFault.{RunFault}
use Rattle.kumir_meaning.specs.Store.{given_back}
use Rattle.stack_code.specs.declared.instruction.CallPlace.{CallPlace}
use Rattle.stack_code.specs.declared.instruction.CallPlace.TheVariants as place
use Rattle.stack_code.specs.CodeState.{Slots, cell_in}

-- the slot to which a place copies is there
abbrev pub PlaceIsThere : ℕ → CallPlace → Type 0
PlaceIsThere n place.Value = Unit {0}
PlaceIsThere n (place.Slot x) = x < n
PlaceIsThere n (place.Element x at) = x < n
PlaceIsThere n (place.Table x) = x < n

-- the value that is given back: of an algorithm with a kind that of `знач`, or its fault
abbrev pub GivesBack : Option ℕ → Slots → Result (Option Value) RunFault → Type 0
GivesBack None slots (Ok None) = Unit {0}
GivesBack None slots (Ok (Some v)) = ⊥
GivesBack None slots (Err f) = ⊥
GivesBack (Some x) slots (Ok None) = ⊥
GivesBack (Some x) slots (Ok (Some v)) = given_back (cell_in (slots x)) ≡ Ok v
GivesBack (Some x) slots (Err f) = given_back (cell_in (slots x)) ≡ Err f

-- the operands with the value on top
abbrev pub pushed : Option Value → List Value → List Value
pushed None stack = stack
pushed (Some v) stack = v ∷ stack
