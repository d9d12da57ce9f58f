-- Checks of tables.
use Rattle.std.specs.Prelude.{◌≡◌, ℕ, ℤ, ◌+◌, ◌<◌, ◌≤◌, true, false, List, Some, Result, Ok, Err}
use Rattle.kumir_tree.specs.declared.kind.Kind.{Kind}
use Rattle.kumir_values.specs.declared.bounds.Bound.{Bound}
use Rattle.kumir_values.specs.declared.run_end.RunFault.{RunFault}
use Rattle.kumir_values.specs.declared.run_end.RunFault.TheVariants.{Bounds, Elements}
use Rattle.kumir_values.specs.declared.value.Value.{Value}
use Rattle.kumir_values.specs.Bounds.{all_ordered, elements}
use Rattle.kumir_values.specs.Tables.{Grid}
use Rattle.kumir_meaning.specs.Store.{without_values, with_element}
use Rattle.kumir_meaning.specs.Runs as state
use Rattle.stack_code.specs.CodeState.{State, Plain, Slots, cell_in, with_slot}
use Rattle.stack_code.specs.Instructions.{Event, Go, Halt}
use Rattle.machine_steps.specs.declared.held.Cell.TheVariants.{Holds}
use Rattle.machine_steps.specs.States.{cell_view}

-- the answer of a check: it passed, or has this fault
abbrev pub IsFine : {T : Type 0} → Result T RunFault → Result (Unit {0}) RunFault → Type 0
IsFine (Ok t) (Ok u) = Unit {0}
IsFine (Ok t) (Err f) = ⊥
IsFine (Err f) (Ok u) = ⊥
IsFine (Err f) (Err g) = g ≡ f

-- goes on where a check passed
abbrev pub goes : Result (Unit {0}) RunFault → ℕ → State → Event
goes (Ok u) line s = Go s
goes (Err fault) line s = Halt (state.Fault line fault)

-- a table made anew where so many elements are in use: `bounds` first, then `elements`; and how many are in use with it
abbrev pub IsMade : ℕ → Kind → List Bound → ℕ → Result (Grid × ℕ) RunFault → Type 0
IsMade room kind bounds used (Ok made) =
    (all_ordered bounds ≡ true) × (used + elements bounds ≤ room) × (cell_view (Holds made.0) ≡ without_values kind bounds) × (made.1 ≡ used + elements bounds)
IsMade room kind bounds used (Err Bounds) = all_ordered bounds ≡ false
IsMade room kind bounds used (Err Elements) = (all_ordered bounds ≡ true) × (room < used + elements bounds)
IsMade room kind bounds used (Err other) = ⊥

-- an element of the table in a slot put
abbrev pub element_put : Slots → ℕ → List ℤ → Value → Slots
element_put slots x index v = with_slot slots x (Plain (with_element (cell_in (slots x)) index (Some v)))
