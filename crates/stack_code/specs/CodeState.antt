-- What running code holds: slots, operands, and calls that wait. docs/LANGUAGE.md, "Stack code".
use Rattle.std.specs.Prelude.{ℕ, ◌+◌, false, List, [], ◌∷◌, map, reverse, take, nat_eq, ℤ, if◌then◌else◌}
use Rattle.kumir_values.specs.declared.value.Value.{Value}
use Rattle.kumir_values.specs.declared.value.Value.TheVariants.{Truth}
use Rattle.kumir_values.specs.declared.bounds.Bound.{Bound}
use Rattle.kumir_meaning.specs.Operators.{number_of}
use Rattle.kumir_meaning.specs.Store.{Cell, Empty}
use Rattle.stack_code.specs.declared.instruction.CallPlace.{CallPlace}

-- what a slot holds: what a variable holds, an index among it; the turns that are left; or the next number, the last one and the step of a loop
pub data Slot : Type 0 where
  Plain : Cell → Slot
  Left : ℕ → Slot
  Numbers : ℤ → ℤ → ℤ → Slot

abbrev pub Slots : Type 0
Slots = ℕ → Slot

abbrev pub no_slots : Slots
no_slots slot = Plain Empty

abbrev pub with_slot : Slots → ℕ → Slot → Slots
with_slot slots x c y = if nat_eq y x then c else slots y

-- the turns of a loop are no value
abbrev pub cell_in : Slot → Cell
cell_in (Plain c) = c
cell_in (Left n) = Empty
cell_in (Numbers z last step) = Empty

-- a call that waits for its return: where it goes on, what the caller holds, and the places of the call
pub record Frame : Type 0 where
  pub unit : ℕ
  pub pc : ℕ
  pub stack : List Value
  pub slots : Slots
  pub used : ℕ
  pub places : List CallPlace

-- the state of running code: the unit and the place in its body, the operands from the top, the slots,
-- the table elements in use in all frames, and the calls that wait, the last one first
pub record State : Type 0 where
  pub unit : ℕ
  pub pc : ℕ
  pub stack : List Value
  pub slots : Slots
  pub used : ℕ
  pub frames : List Frame

-- ---- operands
abbrev pub top : List Value → Value
top [] = Truth false
top (v ∷ stack) = v

abbrev pub rest : List Value → List Value
rest [] = []
rest (v ∷ stack) = stack

-- the last n numbers that were pushed, in the order in which they were
abbrev pub numbers : ℕ → List Value → List ℤ
numbers n stack = map number_of (reverse (take n stack))

-- numbers in pairs, as bounds
abbrev pub paired : List ℤ → List Bound
paired [] = []
paired (low ∷ []) = []
paired (low ∷ (high ∷ more)) = record { low = low; high = high } ∷ paired more

-- ---- the next state
abbrev pub goes_to : State → ℕ → List Value → State
goes_to s pc stack = record s { pc = pc; stack = stack }

abbrev pub next : State → List Value → State
next s stack = goes_to s (s.pc + 1) stack

abbrev pub next_with : State → List Value → ℕ → Slot → State
next_with s stack x c = record s { pc = s.pc + 1; stack = stack; slots = with_slot s.slots x c }
