-- Calls that wait, and what holds of a machine's code and of the algorithms that it has entered.
use Rattle.std.specs.Prelude.{◌≡◌, ℕ, ◌+◌, ◌-◌, ◌≤◌, true, false, List, [], length, map, reverse, drop, slice_get, Some, None, Option}
use Rattle.stack_code.specs.declared.instruction.CallPlace.{CallPlace}
use Rattle.stack_code.specs.declared.instruction.CodeLine.{CodeLine}
use Rattle.stack_code.specs.declared.instruction.Instruction.{Instruction}
use Rattle.stack_code.specs.declared.instruction.Instruction.TheVariants.{Call}
use Rattle.stack_code.specs.declared.unit.CodeUnit.{CodeUnit}
use Rattle.stack_code.specs.CodeState.{Frame, State}
use Rattle.stack_code.specs.Instructions.{unit_at}
use Rattle.stack_code.specs.Validity.{IsUnit, is_call, jump_fits, call_stands}
use Rattle.stack_code.specs.Operands.{target_of}
use Rattle.machine_steps.specs.declared.running.Running.{Running}
use Rattle.machine_steps.specs.States.{slots_of, state_of}
use Rattle.machine_steps.specs.Local.{FitsIn}

-- the places of a call
abbrev pub call_places : Instruction → List CallPlace
call_places (Call u places) = places
call_places i = []

abbrev pub places_in : Option CodeLine → List CallPlace
places_in None = []
places_in (Some l) = call_places l.what

-- the line of an algorithm that runs or waits, at a place of its body
abbrev pub line_of : List CodeUnit → Running → ℕ → Option CodeLine
line_of units r pc = slice_get (unit_at units r.unit).body pc

-- a call that waits: it goes on behind its instruction
abbrev pub frame_of : List CodeUnit → Running → Frame
frame_of units r = record { unit = r.unit; pc = r.pc; stack = r.operands; slots = slots_of r.slots; used = r.used; places = places_in (line_of units r (r.pc - 1)) }

-- the calls that wait, the last one first
abbrev pub frames_of : List CodeUnit → List Running → List Frame
frames_of units waiting = map (frame_of units) (reverse waiting)

-- the algorithm that runs, over the calls that wait
abbrev pub state_in : List CodeUnit → Running → List Running → State
state_in units r waiting = state_of r (frames_of units waiting)

-- an algorithm behind a call that takes so many operands
abbrev pub behind_call : Running → ℕ → Running
behind_call r n = record { unit = r.unit; pc = r.pc + 1; operands = drop n r.operands; slots = r.slots; used = r.used }

-- a call of that unit with these places stands there
abbrev pub IsCallAt : Option CodeLine → ℕ → List CallPlace → Type 0
IsCallAt None number places = ⊥
IsCallAt (Some l) number places = l.what ≡ Call number places

-- ---- what holds

-- each unit is valid
abbrev pub AllValid : List CodeUnit → Type 0
AllValid units = (k : ℕ) (u : CodeUnit) → slice_get units k ≡ Some u → IsUnit units u

-- the body of a unit: slots that are written are there, jumps go on, calls stand behind steps
pub record IsReady (u : CodeUnit) : Type 0 where
  pub fits : (pc : ℕ) (l : CodeLine) → slice_get u.body pc ≡ Some l → FitsIn (length u.slots) l.what
  pub jumps : (pc : ℕ) (l : CodeLine) → slice_get u.body pc ≡ Some l → jump_fits u.body pc (target_of l.what) ≡ true
  pub calls : (pc : ℕ) (l : CodeLine) → slice_get u.body pc ≡ Some l → call_stands u.body pc l ≡ true

-- an algorithm that was entered: its unit is there, and it has the slots of the unit
pub record IsEntered (units : List CodeUnit) (r : Running) : Type 0 where
  pub unit : slice_get units r.unit ≡ Some (unit_at units r.unit)
  pub slots : length r.slots ≡ length (unit_at units r.unit).slots

-- it does not stand at a call
abbrev pub IsPastCalls : List CodeUnit → Running → Type 0
IsPastCalls units r = is_call (line_of units r r.pc) ≡ false

-- it waits behind a call
pub record Waits (units : List CodeUnit) (r : Running) : Type 0 where
  pub entered : IsEntered units r
  pub behind : 1 ≤ r.pc
  pub call : is_call (line_of units r (r.pc - 1)) ≡ true
