-- The state of running code that what a machine holds stands for.
use Rattle.std.specs.Prelude.{◌≡◌, ℕ, List, length, get_or, slice_get, Option, Some, None}
use Rattle.kumir_values.specs.Tables.{Grid, value_at}
use Rattle.kumir_meaning.specs.Store as store
use Rattle.machine_steps.specs.declared.held.Cell.{Cell}
use Rattle.machine_steps.specs.declared.held.Cell.TheVariants.{Empty, Has, Holds}
use Rattle.machine_steps.specs.declared.held.Turns.{Turns}
use Rattle.machine_steps.specs.declared.held.Turns.TheVariants as turns
use Rattle.machine_steps.specs.declared.held.Held.{Held}
use Rattle.machine_steps.specs.declared.held.Held.TheVariants as held
use Rattle.machine_steps.specs.declared.running.Running.{Running}
use Rattle.stack_code.specs.CodeState.{Slot, Plain, Left, Numbers, Slots, Frame, State}

-- a table as a finite map
abbrev pub table_map : Grid → store.TableMap
table_map t = record { kind = t.kind; bounds = t.bounds; values = value_at t }

abbrev pub cell_view : Cell → store.Cell
cell_view Empty = store.Empty
cell_view (Has v) = store.Has v
cell_view (Holds t) = store.Holds (table_map t)

abbrev pub turns_view : Turns → Slot
turns_view (turns.Left n) = Left n
turns_view (turns.Numbers n) = Numbers n.next n.last n.step

abbrev pub slot_of : Held → Slot
slot_of (held.Plain c) = Plain (cell_view c)
slot_of (held.Loop t) = turns_view t

-- a slot that is not there holds nothing
abbrev pub slot_or : Option Held → Slot
slot_or None = Plain store.Empty
slot_or (Some h) = slot_of h

abbrev pub slots_of : List Held → Slots
slots_of slots x = slot_or (slice_get slots x)

-- an algorithm that runs, over calls that wait
abbrev pub state_of : Running → List Frame → State
state_of r frames = record { unit = r.unit; pc = r.pc; stack = r.operands; slots = slots_of r.slots; used = r.used; frames = frames }

-- so many slots that hold nothing
abbrev pub AllEmpty : ℕ → List Held → Type 0
AllEmpty count slots = (length slots ≡ count) × ((x : ℕ) → get_or slots x (held.Plain Empty) ≡ held.Plain Empty)
