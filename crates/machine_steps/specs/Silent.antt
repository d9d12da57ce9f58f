-- Instructions of one algorithm, one after the other.
use Rattle.std.specs.Prelude.{◌≡◌, ℕ, suc, ◌-◌, false, List, length, slice_get, Some, if◌then◌else◌}
use Rattle.kumir_values.specs.declared.value.Value.{Value}
use Rattle.stack_code.specs.declared.instruction.CodeLine.{CodeLine}
use Rattle.stack_code.specs.declared.instruction.Instruction.TheVariants as code
use Rattle.stack_code.specs.declared.unit.CodeUnit.{CodeUnit}
use Rattle.stack_code.specs.CodeState.{Frame}
use Rattle.stack_code.specs.Validity.{is_step, is_call}
use Rattle.machine_steps.specs.declared.acted.Acted.{Acted}
use Rattle.machine_steps.specs.declared.acted.Acted.TheVariants as did
use Rattle.machine_steps.specs.declared.running.Running.{Running}
use Rattle.machine_steps.specs.States.{state_of}
use Rattle.machine_steps.specs.Progress.{at}
use Rattle.machine_steps.specs.Carried.{Onward}
use Rattle.machine_steps.specs.Local.{is_local}

-- the run goes on from one state of the algorithm to the next, whichever calls wait and inputs are left
abbrev pub GoesOn : List CodeUnit → Acted → Running → Running → Type 0
GoesOn units acted old new = (frames : List Frame) (inputs : List Value) → Onward units (at (state_of old frames) inputs) acted (at (state_of new frames) inputs)

-- it stands at a step
abbrev pub IsAtStep : CodeUnit → ℕ → Type 0
IsAtStep u pc = (line : ℕ) × (slice_get u.body pc ≡ Some (record { line = line; what = code.Step }))

-- it stands at an instruction that concerns more than the algorithm alone
abbrev pub IsAtNonLocal : CodeUnit → ℕ → Type 0
IsAtNonLocal u pc = (l : CodeLine) × (slice_get u.body pc ≡ Some l) × (is_local l.what ≡ false)

abbrev pub MovedToNonLocal : CodeUnit → Acted → Running → Type 0
MovedToNonLocal u did.Moved r = IsAtNonLocal u r.pc
MovedToNonLocal u (did.Printed text) r = Unit {0}
MovedToNonLocal u (did.Told command) r = Unit {0}
MovedToNonLocal u (did.Over end) r = Unit {0}

-- where it did not stand at a call, it does not stand at one now
abbrev pub KeepsPast : CodeUnit → Acted → Running → Running → Type 0
KeepsPast u (did.Over end) old new = Unit {0}
KeepsPast u did.Moved old new = is_call (slice_get u.body old.pc) ≡ false → is_call (slice_get u.body new.pc) ≡ false
KeepsPast u (did.Printed text) old new = is_call (slice_get u.body old.pc) ≡ false → is_call (slice_get u.body new.pc) ≡ false
KeepsPast u (did.Told command) old new = is_call (slice_get u.body old.pc) ≡ false → is_call (slice_get u.body new.pc) ≡ false

-- how many instructions there are before the next step, at most
abbrev pub before_step : CodeUnit → ℕ → ℕ
before_step u pc = if is_step (slice_get u.body pc) then 0 else suc (length u.body - pc)

-- the unit stays, where the run is not over
abbrev pub KeepsUnit : Acted → Running → Running → Type 0
KeepsUnit (did.Over end) old new = Unit {0}
KeepsUnit did.Moved old new = new.unit ≡ old.unit
KeepsUnit (did.Printed text) old new = new.unit ≡ old.unit
KeepsUnit (did.Told command) old new = new.unit ≡ old.unit
