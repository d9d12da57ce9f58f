-- Instructions that concern more than the algorithm that runs, where one stands next.
use Rattle.std.specs.Prelude.{◌≡◌, ℕ, ◌+◌, true, List, ◌∷◌, Option, Some, None}
use Rattle.kumir_values.specs.declared.value.Value.{Value}
use Rattle.stack_code.specs.declared.instruction.CommandShape.{CommandShape}
use Rattle.stack_code.specs.declared.instruction.CommandShape.TheVariants as shape
use Rattle.stack_code.specs.declared.instruction.CodeLine.{CodeLine}
use Rattle.stack_code.specs.declared.instruction.Instruction.{Instruction}
use Rattle.stack_code.specs.declared.instruction.Instruction.TheVariants as code
use Rattle.stack_code.specs.declared.unit.CodeUnit.{CodeUnit}
use Rattle.stack_code.specs.Validity.{is_call}
use Rattle.machine_steps.specs.declared.stops.NonLocal.{NonLocal}
use Rattle.machine_steps.specs.declared.stops.NonLocal.TheVariants as non_local
use Rattle.machine_steps.specs.declared.running.Running.{Running}
use Rattle.machine_steps.specs.declared.stage.Stage.{Stage}
use Rattle.machine_steps.specs.Frames.{line_of}

-- a command of the Robot on a line
abbrev pub IsNonLocalCommand : CommandShape → ℕ → NonLocal → Type 0
IsNonLocalCommand c line (non_local.Asks q) = (c ≡ shape.Robot q.command) × (line ≡ q.line)
IsNonLocalCommand c line non_local.Step = ⊥
IsNonLocalCommand c line (non_local.Input k l) = ⊥
IsNonLocalCommand c line (non_local.Return l) = ⊥
IsNonLocalCommand c line non_local.Call = ⊥

-- what the instruction of a line is
abbrev pub IsNonLocal : CodeLine → NonLocal → Type 0
IsNonLocal l non_local.Step = l.what ≡ code.Step
IsNonLocal l (non_local.Asks q) = (l.what ≡ code.Ask (shape.Robot q.command)) × (l.line ≡ q.line)
IsNonLocal l (non_local.Input kind line) = (l.what ≡ code.Input kind) × (l.line ≡ line)
IsNonLocal l (non_local.Return line) = (l.what ≡ code.Return) × (l.line ≡ line)
IsNonLocal l non_local.Call = is_call (Some l) ≡ true

abbrev pub IsNonLocalAt : Option CodeLine → NonLocal → Type 0
IsNonLocalAt None s = ⊥
IsNonLocalAt (Some l) s = IsNonLocal l s

-- this instruction stands where the algorithm runs
abbrev pub IsLineAt : List CodeUnit → Running → Instruction → ℕ → Type 0
IsLineAt units r i line = line_of units r r.pc ≡ Some (record { line = line; what = i })

-- the next input was taken
abbrev pub with_input : Stage → Value → Stage
with_input s v = record s { running = record s.running { operands = v ∷ s.running.operands; pc = s.running.pc + 1 }; taken = s.taken + 1 }
