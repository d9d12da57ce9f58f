-- What the machine did in carrying out an instruction.
use Rattle.std.specs.Prelude.{◌≡◌, List, Option, Some, None}
use Rattle.kumir_values.specs.declared.run_end.EndKind.{EndKind}
use Rattle.performer_kit.specs.declared.commands.Command.TheVariants.{Pen}
use Rattle.kumir_meaning.specs.Runs.{Act, Printed, Sent, end_of}
use Rattle.machine_steps.specs.declared.acted.Acted.{Acted}
use Rattle.machine_steps.specs.declared.acted.Acted.TheVariants as did
use Rattle.stack_code.specs.CodeState.{State, Frame}
use Rattle.machine_steps.specs.declared.running.Running.{Running}
use Rattle.machine_steps.specs.States.{state_of}
use Rattle.stack_code.specs.Instructions.{Event, Go, Tick, Does, Asks, Takes, Halt}

-- the act of an instruction
abbrev pub DoesAct : Act → Acted → Type 0
DoesAct (Printed text) (did.Printed t) = t ≡ text
DoesAct (Printed text) did.Moved = ⊥
DoesAct (Printed text) (did.Told c) = ⊥
DoesAct (Printed text) (did.Over e) = ⊥
DoesAct (Sent c) (did.Told p) = c ≡ Pen p
DoesAct (Sent c) did.Moved = ⊥
DoesAct (Sent c) (did.Printed t) = ⊥
DoesAct (Sent c) (did.Over e) = ⊥

abbrev pub Acts : Event → Acted → State → Type 0
Acts (Go s) did.Moved new = new ≡ s
Acts (Go s) (did.Printed t) new = ⊥
Acts (Go s) (did.Told c) new = ⊥
Acts (Go s) (did.Over e) new = ⊥
Acts (Tick s) acted new = ⊥
Acts (Does a s) acted new = DoesAct a acted × (new ≡ s)
Acts (Asks c after) acted new = ⊥
Acts (Takes kind line s) acted new = ⊥
Acts (Halt end) (did.Over e) new = end_of end ≡ Some e
Acts (Halt end) did.Moved new = ⊥
Acts (Halt end) (did.Printed t) new = ⊥
Acts (Halt end) (did.Told c) new = ⊥

-- the run went on, or has this end
abbrev pub ended : Option EndKind → Acted
ended None = did.Moved
ended (Some end) = did.Over end

-- what was done, whichever calls wait
abbrev pub Carries : (List Frame → Event) → Acted → Running → Type 0
Carries event acted new = (frames : List Frame) → Acts (event frames) acted (state_of new frames)
