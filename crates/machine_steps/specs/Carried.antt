-- What the machine did, for the run.
use Rattle.std.specs.Prelude.{◌≡◌, ℕ, List, [], ◌∷◌, Some}
use Rattle.performer_kit.specs.declared.commands.Command.TheVariants.{Pen}
use Rattle.performer_kit.specs.declared.commands.Reply.{Reply}
use Rattle.kumir_values.specs.declared.value.Value.{Value}
use Rattle.kumir_meaning.specs.Runs.{Printed, Sent, RunState, Going, only, end_of, usual}
use Rattle.stack_code.specs.declared.unit.CodeUnit.{CodeUnit}
use Rattle.stack_code.specs.CodeState.{State}
use Rattle.stack_code.specs.Instructions.{step}
use Rattle.stack_code.specs.CodeRuns.{exec}
use Rattle.machine_steps.specs.declared.acted.Acted.{Acted}
use Rattle.machine_steps.specs.declared.acted.Acted.TheVariants as did
use Rattle.machine_steps.specs.Acting.{Acts}
use Rattle.machine_steps.specs.Progress.{FullState, at, StepsTo}

-- from this state on the run shows nothing more and ends in that state, whatever is left; it is not one in which a step is needed
abbrev pub EndsIn : List CodeUnit → FullState → RunState → Type 0
EndsIn units a state = (state ≡ Going → ⊥) × ((n : ℕ) (replies : List Reply) → (j : ℕ) × (exec usual units j a.state n a.inputs replies ≡ Some (only state)))

-- the run steps to the next state with the act that was answered, or it ends in that way
abbrev pub Onward : List CodeUnit → FullState → Acted → FullState → Type 0
Onward units a did.Moved b = StepsTo units a 0 [] [] b
Onward units a (did.Printed text) b = StepsTo units a 0 [] (Printed text ∷ []) b
Onward units a (did.Told command) b = StepsTo units a 0 [] (Sent (Pen command) ∷ []) b
Onward units a (did.Over end) b = (state : RunState) × (end_of state ≡ Some end) × EndsIn units a state

abbrev pub CarriedStepsTo : Type 0
CarriedStepsTo =
    (units : List CodeUnit) (s new : State) (inputs : List Value) (acted : Acted)
    → Acts (step usual units s) acted new → Onward units (at s inputs) acted (at new inputs)
