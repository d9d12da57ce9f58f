-- What a run leads to within some steps.
use Rattle.std.specs.Prelude.{◌≡◌, ℕ, ◌+◌, ◌<◌, ◌≤◌, List, [], ◌∷◌, Option, Some, None, All}
use Rattle.performer_kit.specs.declared.commands.Command.TheVariants.{Pen}
use Rattle.kumir_values.specs.declared.run_end.EndKind.{EndKind}
use Rattle.kumir_meaning.specs.Runs.{Printed, Sent, RunState, Going, only, end_of, usual}
use Rattle.stack_code.specs.declared.unit.CodeUnit.{CodeUnit}
use Rattle.stack_code.specs.CodeRuns.{exec}
use Rattle.machine_steps.specs.declared.running.Running.{Running}
use Rattle.machine_steps.specs.declared.stage.Stage.{Stage}
use Rattle.machine_steps.specs.declared.stage.Stop.{Stop}
use Rattle.machine_steps.specs.declared.stage.Stop.TheVariants as stop
use Rattle.machine_steps.specs.declared.steps.Reached.{Reached}
use Rattle.machine_steps.specs.declared.steps.Reached.TheVariants as reached
use Rattle.machine_steps.specs.Progress.{FullState, StepsTo}
use Rattle.machine_steps.specs.Carried.{EndsIn}
use Rattle.machine_steps.specs.Frames.{IsEntered, Waits}
use Rattle.machine_steps.specs.Stages.{IsStage, NeedsStep, AsksNext}

-- so many steps lead to some state in which the run ends in that way
abbrev pub EndsAfter : List CodeUnit → FullState → ℕ → EndKind → Type 0
EndsAfter units a taken end = (m : FullState) × (state : RunState) × StepsTo units a taken [] [] m × (end_of state ≡ Some end) × EndsIn units m state

-- what so many steps lead to
abbrev pub Reaches : List CodeUnit → FullState → ℕ → Reached → FullState → Type 0
Reaches units a taken (reached.Printed text) b = StepsTo units a taken [] (Printed text ∷ []) b
Reaches units a taken (reached.Told command) b = StepsTo units a taken [] (Sent (Pen command) ∷ []) b
Reaches units a taken (reached.Asks q) b = StepsTo units a taken [] [] b × AsksNext units q b
Reaches units a taken (reached.Over end) b = EndsAfter units a taken end
Reaches units a taken reached.Paused b = StepsTo units a taken [] [] b × NeedsStep units b
Reaches units a taken reached.Spent b = StepsTo units a taken [] [] b × NeedsStep units b

-- so many steps lead to some state
abbrev pub StepsToSome : List CodeUnit → FullState → ℕ → Type 0
StepsToSome units a taken = (m : FullState) × StepsTo units a taken [] [] m

-- so many steps are needed: with fewer of them the run shows nothing and needs one more
abbrev pub NeedsEach : List CodeUnit → FullState → ℕ → Type 0
NeedsEach units a taken = (n : ℕ) → n < taken → (j : ℕ) × (exec usual units j a.state n a.inputs [] ≡ Some (only Going))

-- behind a step: a call may stand next
pub record IsBehindStep (units : List CodeUnit) (s : Stage) : Type 0 where
  pub entered : IsEntered units s.running
  pub waits : All (Waits units) s.waiting.items

-- the call behind a step: it goes on, or the run ends
abbrev pub Enters : List CodeUnit → FullState → Option EndKind → FullState → Type 0
Enters units a None b = StepsTo units a 0 [] [] b
Enters units a (Some end) b = (state : RunState) × (end_of state ≡ Some end) × EndsIn units a state

-- what a stop is to the run, but for one before a step
abbrev pub as_reached : Stop → Option Reached
as_reached (stop.Printed text) = Some (reached.Printed text)
as_reached (stop.Told command) = Some (reached.Told command)
as_reached (stop.Asks q) = Some (reached.Asks q)
as_reached (stop.Over end) = Some (reached.Over end)
as_reached stop.Step = None

-- the stage stays one, where the run is not over
abbrev pub IsStageAt : List CodeUnit → Reached → Stage → Type 0
IsStageAt units (reached.Over end) s = Unit {0}
IsStageAt units other s = IsStage units s

-- an algorithm behind a step
abbrev pub stepped : Running → Running
stepped r = record r { pc = r.pc + 1 }

-- the steps before and now: no more than so many, within the budget; a pause comes after all of them, an end of the budget at its end
pub record StepsIn (before now budget most : ℕ) (r : Reached) : Type 0 where
  pub rise : before ≤ now
  pub few : now ≤ before + most
  pub within : now ≤ budget
  pub paused : r ≡ reached.Paused → (now ≡ before + most) × (now < budget)
  pub spent : r ≡ reached.Spent → now ≡ budget
