-- How a machine goes on within a call.
use Rattle.std.specs.Prelude.{◌≡◌, ℕ, ◌-◌, ◌+◌, ◌≤◌, List, Some, None, Result, Ok, Err, IfOk, IfErr}
use Rattle.km_base.specs.declared.Memory.{Memory}
use Rattle.kumir_values.specs.declared.run_end.EndKind.{EndKind}
use Rattle.kumir_values.specs.declared.run_end.EndKind.TheVariants as end
use Rattle.performer_kit.specs.declared.commands.Command.TheVariants as told
use Rattle.performer_kit.specs.declared.commands.Reply.{Reply}
use Rattle.stack_code.specs.declared.unit.CodeUnit.{CodeUnit}
use Rattle.machine_steps.specs.declared.stage.Stage.{Stage}
use Rattle.machine_steps.specs.declared.stage.Question.{Question}
use Rattle.machine_steps.specs.declared.steps.Reached.{Reached}
use Rattle.machine_steps.specs.declared.steps.Reached.TheVariants as reached
use Rattle.machine_steps.specs.Progress.{FullState}
use Rattle.machine_steps.specs.Stages.{full_state_of, IsStage, AsksNext}
use Rattle.machine_steps.specs.Reaching.{Reaches, StepsToSome, NeedsEach, IsStageAt, StepsIn}
use Rattle.machine_steps.specs.Replying.{Answers}
use Rattle.kumir_machine.specs.declared.answer.Advanced.{Advanced}
use Rattle.kumir_machine.specs.declared.answer.Advanced.TheVariants as answer
use Rattle.kumir_machine.specs.declared.active.Phase.{Phase}
use Rattle.kumir_machine.specs.declared.active.Phase.TheVariants as phase
use Rattle.kumir_machine.specs.declared.active.ActiveRun.{ActiveRun}

-- what a machine is at where a run came to something, and what it answers
abbrev pub phase_at : Reached → Phase
phase_at (reached.Printed text) = phase.Ready
phase_at (reached.Told c) = phase.OwesPen c
phase_at (reached.Asks q) = phase.OwesRobot q
phase_at (reached.Over e) = phase.Over e
phase_at reached.Paused = phase.Ready
phase_at reached.Spent = phase.Over end.Steps

abbrev pub answer_at : Reached → Advanced
answer_at (reached.Printed text) = answer.Out text
answer_at (reached.Told c) = answer.Command (told.Pen c)
answer_at (reached.Asks q) = answer.Command (told.Robot q.command)
answer_at (reached.Over e) = answer.Ended e
answer_at reached.Paused = answer.Paused
answer_at reached.Spent = answer.Ended end.Steps

abbrev pub phase_after : Result Reached Memory → Phase
phase_after (Ok r) = phase_at r
phase_after (Err m) = phase.Failed

abbrev pub answer_after : Result Reached Memory → Advanced
answer_after (Ok r) = answer_at r
answer_after (Err m) = answer.Memory

-- from a state, after so many steps, the machine goes on with this answer
pub record Goes (units : List CodeUnit) (budget most : ℕ) (a : FullState) (steps : ℕ) (result : Advanced) (new : ActiveRun) : Type 0 where
  pub came : Result Reached Memory
  pub phase : new.phase ≡ phase_after came
  pub answer : result ≡ answer_after came
  pub reaches : IfOk came (λ r. Reaches units a (new.steps - steps) r (full_state_of units new.stage))
  pub stage : IfOk came (λ r. IsStageAt units r new.stage)
  pub taken : IfOk came (λ r. StepsIn steps new.steps budget most r)
  pub needed : NeedsEach units a (new.steps - steps)
  pub refused : IfErr came (λ m. StepsToSome units a (new.steps - steps))
  pub rise : steps ≤ new.steps
  pub few : new.steps ≤ steps + most
  pub within : new.steps ≤ budget

-- the Robot's reply is carried out: the machine goes on behind it, the run is over at a wall, or memory is wanted
pub data AfterReply (units : List CodeUnit) (budget most : ℕ) (old : ActiveRun) (q : Question) (reply : Reply) (result : Advanced) (new : ActiveRun) : Type 0 where
  Behind : (a : FullState) → Answers units (full_state_of units old.stage) q reply None a → Goes units budget most a old.steps result new → AfterReply units budget most old q reply result new
  AtWall : (e : EndKind) → Answers units (full_state_of units old.stage) q reply (Some e) (full_state_of units new.stage) → result ≡ answer.Ended e → new.phase ≡ phase.Over e → new.steps ≡ old.steps
      → AfterReply units budget most old q reply result new
  Wanted : result ≡ answer.Memory → new.phase ≡ phase.Failed → new.steps ≡ old.steps → AfterReply units budget most old q reply result new

-- a call by what the machine is at
abbrev pub Moves : List CodeUnit → ℕ → ℕ → Phase → ActiveRun → Advanced → ActiveRun → Type 0
Moves units budget most phase.Ready old result new = Goes units budget most (full_state_of units old.stage) old.steps result new
Moves units budget most (phase.OwesRobot q) old result new = (result ≡ answer.AwaitReply) × (new ≡ old)
Moves units budget most (phase.Replied q reply) old result new = AfterReply units budget most old q reply result new
Moves units budget most (phase.OwesPen c) old result new = (result ≡ answer.AwaitReply) × (new ≡ old)
Moves units budget most (phase.Over e) old result new = (result ≡ answer.Ended e) × (new ≡ old)
Moves units budget most phase.Failed old result new = (result ≡ answer.Memory) × (new ≡ old)

-- what holds of the stage
abbrev pub IsAt : List CodeUnit → Phase → Stage → Type 0
IsAt units phase.Ready s = IsStage units s
IsAt units (phase.OwesRobot q) s = IsStage units s × AsksNext units q (full_state_of units s)
IsAt units (phase.Replied q reply) s = IsStage units s × AsksNext units q (full_state_of units s)
IsAt units (phase.OwesPen c) s = IsStage units s
IsAt units (phase.Over e) s = Unit {0}
IsAt units phase.Failed s = Unit {0}
