-- What holds of what a machine is at.
use Rattle.std.specs.Prelude.{◌≡◌, ℕ, ◌≤◌, List, [], ◌∷◌, ◌++◌, Some}
use Rattle.performer_kit.specs.declared.commands.Command.TheVariants.{Robot, Pen}
use Rattle.performer_kit.specs.declared.commands.Reply.{Reply}
use Rattle.kumir_meaning.specs.Runs.{Act, Sent}
use Rattle.stack_code.specs.CodeRuns.{start}
use Rattle.stack_code.specs.Validity.{ValidCode}
use Rattle.machine_steps.specs.declared.stage.Stage.{Stage}
use Rattle.machine_steps.specs.declared.stage.Question.{Question}
use Rattle.machine_steps.specs.Progress.{at, StepsTo}
use Rattle.machine_steps.specs.Stages.{full_state_of, IsStage, AsksNext}
use Rattle.kumir_machine.specs.declared.answer.Advanced.{Advanced}
use Rattle.kumir_machine.specs.declared.active.Phase.{Phase}
use Rattle.kumir_machine.specs.declared.active.Phase.TheVariants as phase
use Rattle.kumir_machine.specs.declared.active.ActiveRun.{ActiveRun}
use Rattle.kumir_machine.specs.Course.{Condition, Free, Owes, Over, Failed, Course, acts_in, IsPrefixOfRun, HasEnded}

-- how the machine stands
abbrev pub condition_of : Phase → Condition
condition_of phase.Ready = Free
condition_of (phase.OwesRobot q) = Owes (Robot q.command)
condition_of (phase.Replied q reply) = Free
condition_of (phase.OwesPen c) = Owes (Pen c)
condition_of (phase.Over e) = Over e
condition_of phase.Failed = Failed

abbrev pub course_of : ValidCode → ℕ → ActiveRun → List Reply → List Advanced → Course
course_of code budget run replies answers =
    record { code = code; inputs = run.stage.inputs; budget = budget; steps = run.steps; replies = replies; answers = answers; condition = condition_of run.phase }

-- from the begin the run stepped to this stage by the steps taken, on these replies, with these acts
pub record HasSteppedTo (c : Course) (replies : List Reply) (acts : List Act) (s : Stage) : Type 0 where
  pub entry : ℕ
  pub is : c.code.entry ≡ Some entry
  pub comes : StepsTo c.code.units (at (start entry) c.inputs) c.steps replies acts (full_state_of c.code.units s)
  pub stage : IsStage c.code.units s

-- the acts answered are these and the command of the question
abbrev pub AreBehind : List Act → Question → List Act → Type 0
AreBehind acts q before = acts ≡ before ++ Sent (Robot q.command) ∷ []

-- the run stepped to a command of the Robot, which was sent
pub record IsAsking (c : Course) (q : Question) (replies : List Reply) (s : Stage) : Type 0 where
  pub before : List Act
  pub acts : AreBehind (acts_in c.answers) q before
  pub come : HasSteppedTo c replies before s
  pub asks : AsksNext c.code.units q (full_state_of c.code.units s)

-- the last reply is not carried out yet
pub record HasReply (c : Course) (q : Question) (reply : Reply) (s : Stage) : Type 0 where
  pub given : List Reply
  pub replies : c.replies ≡ given ++ reply ∷ []
  pub asking : IsAsking c q given s

abbrev pub IsPhaseOf : Course → Phase → Stage → Type 0
IsPhaseOf c phase.Ready s = HasSteppedTo c c.replies (acts_in c.answers) s
IsPhaseOf c (phase.OwesRobot q) s = IsAsking c q c.replies s
IsPhaseOf c (phase.Replied q reply) s = HasReply c q reply s
IsPhaseOf c (phase.OwesPen command) s = HasSteppedTo c c.replies (acts_in c.answers) s
IsPhaseOf c (phase.Over e) s = IsPrefixOfRun c × HasEnded e c
IsPhaseOf c phase.Failed s = IsPrefixOfRun c

-- what a machine keeps
abbrev pub IsMachine : Course → ActiveRun → Type 0
IsMachine c run = (c.steps ≤ c.budget) × IsPhaseOf c run.phase run.stage
