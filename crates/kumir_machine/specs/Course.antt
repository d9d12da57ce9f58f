-- The course of a machine: what it was given, what it answered, and how it stands.
use Rattle.std.specs.Prelude.{◌≡◌, ℕ, ◌+◌, ◌≤◌, ◌<◌, Bool, true, false, List, [], ◌∷◌, ◌++◌, Some, nat_le, if◌then◌else◌}
use Rattle.performer_kit.specs.declared.commands.RobotCommand.{RobotCommand}
use Rattle.performer_kit.specs.declared.commands.RobotCommand.TheVariants as robot
use Rattle.performer_kit.specs.declared.commands.PenCommand.TheVariants as pen
use Rattle.performer_kit.specs.declared.commands.Command.{Command}
use Rattle.performer_kit.specs.declared.commands.Command.TheVariants.{Robot, Pen}
use Rattle.performer_kit.specs.declared.commands.Reply.{Reply}
use Rattle.performer_kit.specs.declared.commands.Reply.TheVariants as reply
use Rattle.kumir_values.specs.declared.value.Value.{Value}
use Rattle.kumir_values.specs.declared.run_end.EndKind.{EndKind}
use Rattle.kumir_values.specs.declared.run_end.EndKind.TheVariants as end_kind
use Rattle.kumir_meaning.specs.Runs.{Act, Printed, Sent, RunState, Trace, end_of, IsPrefix}
use Rattle.kumir_meaning.specs.Runs as state
use Rattle.performer_kit.specs.Commands.{is_test}
use Rattle.stack_code.specs.CodeRuns.{CodeRun}
use Rattle.stack_code.specs.Validity.{ValidCode}
use Rattle.kumir_machine.specs.declared.answer.Advanced.{Advanced}
use Rattle.kumir_machine.specs.declared.answer.Advanced.TheVariants as answer

-- how a machine stands
pub data Condition : Type 0 where
  -- the run goes on
  Free : Condition
  -- the reply to this command is owed
  Owes : Command → Condition
  Over : EndKind → Condition
  -- memory was wanted
  Failed : Condition

pub record Course : Type 0 where
  pub code : ValidCode
  pub inputs : List Value
  pub budget : ℕ
  -- the steps taken
  pub steps : ℕ
  -- the Robot's replies given
  pub replies : List Reply
  pub answers : List Advanced
  pub condition : Condition

-- ---- the run that it is the course of

-- the acts that were answered
abbrev pub acts_in : List Advanced → List Act
acts_in [] = []
acts_in (answer.Out text ∷ answers) = Printed text ∷ acts_in answers
acts_in (answer.Command command ∷ answers) = Sent command ∷ acts_in answers
acts_in (answer.AwaitReply ∷ answers) = acts_in answers
acts_in (answer.Paused ∷ answers) = acts_in answers
acts_in (answer.Ended end ∷ answers) = acts_in answers
acts_in (answer.Memory ∷ answers) = acts_in answers

-- the run of the code from its entry, on the inputs and the replies given, within so many steps
pub record RunsTo (c : Course) (steps : ℕ) (trace : Trace) : Type 0 where
  pub entry : ℕ
  pub is : c.code.entry ≡ Some entry
  pub run : CodeRun c.code.units entry c.inputs c.replies steps trace

-- the acts answered so far, in that state
abbrev pub so_far : Course → RunState → Trace
so_far c state = record { acts = acts_in c.answers; state = state }

-- the acts answered are a prefix of those of the run within the steps taken, and within more steps
abbrev pub IsPrefixOfRun : Course → Type 0
IsPrefixOfRun c = (n : ℕ) (t : Trace) → c.steps ≤ n → RunsTo c n t → IsPrefix (acts_in c.answers) t.acts

-- they are all of the acts of the run within the steps taken, which stands so after them
abbrev pub IsWhole : RunState → Course → Type 0
IsWhole state c = RunsTo c c.steps (so_far c state)

-- an end for want of steps comes where the steps taken are the budget
abbrev pub IsSpent : EndKind → Course → Type 0
IsSpent end c = end ≡ end_kind.Steps → c.steps ≡ c.budget

-- they are all of the acts of the run within the budget, and within fewer steps from those taken on; it ends in that way after them, for want of steps only at the budget
abbrev pub HasEnded : EndKind → Course → Type 0
HasEnded end c = (state : RunState) × (end_of state ≡ Some end) × IsSpent end c × ((n : ℕ) → c.steps ≤ n → n ≤ c.budget → RunsTo c n (so_far c state))

-- what holds of each course
pub record IsLawful (c : Course) : Type 0 where
  pub within : c.steps ≤ c.budget
  pub begun : IsPrefixOfRun c
  pub awaits : (command : RobotCommand) → c.condition ≡ Owes (Robot command) → IsWhole state.Awaiting c
  pub over : (end : EndKind) → c.condition ≡ Over end → HasEnded end c

-- ---- one call

-- how it stands after an answer
abbrev pub after : Advanced → Condition → Condition
after (answer.Out text) s = Free
after (answer.Command command) s = Owes command
after answer.AwaitReply s = s
after answer.Paused s = Free
after (answer.Ended end) s = Over end
after answer.Memory s = Failed

-- only the answer, how it stands then, and the steps are another
abbrev pub advanced : Course → Advanced → ℕ → Course
advanced c a steps = record c { steps = steps; answers = c.answers ++ a ∷ []; condition = after a c.condition }

-- where the run does not go on, the answer is this, and no step is taken
abbrev pub Stays : Course → Advanced → ℕ → Type 0
Stays c a steps = stays c.condition
  where
    stays : Condition → Type 0
    stays Free = a ≡ answer.AwaitReply → ⊥
    stays (Owes command) = (a ≡ answer.AwaitReply) × (steps ≡ c.steps)
    stays (Over end) = (a ≡ answer.Ended end) × (steps ≡ c.steps)
    stays Failed = (a ≡ answer.Memory) × (steps ≡ c.steps)

-- the steps that may have been taken when a call comes back
abbrev pub most_within : Course → ℕ → ℕ
most_within c most = if nat_le (c.steps + most) c.budget then c.steps + most else c.budget

-- what comes next in the run within n steps, behind the acts answered so far
abbrev pub FollowsWithin : Course → ℕ → Trace → Advanced → Type 0
FollowsWithin c n t (answer.Out text) = (more : List Act) × (t.acts ≡ acts_in c.answers ++ Printed text ∷ more)
FollowsWithin c n t (answer.Command command) = (more : List Act) × (t.acts ≡ acts_in c.answers ++ Sent command ∷ more)
FollowsWithin c n t answer.AwaitReply = ⊥
FollowsWithin c n t answer.Paused = (t ≡ so_far c state.Going) × (n < c.budget)
FollowsWithin c n t (answer.Ended end) = (t.acts ≡ acts_in c.answers) × (end_of t.state ≡ Some end) × (t.state ≡ state.Going → n ≡ c.budget)
FollowsWithin c n t answer.Memory = Unit {0}

-- where the run goes on, the answer is what comes next within the steps that the call allows
abbrev pub AnswersNext : Course → ℕ → Advanced → Type 0
AnswersNext c most a = c.condition ≡ Free → (t : Trace) → RunsTo c (most_within c most) t → FollowsWithin c (most_within c most) t a

-- each step taken was needed: within fewer steps from those taken before on, the run has the acts answered so far alone, and needs one more
abbrev pub NeedsAll : Course → ℕ → Type 0
NeedsAll c steps = (n : ℕ) → c.steps ≤ n → n < steps → RunsTo c n (so_far c state.Going)

-- ---- replies

abbrev pub owes : Condition → Bool
owes Free = false
owes (Owes command) = true
owes (Over end) = false
owes Failed = false

abbrev pub is_move : RobotCommand → Bool
is_move robot.Up = true
is_move robot.Down = true
is_move robot.Left = true
is_move robot.Right = true
is_move robot.Paint = false
is_move robot.AboveFree = false
is_move robot.BelowFree = false
is_move robot.LeftFree = false
is_move robot.RightFree = false
is_move robot.AboveWall = false
is_move robot.BelowWall = false
is_move robot.LeftWall = false
is_move robot.RightWall = false
is_move robot.CellPainted = false
is_move robot.CellClean = false

-- a reply that the command can have
abbrev pub CanHave : Command → Reply → Type 0
CanHave (Robot command) reply.Done = is_test command ≡ false
CanHave (Robot command) reply.Yes = is_test command ≡ true
CanHave (Robot command) reply.No = is_test command ≡ true
CanHave (Robot command) reply.Wall = is_move command ≡ true
CanHave (Robot command) (reply.Drawn segment) = ⊥
CanHave (Pen command) reply.Done = Unit {0}
CanHave (Pen command) reply.Yes = ⊥
CanHave (Pen command) reply.No = ⊥
CanHave (Pen command) reply.Wall = ⊥
CanHave (Pen (pen.To x y)) (reply.Drawn segment) = Unit {0}
CanHave (Pen (pen.By dx dy)) (reply.Drawn segment) = Unit {0}
CanHave (Pen pen.Raise) (reply.Drawn segment) = ⊥
CanHave (Pen pen.Lower) (reply.Drawn segment) = ⊥

abbrev pub IsOwed : Condition → Reply → Type 0
IsOwed Free r = ⊥
IsOwed (Owes command) r = CanHave command r
IsOwed (Over end) r = ⊥
IsOwed Failed r = ⊥

-- the replies of the Robot with one more, if it is the Robot's
abbrev pub replies_with : List Reply → Condition → Reply → List Reply
replies_with replies Free r = replies
replies_with replies (Owes (Robot command)) r = replies ++ r ∷ []
replies_with replies (Owes (Pen command)) r = replies
replies_with replies (Over end) r = replies
replies_with replies Failed r = replies

-- the reply is there, and the run goes on
abbrev pub replied : Course → Reply → Course
replied c r = record c { replies = replies_with c.replies c.condition r; condition = Free }

-- the course of a machine that was just made
abbrev pub begun : ValidCode → List Value → ℕ → Course
begun code inputs budget = record { code = code; inputs = inputs; budget = budget; steps = 0; replies = []; answers = []; condition = Free }
