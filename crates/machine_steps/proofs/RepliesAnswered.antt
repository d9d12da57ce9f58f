-- The reply to a command of the Robot.
use Rattle.std.proofs.Common.{◌≡◌, true, false, Bool, List, ◌∷◌, drop, Option, Some, None, refl, sym, ap, ◌∙◌, subst}
use Rattle.std.specs.Prelude.{if◌then◌else◌}
use Rattle.performer_kit.specs.declared.commands.Command.TheVariants.{Robot}
use Rattle.performer_kit.specs.declared.commands.Reply.{Reply}
use Rattle.kumir_values.specs.declared.value.Value.{Value}
use Rattle.kumir_values.specs.declared.run_end.EndKind.TheVariants as end
use Rattle.kumir_meaning.specs.Runs.{Act, Sent, Trace, only, usual, reply_value, is_wall}
use Rattle.kumir_meaning.specs.Runs as state
use Rattle.stack_code.specs.declared.instruction.CommandShape.TheVariants as shape
use Rattle.stack_code.specs.declared.instruction.Instruction.TheVariants as code
use Rattle.stack_code.specs.declared.unit.CodeUnit.{CodeUnit}
use Rattle.stack_code.specs.CodeState.{State, next}
use Rattle.performer_kit.specs.Commands.{is_test}
use Rattle.stack_code.specs.Instructions.{After, On, Over, Asks as Awaits, event_at, unit_at, step}
use Rattle.stack_code.specs.CodeRuns.{meet, exec, after_some, after_reply}
use Rattle.stack_code.specs.Validity.{is_step}
use Rattle.machine_steps.specs.declared.stage.Stage.{Stage}
use Rattle.machine_steps.specs.declared.stage.Question.{Question}
use Rattle.machine_steps.specs.Progress.{FullState}
use Rattle.machine_steps.specs.Frames.{AllValid}
use Rattle.machine_steps.specs.Stages.{full_state_of, IsStage, AsksNext}
use Rattle.machine_steps.specs.Replying.{with_reply_value, Answers}
use Rattle.machine_steps.proofs.EventSteps.{steps_to_reply}
use Rattle.machine_steps.proofs.JumpsFit.{no_call_behind}
use Rattle.machine_steps.proofs.ValidCalls.{ready, valid_here}

-- what a reply leads to from a state
abbrev after_asked : Question → State → Reply → After
after_asked q s r = if is_test q.command then On (next s (reply_value r ∷ s.stack)) else if is_wall r then Over (state.Wall q.line) else On (next s s.stack)

-- the event of the command that stands next
asked : (units : List CodeUnit) (s : Stage) (q : Question) → AsksNext units q (full_state_of units s)
    → step usual units (full_state_of units s).state ≡ Awaits (Robot q.command) (after_asked q (full_state_of units s).state)
asked units s q h = ap (λ o. event_at usual units o (full_state_of units s).state) h

abbrev answered : Stage → Option Value → Stage
answered s value = record s { running = with_reply_value s.running value }

goes_on : (units : List CodeUnit) (s new : Stage) (q : Question) (r : Reply) (value : Option Value) → AsksNext units q (full_state_of units s)
    → after_asked q (full_state_of units s).state r ≡ On (full_state_of units (answered s value)).state → new ≡ answered s value
    → Answers units (full_state_of units s) q r None (full_state_of units new)
goes_on units s new q r value h o n =
    let now = (full_state_of units s).state in
    subst (λ t. Answers units (full_state_of units s) q r None (full_state_of units t)) (sym n)
    (steps_to_reply units now (full_state_of units (answered s value)).state (drop s.taken s.inputs) (Robot q.command) (after_asked q now) r (asked units s q h) o)

pub test_answered : (units : List CodeUnit) (s new : Stage) (q : Question) (r : Reply) → AsksNext units q (full_state_of units s) → is_test q.command ≡ true
    → new ≡ answered s (Some (reply_value r)) → Answers units (full_state_of units s) q r None (full_state_of units new)
test_answered units s new q r h test n =
    let now = (full_state_of units s).state in
    goes_on units s new q r (Some (reply_value r)) h
    (ap (λ b. if b then On (next now (reply_value r ∷ now.stack)) else if is_wall r then Over (state.Wall q.line) else On (next now now.stack)) test) n

-- a command that is no test, by whether the Robot met a wall
command_by : (s : State) (q : Question) (r : Reply) (wall : Bool) → is_test q.command ≡ false → is_wall r ≡ wall → after_asked q s r ≡ (if wall then Over (state.Wall q.line) else On (next s s.stack))
command_by s q r wall test w =
    ap (λ b. if b then On (next s (reply_value r ∷ s.stack)) else if is_wall r then Over (state.Wall q.line) else On (next s s.stack)) test
    ∙ ap (λ b. if b then Over (state.Wall q.line) else On (next s s.stack)) w

pub command_done : (units : List CodeUnit) (s new : Stage) (q : Question) (r : Reply) → AsksNext units q (full_state_of units s) → is_test q.command ≡ false → is_wall r ≡ false
    → new ≡ answered s None → Answers units (full_state_of units s) q r None (full_state_of units new)
command_done units s new q r h test wall n = goes_on units s new q r None h (command_by (full_state_of units s).state q r false test wall) n

pub wall_met : (units : List CodeUnit) (s : Stage) (q : Question) (r : Reply) (b : FullState) → AsksNext units q (full_state_of units s) → is_test q.command ≡ false → is_wall r ≡ true
    → Answers units (full_state_of units s) q r (Some (end.Wall q.line)) b
wall_met units s q r b h test wall = (
  state.Wall q.line,
  refl,
  (
    λ e. let wrong : ⊥ = cc in wrong,
    λ n replies. (
      1,
      ap (λ v. meet v (exec usual units 0) n (full_state_of units s).inputs (r ∷ replies)) (asked units s q h)
          ∙ ap (λ x. after_some (Sent (Robot q.command)) (after_reply x (exec usual units 0) n (full_state_of units s).inputs replies)) (command_by (full_state_of units s).state q r true test wall),
    ),
  ),
)

no_step_ask : (q : Question) → is_step (Some (record { line = q.line; what = code.Ask (shape.Robot q.command) })) ≡ false
no_step_ask q = refl

pub answered_stage : (units : List CodeUnit) (s new : Stage) (q : Question) (value : Option Value) → AllValid units → IsStage units s → AsksNext units q (full_state_of units s) → new ≡ answered s value → IsStage units new
answered_stage units s new q value v h asks n = subst (IsStage units) (sym n) (record {
  entered = record { unit = h.entered.unit; slots = h.entered.slots };
  past = no_call_behind (unit_at units s.running.unit) s.running.pc (ready units (unit_at units s.running.unit) (valid_here units s.running v h.entered)) (ap is_step asks ∙ no_step_ask q);
  waits = h.waits;
})
