-- A run reads one reply to each command to the Robot, and waits for the one that is not there.
use Rattle.std.proofs.Common.{◌≡◌, ◌≢◌, ℕ, zero, suc, ◌+◌, ◌≤◌, List, [], ◌∷◌, ◌++◌, length, Result, Ok, Err, refl, ap, arith}
use Rattle.performer_kit.specs.declared.commands.PenCommand.{PenCommand}
use Rattle.performer_kit.specs.declared.commands.RobotCommand.{RobotCommand}
use Rattle.performer_kit.specs.declared.commands.Command.TheVariants.{Robot, Pen}
use Rattle.performer_kit.specs.declared.commands.Reply.{Reply}
use Rattle.kumir_tree.specs.declared.kind.Kind.{Kind}
use Rattle.kumir_values.specs.declared.value.Value.{Value}
use Rattle.kumir_values.specs.declared.run_end.RunFault.{RunFault}
use Rattle.kumir_meaning.specs.Program.{Program}
use Rattle.kumir_meaning.specs.Store.{Store}
use Rattle.kumir_meaning.specs.Runs.{Printed, Sent, RunState, Awaiting, Trace, Rest, after_act, usual, stops, unless_fault, tick, does, asks, takes, input_as}
use Rattle.kumir_meaning.specs.Expressions.{Then, ThenValue}
use Rattle.kumir_meaning.specs.Algorithms.{run, run_within}
use Rattle.kumir_compiler.specs.Laws.{robot_commands_of, pen_commands_of}
use Rattle.kumir_compiler.proofs.EachRun.{IsKept, each_run}

abbrev commands : Trace → ℕ
commands t = length (robot_commands_of t.acts)

abbrev moves : Trace → ℕ
moves t = length (pen_commands_of t.acts)

pub record IsAnswered (a : Rest) (n : ℕ) (inputs : List Value) (replies : List Reply) : Type 0 where
  pub settled : (a n inputs replies).state ≢ Awaiting → (more : List Reply) → a n inputs (replies ++ more) ≡ a n inputs replies
  pub awaits : (a n inputs replies).state ≡ Awaiting → commands (a n inputs replies) ≡ length replies + 1
  pub answered : (a n inputs replies).state ≢ Awaiting → commands (a n inputs replies) ≤ length replies
  pub steps : commands (a n inputs replies) + moves (a n inputs replies) ≤ n

abbrev Answered : Rest → Type 0
Answered a = (n : ℕ) (inputs : List Value) (replies : List Reply) → IsAnswered a n inputs replies

end_answered : (end : RunState) → end ≢ Awaiting → Answered (stops end)
end_answered end other n inputs replies = record { settled = λ f more. refl; awaits = λ e. absurd (other e); answered = λ f. omega arith; steps = omega arith }

tick_answered : (k : Then) (s : Store) → Answered (k s) → Answered (tick k s)
tick_answered k s h zero inputs replies = record { settled = λ f more. refl; awaits = λ e. absurd (let no_end : ⊥ = cc in no_end); answered = λ f. omega arith; steps = omega arith }
tick_answered k s h (suc n) inputs replies =
    let w = h n inputs replies in
    record { settled = w.settled; awaits = w.awaits; answered = w.answered; steps = (let le = w.steps in omega (arith, le)) }

prints_answered : (text : List ℕ) (k : Then) (s : Store) → Answered (k s) → Answered (does (Printed text) k s)
prints_answered text k s h n inputs replies =
    let w = h n inputs replies in
    record { settled = λ f more. ap (after_act (Printed text)) (w.settled f more); awaits = w.awaits; answered = w.answered; steps = w.steps }

draws_answered : (command : PenCommand) (k : Then) (s : Store) → Answered (k s) → Answered (tick (λ s1. does (Sent (Pen command)) k s1) s)
draws_answered command k s h zero inputs replies = record { settled = λ f more. refl; awaits = λ e. absurd (let no_end : ⊥ = cc in no_end); answered = λ f. omega arith; steps = omega arith }
draws_answered command k s h (suc n) inputs replies =
    let w = h n inputs replies in
    record { settled = λ f more. ap (after_act (Sent (Pen command))) (w.settled f more); awaits = w.awaits; answered = w.answered; steps = (let le = w.steps in omega (arith, le)) }

asks_answered : (command : RobotCommand) (k : Reply → Then) (s : Store) → ((r : Reply) → Answered (k r s)) → Answered (tick (λ s1. asks (Robot command) k s1) s)
asks_answered command k s h zero inputs replies = record { settled = λ f more. refl; awaits = λ e. absurd (let no_end : ⊥ = cc in no_end); answered = λ f. omega arith; steps = omega arith }
asks_answered command k s h (suc n) inputs [] = record { settled = λ f more. absurd (f refl); awaits = λ e. refl; answered = λ f. absurd (f refl); steps = omega arith }
asks_answered command k s h (suc n) inputs (r ∷ replies) =
    let w = h r n inputs replies in
    record {
      settled = λ f more. ap (after_act (Sent (Robot command))) (w.settled f more);
      awaits = λ e. let is = w.awaits e in omega (arith, is);
      answered = λ f. let le = w.answered f in omega (arith, le);
      steps = let le = w.steps in omega (arith, le);
    }

result_answered : (o : Result Value RunFault) (line : ℕ) (k : ThenValue) (s : Store) → ((v : Value) → Answered (k v s)) → Answered (unless_fault o line (λ w. k w s))
result_answered (Ok v) line k s h = h v
result_answered (Err fault) line k s h = end_answered _ (λ e. cc)

takes_answered : (kind : Kind) (line : ℕ) (k : ThenValue) (s : Store) → ((v : Value) → Answered (k v s)) → Answered (takes kind line k s)
takes_answered kind line k s h n [] replies = record { settled = λ f more. refl; awaits = λ e. absurd (let no_end : ⊥ = cc in no_end); answered = λ f. omega arith; steps = omega arith }
takes_answered kind line k s h n (v ∷ inputs) replies =
    let w = result_answered (input_as kind v) line k s h n inputs replies in
    record { settled = w.settled; awaits = w.awaits; answered = w.answered; steps = w.steps }

answers : IsKept Answered
answers = record {
  ends = end_answered;
  ticks = λ k h s. tick_answered k s (h s);
  prints = λ text k h s. prints_answered text k s (h s);
  draws = λ command k h s. draws_answered command k s (h s);
  asks = λ command k h s. asks_answered command k s (λ r. h r s);
  takes = λ kind line k h s. takes_answered kind line k s (λ v. h v s);
}

-- the run of a program
pub run_answered : (p : Program) (inputs : List Value) (replies : List Reply) (n : ℕ) → IsAnswered (λ n1 inputs1 replies1. run p inputs1 replies1 n1) n inputs replies
unfolding run run_within
run_answered p inputs replies n =
    let w = each_run Answered answers p.algorithms p usual n n inputs replies in
    record { settled = w.settled; awaits = w.awaits; answered = w.answered; steps = w.steps }
