-- What holds of how far a run has come.
use Rattle.std.specs.Prelude.{◌≡◌, ℕ, ◌+◌, List, [], ◌∷◌, ◌++◌, Some, Ok}
use Rattle.kumir_tree.specs.declared.kind.Kind.{Kind}
use Rattle.performer_kit.specs.declared.commands.Command.{Command}
use Rattle.performer_kit.specs.declared.commands.Reply.{Reply}
use Rattle.kumir_values.specs.declared.value.Value.{Value}
use Rattle.kumir_meaning.specs.Runs.{Act, Sent, RunState, Trace, input_as, usual, IsPrefix}
use Rattle.stack_code.specs.declared.unit.CodeUnit.{CodeUnit}
use Rattle.stack_code.specs.CodeState.{State}
use Rattle.stack_code.specs.Instructions.{After, On, Go, Tick, Does, Asks, Takes, step}
use Rattle.stack_code.specs.CodeRuns.{meet, exec, start, CodeRun}
use Rattle.machine_steps.specs.Progress.{FullState, at, StepsTo}

-- nothing happened yet; and two stretches join
pub record StepsJoin : Type 0 where
  pub none : (units : List CodeUnit) (a : FullState) → StepsTo units a 0 [] [] a
  pub both : (units : List CodeUnit) (a b c : FullState) (m k : ℕ) (g h : List Reply) (x y : List Act)
      → StepsTo units a m g x b → StepsTo units b k h y c → StepsTo units a (m + k) (g ++ h) (x ++ y) c

-- one instruction
pub record EachEventStepsTo : Type 0 where
  pub goes : (units : List CodeUnit) (s m : State) (inputs : List Value) → step usual units s ≡ Go m → StepsTo units (at s inputs) 0 [] [] (at m inputs)
  pub ticks : (units : List CodeUnit) (s m : State) (inputs : List Value) → step usual units s ≡ Tick m → StepsTo units (at s inputs) 1 [] [] (at m inputs)
  pub acts : (units : List CodeUnit) (s m : State) (inputs : List Value) (a : Act) → step usual units s ≡ Does a m → StepsTo units (at s inputs) 0 [] (a ∷ []) (at m inputs)
  pub replied : (units : List CodeUnit) (s m : State) (inputs : List Value) (c : Command) (after : Reply → After) (r : Reply)
      → step usual units s ≡ Asks c after → after r ≡ On m → StepsTo units (at s inputs) 0 (r ∷ []) (Sent c ∷ []) (at m inputs)
  pub took : (units : List CodeUnit) (s : State) (kind : Kind) (line : ℕ) (k : Value → State) (v w : Value) (inputs : List Value)
      → step usual units s ≡ Takes kind line k → input_as kind v ≡ Ok w → StepsTo units (at s (v ∷ inputs)) 0 [] [] (at (k w) inputs)

abbrev pub IsPrefixOfTheRun : Type 0
IsPrefixOfTheRun =
    (units : List CodeUnit) (entry taken : ℕ) (inputs : List Value) (given : List Reply) (acts : List Act) (b : FullState)
    → StepsTo units (at (start entry) inputs) taken given acts b
    → (t : Trace) → CodeRun units entry inputs given taken t → IsPrefix acts t.acts

abbrev pub EndsTheRun : Type 0
EndsTheRun =
    (units : List CodeUnit) (entry taken n all : ℕ) (inputs : List Value) (given : List Reply) (acts more : List Act) (b : FullState) (e : RunState)
    → StepsTo units (at (start entry) inputs) taken given acts b → taken + n ≡ all
    → meet (step usual units b.state) (exec usual units 0) n b.inputs [] ≡ Some (record { acts = more; state = e })
    → CodeRun units entry inputs given all (record { acts = acts ++ more; state = e })
