-- The run of code, with the outside.
use Rattle.std.specs.Prelude.{◌≡◌, ℕ, zero, suc, ◌≤◌, List, [], ◌∷◌, Option, Some, None, Result, Ok, Err}
use Rattle.performer_kit.specs.declared.commands.Reply.{Reply}
use Rattle.kumir_values.specs.declared.value.Value.{Value}
use Rattle.kumir_values.specs.declared.run_end.RunFault.{RunFault}
use Rattle.kumir_values.specs.declared.run_end.RunFault.TheVariants.{NoInput}
use Rattle.kumir_meaning.specs.Runs.{Act, Sent, Trace, only, after_act, input_as, Allowed, IsPrefix, usual}
use Rattle.kumir_meaning.specs.Runs as state
use Rattle.stack_code.specs.declared.unit.CodeUnit.{CodeUnit}
use Rattle.stack_code.specs.CodeState.{State, no_slots}
use Rattle.stack_code.specs.Instructions.{After, On, Over, Event, Go, Tick, Does, Asks, Takes, Halt, step}

-- the run from a state on, by the steps, inputs and replies that are left; none where it is not over yet
abbrev pub Continuation : Type 0
Continuation = State → ℕ → List Value → List Reply → Option Trace

abbrev pub after_some : Act → Option Trace → Option Trace
after_some a None = None
after_some a (Some t) = Some (after_act a t)

abbrev pub after_reply : After → Continuation → ℕ → List Value → List Reply → Option Trace
after_reply (On s) go steps inputs replies = go s steps inputs replies
after_reply (Over end) go steps inputs replies = Some (only end)

abbrev pub after_input : Result Value RunFault → ℕ → (Value → State) → Continuation → ℕ → List Value → List Reply → Option Trace
after_input (Ok v) line s go steps inputs replies = go (s v) steps inputs replies
after_input (Err fault) line s go steps inputs replies = Some (only (state.Fault line fault))

-- an event meets the outside, and the run goes on
abbrev pub meet : Event → Continuation → ℕ → List Value → List Reply → Option Trace
meet (Go s) go steps inputs replies = go s steps inputs replies
meet (Tick s) go zero inputs replies = Some (only state.Going)
meet (Tick s) go (suc steps) inputs replies = go s steps inputs replies
meet (Does a s) go steps inputs replies = after_some a (go s steps inputs replies)
meet (Asks c after) go steps inputs [] = Some (after_act (Sent c) (only state.Awaiting))
meet (Asks c after) go steps inputs (r ∷ replies) = after_some (Sent c) (after_reply (after r) go steps inputs replies)
meet (Takes kind line s) go steps [] replies = Some (only (state.Fault line NoInput))
meet (Takes kind line s) go steps (v ∷ inputs) replies = after_input (input_as kind v) line s go steps inputs replies
meet (Halt end) go steps inputs replies = Some (only end)

-- at most j instructions
abbrev pub exec : Allowed → List CodeUnit → ℕ → Continuation
exec allowed units zero s steps inputs replies = None
exec allowed units (suc j) s steps inputs replies = meet (step allowed units s) (exec allowed units j) steps inputs replies

-- the entry begins with empty slots
abbrev pub start : ℕ → State
start entry = record { unit = entry; pc = 0; stack = []; slots = no_slots; used = 0; frames = [] }

-- the run of code from an entry on these inputs and replies within these steps has this trace: some number of instructions ends with it
pub record RunsWithin (allowed : Allowed) (units : List CodeUnit) (entry : ℕ) (inputs : List Value) (replies : List Reply) (steps : ℕ) (trace : Trace) : Type 0 where
  pub instructions : ℕ
  pub ends : exec allowed units instructions (start entry) steps inputs replies ≡ Some trace

abbrev pub CodeRun : List CodeUnit → ℕ → List Value → List Reply → ℕ → Trace → Type 0
CodeRun units entry inputs replies steps trace = RunsWithin usual units entry inputs replies steps trace

-- a run has one trace
abbrev pub HasOneTrace : Type 0
HasOneTrace =
    (allowed : Allowed) (units : List CodeUnit) (entry : ℕ) (inputs : List Value) (replies : List Reply) (steps : ℕ) (t u : Trace)
    → RunsWithin allowed units entry inputs replies steps t → RunsWithin allowed units entry inputs replies steps u → t ≡ u

-- more steps and more replies only make a run longer
abbrev pub OnlyGrows : Type 0
OnlyGrows =
    (allowed : Allowed) (units : List CodeUnit) (entry : ℕ) (inputs : List Value) (r q : List Reply) (m n : ℕ) (t u : Trace)
    → m ≤ n → IsPrefix r q → RunsWithin allowed units entry inputs r m t → RunsWithin allowed units entry inputs q n u → IsPrefix t.acts u.acts
