-- How far a run of code has come.
use Rattle.std.specs.Prelude.{◌≡◌, ℕ, ◌+◌, List, ◌++◌, Some}
use Rattle.performer_kit.specs.declared.commands.Reply.{Reply}
use Rattle.kumir_values.specs.declared.value.Value.{Value}
use Rattle.kumir_meaning.specs.Runs.{Act, Trace, usual}
use Rattle.stack_code.specs.declared.unit.CodeUnit.{CodeUnit}
use Rattle.stack_code.specs.CodeState.{State}
use Rattle.stack_code.specs.CodeRuns.{exec}

abbrev pub after_acts : List Act → Trace → Trace
after_acts acts t = record { acts = acts ++ t.acts; state = t.state }

-- a state with the inputs that are left
pub record FullState : Type 0 where
  pub state : State
  pub inputs : List Value

abbrev pub at : State → List Value → FullState
at s inputs = record { state = s; inputs = inputs }

-- the run steps from the first state to the second, by so many steps, on these replies, with these acts:
-- what follows from the second follows, behind these, from the first, and nothing else does
pub record StepsTo (units : List CodeUnit) (a : FullState) (taken : ℕ) (given : List Reply) (acts : List Act) (b : FullState) : Type 0 where
  pub forth : (n : ℕ) (replies : List Reply) (j : ℕ) (t : Trace) → exec usual units j b.state n b.inputs replies ≡ Some t
      → (i : ℕ) × (exec usual units i a.state (taken + n) a.inputs (given ++ replies) ≡ Some (after_acts acts t))
  pub back : (n : ℕ) (replies : List Reply) (i : ℕ) (t : Trace) → exec usual units i a.state (taken + n) a.inputs (given ++ replies) ≡ Some t
      → (j : ℕ) × (u : Trace) × (exec usual units j b.state n b.inputs replies ≡ Some u) × (t ≡ after_acts acts u)
