-- What holds of the runs of valid code.
use Rattle.std.specs.Prelude.{◌≡◌, ℕ, List, Some}
use Rattle.performer_kit.specs.declared.commands.Reply.{Reply}
use Rattle.kumir_values.specs.declared.value.Value.{Value}
use Rattle.kumir_meaning.specs.Runs.{Trace}
use Rattle.kumir_values.specs.declared.run_end.EndKind.TheVariants as end
use Rattle.stack_code.specs.CodeRuns.{CodeRun}
use Rattle.stack_code.specs.Validity.{IsValid, ValidCode}
use Rattle.kumir_machine.specs.declared.answer.Advanced.{Advanced}
use Rattle.kumir_machine.specs.declared.answer.Advanced.TheVariants as answer
use Rattle.kumir_machine.specs.Course.{Course, advanced, IsLawful}

-- on all inputs and replies, for each number of steps, the run of valid code has a trace
abbrev pub HasATrace : Type 0
HasATrace =
    (code : ValidCode) (entry : ℕ) (inputs : List Value) (replies : List Reply) (steps : ℕ)
    → IsValid code.units code.entry → code.entry ≡ Some entry → (t : Trace) × CodeRun code.units entry inputs replies steps t

-- a call after which the run is over for want of steps has spent the budget
abbrev pub BudgetIsSpent : Type 0
BudgetIsSpent =
    (old new : Course) (result : Advanced)
    → new ≡ advanced old result new.steps → IsLawful new → result ≡ answer.Ended end.Steps → new.steps ≡ new.budget
