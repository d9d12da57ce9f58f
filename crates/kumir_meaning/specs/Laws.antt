-- What holds of all runs.
use Rattle.std.specs.Prelude.{◌≡◌, ℕ, ◌≤◌, List}
use Rattle.performer_kit.specs.declared.commands.Reply.{Reply}
use Rattle.kumir_values.specs.declared.value.Value.{Value}
use Rattle.kumir_meaning.specs.Program.{Program}
use Rattle.kumir_meaning.specs.Runs.{Allowed}
use Rattle.kumir_meaning.specs.Algorithms.{starts, run_within}

-- with any counter of turns and calls that is at least the steps the trace is the same
abbrev pub AnyCounter : Type 0
AnyCounter =
    (allowed : Allowed) (p : Program) (inputs : List Value) (replies : List Reply) (counter n : ℕ)
    → n ≤ counter → starts p.algorithms p allowed counter n inputs replies ≡ run_within allowed p inputs replies n
