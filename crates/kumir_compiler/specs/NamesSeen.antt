-- A name with its variable, as the definition has it.
use Rattle.std.specs.Prelude.{ℕ, List}
use Rattle.kumir_names.specs.declared.variable.Variable.{Variable}
use Rattle.kumir_compiler.specs.declared.names.NamedVariable.{NamedVariable}

abbrev pub pair_of : NamedVariable → List ℕ × Variable
pair_of l = (l.name, l.variable)
