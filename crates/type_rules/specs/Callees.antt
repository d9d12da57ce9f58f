-- What can be called in a program, and what a name that is no local one stands for in it.
use Rattle.std.specs.Prelude.{ℕ, List, Option}
use Rattle.km_base.specs.declared.performers.Performers.{Performers}
use Rattle.kumir_tree.specs.Part.{Head}
use Rattle.kumir_names.specs.Callees as names

-- the performers that are known, and the headers that count, in the order of the text
pub record Callees : Type 0 where
  pub performers : Performers
  pub heads : List Head

abbrev pub own_name : Head → Option (List ℕ)
own_name h = h.name

-- the header with this name
abbrev pub head_named : List ℕ → List Head → Option Head
head_named name heads = names.algorithm_named own_name name heads

-- A name stands for a built-in, for a command of a known performer, or for the algorithm whose header has it; else for nothing.
abbrev pub callee : Callees → List ℕ → Option (names.Callee Head)
callee c name = names.callee own_name c.performers c.heads name
