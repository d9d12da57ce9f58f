-- The names of an algorithm, and the site of its header.
use Rattle.std.specs.Prelude.{◌≡◌, ◌++◌, length}
use Rattle.kumir_names.specs.Variables.{Names, parameters}
use Rattle.kumir_meaning.specs.Program.{Placed, block_names}
use Rattle.kumir_compiler.specs.declared.site.Site.{Site}

-- the parameters, and the names that are declared in the body
abbrev pub unit_names : Placed → Names
unit_names a = parameters a.algorithm.head.params ++ block_names a.algorithm.body

-- the site has all names of the algorithm, and its parameters are those that are local there
pub record IsAtHeader (s : Site) (a : Placed) : Type 0 where
  pub names : s.names.now ≡ unit_names a
  pub locals : s.locals ≡ length a.algorithm.head.params
