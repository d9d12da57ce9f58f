-- The built-in algorithms, their names, and how many numbers each takes. docs/LANGUAGE.md, "Names".
use Rattle.std.specs.Prelude.{ℕ, List, [], ◌∷◌, Option, codes}
use Rattle.performer_kit.specs.Names.{first_named}
use Rattle.kumir_names.specs.declared.built_in.BuiltIn.{BuiltIn}
use Rattle.kumir_names.specs.declared.built_in.BuiltIn.TheVariants.{Div, Mod, Iabs, Imin, Imax}

unfoldable pub built_in_name : BuiltIn → List ℕ
built_in_name Div = codes "div"
built_in_name Mod = codes "mod"
built_in_name Iabs = codes "iabs"
built_in_name Imin = codes "imin"
built_in_name Imax = codes "imax"

abbrev pub built_ins : List BuiltIn
built_ins = Div ∷ Mod ∷ Iabs ∷ Imin ∷ Imax ∷ []

-- the built-in with that name; none for every other name
unfoldable pub built_in_named : List ℕ → Option BuiltIn
built_in_named name = first_named built_in_name built_ins name

abbrev pub built_in_arity : BuiltIn → ℕ
built_in_arity Div = 2
built_in_arity Mod = 2
built_in_arity Iabs = 1
built_in_arity Imin = 2
built_in_arity Imax = 2
