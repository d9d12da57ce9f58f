-- What a scope of the code says, as plain data.
use Rattle.std.specs.Prelude.{ℕ, Bool, List}
use Rattle.kumir_tree.specs.Tree.{Tree, Trees}
use Rattle.type_rules.specs.Callees.{callee}
use Rattle.type_rules.specs.Headers.{callees_of}
use Rattle.type_check.specs.declared.kinds.Scope.{Scope}
use Rattle.kumir_names.specs.Variables.{variable}
use Rattle.type_check.specs.Kinds.{Among, Argument, kind_of, is_place, whole_table, arguments}
use Rattle.type_check.specs.Parts.{call_fits}

abbrev pub among : Scope → Among
among s = record { find = callee (callees_of s.headers.now); gives = s.gives; names = s.locals.now }

abbrev pub argument : Among → Tree → Argument
argument s e = record { value = kind_of s e; place = is_place s.names e; table = whole_table s.names e }

abbrev pub call_fits_at : Among → List ℕ → Trees → Bool
call_fits_at s f es = call_fits (variable s.names f) (s.find f) (arguments s es)
