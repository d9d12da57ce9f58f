-- Arguments and parameters.
use Rattle.std.proofs.Common.{◌≡◌, ℕ, List, [], ◌∷◌, length, map, zero, suc, not, drop, slice_get, is_some, refl, ap}
use Rattle.kumir_tree.specs.Parts.{formal_of}
use Rattle.kumir_tree.specs.Seen.{trees}
use Rattle.kumir_tree.specs.declared.expr.Expr.{Expr}
use Rattle.kumir_tree.specs.declared.header.Param.{Param}
use Rattle.type_check.specs.Kinds.{Among, arguments, arguments_fit}

pub arguments_length : (s : Among) (es : List Expr) → length (arguments s (trees es)) ≡ length es
arguments_length s [] = refl
arguments_length s (e ∷ es) = ap suc (arguments_length s es)

-- where the arguments are over, the parameters must be over too
pub end_fits : (ps : List Param) (n : ℕ) → arguments_fit (map formal_of (drop n ps)) [] ≡ not (is_some (slice_get ps n))
end_fits [] zero = refl
end_fits [] (suc n) = refl
end_fits (p ∷ ps) zero = refl
end_fits (p ∷ ps) (suc n) = end_fits ps n
