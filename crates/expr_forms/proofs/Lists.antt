-- Lists of expressions as plain data.
use Rattle.std.proofs.Common.{◌≡◌, suc, List, [], ◌∷◌, length, map, refl, ap}
use Rattle.kumir_tree.specs.Tree.{◌then◌}
use Rattle.kumir_tree.specs.Seen.{listed, tree, trees}
use Rattle.kumir_tree.specs.declared.expr.Expr.{Expr}

pub listed_trees : (xs : List Expr) → listed (map tree xs) ≡ trees xs
listed_trees [] = refl
listed_trees (x ∷ xs) = ap (λ l. tree x then l) (listed_trees xs)

pub mapped_length : {A B : Type 0} (f : A → B) (xs : List A) → length (map f xs) ≡ length xs
mapped_length f [] = refl
mapped_length f (x ∷ xs) = ap (λ n. suc n) (mapped_length f xs)
