-- An expression as plain data.
use Rattle.std.specs.Prelude.{List, [], ◌∷◌, Option, Some, None}
use Rattle.kumir_tree.specs.Tree.{Tree, Number, Truth, Answer, Named, Element, Call, Plus, Minus, Not, Binary, Trees, no_trees, ◌then◌}
use Rattle.kumir_tree.specs.declared.expr.Expr.{Expr, fold-Expr}
use Rattle.kumir_tree.specs.declared.expr.Expr.TheOpen.{Expr-F}

abbrev pub listed : List Tree → Trees
listed [] = no_trees
listed (x ∷ xs) = x then listed xs

abbrev pub tree_step : Expr-F Tree → Tree
tree_step (Expr-F.Number n) = Number n
tree_step (Expr-F.Truth b) = Truth b
tree_step Expr-F.Result = Answer
tree_step (Expr-F.Named x) = Named x
tree_step (Expr-F.Element x xs) = Element x (listed xs)
tree_step (Expr-F.Call f xs) = Call f (listed xs)
tree_step (Expr-F.Plus a) = Plus a
tree_step (Expr-F.Minus a) = Minus a
tree_step (Expr-F.Not a) = Not a
tree_step (Expr-F.Binary o a b) = Binary o a b

unfoldable pub tree : Expr → Tree
tree = fold-Expr Tree tree_step

abbrev pub trees : List Expr → Trees
trees [] = no_trees
trees (x ∷ xs) = tree x then trees xs

abbrev pub some_tree : Option Expr → Option Tree
some_tree None = None
some_tree (Some x) = Some (tree x)
