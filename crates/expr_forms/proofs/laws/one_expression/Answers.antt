use Rattle.std.proofs.Common.{sym, ◌∙◌, []}
use Rattle.kumir_tree.specs.Tree.{Tree}
use Rattle.expr_forms.proofs.Cases.{first_is}
use Rattle.expr_forms.proofs.Complete.{expression_complete, stops_at_end}
use Rattle.expr_forms.proofs.laws.one_expression.Goals as goal

pub returns : goal.returns
returns c = λ ts x y a b. first_is {A = Tree} (sym (expression_complete a [] stops_at_end) ∙ expression_complete b [] stops_at_end)
