use Rattle.std.proofs.Common.{sym, ◌∙◌}
use Rattle.expr_forms.proofs.Cases.{some_is}
use Rattle.expr_forms.proofs.FormComplete.{whole_complete}
use Rattle.expr_forms.proofs.laws.one_form.Goals as goal

pub returns : goal.returns
returns c = λ ts p q a b. some_is (sym (whole_complete ts p a) ∙ whole_complete ts q b)
