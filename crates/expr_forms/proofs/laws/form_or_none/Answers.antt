use Rattle.expr_forms.proofs.Answered.{form_or_none, deep_or_shallow}
use Rattle.expr_forms.proofs.laws.form_or_none.Goals as goal

pub returns-clause-form : goal.returns-clause-form
returns-clause-form c = form_or_none

pub returns-clause-depth : goal.returns-clause-depth
returns-clause-depth c = deep_or_shallow
