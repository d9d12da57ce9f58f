use Rattle.type_check.proofs.EachHasMargin.{each_has_margin}
use Rattle.type_check.proofs.OneMargin.{has_one_margin}
use Rattle.type_check.proofs.laws.one_margin.Goals as goal

pub returns-clause-some : goal.returns-clause-some
returns-clause-some c = each_has_margin

pub returns-clause-only : goal.returns-clause-only
returns-clause-only c = has_one_margin
