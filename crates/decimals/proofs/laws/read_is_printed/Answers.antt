use Rattle.decimals.proofs.Numbers.{number_only, whole_only, wide_only}
use Rattle.decimals.proofs.laws.read_is_printed.Goals as goal

pub returns-clause-number : goal.returns-clause-number
returns-clause-number c = number_only

pub returns-clause-whole : goal.returns-clause-whole
returns-clause-whole c = whole_only

pub returns-clause-wide : goal.returns-clause-wide
returns-clause-wide c = wide_only
