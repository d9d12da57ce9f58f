use Rattle.decimals.proofs.Numbers.{number_again, whole_again, wide_again}
use Rattle.decimals.proofs.laws.printed_is_read.Goals as goal

pub returns-clause-number : goal.returns-clause-number
returns-clause-number c = number_again

pub returns-clause-whole : goal.returns-clause-whole
returns-clause-whole c = whole_again

pub returns-clause-wide : goal.returns-clause-wide
returns-clause-wide c = wide_again
