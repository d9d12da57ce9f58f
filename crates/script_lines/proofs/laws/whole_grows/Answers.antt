use Rattle.script_lines.proofs.WholeGrows.{grows, one_more_at_end}
use Rattle.script_lines.proofs.laws.whole_grows.Goals as goal

pub returns-clause-prefix : goal.returns-clause-prefix
returns-clause-prefix c = grows

pub returns-clause-end : goal.returns-clause-end
returns-clause-end c = one_more_at_end
