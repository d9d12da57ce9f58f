use Rattle.kumir_values.proofs.Division.{division_law, division_alone}
use Rattle.kumir_values.proofs.arithmetic.rem.Goals as goal

pub returns-clause-law : goal.returns-clause-law
returns-clause-law c = division_law c.args.a c.args.b

pub returns-clause-alone : goal.returns-clause-alone
returns-clause-alone c = division_alone c.args.a c.args.b
