use Rattle.type_check.proofs.Marked.{before_test}
use Rattle.type_check.proofs.margin.is_behind.Goals as goal

pub returns-clause-test : goal.returns-clause-test
returns-clause-test c = before_test c.is_before.result c.args.margin.now c.args.line c.is_before.ensures
