use Rattle.machine_steps.proofs.PushedResults.{given_on}
use Rattle.machine_steps.proofs.plain.negate_truth.Goals as goal

pub returns-clause-acts : goal.returns-clause-acts
returns-clause-acts c = given_on _ _ c.args.running.now _ _ _ _ c.args.line c.take_not-got.ensures.got c.take_not-got.ensures.left c.push_or_end.ensures.acts
