use Rattle.machine_steps.proofs.PushedResults.{given_on}
use Rattle.machine_steps.proofs.plain.operate.Goals as goal

pub returns-clause-acts : goal.returns-clause-acts
returns-clause-acts c = given_on _ _ c.args.running.now _ _ _ _ c.args.line c.combine_top-got.ensures.got c.combine_top-got.ensures.left c.push_or_end.ensures.acts
