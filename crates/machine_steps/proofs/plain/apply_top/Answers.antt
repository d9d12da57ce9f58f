use Rattle.std.proofs.Common.{◌∙◌, ap}
use Rattle.kumir_meaning.specs.Operators.{applied}
use Rattle.machine_steps.proofs.plain.apply_top.Goals as goal

pub returns-clause-got : goal.returns-clause-got
returns-clause-got c = c.apply_to-got.ensures ∙ ap (applied c.args.what) c.last.ensures
