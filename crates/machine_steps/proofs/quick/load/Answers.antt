use Rattle.std.proofs.Common.{◌∙◌, sym}
use Rattle.machine_steps.proofs.QuickSteps.{loaded}
use Rattle.machine_steps.proofs.quick.load.Goals as goal

pub returns-in-Ok-clause-goes : goal.returns-in-Ok-clause-goes
returns-in-Ok-clause-goes c =
    loaded c.push.result c.args.running.now c.push.new.running c.args.pc c.args.slot c.in-Ok.value (sym c.in-Ok.is ∙ c.read.ensures) c.push.ensures.goes
