use Rattle.machine_steps.specs.Frames.{line_of}
use Rattle.machine_steps.proofs.EventSteps.{steps_to_none}
use Rattle.machine_steps.proofs.StagesStay.{step_next, asks_next}
use Rattle.machine_steps.proofs.stops.carry_out_non_local.Goals as goal

pub returns-in-Step-clause-turns : goal.returns-in-Step-clause-turns
returns-in-Step-clause-turns c = (steps_to_none c.args.units.now _, step_next (line_of c.args.units.now c.args.stage.now.running c.args.stage.now.running.pc) c.in-Step.ensures.non_local)

pub returns-in-Asks-clause-turns : goal.returns-in-Asks-clause-turns
returns-in-Asks-clause-turns c = (steps_to_none c.args.units.now _, asks_next (line_of c.args.units.now c.args.stage.now.running c.args.stage.now.running.pc) c.in-Asks.question c.in-Asks.ensures.non_local)
