use Rattle.machine_steps.proofs.EventSteps.{steps_to_go, steps_to_tick, steps_to_act, steps_to_reply, steps_to_input}
use Rattle.machine_steps.proofs.laws.each_event_steps_to.Goals as goal

pub returns : goal.returns
returns c = record { goes = steps_to_go; ticks = steps_to_tick; acts = steps_to_act; replied = steps_to_reply; took = steps_to_input }
