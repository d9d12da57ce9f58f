use Rattle.kumir_meaning.proofs.Counters.{counter_is_enough}
use Rattle.kumir_meaning.proofs.laws.any_counter.Goals as goal

pub returns : goal.returns
returns c = counter_is_enough
