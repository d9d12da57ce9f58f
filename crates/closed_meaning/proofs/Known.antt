-- The laws that a run together with its Robot stands on.
use Rattle.robot_field.proofs.Replies.{robot_goes_on}
use Rattle.kumir_compiler.proofs.RunsGrow.{runs_grow}
use Rattle.kumir_compiler.proofs.CommandsAnswered.{run_answered}
use Rattle.closed_meaning.specs.Laws.{KnownLaws}

pub known_laws : KnownLaws
known_laws = record {
  grows = runs_grow;
  settled = λ p inputs replies more n other. (run_answered p inputs replies n).settled other more;
  awaits = λ p inputs replies n is. (run_answered p inputs replies n).awaits is;
  answered = λ p inputs replies n other. (run_answered p inputs replies n).answered other;
  steps = λ p inputs replies n. (run_answered p inputs replies n).steps;
  goes_on = robot_goes_on;
}
