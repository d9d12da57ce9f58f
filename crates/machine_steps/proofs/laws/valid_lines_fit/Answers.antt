use Rattle.machine_steps.proofs.SlotsAreThere.{valid_lines_fit}
use Rattle.machine_steps.proofs.laws.valid_lines_fit.Goals as goal

pub returns : goal.returns
returns c = valid_lines_fit
