-- The runs of code, by computation.
use Rattle.std.proofs.Common.{refl}
use Rattle.stack_code.specs.Computed.{CodeRunsAsShown}

pub code_runs_as_shown : CodeRunsAsShown
code_runs_as_shown = record {
  counts = refl;
  one_step_less = refl;
  swaps = refl;
  depth = refl;
  wall = refl;
  awaits = refl;
  divisor = refl;
  other_kind = refl;
  no_value = refl;
}
