-- Which programs `plain` runs.
use Rattle.std.specs.Prelude.{◌≡◌, ℕ, true, List, []}
use Rattle.kumir_tree.specs.Unit.{Known}
use Rattle.kumir_tree.specs.Sound.{IsSound}
use Rattle.type_check.specs.Margin.{program_faults}
use Rattle.incr_analysis.specs.Full.{has_main}

-- sound units without a fault, with an algorithm to begin with
pub record IsRunnable (units : List (ℕ × Known)) : Type 0 where
  pub sound : IsSound units
  pub faultless : program_faults units ≡ []
  pub main : has_main units ≡ true
