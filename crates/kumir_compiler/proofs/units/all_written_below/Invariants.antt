use Rattle.std.proofs.Common.{◌≡◌, drop, max}
use Rattle.kumir_compiler.specs.UnitCode.{all_written_below}
use Rattle.kumir_compiler.proofs.units.all_written_below.Given as goal

abbrev pub invariant-loop-line : goal.invariant-loop-line
invariant-loop-line l = max l.below (all_written_below (drop l.line-index l.body)) ≡ all_written_below l.body
