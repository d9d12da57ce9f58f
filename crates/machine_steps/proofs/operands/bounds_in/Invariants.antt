use Rattle.std.proofs.Common.{◌≡◌, ◌++◌, ◌*◌, map, drop}
use Rattle.kumir_meaning.specs.Operators.{number_of}
use Rattle.stack_code.specs.CodeState.{paired}
use Rattle.machine_steps.proofs.operands.bounds_in.Given as goal

abbrev pub invariant-loop-pair : goal.invariant-loop-pair
invariant-loop-pair l = l.found.items ++ paired (map number_of (drop (2 * l.pair) l.values)) ≡ paired (map number_of l.values)
