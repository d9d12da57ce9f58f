use Rattle.std.proofs.Common.{◌≡◌, map, take}
use Rattle.kumir_meaning.specs.Operators.{number_of}
use Rattle.machine_steps.proofs.operands.numbers_in.Given as goal

abbrev pub invariant-loop-value : goal.invariant-loop-value
invariant-loop-value l = l.found.items ≡ map number_of (take l.value-index l.values)
