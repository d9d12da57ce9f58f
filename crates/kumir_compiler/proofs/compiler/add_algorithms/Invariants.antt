use Rattle.std.proofs.Common.{◌≡◌, ◌++◌, drop}
use Rattle.kumir_tree.specs.Units.{units_of}
use Rattle.kumir_meaning.specs.Program.{grown}
use Rattle.kumir_compiler.specs.AlgorithmsSeen.{program_seen}
use Rattle.kumir_compiler.proofs.compiler.add_algorithms.Given as goal

abbrev pub invariant-loop-unit : goal.invariant-loop-unit
invariant-loop-unit l =
    record (program_seen l.program) { algorithms = (program_seen l.program).algorithms ++ grown (units_of (drop l.unit-index l.units)) }
    ≡ record (program_seen l.fn.program) { algorithms = (program_seen l.fn.program).algorithms ++ grown (units_of l.units) }
