use Rattle.std.proofs.Common.{◌≡◌, ◌++◌, drop, map}
use Rattle.kumir_tree.specs.Units.{units_of}
use Rattle.kumir_meaning.specs.Program.{grown}
use Rattle.kumir_compiler.specs.AlgorithmsSeen.{program_seen}
use Rattle.kumir_compiler.specs.UnitCode.{unit_code}
use Rattle.kumir_compiler.proofs.compiler.add_code.Given as goal

abbrev pub invariant-loop-unit : goal.invariant-loop-unit
invariant-loop-unit l = l.code ++ map (unit_code (program_seen l.program)) (grown (units_of (drop l.unit-index l.units))) ≡ l.fn.code ++ map (unit_code (program_seen l.program)) (grown (units_of l.units))
