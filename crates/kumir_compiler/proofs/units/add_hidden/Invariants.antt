use Rattle.std.proofs.Common.{◌≡◌, ◌++◌, replicate}
use Rattle.stack_code.specs.declared.unit.Shape.TheVariants.{Hidden}
use Rattle.kumir_compiler.proofs.units.add_hidden.Given as goal

abbrev pub invariant-loop : goal.invariant-loop
invariant-loop l = l.shapes ≡ l.fn.shapes ++ replicate l.counter Hidden
