use Rattle.std.proofs.Common.{◌≡◌, ◌++◌, drop, map}
use Rattle.kumir_names.specs.Variables.{scalar}
use Rattle.stack_code.specs.declared.unit.Shape.TheVariants.{Scalar}
use Rattle.kumir_compiler.proofs.slots.add_scalars.Given as goal

abbrev pub invariant-loop-name : goal.invariant-loop-name
invariant-loop-name l =
    (l.slots.names ++ map (scalar l.kind) (drop l.name-index l.names) ≡ l.fn.slots.names ++ map (scalar l.kind) l.names)
    × (l.slots.shapes ++ map (λ x. Scalar l.kind) (drop l.name-index l.names) ≡ l.fn.slots.shapes ++ map (λ x. Scalar l.kind) l.names)
