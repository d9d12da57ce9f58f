use Rattle.std.proofs.Common.{◌≡◌, ◌++◌, drop, map}
use Rattle.kumir_tree.specs.Parts.{formal_of}
use Rattle.kumir_names.specs.Variables.{parameters}
use Rattle.kumir_compiler.specs.UnitCode.{formal_shape}
use Rattle.kumir_compiler.proofs.slots.add_params.Given as goal

abbrev pub invariant-loop-param : goal.invariant-loop-param
invariant-loop-param l =
    (l.slots.names ++ parameters (map formal_of (drop l.param-index l.params)) ≡ l.fn.slots.names ++ parameters (map formal_of l.params))
    × (l.slots.shapes ++ map (λ p. formal_shape p.kind p.bounds) (map formal_of (drop l.param-index l.params)) ≡ l.fn.slots.shapes ++ map (λ p. formal_shape p.kind p.bounds) (map formal_of l.params))
