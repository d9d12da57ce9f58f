use Rattle.std.proofs.Common.{refl, sym, ap, ◌∙◌}
use Rattle.performer_kit.specs.Commands.{robot_command_named, pen_shape_named}
use Rattle.kumir_names.specs.BuiltIns.{built_in_named}
use Rattle.kumir_compiler.specs.AlgorithmsSeen.{program_seen, seen}
use Rattle.kumir_compiler.proofs.CallsInFront.{algorithm_called}
use Rattle.kumir_compiler.proofs.algorithms.Algorithms.target.Goals as goal

pub returns-in-Some-algorithm : goal.returns-in-Some-algorithm
returns-in-Some-algorithm c =
    let found = c.in-Some-algorithm.field-0 in
    let is = c.in-Some-algorithm.ensures {u = tt} in
    record {
      algorithm = seen found.algorithm;
      called = algorithm_called (program_seen c.args.self.now) c.args.name.now (seen found.algorithm) (sym (c.of_name.ensures ∙ ap built_in_named c.as_slice.ensures) ∙ c.in_default.is)
          (sym c.robot.ensures ∙ c.in_default-robot.is) (sym c.pen.ensures ∙ c.in_default-pen.is) is.found;
      same_params = refl;
      same_number = is.same_number;
    }
