use Rattle.performer_kit.specs.Commands as commands
use Rattle.kumir_names.specs.BuiltIns as built_ins
use Rattle.kumir_names.specs.Callees as callees
use Rattle.kumir_meaning.specs.OrderRun.{adding}
use Rattle.kumir_meaning.specs.CallsRun.{swapping}
use Rattle.kumir_compiler.specs.Compilable.{IsCompilable}
use Rattle.kumir_compiler.proofs.laws.samples_are_compilable.Goals as goal

adds : IsCompilable adding
unfolding callees.callee built_ins.built_in_named built_ins.built_in_name commands.robot_command_named commands.robot_name commands.pen_shape_named commands.pen_name
adds = (
  record { params = tt; given = tt; wanted = tt; body = ((((tt, (tt, tt)), (tt, (tt, tt))), tt), tt) },
  (record { params = (tt, tt); given = tt; wanted = tt; body = ((tt, tt), ((tt, tt), tt)) }, tt),
)

swaps : IsCompilable swapping
unfolding callees.callee built_ins.built_in_named built_ins.built_in_name commands.robot_command_named commands.robot_name commands.pen_shape_named commands.pen_name
swaps = (
  record {
    params = tt;
    given = tt;
    wanted = tt;
    body = (((tt, tt, tt), tt), (tt, ((tt, tt), (((tt, (tt, tt)), tt), (((tt, (tt, tt)), tt), ((tt, (tt, ((tt, (tt, tt)), ((tt, (tt, tt)), tt)))), (((tt, (tt, tt)), ((tt, (tt, tt)), (tt, tt))), tt)))))));
  },
  (record { params = (tt, (tt, (tt, tt))); given = tt; wanted = tt; body = ((tt, tt), ((tt, tt), ((tt, tt), tt))) }, tt),
)

pub returns : goal.returns
returns c = (adds, swaps)
