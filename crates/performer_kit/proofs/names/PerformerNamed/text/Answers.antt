use Rattle.std.proofs.Common.{ap, sym}
use Rattle.std.specs.Str.{chars}
use Rattle.performer_kit.specs.Commands.{performer_name}
use Rattle.performer_kit.proofs.names.PerformerNamed.text.Goals as goal

pub returns-in-Robot : goal.returns-in-Robot
unfolding chars performer_name
returns-in-Robot c = ap performer_name (sym c.in-Robot.is)

pub returns-in-Pen : goal.returns-in-Pen
unfolding chars performer_name
returns-in-Pen c = ap performer_name (sym c.in-Pen.is)
