use Rattle.std.proofs.Common.{ap, sym}
use Rattle.std.specs.Str.{chars}
use Rattle.performer_kit.specs.Commands.{pen_name}
use Rattle.performer_kit.proofs.names.PenShapeNamed.text.Goals as goal

pub returns-in-Raise : goal.returns-in-Raise
unfolding chars pen_name
returns-in-Raise c = ap pen_name (sym c.in-Raise.is)

pub returns-in-Lower : goal.returns-in-Lower
unfolding chars pen_name
returns-in-Lower c = ap pen_name (sym c.in-Lower.is)

pub returns-in-To : goal.returns-in-To
unfolding chars pen_name
returns-in-To c = ap pen_name (sym c.in-To.is)

pub returns-in-By : goal.returns-in-By
unfolding chars pen_name
returns-in-By c = ap pen_name (sym c.in-By.is)
