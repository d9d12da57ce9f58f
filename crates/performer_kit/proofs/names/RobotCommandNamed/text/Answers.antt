use Rattle.std.proofs.Common.{ap, sym}
use Rattle.std.specs.Str.{chars}
use Rattle.performer_kit.specs.Commands.{robot_name}
use Rattle.performer_kit.proofs.names.RobotCommandNamed.text.Goals as goal

pub returns-in-Up : goal.returns-in-Up
unfolding chars robot_name
returns-in-Up c = ap robot_name (sym c.in-Up.is)

pub returns-in-Down : goal.returns-in-Down
unfolding chars robot_name
returns-in-Down c = ap robot_name (sym c.in-Down.is)

pub returns-in-Left : goal.returns-in-Left
unfolding chars robot_name
returns-in-Left c = ap robot_name (sym c.in-Left.is)

pub returns-in-Right : goal.returns-in-Right
unfolding chars robot_name
returns-in-Right c = ap robot_name (sym c.in-Right.is)

pub returns-in-Paint : goal.returns-in-Paint
unfolding chars robot_name
returns-in-Paint c = ap robot_name (sym c.in-Paint.is)

pub returns-in-AboveFree : goal.returns-in-AboveFree
unfolding chars robot_name
returns-in-AboveFree c = ap robot_name (sym c.in-AboveFree.is)

pub returns-in-BelowFree : goal.returns-in-BelowFree
unfolding chars robot_name
returns-in-BelowFree c = ap robot_name (sym c.in-BelowFree.is)

pub returns-in-LeftFree : goal.returns-in-LeftFree
unfolding chars robot_name
returns-in-LeftFree c = ap robot_name (sym c.in-LeftFree.is)

pub returns-in-RightFree : goal.returns-in-RightFree
unfolding chars robot_name
returns-in-RightFree c = ap robot_name (sym c.in-RightFree.is)

pub returns-in-AboveWall : goal.returns-in-AboveWall
unfolding chars robot_name
returns-in-AboveWall c = ap robot_name (sym c.in-AboveWall.is)

pub returns-in-BelowWall : goal.returns-in-BelowWall
unfolding chars robot_name
returns-in-BelowWall c = ap robot_name (sym c.in-BelowWall.is)

pub returns-in-LeftWall : goal.returns-in-LeftWall
unfolding chars robot_name
returns-in-LeftWall c = ap robot_name (sym c.in-LeftWall.is)

pub returns-in-RightWall : goal.returns-in-RightWall
unfolding chars robot_name
returns-in-RightWall c = ap robot_name (sym c.in-RightWall.is)

pub returns-in-CellPainted : goal.returns-in-CellPainted
unfolding chars robot_name
returns-in-CellPainted c = ap robot_name (sym c.in-CellPainted.is)

pub returns-in-CellClean : goal.returns-in-CellClean
unfolding chars robot_name
returns-in-CellClean c = ap robot_name (sym c.in-CellClean.is)
