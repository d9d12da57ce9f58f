-- The command table of the language: the names of performers and commands, as lists of characters,
-- and how commands print. docs/LANGUAGE.md, "Performers".
use Rattle.std.specs.Prelude.{ℕ, ℤ, Bool, true, false, List, [], ◌∷◌, ◌++◌, Option, map, codes, ◌==◌, if◌then◌else◌}
use Rattle.std.specs.List.{flat_map}
use Rattle.std.specs.Fmt.{signed_decimal}
use Rattle.km_base.specs.declared.performers.Performer.{Performer}
use Rattle.km_base.specs.declared.performers.Performer.TheVariants.{Robot, Pen}
use Rattle.performer_kit.specs.declared.commands.RobotCommand.{RobotCommand}
use Rattle.performer_kit.specs.declared.commands.RobotCommand.TheVariants.{Up, Down, Left, Right, Paint, AboveFree, BelowFree, LeftFree, RightFree, AboveWall, BelowWall, LeftWall, RightWall, CellPainted, CellClean}
use Rattle.performer_kit.specs.declared.commands.PenShape.{PenShape}
use Rattle.performer_kit.specs.declared.commands.PenShape.TheVariants as shape
use Rattle.performer_kit.specs.declared.commands.PenCommand.{PenCommand}
use Rattle.performer_kit.specs.declared.commands.PenCommand.TheVariants.{Raise, Lower, To, By}
use Rattle.performer_kit.specs.declared.commands.Command.{Command}
use Rattle.performer_kit.specs.declared.commands.Command.TheVariants as command
use Rattle.performer_kit.specs.Names.{first_named}

unfoldable pub performer_name : Performer → List ℕ
performer_name Robot = codes "Робот"
performer_name Pen = codes "Чертежник"

unfoldable pub robot_name : RobotCommand → List ℕ
robot_name Up = codes "вверх"
robot_name Down = codes "вниз"
robot_name Left = codes "влево"
robot_name Right = codes "вправо"
robot_name Paint = codes "закрасить"
robot_name AboveFree = codes "сверху свободно"
robot_name BelowFree = codes "снизу свободно"
robot_name LeftFree = codes "слева свободно"
robot_name RightFree = codes "справа свободно"
robot_name AboveWall = codes "сверху стена"
robot_name BelowWall = codes "снизу стена"
robot_name LeftWall = codes "слева стена"
robot_name RightWall = codes "справа стена"
robot_name CellPainted = codes "клетка закрашена"
robot_name CellClean = codes "клетка чистая"

unfoldable pub pen_name : PenShape → List ℕ
pen_name shape.Raise = codes "поднять перо"
pen_name shape.Lower = codes "опустить перо"
pen_name shape.To = codes "сместиться в точку"
pen_name shape.By = codes "сместиться на вектор"

abbrev pub performers : List Performer
performers = Robot ∷ Pen ∷ []

abbrev pub robot_commands : List RobotCommand
robot_commands =
    Up ∷ Down ∷ Left ∷ Right ∷ Paint ∷ AboveFree ∷ BelowFree ∷ LeftFree ∷ RightFree ∷ AboveWall ∷ BelowWall ∷ LeftWall
    ∷ RightWall ∷ CellPainted ∷ CellClean ∷ []

abbrev pub pen_shapes : List PenShape
pen_shapes = shape.Raise ∷ shape.Lower ∷ shape.To ∷ shape.By ∷ []

-- the performer, the command, with that name; none for every other name
unfoldable pub performer_named : List ℕ → Option Performer
performer_named text = first_named performer_name performers text

unfoldable pub robot_command_named : List ℕ → Option RobotCommand
robot_command_named text = first_named robot_name robot_commands text

unfoldable pub pen_shape_named : List ℕ → Option PenShape
pen_shape_named text = first_named pen_name pen_shapes text

-- whether a command of the Robot is a test
abbrev pub is_test : RobotCommand → Bool
is_test Up = false
is_test Down = false
is_test Left = false
is_test Right = false
is_test Paint = false
is_test AboveFree = true
is_test BelowFree = true
is_test LeftFree = true
is_test RightFree = true
is_test AboveWall = true
is_test BelowWall = true
is_test LeftWall = true
is_test RightWall = true
is_test CellPainted = true
is_test CellClean = true

-- how many numbers a command of the Draughtsman takes
abbrev pub pen_arity : PenShape → ℕ
pen_arity shape.Raise = 0
pen_arity shape.Lower = 0
pen_arity shape.To = 2
pen_arity shape.By = 2

-- a command of the Draughtsman without its numbers, and its numbers
unfoldable pub shape_of : PenCommand → PenShape
shape_of Raise = shape.Raise
shape_of Lower = shape.Lower
shape_of (To x y) = shape.To
shape_of (By dx dy) = shape.By

unfoldable pub numbers_of : PenCommand → List ℤ
numbers_of Raise = []
numbers_of Lower = []
numbers_of (To x y) = x ∷ y ∷ []
numbers_of (By dx dy) = dx ∷ dy ∷ []

unfoldable pub command_name : Command → List ℕ
command_name (command.Robot c) = robot_name c
command_name (command.Pen c) = pen_name (shape_of c)

unfoldable pub command_numbers : Command → List ℤ
command_numbers (command.Robot c) = []
command_numbers (command.Pen c) = numbers_of c

-- `_` for each blank
abbrev pub joined_char : ℕ → ℕ
joined_char c = if c == 32 then 95 else c

unfoldable pub joined_words : List ℕ → List ℕ
joined_words text = map joined_char text

-- each number after one blank
unfoldable pub printed_numbers : List ℤ → List ℕ
printed_numbers zs = flat_map (λ z. 32 ∷ signed_decimal z) zs

-- the name with `_` for each blank, then the numbers
unfoldable pub printed_command : Command → List ℕ
printed_command c = joined_words (command_name c) ++ printed_numbers (command_numbers c)
