-- What a name that is no local one stands for. docs/LANGUAGE.md, "Names".
use Rattle.std.specs.Prelude.{ℕ, nat_eq, Bool, false, if◌then◌else◌, List, [], ◌∷◌, Option, Some, None, option_map}
use Rattle.std.specs.Cmp.Lexicographic.{pointwise}
use Rattle.km_base.specs.declared.performers.Performers.{Performers}
use Rattle.performer_kit.specs.declared.commands.RobotCommand.{RobotCommand}
use Rattle.performer_kit.specs.declared.commands.PenShape.{PenShape}
use Rattle.performer_kit.specs.Commands.{robot_command_named, pen_shape_named}
use Rattle.kumir_names.specs.declared.built_in.BuiltIn.{BuiltIn}
use Rattle.kumir_names.specs.BuiltIns.{built_in_named}

-- what is called: an algorithm, which stands there in one form or another, a built-in, or a command
pub data Callee (A : Type 0) : Type 0 where
  Called : A → Callee A
  BuiltInCall : BuiltIn → Callee A
  RobotCall : RobotCommand → Callee A
  PenCall : PenShape → Callee A

-- whether that is its name
abbrev pub is_named : List ℕ → Option (List ℕ) → Bool
is_named name None = false
is_named name (Some other) = pointwise nat_eq name other

-- the first of the algorithms that has this name
abbrev pub algorithm_named : {A : Type 0} → (A → Option (List ℕ)) → List ℕ → List A → Option A
algorithm_named own name [] = None
algorithm_named own name (a ∷ more) = if is_named name (own a) then Some a else algorithm_named own name more

-- the first of two answers that there is
abbrev pub or_else : {T : Type 0} → Option T → Option T → Option T
or_else None other = other
or_else (Some c) other = Some c

-- what is found, where the performer is known
abbrev pub if_known : {T : Type 0} → Bool → Option T → Option T
if_known known found = if known then found else None

-- A name stands for a built-in, for a command of a known performer, or for the first algorithm that has it; else for nothing.
unfoldable pub callee : {A : Type 0} → (A → Option (List ℕ)) → Performers → List A → List ℕ → Option (Callee A)
callee own performers algorithms name =
    or_else (option_map BuiltInCall (built_in_named name))
    (or_else (option_map RobotCall (if_known performers.robot (robot_command_named name)))
    (or_else (option_map PenCall (if_known performers.pen (pen_shape_named name)))
    (option_map Called (algorithm_named own name algorithms))))
