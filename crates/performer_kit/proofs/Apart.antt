-- The names of a table are different, so that the look-up and the names are inverse.
use Rattle.std.proofs.Common.{◌≡◌, ℕ, true, false, cond, List, [], ◌∷◌, Option, Some, refl, sym, ap, ◌∙◌}
use Rattle.std.specs.Str.{bytes_eq}
use Rattle.std.proofs.lemmas.Slice.Eq.{bytes_eq-Decides}
use Rattle.km_base.specs.declared.performers.Performer.{Performer}
use Rattle.km_base.specs.declared.performers.Performer.TheVariants.{Robot, Pen}
use Rattle.performer_kit.specs.declared.commands.RobotCommand.{RobotCommand}
use Rattle.performer_kit.specs.declared.commands.RobotCommand.TheVariants.{Up, Down, Left, Right, Paint, AboveFree, BelowFree, LeftFree, RightFree, AboveWall, BelowWall, LeftWall, RightWall, CellPainted, CellClean}
use Rattle.performer_kit.specs.declared.commands.PenShape.{PenShape}
use Rattle.performer_kit.specs.declared.commands.PenShape.TheVariants.{Raise, Lower, To, By}
use Rattle.performer_kit.specs.Names.{first_named}
use Rattle.performer_kit.specs.Laws.{AreInverse}
use Rattle.performer_kit.specs.Commands.{performers, robot_commands, pen_shapes, performer_name, robot_name, pen_name, performer_named, robot_command_named, pen_shape_named}

some_same : {T : Type 0} (x y : T) → Some x ≡ Some y → x ≡ y
some_same x y e = cc

-- what is found has the name
found_has_name : {T : Type 0} (name : T → List ℕ) (things : List T) (text : List ℕ) (t : T) → first_named name things text ≡ Some t → name t ≡ text
found_has_name name [] text t e = cc
found_has_name name (x ∷ xs) text t e =
    elim (bytes_eq (name x) text) as (λ b. bytes_eq (name x) text ≡ b → cond b (Some x) (first_named name xs text) ≡ Some t → name t ≡ text) [
      | true ↦ λ same at. ap name (sym (some_same x t at)) ∙ (bytes_eq-Decides (name x) text).0 same
      | false ↦ λ other at. found_has_name name xs text t at
    ] refl e

-- where each thing is found by its name, the two are inverse
inverse_of : {T : Type 0} (name : T → List ℕ) (named : List ℕ → Option T) → ((t : T) → named (name t) ≡ Some t) → ((text : List ℕ) (t : T) → named text ≡ Some t → name t ≡ text) → AreInverse name named
inverse_of name named found has = record {
  found = found;
  has_name = has;
  other = λ text none t e. let h = found t in let g = ap named e in cc;
}

performer_found : (t : Performer) → performer_named (performer_name t) ≡ Some t
unfolding performer_name performer_named
performer_found Robot = refl
performer_found Pen = refl

robot_found : (t : RobotCommand) → robot_command_named (robot_name t) ≡ Some t
unfolding robot_name robot_command_named
robot_found Up = refl
robot_found Down = refl
robot_found Left = refl
robot_found Right = refl
robot_found Paint = refl
robot_found AboveFree = refl
robot_found BelowFree = refl
robot_found LeftFree = refl
robot_found RightFree = refl
robot_found AboveWall = refl
robot_found BelowWall = refl
robot_found LeftWall = refl
robot_found RightWall = refl
robot_found CellPainted = refl
robot_found CellClean = refl

pen_found : (t : PenShape) → pen_shape_named (pen_name t) ≡ Some t
unfolding pen_name pen_shape_named
pen_found Raise = refl
pen_found Lower = refl
pen_found To = refl
pen_found By = refl

pub performer_names_apart : AreInverse performer_name performer_named
unfolding performer_named
performer_names_apart = inverse_of _ _ performer_found (found_has_name performer_name performers)

pub robot_names_apart : AreInverse robot_name robot_command_named
unfolding robot_command_named
robot_names_apart = inverse_of _ _ robot_found (found_has_name robot_name robot_commands)

pub pen_names_apart : AreInverse pen_name pen_shape_named
unfolding pen_shape_named
pen_names_apart = inverse_of _ _ pen_found (found_has_name pen_name pen_shapes)
