-- A name stands for the same thing where a program is checked and where it runs.
use Rattle.std.proofs.Common.{◌≡◌, ℕ, Bool, true, false, cond, List, [], ◌∷◌, map, Option, Some, None, refl}
use Rattle.std.specs.Prelude.{option_map}
use Rattle.kumir_tree.specs.Part.{Head}
use Rattle.performer_kit.specs.declared.commands.RobotCommand.{RobotCommand}
use Rattle.performer_kit.specs.declared.commands.PenShape.{PenShape}
use Rattle.performer_kit.specs.Commands.{robot_command_named, pen_shape_named}
use Rattle.kumir_names.specs.declared.built_in.BuiltIn.{BuiltIn}
use Rattle.kumir_names.specs.BuiltIns.{built_in_named}
use Rattle.kumir_names.specs.Callees as names
use Rattle.kumir_names.specs.Callees.{Callee, Called, BuiltInCall, RobotCall, PenCall, is_named, algorithm_named, or_else, if_known}
use Rattle.kumir_meaning.specs.Program.{Placed, Program, own_name, callee_in}
use Rattle.type_rules.specs.Callees as rules
use Rattle.type_rules.specs.Callees.{Callees}
use Rattle.kumir_compiler.specs.Sites.{in_checks}

abbrev pub head_of : Placed → Head
head_of a = a.algorithm.head

-- the headers of a program that can be called
abbrev pub callees_in : Program → Callees
callees_in p = record { performers = p.performers; heads = map head_of p.algorithms }

among_heads : (x : List ℕ) (placed : List Placed) → option_map Called (algorithm_named (rules.own_name) x (map head_of placed)) ≡ in_checks (option_map Called (algorithm_named own_name x placed))
among_heads x [] = refl
among_heads x (a ∷ more) = go (is_named x a.algorithm.head.name) (among_heads x more)
  where
    go : (b : Bool) → option_map Called (algorithm_named (rules.own_name) x (map head_of more)) ≡ in_checks (option_map Called (algorithm_named own_name x more))
        → option_map Called (cond b (Some (head_of a)) (algorithm_named (rules.own_name) x (map head_of more))) ≡ in_checks (option_map Called (cond b (Some a) (algorithm_named own_name x more)))
    go true later = refl
    go false later = later

over_pen : (o : Option PenShape) (found : Option (Callee Head)) (c : Option (Callee Placed)) → found ≡ in_checks c → or_else (option_map PenCall o) found ≡ in_checks (or_else (option_map PenCall o) c)
over_pen None found c e = e
over_pen (Some s) found c e = refl

over_robot : (o : Option RobotCommand) (found : Option (Callee Head)) (c : Option (Callee Placed)) → found ≡ in_checks c → or_else (option_map RobotCall o) found ≡ in_checks (or_else (option_map RobotCall o) c)
over_robot None found c e = e
over_robot (Some s) found c e = refl

over_built_in : (o : Option BuiltIn) (found : Option (Callee Head)) (c : Option (Callee Placed)) → found ≡ in_checks c → or_else (option_map BuiltInCall o) found ≡ in_checks (or_else (option_map BuiltInCall o) c)
over_built_in None found c e = e
over_built_in (Some s) found c e = refl

pub same_callee : (p : Program) (x : List ℕ) → rules.callee (callees_in p) x ≡ in_checks (callee_in p x)
unfolding names.callee
same_callee p x =
    over_built_in (built_in_named x) _ _
    (over_robot (if_known p.performers.robot (robot_command_named x)) _ _
    (over_pen (if_known p.performers.pen (pen_shape_named x)) _ _ (among_heads x p.algorithms)))
