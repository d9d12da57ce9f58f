-- The code of calls that give a value, in front of code.
use Rattle.std.proofs.Common.{◌≡◌, ℕ, List, [], ◌∷◌, ◌++◌, Option, Some, None, option_map, refl, sym, ap, ◌∙◌, append_assoc}
use Rattle.performer_kit.specs.declared.commands.RobotCommand.{RobotCommand}
use Rattle.performer_kit.specs.declared.commands.PenShape.{PenShape}
use Rattle.performer_kit.specs.Commands.{robot_command_named, pen_shape_named}
use Rattle.kumir_tree.specs.Part.{Formal}
use Rattle.kumir_tree.specs.Tree.{Call, Trees}
use Rattle.kumir_names.specs.declared.built_in.BuiltIn.{BuiltIn}
use Rattle.kumir_names.specs.BuiltIns.{built_in_named}
use Rattle.kumir_names.specs.Callees as names
use Rattle.kumir_names.specs.Callees.{BuiltInCall, Called, Callee, PenCall, RobotCall, algorithm_named, if_known, or_else}
use Rattle.kumir_meaning.specs.Program.{Placed, Program, callee_in, own_name}
use Rattle.stack_code.specs.declared.instruction.CommandShape.TheVariants as shape
use Rattle.stack_code.specs.declared.instruction.Instruction.TheVariants as instruction
use Rattle.kumir_compiler.specs.Sites.{Code, Site, on}
use Rattle.kumir_compiler.specs.ArgumentCode.{call_places}
use Rattle.kumir_compiler.specs.ExpressionCode.{arguments_code, built_in_code, call_code, enter_code, tree_code, trees_code}
use Rattle.kumir_compiler.specs.CallsSeen.{IsCalledIn}

-- ---- what is called
chosen : (b : Option BuiltIn) (r : Option RobotCommand) (s : Option PenShape) (rest found : Option (Callee Placed)) → b ≡ None → r ≡ None → s ≡ None → rest ≡ found
    → or_else (option_map BuiltInCall b) (or_else (option_map RobotCall r) (or_else (option_map PenCall s) rest)) ≡ found
chosen b r s rest found e f g h =
    ap (λ o. or_else (option_map BuiltInCall o) (or_else (option_map RobotCall r) (or_else (option_map PenCall s) rest))) e
    ∙ ap (λ o. or_else (option_map RobotCall o) (or_else (option_map PenCall s) rest)) f
    ∙ ap (λ o. or_else (option_map PenCall o) rest) g ∙ h

pub algorithm_called : (p : Program) (x : List ℕ) (a : Placed) → built_in_named x ≡ None → if_known p.performers.robot (robot_command_named x) ≡ None → if_known p.performers.pen (pen_shape_named x) ≡ None
    → algorithm_named own_name x p.algorithms ≡ Some a → callee_in p x ≡ Some (Called a)
unfolding names.callee
algorithm_called p x a no_built_in no_robot no_pen found =
    chosen (built_in_named x) (if_known p.performers.robot (robot_command_named x)) (if_known p.performers.pen (pen_shape_named x)) _ _ no_built_in no_robot no_pen (ap (option_map Called) found)

-- ---- any code of the arguments
module _ (t : Site) (f : List ℕ) (algorithm : Placed → Code) (values old : Code) where
  pub built_in_called : (b : BuiltIn) (mid new : Code) → callee_in t.program f ≡ Some (BuiltInCall b) → mid ≡ on t (built_in_code b) ∷ old → new ≡ values ++ mid → new ≡ call_code (callee_in t.program f) algorithm values t ++ old
  built_in_called b mid new is one all =
      all ∙ ap (λ l. values ++ l) one ∙ sym (append_assoc values (on t (built_in_code b) ∷ []) old) ∙ ap (λ c. call_code c algorithm values t ++ old) (sym is)

  pub robot_called : (r : RobotCommand) (new : Code) → callee_in t.program f ≡ Some (RobotCall r) → new ≡ on t instruction.Step ∷ on t (instruction.Ask (shape.Robot r)) ∷ old → new ≡ call_code (callee_in t.program f) algorithm values t ++ old
  robot_called r new is all = all ∙ ap (λ c. call_code c algorithm values t ++ old) (sym is)

  pub pen_called : (s : PenShape) → callee_in t.program f ≡ Some (PenCall s) → old ≡ call_code (callee_in t.program f) algorithm values t ++ old
  pen_called s is = ap (λ c. call_code c algorithm values t ++ old) (sym is)

  pub nothing_called : callee_in t.program f ≡ None → old ≡ call_code (callee_in t.program f) algorithm values t ++ old
  nothing_called is = ap (λ c. call_code c algorithm values t ++ old) (sym is)

pub named_called : (t : Site) (f : List ℕ) (values old new : Code) (number : ℕ) (params : List Formal) → IsCalledIn t.program f number params → new ≡ on t instruction.Step ∷ on t (instruction.Call number []) ∷ old
    → new ≡ call_code (callee_in t.program f) (λ a. enter_code f [] t) values t ++ old
named_called t f values old new number params is all =
    all ∙ ap (λ n. on t instruction.Step ∷ on t (instruction.Call n []) ∷ old) is.same_number ∙ ap (λ c. call_code c (λ a. enter_code f [] t) values t ++ old) (sym is.called)

pub unit_called : (t : Site) (f : List ℕ) (es : Trees) (d : ℕ) (old mid new : Code) (number : ℕ) (params : List Formal) → IsCalledIn t.program f number params
    → mid ≡ on t instruction.Step ∷ on t (instruction.Call number (call_places es params t d)) ∷ old → new ≡ arguments_code es params t d ++ mid → new ≡ tree_code (Call f es) t d ++ old
unit_called t f es d old mid new number params is one all =
    all ∙ ap (λ l. arguments_code es params t d ++ l) one
    ∙ sym (append_assoc (arguments_code es params t d) (on t instruction.Step ∷ on t (instruction.Call number (call_places es params t d)) ∷ []) old)
    ∙ ap (λ n. (arguments_code es params t d ++ (on t instruction.Step ∷ on t (instruction.Call n (call_places es params t d)) ∷ [])) ++ old) is.same_number
    ∙ ap (λ ps. (arguments_code es ps t d ++ enter_code f (call_places es ps t d) t) ++ old) is.same_params
    ∙ ap (λ c. call_code c (λ a. arguments_code es a.algorithm.head.params t d ++ enter_code f (call_places es a.algorithm.head.params t d) t) (trees_code es t d) t ++ old) (sym is.called)

pub ruleset calls = (built_in_called, robot_called, pen_called, nothing_called, named_called, unit_called)
