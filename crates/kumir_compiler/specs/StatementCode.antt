-- The code of statements and blocks.
use Rattle.std.specs.Prelude.{ℕ, ◌+◌, List, [], ◌∷◌, ◌++◌, map, length, pos, Option, Some, None}
use Rattle.kumir_tree.specs.declared.kind.Kind.{Kind}
use Rattle.kumir_tree.specs.declared.kind.Kind.TheVariants as kind
use Rattle.kumir_tree.specs.Tree.{Tree, Trees, count}
use Rattle.kumir_tree.specs.Part.{Limits, Place, ToAnswer, ToScalar, ToElement, Shown, ShowValue, ShowText, ShowLine, Declares, Scalars, Tables}
use Rattle.kumir_tree.specs.Program as tree
use Rattle.kumir_tree.specs.Program.{Stmt, Stands, Declare, Assign, Invoke, Times, While, Count, Forever, Until, Choose, Select, Assert, Input, Output, Leave, Quit, Block, done, ◌next◌, Arms, no_arms, arm}
use Rattle.kumir_values.specs.declared.value.Value.TheVariants.{Whole}
use Rattle.kumir_names.specs.Callees.{BuiltInCall, Called, Callee, PenCall, RobotCall}
use Rattle.kumir_meaning.specs.Program.{Placed, callee_in, local_kind, stmt_names, block_names}
use Rattle.kumir_meaning.specs.Store.{TheAnswer, Local}
use Rattle.stack_code.specs.declared.instruction.CommandShape.TheVariants as command
use Rattle.stack_code.specs.declared.instruction.Instruction.TheVariants as instruction
use Rattle.kumir_compiler.specs.Sites.{Line, Code, Site, on_line, behind, slot, hidden, on, jump}
use Rattle.kumir_compiler.specs.ArgumentCode.{call_places}
use Rattle.kumir_compiler.specs.ExpressionCode.{enter_code, tree_code, trees_code, arguments_code, limits_code}
use Rattle.kumir_compiler.specs.LoopCode.{while_code, turns_code, forever_code, until_code, choice_code}

-- the indexes of a place that is given a value, and the store
abbrev pub aim_code : Place → Site → ℕ → Code
aim_code ToAnswer t d = []
aim_code (ToScalar x) t d = []
aim_code (ToElement x es) t d = trees_code es t d

abbrev pub store_code : Place → Site → Line
store_code ToAnswer t = on t (instruction.Store (slot t TheAnswer))
store_code (ToScalar x) t = on t (instruction.Store (slot t (Local x)))
store_code (ToElement x es) t = on t (instruction.PutElem (slot t (Local x)) (count es))

abbrev pub claim_code : Tree → Site → ℕ → Code
claim_code e t d = tree_code e t d ++ (on t instruction.Assert ∷ [])

abbrev pub tables_code : Kind → List (List ℕ × Limits) → Site → ℕ → Code
tables_code kind [] t d = []
tables_code kind (x ∷ tables) t d =
    limits_code x.1 t d ++ (on t (instruction.Make (slot t (Local x.0)) kind (length x.1)) ∷ tables_code kind tables t d)

abbrev pub declares_code : Declares → Site → ℕ → Code
declares_code (Scalars kind names) t d = map (λ x. on t (instruction.Clear (slot t (Local x)))) names
declares_code (Tables kind tables) t d = tables_code kind tables t d

abbrev pub invoke_code : Option (Callee Placed) → List ℕ → Trees → Site → ℕ → Code
invoke_code (Some (Called a)) f es t d =
    arguments_code es a.algorithm.head.params t d ++ enter_code f (call_places es a.algorithm.head.params t d) t
invoke_code (Some (RobotCall c)) f es t d = on t instruction.Step ∷ on t (instruction.Ask (command.Robot c)) ∷ []
invoke_code (Some (PenCall c)) f es t d = trees_code es t d ++ (on t instruction.Step ∷ on t (instruction.Ask (command.Pen c)) ∷ [])
invoke_code (Some (BuiltInCall b)) f es t d = []
invoke_code None f es t d = []

-- the kind of an input
abbrev pub place_kind : Place → Site → Option Kind
place_kind ToAnswer t = None
place_kind (ToScalar x) t = local_kind t.locals x
place_kind (ToElement x es) t = local_kind t.locals x

abbrev pub kind_or_whole : Option Kind → Kind
kind_or_whole None = kind.Whole
kind_or_whole (Some k) = k

abbrev pub inputs_code : List Place → Site → ℕ → Code
inputs_code [] t d = []
inputs_code (x ∷ targets) t d =
    aim_code x t d ++ (on t (instruction.Input (kind_or_whole (place_kind x t))) ∷ store_code x t ∷ inputs_code targets t d)

abbrev pub outputs_code : List Shown → Site → ℕ → Code
outputs_code [] t d = []
outputs_code (ShowValue e ∷ items) t d = tree_code e t d ++ (on t instruction.Out ∷ outputs_code items t d)
outputs_code (ShowText text ∷ items) t d = on t (instruction.OutText text) ∷ outputs_code items t d
outputs_code (ShowLine ∷ items) t d = on t instruction.OutLine ∷ outputs_code items t d

-- ---- blocks

abbrev pub stride_code : Option Tree → Site → ℕ → Code
stride_code None t d = on t (instruction.Push (Whole (pos 1))) ∷ []
stride_code (Some e) t d = tree_code e t d

abbrev mutual
  -- d hidden slots are in use; `выход` leads behind the `after` places that follow this code
  pub act_code : tree.Act → Site → ℕ → ℕ → Code
  act_code (Declare x) t d after = declares_code x t d
  act_code (Assign x e) t d after = aim_code x t d ++ (tree_code e t d ++ (store_code x t ∷ []))
  act_code (Invoke x es) t d after = invoke_code (callee_in t.program x) x es t d
  act_code (Times e b) t d after =
      tree_code e t d ++ (on t (instruction.Times (hidden t d)) ∷ turns_code (hidden t d) None (block_code b t (d + 1) 1) t)
  act_code (While e b) t d after = while_code (tree_code e t d) (block_code b t d 1) t
  act_code (Count x from to step b) t d after =
      tree_code from t d ++ (tree_code to t d ++ (stride_code step t d ++
      (on t (instruction.Turns (hidden t d)) ∷ turns_code (hidden t d) (Some (slot t (Local x))) (block_code b t (d + 1) 1) t)))
  act_code (Forever b) t d after = forever_code (block_code b t d 1) t
  act_code (Until b line e) t d after =
      until_code (block_code b t d (length (tree_code e (on_line (behind t (block_names b)) line) d) + 2))
      (tree_code e (on_line (behind t (block_names b)) line) d) t (on_line (behind t (block_names b)) line)
  act_code (Choose e a b) t d after =
      tree_code e t d ++ choice_code (block_code a t d (length (block_code b (behind t (block_names a)) d after) + 1 + after)) (block_code b (behind t (block_names a)) d after) t
  act_code (Select arms b) t d after = arms_code arms t d after (λ s. block_code b s d after)
  act_code (Assert e) t d after = claim_code e t d
  act_code (Input targets) t d after = inputs_code targets t d
  act_code (Output items) t d after = outputs_code items t d
  act_code Leave t d after = jump t after ∷ []
  act_code Quit t d after = on t instruction.Quit ∷ []

  pub stmt_code : Stmt → Site → ℕ → ℕ → Code
  stmt_code (Stands line a) t d after = on (on_line t line) instruction.Step ∷ act_code a (on_line t line) d after

  pub block_code : Block → Site → ℕ → ℕ → Code
  block_code done t d after = []
  block_code (s next b) t d after =
      stmt_code s t d (length (block_code b (behind t (stmt_names s)) d after) + after) ++ block_code b (behind t (stmt_names s)) d after

  -- the last way is what follows where no condition holds
  pub arms_code : Arms → Site → ℕ → ℕ → (Site → Code) → Code
  arms_code no_arms t d after last = last t
  arms_code (arm line e b more) t d after last =
      tree_code e (on_line t line) d ++
      choice_code (block_code b t d (length (arms_code more (behind t (block_names b)) d after last) + 1 + after)) (arms_code more (behind t (block_names b)) d after last) (on_line t line)
