-- The code of expressions, arguments and bounds.
use Rattle.std.specs.Prelude.{ℕ, suc, ◌+◌, true, false, List, [], ◌∷◌, ◌++◌, length, Option, Some, None, if◌then◌else◌}
use Rattle.kumir_tree.specs.declared.kind.Kind.{Kind}
use Rattle.kumir_tree.specs.declared.kind.Kind.TheVariants as kind
use Rattle.kumir_tree.specs.declared.kind.Op.{Op}
use Rattle.kumir_tree.specs.declared.kind.Op.TheVariants as op
use Rattle.kumir_tree.specs.Tree.{Tree, Number, Truth as TruthOf, Answer, Named, Element, Call, Plus, Minus, Not, Binary, Trees, no_trees, ◌then◌, count}
use Rattle.kumir_tree.specs.Part.{Limits, Formal}
use Rattle.kumir_values.specs.declared.value.Value.TheVariants.{Whole, Truth}
use Rattle.kumir_names.specs.declared.built_in.BuiltIn.{BuiltIn}
use Rattle.kumir_names.specs.declared.built_in.BuiltIn.TheVariants.{Div, Iabs, Imax, Imin, Mod}
use Rattle.kumir_names.specs.declared.variable.Variable.{Variable}
use Rattle.kumir_names.specs.Variables.{variable}
use Rattle.kumir_names.specs.Callees.{BuiltInCall, Called, Callee, PenCall, RobotCall, is_named}
use Rattle.kumir_meaning.specs.Program.{Placed, callee_in}
use Rattle.kumir_meaning.specs.Store.{TheAnswer, Local}
use Rattle.stack_code.specs.declared.instruction.CallPlace.{CallPlace}
use Rattle.stack_code.specs.declared.instruction.CommandShape.TheVariants as command
use Rattle.stack_code.specs.declared.instruction.Instruction.{Instruction}
use Rattle.stack_code.specs.declared.instruction.Instruction.TheVariants as instruction
use Rattle.type_check.specs.Kinds.{form_kind}
use Rattle.kumir_compiler.specs.Sites.{Code, Site, among, slot, hidden, on, jump, jump_no}
use Rattle.kumir_compiler.specs.ArgumentCode.{keep_code, keeps, call_places, read_code, argument_code}

-- one of two instructions by the kind of what they compare
abbrev pub by_kind : Option Kind → Instruction → Instruction → Instruction
by_kind None whole truth = whole
by_kind (Some kind.Whole) whole truth = whole
by_kind (Some kind.Truth) whole truth = truth

-- an operator between two codes, the left one of this kind
abbrev pub operator_code : Op → Option Kind → Code → Code → Site → Code
operator_code op.Or k a b t = a ++ (jump_no t 2 ∷ on t (instruction.Push (Truth true)) ∷ jump t (length b) ∷ b)
operator_code op.And k a b t = a ++ (jump_no t (length b + 1) ∷ (b ++ (jump t 1 ∷ on t (instruction.Push (Truth false)) ∷ [])))
operator_code op.Equal k a b t = a ++ (b ++ (on t (by_kind k instruction.Eq instruction.EqTruth) ∷ []))
operator_code op.NotEqual k a b t = a ++ (b ++ (on t (by_kind k instruction.Ne instruction.NeTruth) ∷ []))
operator_code op.Less k a b t = a ++ (b ++ (on t instruction.Lt ∷ []))
operator_code op.Greater k a b t = a ++ (b ++ (on t instruction.Gt ∷ []))
operator_code op.LessOrEqual k a b t = a ++ (b ++ (on t instruction.Le ∷ []))
operator_code op.GreaterOrEqual k a b t = a ++ (b ++ (on t instruction.Ge ∷ []))
operator_code op.Plus k a b t = a ++ (b ++ (on t instruction.Add ∷ []))
operator_code op.Minus k a b t = a ++ (b ++ (on t instruction.Sub ∷ []))
operator_code op.Times k a b t = a ++ (b ++ (on t instruction.Mul ∷ []))
operator_code op.Power k a b t = a ++ (b ++ (on t instruction.Pow ∷ []))

abbrev pub built_in_code : BuiltIn → Instruction
built_in_code Div = instruction.Div
built_in_code Mod = instruction.Mod
built_in_code Iabs = instruction.Abs
built_in_code Imin = instruction.Min
built_in_code Imax = instruction.Max

-- ---- calls
abbrev pub number_of_unit : List Placed → List ℕ → ℕ
number_of_unit [] x = 0
number_of_unit (a ∷ more) x = if is_named x a.algorithm.head.name then 0 else suc (number_of_unit more x)

-- a step, and then the call
abbrev pub enter_code : List ℕ → List CallPlace → Site → Code
enter_code f places t = on t instruction.Step ∷ on t (instruction.Call (number_of_unit t.program.algorithms f) places) ∷ []

-- a call that gives a value
abbrev pub call_code : Option (Callee Placed) → (Placed → Code) → Code → Site → Code
call_code (Some (Called a)) algorithm values t = algorithm a
call_code (Some (BuiltInCall b)) algorithm values t = values ++ (on t (built_in_code b) ∷ [])
call_code (Some (RobotCall c)) algorithm values t = on t instruction.Step ∷ on t (instruction.Ask (command.Robot c)) ∷ []
call_code (Some (PenCall c)) algorithm values t = []
call_code None algorithm values t = []

abbrev pub named_code : Option Variable → List ℕ → Site → Code
named_code (Some v) x t = on t (instruction.Load (slot t (Local x))) ∷ []
named_code None x t = call_code (callee_in t.program x) (λ a. enter_code x [] t) [] t

-- ---- expressions; d hidden slots are in use
abbrev mutual
  pub tree_code : Tree → Site → ℕ → Code
  tree_code (Number z) t d = on t (instruction.Push (Whole z)) ∷ []
  tree_code (TruthOf b) t d = on t (instruction.Push (Truth b)) ∷ []
  tree_code Answer t d = on t (instruction.Load (slot t TheAnswer)) ∷ []
  tree_code (Named x) t d = named_code (variable t.locals x) x t
  tree_code (Element x es) t d = trees_code es t d ++ (on t (instruction.Elem (slot t (Local x)) (count es)) ∷ [])
  tree_code (Call f es) t d =
      call_code (callee_in t.program f)
      (λ a. arguments_code es a.algorithm.head.params t d ++ enter_code f (call_places es a.algorithm.head.params t d) t)
      (trees_code es t d) t
  tree_code (Plus a) t d = tree_code a t d
  tree_code (Minus a) t d = tree_code a t d ++ (on t instruction.Neg ∷ [])
  tree_code (Not a) t d = tree_code a t d ++ (on t instruction.Not ∷ [])
  tree_code (Binary o a b) t d = operator_code o (form_kind (among t) a) (tree_code a t d) (tree_code b t d) t

  pub trees_code : Trees → Site → ℕ → Code
  trees_code no_trees t d = []
  trees_code (e then es) t d = tree_code e t d ++ trees_code es t d

  pub arguments_code : Trees → List Formal → Site → ℕ → Code
  arguments_code no_trees params t d = []
  arguments_code (e then es) [] t d = []
  arguments_code (e then es) (p ∷ params) t d =
      argument_code p.bounds p.mode (tree_code e t d) (place_code e t d) (read_code e t d) ++ arguments_code es params t (d + keeps p.bounds p.mode e)

  -- the indexes of an element are checked, and kept in the hidden slots from d on
  pub place_code : Tree → Site → ℕ → Code
  place_code (Element x es) t d =
      trees_code es t d ++ (on t (instruction.Probe (slot t (Local x)) (count es)) ∷ keep_code (count es) (hidden t d) t)
  place_code e t d = []

abbrev pub limits_code : Limits → Site → ℕ → Code
limits_code [] t d = []
limits_code (limit ∷ limits) t d = tree_code limit.0 t d ++ (tree_code limit.1 t d ++ limits_code limits t d)
