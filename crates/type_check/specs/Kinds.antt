-- The kinds of expressions. docs/LANGUAGE.md, "Types".
use Rattle.std.specs.Prelude.{ℕ, nat_eq, Bool, true, false, ◌&&◌, not, if◌then◌else◌, List, [], ◌∷◌, length, Option, Some, None, is_some}
use Rattle.kumir_tree.specs.declared.kind.Kind.{Kind}
use Rattle.kumir_tree.specs.declared.kind.Kind.TheVariants.{Whole, Truth}
use Rattle.kumir_tree.specs.declared.kind.Mode.{Mode}
use Rattle.kumir_tree.specs.declared.kind.Mode.TheVariants.{Arg, Res, ArgRes}
use Rattle.kumir_tree.specs.declared.kind.Op.{Op}
use Rattle.kumir_tree.specs.declared.kind.Op.TheVariants as op
use Rattle.kumir_tree.specs.Tree as t
use Rattle.kumir_tree.specs.Tree.{Tree, Trees, no_trees, ◌then◌}
use Rattle.kumir_tree.specs.Part.{Formal, Head}
use Rattle.kumir_tree.specs.Kinds.{same_kind}
use Rattle.performer_kit.specs.Commands.{is_test, pen_arity}
use Rattle.kumir_names.specs.BuiltIns.{built_in_arity}
use Rattle.kumir_names.specs.Callees.{Callee, Called, BuiltInCall, RobotCall, PenCall}
use Rattle.kumir_names.specs.Variables.{Names, variable, is_table}
use Rattle.kumir_names.specs.declared.variable.Variable.{Variable}

-- what an expression stands among: what other names stand for, the kind of the algorithm, the local names
pub record Among : Type 0 where
  pub find : List ℕ → Option (Callee Head)
  pub gives : Option Kind
  pub names : Names

-- a name that is neither local nor stands for anything else
abbrev pub is_known_as : Option Variable → Option (Callee Head) → Bool
is_known_as None found = is_some found
is_known_as (Some v) found = true

abbrev pub is_known : Among → List ℕ → Bool
is_known s x = is_known_as (variable s.names x) (s.find x)

-- ---- kinds

-- there is a kind, and it is this one
abbrev pub is_kind : Kind → Option Kind → Bool
is_kind k None = false
is_kind k (Some found) = same_kind k found

abbrev pub are_same : Option Kind → Option Kind → Bool
are_same None b = false
are_same (Some a) b = is_kind a b

-- a kind, where this holds
abbrev pub kind_where : Bool → Kind → Option Kind
kind_where true k = Some k
kind_where false k = None

-- both are there and of this kind
abbrev pub are_both : Kind → Option Kind → Option Kind → Bool
are_both k a b = is_kind k a && is_kind k b

-- what an operator takes
abbrev pub operands_fit : Op → Option Kind → Option Kind → Bool
operands_fit op.Or a b = are_both Truth a b
operands_fit op.And a b = are_both Truth a b
operands_fit op.Equal a b = are_same a b
operands_fit op.NotEqual a b = are_same a b
operands_fit op.Less a b = are_both Whole a b
operands_fit op.Greater a b = are_both Whole a b
operands_fit op.LessOrEqual a b = are_both Whole a b
operands_fit op.GreaterOrEqual a b = are_both Whole a b
operands_fit op.Plus a b = are_both Whole a b
operands_fit op.Minus a b = are_both Whole a b
operands_fit op.Times a b = are_both Whole a b
operands_fit op.Power a b = are_both Whole a b

-- and what it gives
abbrev pub operator_kind : Op → Kind
operator_kind op.Or = Truth
operator_kind op.And = Truth
operator_kind op.Equal = Truth
operator_kind op.NotEqual = Truth
operator_kind op.Less = Truth
operator_kind op.Greater = Truth
operator_kind op.LessOrEqual = Truth
operator_kind op.GreaterOrEqual = Truth
operator_kind op.Plus = Whole
operator_kind op.Minus = Whole
operator_kind op.Times = Whole
operator_kind op.Power = Whole

-- an operator over operands of these kinds
abbrev pub binary_kind : Op → Option Kind → Option Kind → Option Kind
binary_kind o a b = kind_where (operands_fit o a b) (operator_kind o)

-- what built-ins give, and tests of the Robot
abbrev pub built_in_kind : Kind
built_in_kind = Whole

abbrev pub test_kind : Kind
test_kind = Truth

-- ---- what stands as an index or as an argument

pub record Argument : Type 0 where
  -- its kind as a value; none where it is not fit to be one
  pub value : Option Kind
  -- it is a local name or an element
  pub place : Bool
  -- the local table that it is, as a whole
  pub table : Option Variable

abbrev pub all_whole : List Argument → Bool
all_whole [] = true
all_whole (a ∷ more) = is_kind Whole a.value && all_whole more

abbrev pub table_fits : Kind → ℕ → Option Variable → Bool
table_fits k bounds None = false
table_fits k bounds (Some v) = same_kind k v.kind && nat_eq v.bounds bounds

-- `арг` takes a value of its kind, `рез` and `аргрез` a name or an element of it
abbrev pub value_fits : Mode → Kind → Argument → Bool
value_fits Arg k a = is_kind k a.value
value_fits Res k a = a.place && is_kind k a.value
value_fits ArgRes k a = a.place && is_kind k a.value

abbrev pub argument_fits_at : Mode → Kind → Option (List (Tree × Tree)) → Argument → Bool
argument_fits_at mode k None a = value_fits mode k a
argument_fits_at mode k (Some bounds) a = table_fits k (length bounds) a.table

-- a parameter takes an argument
abbrev pub argument_fits : Formal → Argument → Bool
argument_fits p a = argument_fits_at p.mode p.kind p.bounds a

-- there are as many arguments as parameters, and each parameter takes its argument
abbrev pub arguments_fit : List Formal → List Argument → Bool
arguments_fit [] [] = true
arguments_fit [] (a ∷ more) = false
arguments_fit (p ∷ ps) [] = false
arguments_fit (p ∷ ps) (a ∷ more) = argument_fits p a && arguments_fit ps more

-- so many numbers
abbrev pub are_numbers : ℕ → List Argument → Bool
are_numbers n arguments = nat_eq (length arguments) n && all_whole arguments

abbrev pub where_gives : Bool → Option Kind → Option Kind
where_gives true k = k
where_gives false k = None

-- A call in an expression: of an algorithm with a kind, a built-in or a test.
abbrev pub answer_kind : Option (Callee Head) → List Argument → Option Kind
answer_kind None arguments = None
answer_kind (Some (Called h)) arguments = where_gives (arguments_fit h.params arguments) h.gives
answer_kind (Some (BuiltInCall b)) arguments = kind_where (are_numbers (built_in_arity b) arguments) built_in_kind
answer_kind (Some (RobotCall c)) arguments = kind_where (is_test c && are_numbers 0 arguments) test_kind
answer_kind (Some (PenCall s)) arguments = None

-- A call as a piece of its own: of an algorithm without a kind or a command that is no test.
abbrev pub command_fits : Option (Callee Head) → List Argument → Bool
command_fits None arguments = false
command_fits (Some (Called h)) arguments = not (is_some h.gives) && arguments_fit h.params arguments
command_fits (Some (BuiltInCall b)) arguments = false
command_fits (Some (RobotCall c)) arguments = not (is_test c) && are_numbers 0 arguments
command_fits (Some (PenCall s)) arguments = are_numbers (pen_arity s) arguments

-- ---- names in expressions

-- a name alone: a variable that is no table, or a call without arguments where the name is not local
abbrev pub name_kind : Option Variable → Option (Callee Head) → Option Kind
name_kind None found = answer_kind found []
name_kind (Some v) found = kind_where (not (is_table v)) v.kind

-- a name with indexes: an element of a table that has as many bounds
abbrev pub element_kind : Option Variable → List Argument → Option Kind
element_kind None indexes = None
element_kind (Some v) indexes = kind_where (is_table v && are_numbers v.bounds indexes) v.kind

-- a name with parentheses: a call, where the name is not local
abbrev pub call_kind : Option Variable → Option (Callee Head) → List Argument → Option Kind
call_kind None found arguments = answer_kind found arguments
call_kind (Some v) found arguments = None

abbrev pub is_place : Names → Tree → Bool
is_place names (t.Number n) = false
is_place names (t.Truth b) = false
is_place names t.Answer = false
is_place names (t.Named x) = is_some (variable names x)
is_place names (t.Element x es) = true
is_place names (t.Call f es) = false
is_place names (t.Plus a) = false
is_place names (t.Minus a) = false
is_place names (t.Not a) = false
is_place names (t.Binary o a b) = false

abbrev pub as_table : Option Variable → Option Variable
as_table None = None
as_table (Some v) = if is_table v then Some v else None

abbrev pub whole_table : Names → Tree → Option Variable
whole_table names (t.Number n) = None
whole_table names (t.Truth b) = None
whole_table names t.Answer = None
whole_table names (t.Named x) = as_table (variable names x)
whole_table names (t.Element x es) = None
whole_table names (t.Call f es) = None
whole_table names (t.Plus a) = None
whole_table names (t.Minus a) = None
whole_table names (t.Not a) = None
whole_table names (t.Binary o a b) = None

-- ---- the kind of an expression; none where a rule is broken in it

abbrev mutual
  pub kind_of : Among → Tree → Option Kind
  -- a number
  kind_of s (t.Number n) = Some Whole
  -- `да` and `нет`
  kind_of s (t.Truth b) = Some Truth
  -- `знач`, in an algorithm with a kind
  kind_of s t.Answer = s.gives
  kind_of s (t.Named x) = name_kind (variable s.names x) (s.find x)
  kind_of s (t.Element x es) = element_kind (variable s.names x) (arguments s es)
  kind_of s (t.Call f es) = call_kind (variable s.names f) (s.find f) (arguments s es)
  -- signs before a number
  kind_of s (t.Plus a) = kind_where (is_kind Whole (kind_of s a)) Whole
  kind_of s (t.Minus a) = kind_where (is_kind Whole (kind_of s a)) Whole
  -- `не`
  kind_of s (t.Not a) = kind_where (is_kind Truth (kind_of s a)) Truth
  kind_of s (t.Binary o a b) = binary_kind o (kind_of s a) (kind_of s b)

  pub arguments : Among → Trees → List Argument
  arguments s no_trees = []
  arguments s (e then es) = record { value = kind_of s e; place = is_place s.names e; table = whole_table s.names e } ∷ arguments s es

-- ---- the kind that the form of an expression tells, whether its rules hold or not; where they hold it is the kind

-- of what is called
abbrev pub called_kind : Option (Callee Head) → Option Kind
called_kind None = None
called_kind (Some (Called h)) = h.gives
called_kind (Some (BuiltInCall b)) = Some built_in_kind
called_kind (Some (RobotCall c)) = Some test_kind
called_kind (Some (PenCall s)) = None

abbrev pub named_kind : Option Variable → Option (Callee Head) → Option Kind
named_kind None found = called_kind found
named_kind (Some v) found = Some v.kind

abbrev pub variable_kind : Option Variable → Option Kind
variable_kind None = None
variable_kind (Some v) = Some v.kind

abbrev pub form_kind : Among → Tree → Option Kind
form_kind s (t.Number n) = Some Whole
form_kind s (t.Truth b) = Some Truth
form_kind s t.Answer = s.gives
form_kind s (t.Named x) = named_kind (variable s.names x) (s.find x)
form_kind s (t.Element x es) = variable_kind (variable s.names x)
form_kind s (t.Call f es) = called_kind (s.find f)
form_kind s (t.Plus a) = Some Whole
form_kind s (t.Minus a) = Some Whole
form_kind s (t.Not a) = Some Truth
form_kind s (t.Binary o a b) = Some (operator_kind o)
