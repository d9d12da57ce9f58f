-- The code of an algorithm, with its slots.
use Rattle.std.specs.Prelude.{ℕ, suc, ◌+◌, ◌-◌, max, List, [], ◌∷◌, ◌++◌, map, length, replicate, Option, Some, None}
use Rattle.kumir_tree.specs.declared.kind.Kind.{Kind}
use Rattle.kumir_tree.specs.Tree.{Tree}
use Rattle.kumir_tree.specs.Part.{Limits, Declares, Scalars, Tables, Formal}
use Rattle.kumir_tree.specs.Program as tree
use Rattle.kumir_tree.specs.Program.{Stands, Declare, Assign, Invoke, Times, While, Count, Forever, Until, Choose, Select, Assert, Input, Output, Leave, Quit, Block, done, ◌next◌, Arms, no_arms, arm}
use Rattle.kumir_names.specs.Variables.{parameters}
use Rattle.kumir_meaning.specs.Program.{Placed, Program, block_names}
use Rattle.kumir_meaning.specs.Store.{CellName, TheAnswer, Local}
use Rattle.stack_code.specs.declared.instruction.Instruction.{Instruction}
use Rattle.stack_code.specs.declared.instruction.Instruction.TheVariants as instruction
use Rattle.stack_code.specs.declared.instruction.CodeLine.{CodeLine}
use Rattle.stack_code.specs.declared.unit.Shape.{Shape}
use Rattle.stack_code.specs.declared.unit.Shape.TheVariants as shape
use Rattle.stack_code.specs.declared.unit.ParamSlot.{ParamSlot}
use Rattle.stack_code.specs.declared.unit.CodeUnit.{CodeUnit}
use Rattle.kumir_compiler.specs.Sites.{Code, placed, Site, on_line, slot, on}
use Rattle.kumir_compiler.specs.ExpressionCode.{limits_code}
use Rattle.kumir_compiler.specs.StatementCode.{claim_code, block_code}

abbrev pub some_claim_code : Option (ℕ × Tree) → Site → Code
some_claim_code None t = []
some_claim_code (Some c) t = claim_code c.1 (on_line t c.0) 0

-- the formal bounds of each table
abbrev pub bounds_code : Option Limits → List ℕ → Site → Code
bounds_code None x t = []
bounds_code (Some limits) x t = limits_code limits t 0 ++ (on t (instruction.Fit (slot t (Local x)) (length limits)) ∷ [])

abbrev pub fits_code : List Formal → Site → Code
fits_code [] t = []
fits_code (p ∷ params) t = bounds_code p.bounds p.name t ++ fits_code params t

-- `знач` in an algorithm with a kind, the parameters, and what is declared
abbrev pub answer_of : Option Kind → List CellName
answer_of None = []
answer_of (Some k) = TheAnswer ∷ []

abbrev pub variables_of : Placed → List CellName
variables_of a =
    answer_of a.algorithm.head.gives ++ map (λ l. Local l.0) (parameters a.algorithm.head.params ++ block_names a.algorithm.body)

abbrev pub header_site : Program → Placed → Site
header_site p a = record {
  program = p;
  variables = variables_of a;
  gives = a.algorithm.head.gives;
  first = a.first;
  line = a.first + a.algorithm.head.line;
  locals = parameters a.algorithm.head.params;
}

-- formal bounds, `дано`, the body, and then `надо` and the return, where `выход` leads too
abbrev pub return_code : Placed → Site → Code
return_code a t = some_claim_code a.algorithm.wanted t ++ (on (on_line t a.algorithm.close) instruction.Return ∷ [])

abbrev pub algorithm_code : Placed → Site → Code
algorithm_code a t =
    fits_code a.algorithm.head.params t ++
    (some_claim_code a.algorithm.given t ++ (block_code a.algorithm.body t 0 0 ++ return_code a t))

abbrev pub param_slots : List Formal → Site → List ParamSlot
param_slots params t = map (λ p. record { mode = p.mode; slot = slot t (Local p.name) }) params

abbrev pub answer_slot : Option Kind → Site → Option ℕ
answer_slot None t = None
answer_slot (Some k) t = Some (slot t TheAnswer)

-- ---- the shapes of slots
abbrev pub declared_shapes : Declares → List Shape
declared_shapes (Scalars kind names) = map (λ x. shape.Scalar kind) names
declared_shapes (Tables kind tables) = map (λ x. shape.Table kind (length x.1)) tables

abbrev mutual
  pub act_shapes : tree.Act → List Shape
  act_shapes (Declare d) = declared_shapes d
  act_shapes (Assign t e) = []
  act_shapes (Invoke x es) = []
  act_shapes (Times e b) = block_shapes b
  act_shapes (While e b) = block_shapes b
  act_shapes (Count x from to step b) = block_shapes b
  act_shapes (Forever b) = block_shapes b
  act_shapes (Until b line e) = block_shapes b
  act_shapes (Choose e a b) = block_shapes a ++ block_shapes b
  act_shapes (Select arms b) = arm_shapes arms ++ block_shapes b
  act_shapes (Assert e) = []
  act_shapes (Input ts) = []
  act_shapes (Output xs) = []
  act_shapes Leave = []
  act_shapes Quit = []

  pub block_shapes : Block → List Shape
  block_shapes done = []
  block_shapes (Stands line a next b) = act_shapes a ++ block_shapes b

  pub arm_shapes : Arms → List Shape
  arm_shapes no_arms = []
  arm_shapes (arm line e b more) = block_shapes b ++ arm_shapes more

abbrev pub formal_shape : Kind → Option Limits → Shape
formal_shape kind None = shape.Scalar kind
formal_shape kind (Some limits) = shape.Table kind (length limits)

abbrev pub answer_shape : Option Kind → List Shape
answer_shape None = []
answer_shape (Some kind) = shape.Scalar kind ∷ []

-- the slots that a line writes end before this one
abbrev pub written_below : Instruction → ℕ
written_below (instruction.Store x) = suc x
written_below (instruction.Times x) = suc x
written_below (instruction.Turns x) = suc x
written_below i = 0

abbrev pub all_written_below : List CodeLine → ℕ
all_written_below [] = 0
all_written_below (l ∷ ls) = max (written_below l.what) (all_written_below ls)

-- the slots of the variables, in their order, and as many hidden ones as the code writes
abbrev pub shapes_of : Placed → List CodeLine → List Shape
shapes_of a body =
    answer_shape a.algorithm.head.gives ++ (map (λ p. formal_shape p.kind p.bounds) a.algorithm.head.params ++ (block_shapes a.algorithm.body ++
    replicate (all_written_below body - length (variables_of a)) shape.Hidden))

-- each line leaves at most one operand more, so that there are at most as many as lines
abbrev pub unit_of : Placed → Site → List CodeLine → CodeUnit
unit_of a t body = record {
  slots = shapes_of a body;
  params = param_slots a.algorithm.head.params t;
  gives = answer_slot a.algorithm.head.gives t;
  depth = length body;
  body = body;
}

abbrev pub unit_code : Program → Placed → CodeUnit
unit_code p a = unit_of a (header_site p a) (placed 0 (algorithm_code a (header_site p a)))

-- ---- the entry
-- a run begins with the first algorithm, where it has no parameters
abbrev pub without_params : List Formal → Option ℕ
without_params [] = Some 0
without_params (p ∷ params) = None

abbrev pub entry_among : List Placed → Option ℕ
entry_among [] = None
entry_among (a ∷ more) = without_params a.algorithm.head.params

abbrev pub entry_of : Program → Option ℕ
entry_of p = entry_among p.algorithms
