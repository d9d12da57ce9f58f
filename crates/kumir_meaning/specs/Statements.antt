-- Statements and blocks. docs/LANGUAGE.md, "Meaning".
use Rattle.std.specs.Prelude.{ℕ, List, [], ◌∷◌, ℤ, pos, Option, Some, None}
use Rattle.std.specs.Ordering.{int_eq}
use Rattle.kumir_tree.specs.declared.kind.Kind.{Kind}
use Rattle.kumir_tree.specs.Tree.{Tree, Trees}
use Rattle.kumir_tree.specs.Part.{Limits, Place, ToAnswer, ToScalar, ToElement, Shown, ShowValue, ShowText, ShowLine, Declares, Scalars, Tables}
use Rattle.kumir_tree.specs.Program as tree
use Rattle.kumir_tree.specs.Program.{Stmt, Stands, Declare, Assign, Invoke, Times, While, Count, Forever, Until, Choose, Select, Assert, Input, Output, Leave, Quit, Block, done, ◌next◌, Arms, no_arms, arm}
use Rattle.performer_kit.specs.declared.commands.Command.TheVariants.{Robot, Pen}
use Rattle.kumir_values.specs.declared.value.Value.{Value}
use Rattle.kumir_values.specs.declared.run_end.RunFault.TheVariants.{StepZero}
use Rattle.kumir_names.specs.Variables.{Names}
use Rattle.kumir_names.specs.Callees.{Callee, Called, BuiltInCall, RobotCall, PenCall}
use Rattle.kumir_meaning.specs.Program.{Placed, callee_in, local_kind, stmt_names, block_names}
use Rattle.kumir_meaning.specs.Operators.{number_of, is_yes, turns_of, text_of}
use Rattle.kumir_meaning.specs.Store.{TheAnswer, Local, Empty, Store, with_cell, Spot, AtVariable, AtElement, settled, put, made}
use Rattle.kumir_meaning.specs.Runs as state
use Rattle.kumir_meaning.specs.Runs.{Act, Printed, Sent, stops, unless_fault, tick, does, asks, takes, choose, is_wall, pen_command}
use Rattle.kumir_meaning.specs.Expressions.{Then, Here, on_line, behind, nonsense, steps_in, numbers_of, eval, values, args, bounds}
use Rattle.kumir_meaning.specs.Loops.{turns, while_yes, counts, forever, until}

-- ---- statements

-- a place that is given a value: its indexes are evaluated, and nothing is checked yet
abbrev pub aims : Place → Here → (Spot → Then) → Then
aims ToAnswer h k s = k (AtVariable TheAnswer) s
aims (ToScalar x) h k s = k (AtVariable (Local x)) s
aims (ToElement x es) h k s = values es h (λ is. k (AtElement x (numbers_of is))) s

-- a place is checked, and then given the value
abbrev pub stores : Spot → Value → Here → Then → Then
stores spot v h k s = unless_fault (settled spot s) h.line (λ at. k (put at (Some v) s))

-- a condition that has to hold
abbrev pub claims : Tree → Here → Then → Then
claims e h k s = eval e h (λ v. choose (is_yes v) k (λ s1. stops (state.Assert h.line))) s

-- scalars lose their values; tables are made one after the other, each after its bounds
abbrev pub cleared : List (List ℕ) → Store → Store
cleared [] s = s
cleared (x ∷ names) s = cleared names (with_cell s (Local x) Empty)

abbrev pub makes : Kind → List (List ℕ × Limits) → Here → Then → Then
makes kind [] h k s = k s
makes kind (t ∷ tables) h k s = bounds t.1 h (λ bs s1. unless_fault (made h.room kind bs (Local t.0) s1) h.line (λ s2. makes kind tables h k s2)) s

abbrev pub establishes : Declares → Here → Then → Then
establishes (Scalars kind names) h k s = k (cleared names s)
establishes (Tables kind tables) h k s = makes kind tables h k s

-- a call as a statement: an algorithm, or a command, which takes one step more after its numbers; at a wall the run ends
abbrev pub invokes : Option (Callee Placed) → Trees → Here → Then → Then
invokes (Some (Called a)) es h k s = args es a.algorithm.head.params h (λ passed. steps_in a passed h (λ v. k)) s
invokes (Some (RobotCall c)) es h k s =
    tick (λ s1. asks (Robot c) (λ r. choose (is_wall r) (λ s2. stops (state.Wall h.line)) k) s1) s
invokes (Some (PenCall c)) es h k s = values es h (λ vs. tick (λ s1. does (Sent (Pen (pen_command c (numbers_of vs)))) k s1)) s
invokes (Some (BuiltInCall b)) es h k s = nonsense h
invokes None es h k s = nonsense h

-- each target in turn: its indexes, the next input, and then it is stored
abbrev pub takes_for : Option Kind → Spot → Here → Then → Then
takes_for (Some kind) spot h k s = takes kind h.line (λ v. stores spot v h k) s
takes_for None spot h k s = nonsense h

abbrev pub kind_at : Spot → Names → Option Kind
kind_at (AtVariable TheAnswer) locals = None
kind_at (AtVariable (Local x)) locals = local_kind locals x
kind_at (AtElement x index) locals = local_kind locals x

abbrev pub inputs : List Place → Here → Then → Then
inputs [] h k s = k s
inputs (t ∷ targets) h k s = aims t h (λ spot. takes_for (kind_at spot h.locals) spot h (λ s1. inputs targets h k s1)) s

-- item by item, each one output
abbrev pub outputs : List Shown → Here → Then → Then
outputs [] h k s = k s
outputs (ShowValue e ∷ items) h k s = eval e h (λ v. does (Printed (text_of v)) (λ s1. outputs items h k s1)) s
outputs (ShowText text ∷ items) h k s = does (Printed text) (λ s1. outputs items h k s1) s
outputs (ShowLine ∷ items) h k s = does (Printed (10 ∷ [])) (λ s1. outputs items h k s1) s

-- ---- blocks

-- the step of `для`, 1 where there is none, and not 0
abbrev pub stride : Option Tree → Here → (ℤ → Then) → Then
stride None h k s = k (pos 1) s
stride (Some e) h k s =
    eval e h (λ v. choose (int_eq (number_of v) (pos 0)) (λ s1. stops (state.Fault h.line StepZero)) (k (number_of v))) s

abbrev mutual
  -- a statement that was begun, with at most n turns of each loop; `out` is where `выход` leads
  pub carries_out : tree.Act → Here → ℕ → Then → Then → Then
  carries_out (Declare d) h n out k s = establishes d h k s
  carries_out (Assign t e) h n out k s = aims t h (λ spot. eval e h (λ v. stores spot v h k)) s
  carries_out (Invoke x es) h n out k s = invokes (callee_in h.program x) es h k s
  carries_out (Times e b) h n out k s = eval e h (λ v. turns n (turns_of v) (λ out1 k1. runs b h n out1 k1) k) s
  carries_out (While e b) h n out k s = while_yes n (λ k1. eval e h k1) (λ out1 k1. runs b h n out1 k1) k s
  carries_out (Count x from to step b) h n out k s =
      eval from h (λ v. eval to h (λ w. stride step h (λ by. counts n (number_of v) (number_of w) by x (λ out1 k1. runs b h n out1 k1) k))) s
  carries_out (Forever b) h n out k s = forever n (λ out1 k1. runs b h n out1 k1) k s
  carries_out (Until b line e) h n out k s =
      until n (λ out1 k1. runs b h n out1 k1) (λ k1. eval e (on_line (behind h (block_names b)) line) k1) k s
  carries_out (Choose e a b) h n out k s =
      eval e h (λ v. choose (is_yes v) (λ s1. runs a h n out k s1) (λ s1. runs b (behind h (block_names a)) n out k s1)) s
  carries_out (Select arms b) h n out k s = selects arms h n out k (λ h1 s1. runs b h1 n out k s1) s
  carries_out (Assert e) h n out k s = claims e h k s
  carries_out (Input targets) h n out k s = inputs targets h k s
  carries_out (Output items) h n out k s = outputs items h k s
  carries_out Leave h n out k s = out s
  carries_out Quit h n out k s = stops state.Quit

  -- each statement takes one step
  pub executes : Stmt → Here → ℕ → Then → Then → Then
  executes (Stands line a) h n out k s = tick (λ s1. carries_out a (on_line h line) n out k s1) s

  pub runs : Block → Here → ℕ → Then → Then → Then
  runs done h n out k s = k s
  runs (t next b) h n out k s = executes t h n out (λ s1. runs b (behind h (stmt_names t)) n out k s1) s

  -- the conditions of `выбор` in order, each at its own line; the first that holds chooses
  pub selects : Arms → Here → ℕ → Then → Then → (Here → Then) → Then
  selects no_arms h n out k last_way s = last_way h s
  selects (arm line e b more) h n out k last_way s =
      eval e (on_line h line) (λ v. choose (is_yes v) (λ s1. runs b h n out k s1) (λ s1. selects more (behind h (block_names b)) n out k last_way s1)) s
