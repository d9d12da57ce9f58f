-- Expressions, arguments and bounds: their order, and what goes on after them. docs/LANGUAGE.md, "Meaning", "Order".
-- Each definition is handed what goes on after it: a continuation. It takes the store, and a value before it where there is one.
use Rattle.std.specs.Prelude.{ℕ, ◌+◌, true, false, cond, List, [], ◌∷◌, ◌++◌, map, ℤ, Option, Some, None}
use Rattle.kumir_tree.specs.declared.kind.Mode.{Mode}
use Rattle.kumir_tree.specs.declared.kind.Mode.TheVariants.{Arg, Res, ArgRes}
use Rattle.kumir_tree.specs.Tree.{Tree, Number, Truth as TruthOf, Answer, Named, Element, Call, Plus, Minus, Not, Binary, Trees, no_trees, ◌then◌}
use Rattle.kumir_tree.specs.Part.{Limits, Formal}
use Rattle.performer_kit.specs.declared.commands.Command.TheVariants.{Robot}
use Rattle.kumir_values.specs.declared.value.Value.{Value}
use Rattle.kumir_values.specs.declared.value.Value.TheVariants.{Whole, Truth}
use Rattle.kumir_values.specs.declared.bounds.Bound.{Bound}
use Rattle.kumir_values.specs.declared.run_end.RunFault.TheVariants.{Unset}
use Rattle.kumir_names.specs.declared.built_in.BuiltIn.{BuiltIn}
use Rattle.kumir_names.specs.declared.variable.Variable.{Variable}
use Rattle.kumir_names.specs.Variables.{Names, variable}
use Rattle.kumir_names.specs.Callees.{Callee, Called, BuiltInCall, RobotCall, PenCall}
use Rattle.kumir_meaning.specs.Program.{Placed, Program, callee_in}
use Rattle.kumir_meaning.specs.Operators.{number_of, is_yes, combined, decided, negated, applied}
use Rattle.kumir_meaning.specs.Store.{TheAnswer, Local, Store, read, element, Spot, AtVariable, AtElement, settled, read_at}
use Rattle.kumir_meaning.specs.Runs as state
use Rattle.kumir_meaning.specs.Runs.{Rest, stops, unless_fault, tick, asks, reply_value}

-- what goes on with the store, with a value, with several values
abbrev pub Then : Type 0
Then = Store → Rest

abbrev pub ThenValue : Type 0
ThenValue = Value → Store → Rest

abbrev pub ThenValues : Type 0
ThenValues = List Value → Store → Rest

-- what a parameter is given at a call: a value, a place of the caller with the value read there, or a table of the caller
pub data Passed : Type 0 where
  ByValue : Value → Passed
  ByPlace : Spot → Option Value → Passed
  ByTable : List ℕ → Passed

-- entering an algorithm: from the line of the call, with what is passed and the caller's store; it goes on with the value that is given back and the caller's store
abbrev pub Enter : Type 0
Enter = ℕ → Placed → List Passed → Store → ThenValue → Rest

-- where a piece stands: the program, the first line of its unit, its own line in the text, the local names there, and what calls mean
pub record Here : Type 0 where
  pub program : Program
  pub first : ℕ
  pub line : ℕ
  pub locals : Names
  -- how many table elements there may be
  pub room : ℕ
  pub enter : Enter

-- at another line of the unit
abbrev pub on_line : Here → ℕ → Here
on_line h line = record h { line = h.first + line }

-- behind a part that declares these names
abbrev pub behind : Here → Names → Here
behind h names = record h { locals = h.locals ++ names }

-- where types do not fit anything may happen
abbrev pub nonsense : Here → Rest
nonsense h = stops (state.Fault h.line Unset)

-- ---- expressions

-- an algorithm is entered after one step
abbrev pub steps_in : Placed → List Passed → Here → ThenValue → Then
steps_in a passed h k = tick (λ s. h.enter h.line a passed s k)

-- a call that gives a value: an algorithm, a built-in, or a test of the Robot, which takes one step and awaits its reply
abbrev pub calls : Option (Callee Placed) → (Placed → Then) → (BuiltIn → Then) → Here → ThenValue → Then
calls (Some (Called a)) algorithm built_in h k s = algorithm a s
calls (Some (BuiltInCall b)) algorithm built_in h k s = built_in b s
calls (Some (RobotCall c)) algorithm built_in h k s = tick (λ s1. asks (Robot c) (λ r. k (reply_value r)) s1) s
calls (Some (PenCall c)) algorithm built_in h k s = nonsense h
calls None algorithm built_in h k s = nonsense h

-- a name alone: a local name is read, any other is called
abbrev pub named : Option Variable → List ℕ → Here → ThenValue → Then
named (Some v) x h k s = unless_fault (read (s.cells (Local x))) h.line (λ w. k w s)
named None x h k s = calls (callee_in h.program x) (λ a. steps_in a [] h k) (λ b s1. nonsense h) h k s

-- the right side of an operator, unless the left one decides
abbrev pub unless_decided : Option Value → ThenValue → Then → Then
unless_decided (Some v) k right s = k v s
unless_decided None k right s = right s

-- one argument by its parameter: a table by its name, `арг` by its value, `рез` by its place, `аргрез` by its place and the value there
abbrev pub passes : Option Limits → Mode → List ℕ → (ThenValue → Then) → ((Spot → Then) → Then) → Here → (Passed → Then) → Then
passes (Some limits) mode x evaluates fixes h k s = k (ByTable x) s
passes None Arg x evaluates fixes h k s = evaluates (λ v. k (ByValue v)) s
passes None Res x evaluates fixes h k s = fixes (λ spot. k (ByPlace spot None)) s
passes None ArgRes x evaluates fixes h k s = fixes (λ spot s1. unless_fault (read_at spot s1) h.line (λ v. k (ByPlace spot (Some v)) s1)) s

-- the name of a whole table as an argument
abbrev pub name_of : Tree → List ℕ
name_of (Named x) = x
name_of e = []

abbrev pub numbers_of : List Value → List ℤ
numbers_of vs = map number_of vs

abbrev mutual
  pub eval : Tree → Here → ThenValue → Then
  eval (Number z) h k s = k (Whole z) s
  eval (TruthOf b) h k s = k (Truth b) s
  -- `знач`
  eval Answer h k s = unless_fault (read (s.cells TheAnswer)) h.line (λ v. k v s)
  eval (Named x) h k s = named (variable h.locals x) x h k s
  -- the indexes come before the table is looked at
  eval (Element x es) h k s = values es h (λ is s1. unless_fault (element (s1.cells (Local x)) (numbers_of is)) h.line (λ v. k v s1)) s
  eval (Call f es) h k s =
      calls (callee_in h.program f)
      (λ a. args es a.algorithm.head.params h (λ passed. steps_in a passed h k))
      (λ b. values es h (λ vs s1. unless_fault (applied b vs) h.line (λ v. k v s1)))
      h k s
  eval (Plus a) h k s = eval a h k s
  eval (Minus a) h k s = eval a h (λ v s1. unless_fault (negated v) h.line (λ w. k w s1)) s
  eval (Not a) h k s = eval a h (λ v. k (Truth (cond (is_yes v) false true))) s
  -- from left to right; `и` and `или` leave their right side where the left one decides
  eval (Binary o a b) h k s =
      eval a h (λ v. unless_decided (decided o v) k (eval b h (λ w s2. unless_fault (combined o v w) h.line (λ x. k x s2)))) s

  -- several expressions, from left to right
  pub values : Trees → Here → ThenValues → Then
  values no_trees h k s = k [] s
  values (e then es) h k s = eval e h (λ v. values es h (λ vs. k (v ∷ vs))) s

  -- the arguments of a call by the parameters, from left to right
  pub args : Trees → List Formal → Here → (List Passed → Then) → Then
  args no_trees params h k s = k [] s
  args (e then es) [] h k s = k [] s
  args (e then es) (p ∷ params) h k s =
      passes p.bounds p.mode (name_of e) (λ k1. eval e h k1) (λ k1. fixes e h k1) h (λ a. args es params h (λ more. k (a ∷ more))) s

  -- the place of an argument: the indexes of an element are evaluated and checked once, here
  pub fixes : Tree → Here → (Spot → Then) → Then
  fixes (Named x) h k s = k (AtVariable (Local x)) s
  fixes (Element x es) h k s = values es h (λ is s1. unless_fault (settled (AtElement x (numbers_of is)) s1) h.line (λ spot. k spot s1)) s
  fixes e h k s = nonsense h

-- bounds, lower and upper, from left to right
abbrev pub bounds : Limits → Here → (List Bound → Then) → Then
bounds [] h k s = k [] s
bounds (limit ∷ limits) h k s =
    eval limit.0 h (λ low. eval limit.1 h (λ high. bounds limits h (λ bs. k (record { low = number_of low; high = number_of high } ∷ bs)))) s
