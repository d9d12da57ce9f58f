-- Programs, the local names of their parts, and what all other names in them stand for. docs/LANGUAGE.md, "Names".
use Rattle.std.specs.Prelude.{ℕ, false, List, [], ◌∷◌, ◌++◌, Option, option_map}
use Rattle.km_base.specs.declared.performers.Performers.{Performers}
use Rattle.kumir_tree.specs.declared.kind.Kind.{Kind}
use Rattle.kumir_tree.specs.Program.{Stmt, Act, Stands, Declare, Assign, Invoke, Times, While, Count, Forever, Until, Choose, Select, Assert, Input, Output, Leave, Quit, Block, done, ◌next◌, Arms, no_arms, arm}
use Rattle.kumir_tree.specs.Unit.{Algorithm, Ending, Grown, Prelude, Faulty, Known}
use Rattle.kumir_names.specs.Variables.{Names, variable, declares}
use Rattle.kumir_names.specs.Callees.{Callee, callee}

-- an algorithm with the line of the text at which its lines begin
pub record Placed : Type 0 where
  pub first : ℕ
  pub algorithm : Algorithm

-- the performers that are known, and the algorithms in the order of the text
pub record Program : Type 0 where
  pub performers : Performers
  pub algorithms : List Placed

-- ---- the program of a list of units, the prelude first
abbrev pub grown : List (ℕ × Known) → List Placed
grown [] = []
grown (u ∷ units) = placed u.1.ending ++ grown units
  where
    placed : Ending → List Placed
    placed (Grown a) = record { first = u.0; algorithm = a } ∷ []
    placed Prelude = []
    placed (Faulty faults) = []

abbrev pub program_of : List (ℕ × Known) → Program
program_of [] = record { performers = record { robot = false; pen = false }; algorithms = [] }
program_of (prelude ∷ units) = record { performers = prelude.1.performers; algorithms = grown units }

-- ---- what a name stands for that is no local one
abbrev pub own_name : Placed → Option (List ℕ)
own_name a = a.algorithm.head.name

abbrev pub callee_in : Program → List ℕ → Option (Callee Placed)
callee_in p x = callee own_name p.performers p.algorithms x

-- the kind of the variable with this name
abbrev pub local_kind : Names → List ℕ → Option Kind
local_kind names x = option_map (λ v. v.kind) (variable names x)

-- ---- the names that are declared in a part of a body, in the order of the text, in whichever block
abbrev mutual
  pub act_names : Act → Names
  act_names (Declare d) = declares d
  act_names (Assign t e) = []
  act_names (Invoke x es) = []
  act_names (Times e b) = block_names b
  act_names (While e b) = block_names b
  act_names (Count x from to step b) = block_names b
  act_names (Forever b) = block_names b
  act_names (Until b line e) = block_names b
  act_names (Choose e a b) = block_names a ++ block_names b
  act_names (Select arms b) = arm_names arms ++ block_names b
  act_names (Assert e) = []
  act_names (Input ts) = []
  act_names (Output xs) = []
  act_names Leave = []
  act_names Quit = []

  pub stmt_names : Stmt → Names
  stmt_names (Stands line a) = act_names a

  pub block_names : Block → Names
  block_names done = []
  block_names (s next b) = stmt_names s ++ block_names b

  pub arm_names : Arms → Names
  arm_names no_arms = []
  arm_names (arm line e b more) = block_names b ++ arm_names more
