-- The pieces of an algorithm, as far as names and kinds go. docs/LANGUAGE.md, "Names" and "Types".
use Rattle.std.specs.Prelude.{ℕ, Bool, true, false, ◌&&◌, not, List, [], ◌∷◌, ◌++◌, Option, Some, None, is_some}
use Rattle.kumir_tree.specs.declared.kind.Kind.{Kind}
use Rattle.kumir_tree.specs.declared.kind.Kind.TheVariants.{Whole, Truth}
use Rattle.kumir_tree.specs.Tree as t
use Rattle.kumir_tree.specs.Tree.{Tree, Trees, no_trees, ◌then◌}
use Rattle.kumir_tree.specs.Part.{Limits, Place, ToAnswer, ToScalar, ToElement, Shown, ShowValue, ShowText, ShowLine, Declares, Scalars, Tables, Formal, Head}
use Rattle.kumir_tree.specs.Program.{Stmt, Act, Stands, Declare, Assign, Invoke, Times, While, Count, Forever, Until, Choose, Select, Assert, Input, Output, Leave, Quit, Block, done, ◌next◌, Arms, no_arms, arm}
use Rattle.kumir_tree.specs.Unit.{Algorithm}
use Rattle.kumir_names.specs.Callees.{Callee}
use Rattle.kumir_names.specs.declared.variable.Variable.{Variable}
use Rattle.kumir_names.specs.Variables.{Names, variable, is_table, parameters, declares}
use Rattle.type_check.specs.Kinds.{Among, is_kind, are_same, kind_where, element_kind, command_fits, Argument, kind_of, arguments}

pub data Part : Type 0 where
  -- a header with its parameters
  Parameters : List Formal → Part
  -- `дано`, `надо`, `утв`, `если`, `при`, `нц пока`, `кц при`
  Condition : Tree → Part
  -- `нц .. раз`
  Repeating : Tree → Part
  -- `нц для`
  Counting : List ℕ → Tree → Tree → Option Tree → Part
  Declaring : Declares → Part
  Assigning : Place → Tree → Part
  Calling : List ℕ → Trees → Part
  -- `ввод`
  Reading : List Place → Part
  -- `вывод`
  Printing : List Shown → Part

-- ---- the pieces of an algorithm with their lines, in the order of the text

abbrev pub Pieces : Type 0
Pieces = List (ℕ × Part)

abbrev pub claim_pieces : Option (ℕ × Tree) → Pieces
claim_pieces None = []
claim_pieces (Some c) = (c.0, Condition c.1) ∷ []

abbrev mutual
  pub act_pieces : ℕ → Act → Pieces
  act_pieces line (Declare d) = (line, Declaring d) ∷ []
  act_pieces line (Assign p e) = (line, Assigning p e) ∷ []
  act_pieces line (Invoke x es) = (line, Calling x es) ∷ []
  act_pieces line (Times e b) = (line, Repeating e) ∷ block_pieces b
  act_pieces line (While e b) = (line, Condition e) ∷ block_pieces b
  act_pieces line (Count x from to step b) = (line, Counting x from to step) ∷ block_pieces b
  act_pieces line (Forever b) = block_pieces b
  act_pieces line (Until b close e) = block_pieces b ++ ((close, Condition e) ∷ [])
  act_pieces line (Choose e a b) = (line, Condition e) ∷ (block_pieces a ++ block_pieces b)
  act_pieces line (Select arms b) = arms_pieces arms ++ block_pieces b
  act_pieces line (Assert e) = (line, Condition e) ∷ []
  act_pieces line (Input ps) = (line, Reading ps) ∷ []
  act_pieces line (Output xs) = (line, Printing xs) ∷ []
  act_pieces line Leave = []
  act_pieces line Quit = []

  pub stmt_pieces : Stmt → Pieces
  stmt_pieces (Stands line a) = act_pieces line a

  pub block_pieces : Block → Pieces
  block_pieces done = []
  block_pieces (s next b) = stmt_pieces s ++ block_pieces b

  pub arms_pieces : Arms → Pieces
  arms_pieces no_arms = []
  arms_pieces (arm line c b more) = (line, Condition c) ∷ (block_pieces b ++ arms_pieces more)

abbrev pub pieces : Algorithm → Pieces
pieces a = (a.head.line, Parameters a.head.params) ∷ (claim_pieces a.given ++ (claim_pieces a.wanted ++ block_pieces a.body))

-- ---- the names that a piece uses, in the order of the text

abbrev mutual
  pub names_in : Tree → List (List ℕ)
  names_in (t.Number n) = []
  names_in (t.Truth b) = []
  names_in t.Answer = []
  names_in (t.Named x) = x ∷ []
  names_in (t.Element x es) = x ∷ all_names_in es
  names_in (t.Call f es) = f ∷ all_names_in es
  names_in (t.Plus a) = names_in a
  names_in (t.Minus a) = names_in a
  names_in (t.Not a) = names_in a
  names_in (t.Binary o a b) = names_in a ++ names_in b

  pub all_names_in : Trees → List (List ℕ)
  all_names_in no_trees = []
  all_names_in (e then es) = names_in e ++ all_names_in es

abbrev pub limits_names : Limits → List (List ℕ)
limits_names [] = []
limits_names (b ∷ bounds) = names_in b.0 ++ (names_in b.1 ++ limits_names bounds)

abbrev pub some_limits_names : Option Limits → List (List ℕ)
some_limits_names None = []
some_limits_names (Some bounds) = limits_names bounds

abbrev pub formals_names : List Formal → List (List ℕ)
formals_names [] = []
formals_names (p ∷ ps) = some_limits_names p.bounds ++ formals_names ps

abbrev pub tables_names : List (List ℕ × Limits) → List (List ℕ)
tables_names [] = []
tables_names (t ∷ ts) = limits_names t.1 ++ tables_names ts

abbrev pub declares_names : Declares → List (List ℕ)
declares_names (Scalars k xs) = []
declares_names (Tables k ts) = tables_names ts

abbrev pub place_names : Place → List (List ℕ)
place_names ToAnswer = []
place_names (ToScalar x) = x ∷ []
place_names (ToElement x es) = x ∷ all_names_in es

abbrev pub places_names : List Place → List (List ℕ)
places_names [] = []
places_names (p ∷ ps) = place_names p ++ places_names ps

abbrev pub shown_names : Shown → List (List ℕ)
shown_names (ShowValue e) = names_in e
shown_names (ShowText cs) = []
shown_names ShowLine = []

abbrev pub all_shown_names : List Shown → List (List ℕ)
all_shown_names [] = []
all_shown_names (x ∷ xs) = shown_names x ++ all_shown_names xs

abbrev pub some_names_in : Option Tree → List (List ℕ)
some_names_in None = []
some_names_in (Some e) = names_in e

abbrev pub used_by : Part → List (List ℕ)
used_by (Parameters ps) = formals_names ps
used_by (Condition e) = names_in e
used_by (Repeating e) = names_in e
used_by (Counting x from to step) = x ∷ (names_in from ++ (names_in to ++ some_names_in step))
used_by (Declaring d) = declares_names d
used_by (Assigning p e) = place_names p ++ names_in e
used_by (Calling f es) = f ∷ all_names_in es
used_by (Reading ps) = places_names ps
used_by (Printing xs) = all_shown_names xs

-- ---- the names that a piece declares, with their variables

abbrev pub declared_by : Part → Names
declared_by (Parameters ps) = parameters ps
declared_by (Condition e) = []
declared_by (Repeating e) = []
declared_by (Counting x from to step) = []
declared_by (Declaring d) = declares d
declared_by (Assigning p e) = []
declared_by (Calling f es) = []
declared_by (Reading ps) = []
declared_by (Printing xs) = []

-- ---- which pieces fit

-- bounds are numbers
abbrev pub bounds_fit : Among → Limits → Bool
bounds_fit s [] = true
bounds_fit s (b ∷ bounds) = is_kind Whole (kind_of s b.0) && (is_kind Whole (kind_of s b.1) && bounds_fit s bounds)

abbrev pub some_bounds_fit : Among → Option Limits → Bool
some_bounds_fit s None = true
some_bounds_fit s (Some bounds) = bounds_fit s bounds

abbrev pub formals_fit : Among → List Formal → Bool
formals_fit s [] = true
formals_fit s (p ∷ ps) = some_bounds_fit s p.bounds && formals_fit s ps

abbrev pub tables_fit : Among → List (List ℕ × Limits) → Bool
tables_fit s [] = true
tables_fit s (t ∷ ts) = bounds_fit s t.1 && tables_fit s ts

abbrev pub declares_fit : Among → Declares → Bool
declares_fit s (Scalars k xs) = true
declares_fit s (Tables k ts) = tables_fit s ts

abbrev pub scalar_kind : Option Variable → Option Kind
scalar_kind None = None
scalar_kind (Some v) = kind_where (not (is_table v)) v.kind

-- the kind of what a value can be given to: `знач` in an algorithm with a kind, a variable, an element
abbrev pub place_kind : Among → Place → Option Kind
place_kind s ToAnswer = s.gives
place_kind s (ToScalar x) = scalar_kind (variable s.names x)
place_kind s (ToElement x es) = element_kind (variable s.names x) (arguments s es)

abbrev pub places_fit : Among → List Place → Bool
places_fit s [] = true
places_fit s (p ∷ ps) = is_some (place_kind s p) && places_fit s ps

abbrev pub shown_fits : Among → Shown → Bool
shown_fits s (ShowValue e) = is_some (kind_of s e)
shown_fits s (ShowText cs) = true
shown_fits s ShowLine = true

abbrev pub all_shown_fit : Among → List Shown → Bool
all_shown_fit s [] = true
all_shown_fit s (x ∷ xs) = shown_fits s x && all_shown_fit s xs

abbrev pub some_whole : Among → Option Tree → Bool
some_whole s None = true
some_whole s (Some e) = is_kind Whole (kind_of s e)

-- a call as a piece of its own, where the name is not local
abbrev pub call_fits : Option Variable → Option (Callee Head) → List Argument → Bool
call_fits None found arguments = command_fits found arguments
call_fits (Some v) found arguments = false

abbrev pub fits : Among → Part → Bool
fits s (Parameters ps) = formals_fit s ps
fits s (Condition e) = is_kind Truth (kind_of s e)
fits s (Repeating e) = is_kind Whole (kind_of s e)
-- the variable is a number, and so are `от`, `до` and `шаг`
fits s (Counting x from to step) = is_kind Whole (scalar_kind (variable s.names x)) && (is_kind Whole (kind_of s from) && (is_kind Whole (kind_of s to) && some_whole s step))
fits s (Declaring d) = declares_fit s d
-- both sides have one kind
fits s (Assigning p e) = are_same (place_kind s p) (kind_of s e)
fits s (Calling f es) = call_fits (variable s.names f) (s.find f) (arguments s es)
fits s (Reading ps) = places_fit s ps
-- an item that is an expression has a kind
fits s (Printing xs) = all_shown_fit s xs
