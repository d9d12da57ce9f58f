-- Statements as plain data.
use Rattle.std.specs.Prelude.{ℕ, List, [], ◌∷◌}
use Rattle.kumir_tree.specs.Tree.{Tree}
use Rattle.kumir_tree.specs.Program.{Stmt, Act, Stands, Declare, Assign, Invoke, Times, While, Count, Forever, Until, Choose, Select, Assert, Input, Output, Leave, Quit, Block, done, ◌next◌, Arms, no_arms, arm}
use Rattle.kumir_tree.specs.Seen.{tree, trees, some_tree}
use Rattle.kumir_tree.specs.Parts.{place_of, places_of, all_shown, declares_of}
use Rattle.kumir_tree.specs.declared.statement.What.{What, fold-What}
use Rattle.kumir_tree.specs.declared.statement.What.TheOpen.{What-F, Case-F, Statement-F}
use Rattle.kumir_tree.specs.declared.statement.Statement.{Statement}
use Rattle.kumir_tree.specs.declared.statement.Case.{Case, out-Case}

-- ---- one layer, with what the parts are seen as
abbrev pub Arm : Type 0
Arm = ℕ × Tree × Block

abbrev pub block_listed : List Stmt → Block
block_listed [] = done
block_listed (s ∷ b) = s next block_listed b

abbrev pub arms_listed : List Arm → Arms
arms_listed [] = no_arms
arms_listed (a ∷ more) = arm a.0 a.1 a.2 (arms_listed more)

abbrev pub act_step : What-F Act Arm Stmt → Act
act_step (What-F.Declare d) = Declare (declares_of d)
act_step (What-F.Assign t e) = Assign (place_of t) (tree e)
act_step (What-F.Call x es) = Invoke x (trees es)
act_step (What-F.Times e b) = Times (tree e) (block_listed b)
act_step (What-F.While e b) = While (tree e) (block_listed b)
act_step (What-F.Count x from to step b) = Count x (tree from) (tree to) (some_tree step) (block_listed b)
act_step (What-F.Forever b) = Forever (block_listed b)
act_step (What-F.Until b line e) = Until (block_listed b) line (tree e)
act_step (What-F.Choose e a b) = Choose (tree e) (block_listed a) (block_listed b)
act_step (What-F.Select cases b) = Select (arms_listed cases) (block_listed b)
act_step (What-F.Assert e) = Assert (tree e)
act_step (What-F.Input ts) = Input (places_of ts)
act_step (What-F.Output is) = Output (all_shown is)
act_step What-F.Leave = Leave
act_step What-F.Quit = Quit

abbrev pub arm_step : Case-F Act Arm Stmt → Arm
arm_step c = (c.line, tree c.condition, block_listed c.body)

abbrev pub stmt_step : Statement-F Act Arm Stmt → Stmt
stmt_step s = Stands s.line s.what

-- ---- the views
unfoldable pub act_of : What → Act
act_of = fold-What Act Arm Stmt act_step arm_step stmt_step

abbrev pub stmt_of : Statement → Stmt
stmt_of s = Stands s.line (act_of s.what)

abbrev pub block_of : List Statement → Block
block_of [] = done
block_of (s ∷ b) = stmt_of s next block_of b

abbrev pub arms_of : List Case → Arms
arms_of [] = no_arms
arms_of (c ∷ more) = arm (out-Case c).line (tree (out-Case c).condition) (block_of (out-Case c).body) (arms_of more)
