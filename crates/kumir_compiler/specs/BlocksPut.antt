-- What is put in front of code for statements, and how many names are local before them.
use Rattle.std.specs.Prelude.{◌≡◌, ◌≤◌, ℕ, ◌+◌, ◌-◌, List, ◌∷◌, ◌++◌, length}
use Rattle.kumir_tree.specs.Tree.{Tree}
use Rattle.kumir_tree.specs.Program.{Stmt, Act, Block, Arms}
use Rattle.kumir_meaning.specs.Program.{act_names, stmt_names, block_names, arm_names}
use Rattle.stack_code.specs.declared.instruction.Instruction.TheVariants.{Step}
use Rattle.kumir_compiler.specs.Sites as code
use Rattle.kumir_compiler.specs.Sites.{Code, Line, on, jump_back}
use Rattle.kumir_compiler.specs.ExpressionCode.{tree_code}
use Rattle.kumir_compiler.specs.LoopCode.{choice_code}
use Rattle.kumir_compiler.specs.StatementCode.{act_code, stmt_code, block_code, arms_code}
use Rattle.kumir_compiler.specs.declared.pending.PendingLine.{PendingLine}
use Rattle.kumir_compiler.specs.declared.site.Site.{Site}
use Rattle.kumir_compiler.specs.PendingCode.{code_of}
use Rattle.kumir_compiler.specs.SitesSeen.{site_of, with_locals, EndsWith}

pub record IsBlock (s : Site) (start hidden exit : ℕ) (b : Block) (old new : List PendingLine) : Type 0 where
  pub names : start + length (block_names b) ≡ s.locals
  pub code : code_of new ≡ block_code b (with_locals s start) hidden (length old - exit) ++ code_of old

pub record IsStatement (s : Site) (start hidden exit : ℕ) (a : Stmt) (old new : List PendingLine) : Type 0 where
  pub names : start + length (stmt_names a) ≡ s.locals
  pub code : code_of new ≡ stmt_code a (with_locals s start) hidden (length old - exit) ++ code_of old

pub record IsAct (s : Site) (start hidden exit : ℕ) (a : Act) (old new : List PendingLine) : Type 0 where
  pub names : start + length (act_names a) ≡ s.locals
  pub code : code_of new ≡ act_code a (with_locals s start) hidden (length old - exit) ++ code_of old

-- so much of the code is there, and the names are those that are local there
abbrev pub PutsBlock : Site → ℕ → ℕ → ℕ → Block → List PendingLine → List PendingLine → Type 0
PutsBlock s start hidden exit b old new = exit ≤ length old → EndsWith s (block_names b) → IsBlock s start hidden exit b old new

abbrev pub PutsStatement : Site → ℕ → ℕ → ℕ → Stmt → List PendingLine → List PendingLine → Type 0
PutsStatement s start hidden exit a old new = exit ≤ length old → EndsWith s (stmt_names a) → IsStatement s start hidden exit a old new

abbrev pub PutsAct : Site → ℕ → ℕ → ℕ → Act → List PendingLine → List PendingLine → Type 0
PutsAct s start hidden exit a old new = exit ≤ length old → EndsWith s (act_names a) → IsAct s start hidden exit a old new

-- what no `выход` leads out of
abbrev pub PutsClosed : Site → ℕ → ℕ → Act → List PendingLine → List PendingLine → Type 0
PutsClosed s start hidden a old new = (exit : ℕ) → PutsAct s start hidden exit a old new

-- a step stands in front, and the line with so many behind it goes back to that
abbrev pub GoesBack : (code.Site → ℕ → Line) → code.Site → ℕ → List PendingLine → List PendingLine → Type 0
GoesBack back t end old new =
    (s : code.Site) (front rest : Code) → code_of old ≡ front ++ back s 0 ∷ rest → length rest ≡ end
    → code_of new ≡ on t Step ∷ (front ++ back s (length front + 1) ∷ rest)

-- a body, with a line behind it that is to go back, becomes the loop
abbrev pub BecomesLoop : code.Site → ℕ → (Code → Code) → List PendingLine → List PendingLine → Type 0
BecomesLoop t end loop old new =
    (body rest : Code) → code_of old ≡ body ++ jump_back t 0 ∷ rest → length rest ≡ end → code_of new ≡ loop body ++ rest

-- a way in front of the code for where its condition does not hold; the test stands at the site t, the way at s
pub record IsWay (t : code.Site) (s : Site) (start hidden after : ℕ) (e : Tree) (b : Block) (rest base : Code) (new : List PendingLine) : Type 0 where
  pub names : start + length (block_names b) ≡ s.locals
  pub code : code_of new ≡ (tree_code e (record t { locals = (with_locals s start).locals }) hidden ++ choice_code (block_code b (with_locals s start) hidden (length rest + 1 + after)) rest t) ++ base

-- arms in front of what follows where no condition holds
pub record IsArms (s : Site) (start hidden after : ℕ) (arms : Arms) (last : code.Site → Code) (base : Code) (new : List PendingLine) : Type 0 where
  pub names : start + length (arm_names arms) ≡ s.locals
  pub code : code_of new ≡ arms_code arms (with_locals s start) hidden after last ++ base

-- so many lines are behind the choice
abbrev pub PutsArms : Site → ℕ → ℕ → ℕ → ℕ → Arms → List PendingLine → List PendingLine → Type 0
PutsArms s start hidden exit end arms old new =
    (last : code.Site → Code) (base : Code) → exit ≤ end → EndsWith s (arm_names arms) → code_of old ≡ last (site_of s) ++ base → length base ≡ end
    → IsArms s start hidden (end - exit) arms last base new
