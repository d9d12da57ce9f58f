-- The grammar of units, over whole lists of forms (docs/LANGUAGE.md, "Units"). Each form stands with its line.
use Rattle.std.specs.Prelude.{◌≡◌, ℕ, List, [], ◌∷◌, ◌++◌, Option, Some, None}
use Rattle.kumir_tree.specs.Tree.{Tree}
use Rattle.kumir_tree.specs.Part.{Head}
use Rattle.kumir_tree.specs.Piece as p
use Rattle.kumir_tree.specs.Piece.{Piece}
use Rattle.kumir_tree.specs.Program.{Stmt, Act, Stands, Declare, Assign, Invoke, Times, While, Count, Forever, Until, Choose, Select, Assert, Input, Output, Leave, Quit, Block, done}
use Rattle.kumir_tree.specs.Blocks.{Arm, block_listed, arms_listed}
use Rattle.kumir_tree.specs.Unit.{Algorithm}

-- a form and its line
abbrev pub Placed : Type 0
Placed = ℕ × Piece

-- what a form does that is a statement of its own
abbrev pub statement_of : Piece → Option Act
statement_of (p.Declare d) = Some (Declare d)
statement_of (p.Assign t e) = Some (Assign t e)
statement_of (p.Invoke x es) = Some (Invoke x es)
statement_of (p.Assert e) = Some (Assert e)
statement_of (p.Input ts) = Some (Input ts)
statement_of (p.Output xs) = Some (Output xs)
statement_of p.Leave = Some Leave
statement_of p.Quit = Some Quit
statement_of _ = None

-- what a loop does that begins with this form and ends with `кц`
abbrev pub loop_of : Piece → Option (Block → Act)
loop_of (p.Times e) = Some (Times e)
loop_of (p.While e) = Some (While e)
loop_of (p.Count x from to step) = Some (Count x from to step)
loop_of p.Forever = Some Forever
loop_of _ = None

mutual
  -- the forms are statements one behind the other
  pub data IsSeq : List Placed → List Stmt → Type 0 where
    none : IsSeq [] []
    statement : (line : ℕ) (f : Piece) {fs : List Placed} {act : Act} {ss : List Stmt}
        → statement_of f ≡ Some act → IsSeq fs ss → IsSeq ((line, f) ∷ fs) (Stands line act ∷ ss)
    block : {bs fs : List Placed} {s : Stmt} {ss : List Stmt} → IsBlock bs s → IsSeq fs ss → IsSeq (bs ++ fs) (s ∷ ss)

  -- the forms are one statement with blocks, which has the line of its first form
  pub data IsBlock : List Placed → Stmt → Type 0 where
    loop : (line close : ℕ) (f : Piece) {act : Block → Act} {fs : List Placed} {ss : List Stmt}
        → loop_of f ≡ Some act → IsSeq fs ss → IsBlock ((line, f) ∷ (fs ++ (close, p.Close) ∷ [])) (Stands line (act (block_listed ss)))
    until : (line close : ℕ) (e : Tree) {fs : List Placed} {ss : List Stmt}
        → IsSeq fs ss → IsBlock ((line, p.Forever) ∷ (fs ++ (close, p.CloseWhen e) ∷ [])) (Stands line (Until (block_listed ss) close e))
    choose : (line m n : ℕ) (e : Tree) {fs : List Placed} {ss : List Stmt}
        → IsSeq fs ss → IsBlock ((line, p.Choose e) ∷ (m, p.Then) ∷ (fs ++ (n, p.ChoiceEnd) ∷ [])) (Stands line (Choose e (block_listed ss) done))
    choose_otherwise : (line m n o : ℕ) (e : Tree) {fs gs : List Placed} {ss us : List Stmt}
        → IsSeq fs ss → IsSeq gs us
        → IsBlock ((line, p.Choose e) ∷ (m, p.Then) ∷ (fs ++ (n, p.Otherwise) ∷ (gs ++ (o, p.ChoiceEnd) ∷ []))) (Stands line (Choose e (block_listed ss) (block_listed us)))
    select : (line n : ℕ) {fs : List Placed} {arms : List Arm}
        → IsCases fs arms → IsBlock ((line, p.Select) ∷ (fs ++ (n, p.ChoiceEnd) ∷ [])) (Stands line (Select (arms_listed arms) done))
    select_otherwise : (line n o : ℕ) {fs gs : List Placed} {arms : List Arm} {us : List Stmt}
        → IsCases fs arms → IsSeq gs us
        → IsBlock ((line, p.Select) ∷ (fs ++ (n, p.Otherwise) ∷ (gs ++ (o, p.ChoiceEnd) ∷ []))) (Stands line (Select (arms_listed arms) (block_listed us)))

  -- the forms are one or more cases, each with the line of its `при`
  pub data IsCases : List Placed → List Arm → Type 0 where
    first_case : (line : ℕ) (e : Tree) {fs : List Placed} {ss : List Stmt} → IsSeq fs ss → IsCases ((line, p.When e) ∷ fs) ((line, e, block_listed ss) ∷ [])
    next_case : (line : ℕ) (e : Tree) {fs gs : List Placed} {ss : List Stmt} {arms : List Arm}
        → IsCases gs arms → IsSeq fs ss → IsCases (gs ++ (line, p.When e) ∷ fs) (arms ++ (line, e, block_listed ss) ∷ [])

-- a condition that may be missing, and whose form may be missing too
pub data IsGiven : List Placed → Option (ℕ × Tree) → Type 0 where
  no_given : IsGiven [] None
  bare_given : (line : ℕ) → IsGiven ((line, p.Given None) ∷ []) None
  given : (line : ℕ) (e : Tree) → IsGiven ((line, p.Given (Some e)) ∷ []) (Some (line, e))

pub data IsWanted : List Placed → Option (ℕ × Tree) → Type 0 where
  no_wanted : IsWanted [] None
  bare_wanted : (line : ℕ) → IsWanted ((line, p.Wanted None) ∷ []) None
  wanted : (line : ℕ) (e : Tree) → IsWanted ((line, p.Wanted (Some e)) ∷ []) (Some (line, e))

-- the forms are a unit, and make this algorithm
pub data IsUnit : List Placed → Algorithm → Type 0 where
  unit : (line begin close : ℕ) (h : Head) {gs ws fs : List Placed} {g w : Option (ℕ × Tree)} {ss : List Stmt}
      → IsGiven gs g → IsWanted ws w → IsSeq fs ss
      → IsUnit ((line, p.Header h) ∷ (gs ++ (ws ++ (begin, p.Begin) ∷ (fs ++ (close, p.Finish) ∷ [])))) (record { head = h; given = g; wanted = w; body = block_listed ss; close = close })

-- the forms are a prelude
pub data IsPrelude : List Placed → Type 0 where
  nothing : IsPrelude []
  uses : (line : ℕ) (x : List ℕ) {fs : List Placed} → IsPrelude fs → IsPrelude ((line, p.Uses x) ∷ fs)
