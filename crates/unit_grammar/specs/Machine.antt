-- How a unit's tree grows form by form, over a stack of open blocks. The grammar of units says what it must come to.
use Rattle.std.specs.Prelude.{ℕ, List, [], ◌∷◌, ◌++◌, Option, Some, None, map}
use Rattle.kumir_tree.specs.Tree.{Tree}
use Rattle.kumir_tree.specs.Part.{Head}
use Rattle.kumir_tree.specs.Piece as p
use Rattle.kumir_tree.specs.Piece.{Piece}
use Rattle.kumir_tree.specs.Program.{Stmt, Act, Stands, Declare, Assign, Invoke, Times, While, Count, Forever, Until, Choose, Select, Assert, Input, Output, Leave, Quit, Block, done}
use Rattle.kumir_tree.specs.Blocks.{Arm, block_listed, arms_listed}
use Rattle.kumir_tree.specs.Unit.{Algorithm}
use Rattle.unit_grammar.specs.Grammar.{Placed}
use Rattle.unit_grammar.specs.Stages.{Open, InLoop, InForever, InThen, InCase, InOtherwise, Stage, Start, Headed, HasGiven, HasWanted, Within, DueThen, DueCase, Over, ◌>>=◌}

-- an open block, with the statements before it and its line
pub data Frame : Type 0 where
  Looping : (before : List Stmt) (line : ℕ) (act : Block → Act) → Frame
  Endless : (before : List Stmt) (line : ℕ) → Frame
  Chosen : (before : List Stmt) (line : ℕ) (e : Tree) → Frame
  Cased : (before : List Stmt) (line : ℕ) (arms : List Arm) (at : ℕ) (e : Tree) → Frame
  Otherwise : (before : List Stmt) (line : ℕ) (act : Block → Act) → Frame

-- what stands before `нач`
pub record Top : Type 0 where
  pub head : Head
  pub given : Option (ℕ × Tree)
  pub wanted : Option (ℕ × Tree)

-- the statements of the innermost block so far, and the open blocks
pub record Body : Type 0 where
  pub here : List Stmt
  pub stack : List Frame

pub data State : Type 0 where
  Empty : State
  AfterHeader : Top → State
  AfterGiven : Top → State
  AfterWanted : Top → State
  Inside : Top → Body → State
  -- behind `если`, and behind `выбор`, with the line
  NeedsThen : Top → Body → ℕ → Tree → State
  NeedsCase : Top → Body → ℕ → State
  Whole : Algorithm → State

abbrev pub stated : ℕ → Option Tree → Option (ℕ × Tree)
stated line None = None
stated line (Some e) = Some (line, e)

-- ---- statements

abbrev pub put : Body → Stmt → Body
put b s = record { here = b.here ++ s ∷ []; stack = b.stack }

abbrev pub opened : Frame → Body → Body
opened frame b = record { here = []; stack = frame ∷ b.stack }

-- the body around a block that ends: with the statement that it makes
abbrev pub closed : List Stmt → Stmt → List Frame → Body
closed before s stack = record { here = before ++ s ∷ []; stack = stack }

abbrev pub with_arm : List Arm → ℕ → Tree → List Stmt → List Arm
with_arm arms at e ss = arms ++ (at, e, block_listed ss) ∷ []

-- ---- ends of blocks

abbrev pub close : List Stmt → List Frame → Option Body
close here (Looping before line act ∷ stack) = Some (closed before (Stands line (act (block_listed here))) stack)
close here (Endless before line ∷ stack) = Some (closed before (Stands line (Forever (block_listed here))) stack)
close here _ = None

abbrev pub close_when : ℕ → Tree → List Stmt → List Frame → Option Body
close_when at e here (Endless before line ∷ stack) = Some (closed before (Stands line (Until (block_listed here) at e)) stack)
close_when at e here _ = None

abbrev pub another_case : ℕ → Tree → List Stmt → List Frame → Option Body
another_case at e here (Cased before line arms m c ∷ stack) = Some (record { here = []; stack = Cased before line (with_arm arms m c here) at e ∷ stack })
another_case at e here _ = None

abbrev pub otherwise : List Stmt → List Frame → Option Body
otherwise here (Chosen before line e ∷ stack) = Some (record { here = []; stack = Otherwise before line (Choose e (block_listed here)) ∷ stack })
otherwise here (Cased before line arms m c ∷ stack) = Some (record { here = []; stack = Otherwise before line (Select (arms_listed (with_arm arms m c here))) ∷ stack })
otherwise here _ = None

abbrev pub choice_end : List Stmt → List Frame → Option Body
choice_end here (Chosen before line e ∷ stack) = Some (closed before (Stands line (Choose e (block_listed here) done)) stack)
choice_end here (Cased before line arms m c ∷ stack) = Some (closed before (Stands line (Select (arms_listed (with_arm arms m c here)) done)) stack)
choice_end here (Otherwise before line act ∷ stack) = Some (closed before (Stands line (act (block_listed here))) stack)
choice_end here _ = None

-- the whole algorithm, where no block is open
abbrev pub finish : ℕ → Top → List Stmt → List Frame → Option State
finish line top here [] = Some (Whole (record { head = top.head; given = top.given; wanted = top.wanted; body = block_listed here; close = line }))
finish line top here _ = None

-- ---- one form

abbrev pub go_on : Top → Option Body → Option State
go_on top None = None
go_on top (Some b) = Some (Inside top b)

abbrev pub inside : Top → Body → ℕ → Piece → Option State
inside top b line (p.Declare d) = Some (Inside top (put b (Stands line (Declare d))))
inside top b line (p.Assign t e) = Some (Inside top (put b (Stands line (Assign t e))))
inside top b line (p.Invoke x es) = Some (Inside top (put b (Stands line (Invoke x es))))
inside top b line (p.Assert e) = Some (Inside top (put b (Stands line (Assert e))))
inside top b line (p.Input ts) = Some (Inside top (put b (Stands line (Input ts))))
inside top b line (p.Output xs) = Some (Inside top (put b (Stands line (Output xs))))
inside top b line p.Leave = Some (Inside top (put b (Stands line Leave)))
inside top b line p.Quit = Some (Inside top (put b (Stands line Quit)))
inside top b line (p.Times e) = Some (Inside top (opened (Looping b.here line (Times e)) b))
inside top b line (p.While e) = Some (Inside top (opened (Looping b.here line (While e)) b))
inside top b line (p.Count x from to step) = Some (Inside top (opened (Looping b.here line (Count x from to step)) b))
inside top b line p.Forever = Some (Inside top (opened (Endless b.here line) b))
inside top b line (p.Choose e) = Some (NeedsThen top b line e)
inside top b line p.Select = Some (NeedsCase top b line)
inside top b line p.Close = go_on top (close b.here b.stack)
inside top b line (p.CloseWhen e) = go_on top (close_when line e b.here b.stack)
inside top b line (p.When e) = go_on top (another_case line e b.here b.stack)
inside top b line p.Otherwise = go_on top (otherwise b.here b.stack)
inside top b line p.ChoiceEnd = go_on top (choice_end b.here b.stack)
inside top b line p.Finish = finish line top b.here b.stack
inside top b line (p.Header h) = None
inside top b line (p.Given e) = None
inside top b line (p.Wanted e) = None
inside top b line p.Begin = None
inside top b line p.Then = None
inside top b line (p.Uses x) = None

abbrev pub empty : Body
empty = record { here = []; stack = [] }

abbrev pub with_given : Top → ℕ → Option Tree → Top
with_given top line e = record { head = top.head; given = stated line e; wanted = top.wanted }

abbrev pub with_wanted : Top → ℕ → Option Tree → Top
with_wanted top line e = record { head = top.head; given = top.given; wanted = stated line e }

abbrev pub step : State → Placed → Option State
step Empty (line, p.Header h) = Some (AfterHeader (record { head = h; given = None; wanted = None }))
step (AfterHeader top) (line, p.Given e) = Some (AfterGiven (with_given top line e))
step (AfterHeader top) (line, p.Wanted e) = Some (AfterWanted (with_wanted top line e))
step (AfterHeader top) (line, p.Begin) = Some (Inside top empty)
step (AfterGiven top) (line, p.Wanted e) = Some (AfterWanted (with_wanted top line e))
step (AfterGiven top) (line, p.Begin) = Some (Inside top empty)
step (AfterWanted top) (line, p.Begin) = Some (Inside top empty)
step (Inside top b) (line, f) = inside top b line f
step (NeedsThen top b m c) (line, p.Then) = Some (Inside top (opened (Chosen b.here m c) b))
step (NeedsCase top b m) (line, p.When e) = Some (Inside top (opened (Cased b.here m [] line e) b))
step state f = None

abbrev pub run : State → List Placed → Option State
run state [] = Some state
run state (f ∷ fs) = step state f >>= (λ later. run later fs)

-- ---- the stage of a state

abbrev pub open_of : Frame → Open
open_of (Looping before line act) = InLoop
open_of (Endless before line) = InForever
open_of (Chosen before line e) = InThen
open_of (Cased before line arms at e) = InCase
open_of (Otherwise before line act) = InOtherwise

abbrev pub stage_of : State → Stage
stage_of Empty = Start
stage_of (AfterHeader top) = Headed
stage_of (AfterGiven top) = HasGiven
stage_of (AfterWanted top) = HasWanted
stage_of (Inside top b) = Within (map open_of b.stack)
stage_of (NeedsThen top b line e) = DueThen (map open_of b.stack)
stage_of (NeedsCase top b line) = DueCase (map open_of b.stack)
stage_of (Whole a) = Over
