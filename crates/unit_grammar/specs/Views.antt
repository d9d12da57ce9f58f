-- What the reader of units keeps, as plain data.
use Rattle.std.specs.Prelude.{List, Option, Some, None, map, reverse}
use Rattle.kumir_tree.specs.Program.{Stmt, Act, Times, While, Count, Choose, Select, Block}
use Rattle.kumir_tree.specs.Seen.{tree, some_tree}
use Rattle.kumir_tree.specs.Parts.{head_of}
use Rattle.kumir_tree.specs.Units.{some_claim, algorithm_of}
use Rattle.kumir_tree.specs.Blocks.{Arm, stmt_of, block_of, block_listed, arms_listed}
use Rattle.kumir_tree.specs.declared.statement.Case.{Case, out-Case}
use Rattle.unit_grammar.specs.Machine as m
use Rattle.unit_grammar.specs.declared.frames.LoopHead.{LoopHead}
use Rattle.unit_grammar.specs.declared.frames.LoopHead.TheVariants as l
use Rattle.unit_grammar.specs.declared.frames.ChoiceHead.{ChoiceHead}
use Rattle.unit_grammar.specs.declared.frames.ChoiceHead.TheVariants as c
use Rattle.unit_grammar.specs.declared.frames.Frame.{Frame}
use Rattle.unit_grammar.specs.declared.frames.Frame.TheVariants as f
use Rattle.unit_grammar.specs.declared.heads.Top.{Top}
use Rattle.unit_grammar.specs.declared.frames.Body.{Body}
use Rattle.unit_grammar.specs.declared.frames.End.{End}
use Rattle.unit_grammar.specs.declared.frames.End.TheVariants as e
use Rattle.unit_grammar.specs.declared.states.State.{State}
use Rattle.unit_grammar.specs.declared.states.State.TheVariants as s

abbrev pub arm_of : Case → Arm
arm_of c = ((out-Case c).line, tree (out-Case c).condition, block_of (out-Case c).body)

abbrev pub loop_act : LoopHead → Block → Act
loop_act (l.Times e) = Times (tree e)
loop_act (l.While e) = While (tree e)
loop_act (l.Count x from to step) = Count x (tree from) (tree to) (some_tree step)

abbrev pub choice_act : ChoiceHead → Block → Act
choice_act (c.If e b) = Choose (tree e) (block_listed (map stmt_of b))
choice_act (c.Select cases) = Select (arms_listed (map arm_of cases))

abbrev pub frame_of : Frame → m.Frame
frame_of (f.Looping before line head) = m.Looping (map stmt_of before) line (loop_act head)
frame_of (f.Endless before line) = m.Endless (map stmt_of before) line
frame_of (f.Chosen before line e) = m.Chosen (map stmt_of before) line (tree e)
frame_of (f.Cased before line cases at e) = m.Cased (map stmt_of before) line (map arm_of cases) at (tree e)
frame_of (f.Otherwise before line head) = m.Otherwise (map stmt_of before) line (choice_act head)

-- the innermost block is the last one kept, and the first one seen
unfoldable pub stack_of : List Frame → List m.Frame
stack_of frames = reverse (map frame_of frames)

abbrev pub top_of : Top → m.Top
top_of t = record { head = head_of t.header; given = some_claim t.given; wanted = some_claim t.wanted }

abbrev pub body_of : Body → m.Body
body_of b = record { here = map stmt_of b.here; stack = stack_of b.stack }

abbrev pub some_body : Option Body → Option m.Body
some_body None = None
some_body (Some b) = Some (body_of b)

abbrev pub state_of : State → m.State
state_of s.Empty = m.Empty
state_of (s.AfterHeader t) = m.AfterHeader (top_of t)
state_of (s.AfterGiven t) = m.AfterGiven (top_of t)
state_of (s.AfterWanted t) = m.AfterWanted (top_of t)
state_of (s.Inside t b) = m.Inside (top_of t) (body_of b)
state_of (s.NeedsThen t b line e) = m.NeedsThen (top_of t) (body_of b) line (tree e)
state_of (s.NeedsCase t b line) = m.NeedsCase (top_of t) (body_of b) line
state_of (s.Whole u) = m.Whole (algorithm_of u)

abbrev pub some_state : Option State → Option m.State
some_state None = None
some_state (Some s) = Some (state_of s)

-- what becomes of the innermost block
abbrev pub ended : End → List Stmt → List m.Frame → Option m.Body
ended e.Close = m.close
ended (e.CloseWhen at test) = m.close_when at (tree test)
ended (e.Case at test) = m.another_case at (tree test)
ended e.Otherwise = m.otherwise
ended e.ChoiceEnd = m.choice_end
