-- The code of statements and blocks does what they mean.
use Rattle.std.proofs.Common.{◌≡◌, ℕ, ◌+◌, ◌≤◌, Bool, true, false, cond, List, ◌∷◌, ◌++◌, length, Option, Some, None, refl, arith}
use Rattle.std.specs.Prelude.{ℤ, pos, slice_get}
use Rattle.std.specs.Ordering.{int_eq}
use Rattle.kumir_tree.specs.declared.kind.Kind.{Kind}
use Rattle.kumir_tree.specs.Tree.{Tree}
use Rattle.kumir_tree.specs.Program as tree
use Rattle.kumir_tree.specs.Program.{Stmt, Stands, Declare, Assign, Invoke, Times, While, Count, Forever, Until, Choose, Select, Assert, Input, Output, Leave, Quit, Block, done, ◌next◌, Arms, no_arms, arm}
use Rattle.kumir_values.specs.declared.value.Value.{Value}
use Rattle.kumir_values.specs.declared.value.Value.TheVariants.{Whole}
use Rattle.kumir_values.specs.declared.run_end.RunFault.TheVariants.{StepZero}
use Rattle.kumir_meaning.specs.Runs as state
use Rattle.kumir_names.specs.Variables.{Names}
use Rattle.kumir_meaning.specs.Program.{Program, callee_in, act_names, stmt_names, block_names, arm_names}
use Rattle.kumir_meaning.specs.Operators.{number_of, turns_of}
use Rattle.kumir_meaning.specs.Store.{CellName, Store}
use Rattle.kumir_meaning.specs.Runs.{Rest, stops, tick, choose, Allowed}
use Rattle.kumir_meaning.specs.Expressions.{Enter, Here, Then, eval}
use Rattle.kumir_meaning.specs.Statements.{stride, carries_out, runs, selects}
use Rattle.stack_code.specs.declared.instruction.CodeLine.{CodeLine}
use Rattle.stack_code.specs.declared.instruction.Instruction.TheVariants as instruction
use Rattle.stack_code.specs.declared.unit.CodeUnit.{CodeUnit}
use Rattle.stack_code.specs.CodeState.{State, Frame, Slots, Left, Numbers, with_slot}
use Rattle.stack_code.specs.Instructions.{Go, Halt, unit_at, step}
use Rattle.kumir_compiler.specs.Code.{Site, on, hidden, tree_code, stride_code, act_code, stmt_code, block_code, arms_code}
use Rattle.kumir_compiler.specs.Compilable.{IsStride, CanAct, CanRun, CanChoose}
use Rattle.kumir_compiler.proofs.LocalsHaveSlots.{In, Slotted, in_front, in_back, has_slot, more_slotted}
use Rattle.kumir_compiler.proofs.CodeAt.{IsCodeAt, parts, spans}
use Rattle.kumir_compiler.proofs.SlotsHoldCells.{Same, grown}
use Rattle.kumir_compiler.proofs.Reach.{here, Reaches, on_go, on_halt, on_step, moved}
use Rattle.kumir_compiler.proofs.Evaluates.{GoesOn, line}
use Rattle.kumir_compiler.proofs.ArgumentsMean.{EnterOk, enter_fewer}
use Rattle.kumir_compiler.proofs.ExpressionsMean.{site, spot_of, tree_ok}
use Rattle.kumir_compiler.proofs.SimpleStatements.{assigns_ok, inputs_ok, outputs_ok, claims_ok, establishes_ok, invokes_ok}
use Rattle.kumir_compiler.proofs.LoopsMean.{Acts, while_ok, forever_ok, until_ok, turns_ok, counts_ok, choice_ok}

module _ (al : Allowed) (p : Program) (cs : List CodeUnit) (u : ℕ) (fr : List Frame) (enter : Enter) (names : List CellName) (answer : Option Kind) (first : ℕ) where
  abbrev Lines : List CodeLine
  Lines = (unit_at cs u).body

  abbrev At : ℕ → Names → Here
  At row locals = spot_of al p cs u fr enter names answer first row locals

  abbrev T : ℕ → Names → Site
  T row locals = site al p cs u fr enter names answer first row locals

  abbrev Ok : ℕ → Type 0
  Ok N = EnterOk al p cs u fr enter N

  less_ok : (N M : ℕ) → N ≤ M → Ok M → Ok N
  less_ok N M le ok = enter_fewer al p cs u fr enter N M le ok

  -- the step of `для`, and the begin of its turns
  stride_ok : (o : Option Tree) (row : ℕ) (locals : Names) (N d : ℕ) (h : Slots) → Ok N → Slotted names answer locals → IsStride o (T row locals) → (pc mid : ℕ) (s : Store) (slots : Slots) (v w : Value) (stack : List Value) (k : ℤ → Then)
      → IsCodeAt Lines pc (stride_code o (T row locals) d) mid → slice_get Lines mid ≡ Some (on (T row locals) (instruction.Turns (hidden (T row locals) d)) mid) → Same names d h s slots
      → ((z : ℤ) (s1 : Store) (slots1 : Slots) → Same names (d + 1) (with_slot h d (Numbers (number_of v) (number_of w) z)) s1 slots1 → Reaches al cs N (here u fr (mid + 1) stack slots1 s1.used) (k z s1))
      → Reaches al cs N (here u fr pc (w ∷ v ∷ stack) slots s.used) (stride o (At row locals) k s)
  stride_ok None row locals N d h ok sc known pc mid s slots v w stack k has has2 same go =
      on_go al cs N _ _ _ (line al cs u fr (T row locals) N d h pc (w ∷ v ∷ stack) slots s _ has.0)
      (moved al cs u fr N _ mid (Whole (pos 1) ∷ w ∷ v ∷ stack) slots s.used _ has.1
      (on_go al cs N _ _ _ (line al cs u fr (T row locals) N d h mid (Whole (pos 1) ∷ w ∷ v ∷ stack) slots s _ has2)
      (go (pos 1) s _ (grown names d h s slots (Numbers (number_of v) (number_of w) (pos 1)) same))))
  stride_ok (Some e) row locals N d h ok sc known pc mid s slots v w stack k has has2 same go =
      tree_ok al p cs u fr enter names answer first e row locals N d h ok sc known pc mid s slots (w ∷ v ∷ stack) _ has same
      (λ x s1 slots1 same1. begins (int_eq (number_of x) (pos 0)) x s1 slots1 _ (line al cs u fr (T row locals) N d h mid (x ∷ w ∷ v ∷ stack) slots1 s1 _ has2)
      (go (number_of x) s1 _ (grown names d h s1 slots1 (Numbers (number_of v) (number_of w) (number_of x)) same1)))
    where
      begins : (b : Bool) (x : Value) (s1 : Store) (slots1 : Slots) (then : State) → step al cs (here u fr mid (x ∷ w ∷ v ∷ stack) slots1 s1.used) ≡ cond b (Halt (state.Fault row StepZero)) (Go then) → Reaches al cs N then (k (number_of x) s1)
          → Reaches al cs N (here u fr mid (x ∷ w ∷ v ∷ stack) slots1 s1.used) (choose b (λ s2. stops (state.Fault row StepZero)) (k (number_of x)) s1)
      begins true x s1 slots1 then e r = on_halt al cs N _ (state.Fault row StepZero) e
      begins false x s1 slots1 then e r = on_go al cs N _ then (k (number_of x) s1) e r

  mutual
    pub act_ok : (a : tree.Act) (row : ℕ) (locals : Names) (n N d after : ℕ) (h : Slots) → N ≤ n → Ok N → Slotted names answer locals → In names (act_names a) → CanAct a (T row locals) → Acts al cs u fr (T row locals) N d h (act_code a (T row locals) d after) after (λ out k s. carries_out a (At row locals) n out k s)
    act_ok (Declare x) row locals n N d after h le ok sc i known pc end away s slots stack out k has e same leave go =
        establishes_ok al p cs u fr enter names answer first row locals N d h ok sc x i known pc end s slots stack k has same go
    act_ok (Assign x y) row locals n N d after h le ok sc i known pc end away s slots stack out k has e same leave go =
        assigns_ok al p cs u fr enter names answer first row locals N d h ok sc x y known.0 known.1 pc end s slots stack k has same go
    act_ok (Invoke x es) row locals n N d after h le ok sc i known pc end away s slots stack out k has e same leave go =
        invokes_ok al p cs u fr enter names answer first row locals N d h ok sc (callee_in p x) x refl es known pc end s slots stack k has same go
    act_ok (Times y b) row locals n N d after h le ok sc i known pc end away s slots stack out k has e same leave go =
        let w = parts Lines pc (tree_code y (T row locals) d) _ end has in
        tree_ok al p cs u fr enter names answer first y row locals N d h ok sc known.0 pc w.0 s slots stack _ w.1 same
        (λ v s1 slots1 same1. on_go al cs N _ _ _ (line al cs u fr (T row locals) N d h w.0 (v ∷ stack) slots1 s1 _ w.2.0)
        (turns_ok al cs u fr (T row locals) n N N (turns_of v) d h (block_code b (T row locals) (d + 1) 1) (λ out1 k1 s2. runs b (At row locals) n out1 k1 s2) le (omega arith)
        (λ c1 K leK. block_ok b row locals n K (d + 1) 1 (with_slot h d (Left c1)) (omega arith) (less_ok K N leK ok) sc i known.1)
        (w.0 + 1) end s1 _ stack k w.2.1 (grown names d h s1 slots1 (Left (turns_of v)) same1) go))
    act_ok (While y b) row locals n N d after h le ok sc i known pc end away s slots stack out k has e same leave go =
        while_ok al cs u fr (T row locals) n N N d h (tree_code y (T row locals) d) (block_code b (T row locals) d 1) (λ k1. eval y (At row locals) k1) (λ out1 k1 s2. runs b (At row locals) n out1 k1 s2) le (omega arith)
        (λ K leK. tree_ok al p cs u fr enter names answer first y row locals K d h (less_ok K N leK ok) sc known.0)
        (λ K leK. block_ok b row locals n K d 1 h (omega arith) (less_ok K N leK ok) sc i known.1)
        pc end s slots stack k has same go
    act_ok (Count x from to by_step b) row locals n N d after h le ok sc i known pc end away s slots stack out k has e same leave go =
        let w = parts Lines pc (tree_code from (T row locals) d) _ end has in
        let y = parts Lines w.0 (tree_code to (T row locals) d) _ end w.2 in
        let z = parts Lines y.0 (stride_code by_step (T row locals) d) _ end y.2 in
        tree_ok al p cs u fr enter names answer first from row locals N d h ok sc known.1 pc w.0 s slots stack _ w.1 same
        (λ v s1 slots1 same1. tree_ok al p cs u fr enter names answer first to row locals N d h ok sc known.2 w.0 y.0 s1 slots1 (v ∷ stack) _ y.1 same1
        (λ v2 s2 slots2 same2. stride_ok by_step row locals N d h ok sc known.3 y.0 z.0 s2 slots2 v v2 stack _ z.1 z.2.0 same2
        (λ by s3 slots3 same3. counts_ok al cs u fr (T row locals) x (has_slot names answer locals sc x known.0) n N N d (number_of v) (number_of v2) by h (block_code b (T row locals) (d + 1) 1) (λ out1 k1 s4. runs b (At row locals) n out1 k1 s4) le (omega arith)
        (λ z1 K leK. block_ok b row locals n K (d + 1) 1 (with_slot h d (Numbers z1 (number_of v2) by)) (omega arith) (less_ok K N leK ok) sc i known.4)
        (z.0 + 1) end s3 slots3 stack k z.2.1 same3 go)))
    act_ok (Forever b) row locals n N d after h le ok sc i known pc end away s slots stack out k has e same leave go =
        forever_ok al cs u fr (T row locals) n N N d h (block_code b (T row locals) d 1) (λ out1 k1 s2. runs b (At row locals) n out1 k1 s2) le (omega arith)
        (λ K leK. block_ok b row locals n K d 1 h (omega arith) (less_ok K N leK ok) sc i known)
        pc end s slots stack k has same go
    act_ok (Until b below y) row locals n N d after h le ok sc i known pc end away s slots stack out k has e same leave go =
        until_ok al cs u fr (T row locals) (T (first + below) (locals ++ block_names b)) refl n N N d h
        (block_code b (T row locals) d (length (tree_code y (T (first + below) (locals ++ block_names b)) d) + 2)) (tree_code y (T (first + below) (locals ++ block_names b)) d)
        (λ out1 k1 s2. runs b (At row locals) n out1 k1 s2) (λ k1. eval y (At (first + below) (locals ++ block_names b)) k1) le (omega arith)
        (λ K leK. tree_ok al p cs u fr enter names answer first y (first + below) (locals ++ block_names b) K d h (less_ok K N leK ok) (more_slotted names answer locals (block_names b) i sc) known.1)
        (λ K leK. block_ok b row locals n K d (length (tree_code y (T (first + below) (locals ++ block_names b)) d) + 2) h (omega arith) (less_ok K N leK ok) sc i known.0)
        pc end s slots stack k has same go
    act_ok (Choose y a b) row locals n N d after h le ok sc i known pc end away s slots stack out k has e same leave go =
        let w = parts Lines pc (tree_code y (T row locals) d) _ end has in
        let cb = block_code b (T row (locals ++ block_names a)) d after in
        tree_ok al p cs u fr enter names answer first y row locals N d h ok sc known.0 pc w.0 s slots stack _ w.1 same
        (λ v s1 slots1 same1. choice_ok al cs u fr (T row locals) (block_code a (T row locals) d (length cb + 1 + after)) cb v N d h w.0 end s1 slots1 stack _ _ w.2
        (λ mid ha is ends. block_ok a row locals n N d (length cb + 1 + after) h le ok sc (in_front names (block_names a) (block_names b) i) known.1 (w.0 + 1) mid away s1 slots1 stack out k ha (omega arith) same1 leave
        (λ s2 slots2 same2. ends s2 slots2 (k s2) (go s2 slots2 same2)))
        (λ at hb. block_ok b row (locals ++ block_names a) n N d after h le ok (more_slotted names answer locals (block_names a) (in_front names (block_names a) (block_names b) i) sc) (in_back names (block_names a) (block_names b) i) known.2 at end away s1 slots1 stack out k hb e same1 leave go))
    act_ok (Select arms b) row locals n N d after h le ok sc i known pc end away s slots stack out k has e same leave go =
        arms_ok arms row locals n N d after h le ok sc (in_front names (arm_names arms) (block_names b) i) b known pc end away s slots stack out k has e same leave go
        (λ locals1 sc1 known1 at s1 slots1 hb same1. block_ok b row locals1 n N d after h le ok sc1 (in_back names (arm_names arms) (block_names b) i) known1 at end away s1 slots1 stack out k hb e same1 leave go)
    act_ok (Assert y) row locals n N d after h le ok sc i known pc end away s slots stack out k has e same leave go =
        claims_ok al p cs u fr enter names answer first row locals N d h ok sc y known pc end s slots stack k has same go
    act_ok (Input xs) row locals n N d after h le ok sc i known pc end away s slots stack out k has e same leave go =
        inputs_ok al p cs u fr enter names answer first row locals N d h ok sc xs known pc end s slots stack k has same go
    act_ok (Output xs) row locals n N d after h le ok sc i known pc end away s slots stack out k has e same leave go =
        outputs_ok al p cs u fr enter names answer first row locals N d h ok sc xs known pc end s slots stack k has same go
    act_ok Leave row locals n N d after h le ok sc i known pc end away s slots stack out k has e same leave go =
        let e1 = has.1 in
        let e2 : pc + 1 + after ≡ away = omega arith in
        on_go al cs N _ _ _ (line al cs u fr (T row locals) N d h pc stack slots s _ has.0) (moved al cs u fr N _ away stack slots s.used (out s) e2 (leave s slots same))
    act_ok Quit row locals n N d after h le ok sc i known pc end away s slots stack out k has e same leave go =
        on_halt al cs N _ state.Quit (line al cs u fr (T row locals) N d h pc stack slots s _ has.0)

    pub block_ok : (b : Block) (row : ℕ) (locals : Names) (n N d after : ℕ) (h : Slots) → N ≤ n → Ok N → Slotted names answer locals → In names (block_names b) → CanRun b (T row locals) → Acts al cs u fr (T row locals) N d h (block_code b (T row locals) d after) after (λ out k s. runs b (At row locals) n out k s)
    block_ok done row locals n N d after h le ok sc i known pc end away s slots stack out k has e same leave go = moved al cs u fr N pc end stack slots s.used (k s) has (go s slots same)
    block_ok (Stands below a next b) row locals n N d after h le ok sc i known pc end away s slots stack out k has e same leave go =
        let cb = block_code b (T row (locals ++ stmt_names (Stands below a))) d after in
        let w = parts Lines pc (stmt_code (Stands below a) (T row locals) d (length cb + after)) cb end has in
        let e1 = spans Lines w.0 cb end w.2 in
        on_step al cs N _ _ (λ s1. carries_out a (At (first + below) locals) n out (λ s2. runs b (At row (locals ++ stmt_names (Stands below a))) n out k s2) s1) s (line al cs u fr (T (first + below) locals) N d h pc stack slots s _ w.1.0)
        (act_ok a (first + below) locals n N d (length cb + after) h le ok sc (in_front names (act_names a) (block_names b) i) known.0 (pc + 1) w.0 away s slots stack out (λ s2. runs b (At row (locals ++ stmt_names (Stands below a))) n out k s2) w.1.1 (omega arith) same leave
        (λ s2 slots2 same2. block_ok b row (locals ++ stmt_names (Stands below a)) n N d after h le ok (more_slotted names answer locals (act_names a) (in_front names (act_names a) (block_names b) i) sc) (in_back names (act_names a) (block_names b) i) known.1 w.0 end away s2 slots2 stack out k w.2 e same2 leave go))

    pub arms_ok : (arms : Arms) (row : ℕ) (locals : Names) (n N d after : ℕ) (h : Slots) → N ≤ n → Ok N → Slotted names answer locals → In names (arm_names arms) → (rest : Block) → CanChoose arms (T row locals) (λ t. CanRun rest t)
        → (pc end away : ℕ) (s : Store) (slots : Slots) (stack : List Value) (out k : Then) → IsCodeAt Lines pc (arms_code arms (T row locals) d after (λ t. block_code rest t d after)) end → away ≡ end + after → Same names d h s slots
        → GoesOn al cs u fr (T row locals) N d h away stack out → GoesOn al cs u fr (T row locals) N d h end stack k
        → ((locals1 : Names) → Slotted names answer locals1 → CanRun rest (T row locals1) → (at : ℕ) (s1 : Store) (slots1 : Slots) → IsCodeAt Lines at (block_code rest (T row locals1) d after) end → Same names d h s1 slots1 → Reaches al cs N (here u fr at stack slots1 s1.used) (runs rest (At row locals1) n out k s1))
        → Reaches al cs N (here u fr pc stack slots s.used) (selects arms (At row locals) n out k (λ h1 s1. runs rest h1 n out k s1) s)
    arms_ok no_arms row locals n N d after h le ok sc i rest known pc end away s slots stack out k has e same leave go last_ok = last_ok locals sc known pc s slots has same
    arms_ok (arm below y b more) row locals n N d after h le ok sc i rest known pc end away s slots stack out k has e same leave go last_ok =
        let cm = arms_code more (T row (locals ++ block_names b)) d after (λ t. block_code rest t d after) in
        let w = parts Lines pc (tree_code y (T (first + below) locals) d) _ end has in
        tree_ok al p cs u fr enter names answer first y (first + below) locals N d h ok sc known.0 pc w.0 s slots stack _ w.1 same
        (λ v s1 slots1 same1. choice_ok al cs u fr (T (first + below) locals) (block_code b (T row locals) d (length cm + 1 + after)) cm v N d h w.0 end s1 slots1 stack _ _ w.2
        (λ mid hb is ends. block_ok b row locals n N d (length cm + 1 + after) h le ok sc (in_front names (block_names b) (arm_names more) i) known.1 (w.0 + 1) mid away s1 slots1 stack out k hb (omega arith) same1 leave
        (λ s2 slots2 same2. ends s2 slots2 (k s2) (go s2 slots2 same2)))
        (λ at hm. arms_ok more row (locals ++ block_names b) n N d after h le ok (more_slotted names answer locals (block_names b) (in_front names (block_names b) (arm_names more) i) sc) (in_back names (block_names b) (arm_names more) i) rest known.2 at end away s1 slots1 stack out k hm e same1 leave go last_ok))
