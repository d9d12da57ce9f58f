-- What code of an expression does, by its parts.
use Rattle.std.proofs.Common.{◌≡◌, ℕ, ◌+◌, Bool, true, false, cond, List, [], ◌∷◌, ◌++◌, length, Some, None, refl, sym, ap, ◌∙◌, subst, arith}
use Rattle.std.specs.Prelude.{slice_get, drop, not}
use Rattle.kumir_tree.specs.declared.kind.Op.{Op}
use Rattle.kumir_tree.specs.declared.kind.Op.TheVariants as op
use Rattle.performer_kit.specs.declared.commands.Command.TheVariants.{Robot}
use Rattle.performer_kit.specs.declared.commands.RobotCommand.{RobotCommand}
use Rattle.kumir_values.specs.declared.value.Value.{Value}
use Rattle.kumir_values.specs.declared.value.Value.TheVariants.{Truth}
use Rattle.kumir_names.specs.declared.built_in.BuiltIn.{BuiltIn}
use Rattle.kumir_meaning.specs.Operators.{combined, decided, is_yes, negated, applied}
use Rattle.kumir_meaning.specs.Store.{CellName, Local, Store, read, element}
use Rattle.kumir_meaning.specs.Runs.{Rest, unless_fault, tick, asks, Wall, Allowed, reply_value, is_wall}
use Rattle.kumir_meaning.specs.Expressions.{Then, ThenValue, ThenValues, unless_decided, numbers_of}
use Rattle.stack_code.specs.declared.instruction.CodeLine.{CodeLine}
use Rattle.stack_code.specs.declared.instruction.CommandShape.TheVariants as command
use Rattle.stack_code.specs.declared.instruction.Instruction.{Instruction}
use Rattle.stack_code.specs.declared.instruction.Instruction.TheVariants as instruction
use Rattle.stack_code.specs.declared.unit.CodeUnit.{CodeUnit}
use Rattle.stack_code.specs.CodeState.{State, Frame, Slots, numbers, next}
use Rattle.performer_kit.specs.Commands.{is_test}
use Rattle.stack_code.specs.Instructions.{On, Over, Asks, pushes_result, operates, applies, event_of, step, unit_at}
use Rattle.kumir_compiler.specs.Code.{Code, Site, on, jump, jump_no, slot}
use Rattle.kumir_compiler.proofs.Variables.{is_among}
use Rattle.kumir_compiler.proofs.CodeAt.{IsCodeAt, parts, spans}
use Rattle.kumir_compiler.proofs.SlotsHoldCells.{Same}
use Rattle.kumir_compiler.proofs.Reach.{here, Reaches, on_go, on_step, on_asks, on_gives, after_on, line_at, moved}
use Rattle.kumir_compiler.proofs.Operands.{onto, taken_onto, drop_onto, numbers_onto}

module _ (al : Allowed) (cs : List CodeUnit) (u : ℕ) (fr : List Frame) (t : Site) (N d : ℕ) (h : Slots) where
  abbrev pub Body : List CodeLine
  Body = (unit_at cs u).body

  -- a moment of this unit, with a store's count of elements
  abbrev pub At : ℕ → List Value → Slots → Store → Rest → Type 0
  At pc stack slots s a = Reaches al cs N (here u fr pc stack slots s.used) a

  -- what goes on, with a value, with several values
  abbrev pub GoesOn : ℕ → List Value → Then → Type 0
  GoesOn end stack k = (s : Store) (slots : Slots) → Same t.variables d h s slots → At end stack slots s (k s)

  abbrev pub TakesValue : ℕ → List Value → ThenValue → Type 0
  TakesValue end stack k = (v : Value) (s : Store) (slots : Slots) → Same t.variables d h s slots → At end (v ∷ stack) slots s (k v s)

  abbrev pub TakesValues : ℕ → List Value → ℕ → ThenValues → Type 0
  TakesValues end stack n k = (vs : List Value) (s : Store) (slots : Slots) → length vs ≡ n → Same t.variables d h s slots → At end (onto vs stack) slots s (k vs s)

  -- code that leaves a value, or n values
  abbrev pub Evaluates : Code → (ThenValue → Then) → Type 0
  Evaluates code eval =
      (pc end : ℕ) (s : Store) (slots : Slots) (stack : List Value) (k : ThenValue) → IsCodeAt Body pc code end → Same t.variables d h s slots → TakesValue end stack k → At pc stack slots s (eval k s)

  abbrev pub EvaluatesAll : ℕ → Code → (ThenValues → Then) → Type 0
  EvaluatesAll n code eval =
      (pc end : ℕ) (s : Store) (slots : Slots) (stack : List Value) (k : ThenValues) → IsCodeAt Body pc code end → Same t.variables d h s slots → TakesValues end stack n k → At pc stack slots s (eval k s)

  pub line : (pc : ℕ) (stack : List Value) (slots : Slots) (s : Store) (l : CodeLine) → slice_get Body pc ≡ Some l → step al cs (here u fr pc stack slots s.used) ≡ event_of al cs l.what l.line (here u fr pc stack slots s.used)
  line pc stack slots s l e = line_at al cs u fr pc stack slots s.used l e

  pub move : (pc q : ℕ) (stack : List Value) (slots : Slots) (s : Store) (a : Rest) → pc ≡ q → At q stack slots s a → At pc stack slots s a
  move pc q stack slots s a e r = moved al cs u fr N pc q stack slots s.used a e r

  pub pushes : (v : Value) → Evaluates (on t (instruction.Push v) ∷ []) (λ k. k v)
  pushes v pc end s slots stack k has same go =
      on_go al cs N _ _ _ (line pc stack slots s _ has.0) (move _ _ (v ∷ stack) slots s _ has.1 (go v s slots same))

  pub loads : (x : CellName) → is_among t.variables x ≡ true → Evaluates (on t (instruction.Load (slot t x)) ∷ []) (λ k s. unless_fault (read (s.cells x)) t.line (λ v. k v s))
  loads x known pc end s slots stack k has same go =
      on_gives al cs (read (s.cells x)) N t.line (here u fr pc stack slots s.used) stack _ (λ v. k v s)
      (line pc stack slots s _ has.0 ∙ ap (λ c. pushes_result (read c) t.line (here u fr pc stack slots s.used) stack) (same.vars x known))
      (λ v. move _ _ (v ∷ stack) slots s _ has.1 (go v s slots same))

  pub negates : (a : Code) (eva : ThenValue → Then) → Evaluates a eva → Evaluates (a ++ (on t instruction.Neg ∷ [])) (λ k. eva (λ v s1. unless_fault (negated v) t.line (λ w. k w s1)))
  negates a eva ea pc end s slots stack k has same go =
      let x = parts Body pc a _ end has in
      ea pc x.0 s slots stack _ x.1 same
      (λ v s1 slots1 same1. on_gives al cs (negated v) N t.line (here u fr x.0 (v ∷ stack) slots1 s1.used) stack _ (λ w. k w s1)
      (line x.0 (v ∷ stack) slots1 s1 _ x.2.0)
      (λ w. move _ _ (w ∷ stack) slots1 s1 _ x.2.1 (go w s1 slots1 same1)))

  pub denies : (a : Code) (eva : ThenValue → Then) → Evaluates a eva → Evaluates (a ++ (on t instruction.Not ∷ [])) (λ k. eva (λ v. k (Truth (cond (is_yes v) false true))))
  denies a eva ea pc end s slots stack k has same go =
      let x = parts Body pc a _ end has in
      ea pc x.0 s slots stack _ x.1 same
      (λ v s1 slots1 same1. on_go al cs N _ _ _
      (line x.0 (v ∷ stack) slots1 s1 _ x.2.0)
      (move _ _ (Truth (not (is_yes v)) ∷ stack) slots1 s1 _ x.2.1 (turn (is_yes v) v s1 slots1 same1)))
    where
      turn : (b : Bool) (v : Value) (s1 : Store) (slots1 : Slots) → Same t.variables d h s1 slots1 → At end (Truth (not b) ∷ stack) slots1 s1 (k (Truth (cond b false true)) s1)
      turn true v s1 slots1 same1 = go (Truth false) s1 slots1 same1
      turn false v s1 slots1 same1 = go (Truth true) s1 slots1 same1

  -- an operator that needs both sides
  pub combines : (o : Op) (i : Instruction) (a b : Code) (eva evb : ThenValue → Then) → ((v : Value) → decided o v ≡ None) → ((s : State) → event_of al cs i t.line s ≡ operates o t.line s) → Evaluates a eva → Evaluates b evb
      → Evaluates (a ++ (b ++ (on t i ∷ []))) (λ k. eva (λ v. unless_decided (decided o v) k (evb (λ w s2. unless_fault (combined o v w) t.line (λ x. k x s2)))))
  combines o i a b eva evb free is ea eb pc end s slots stack k has same go =
      let x = parts Body pc a _ end has in
      let y = parts Body x.0 b _ end x.2 in
      ea pc x.0 s slots stack _ x.1 same
      (λ v s1 slots1 same1. subst (λ c. At x.0 (v ∷ stack) slots1 s1 (unless_decided c k (evb (λ w s2. unless_fault (combined o v w) t.line (λ z. k z s2))) s1)) (sym (free v))
      (eb x.0 y.0 s1 slots1 (v ∷ stack) _ y.1 same1
      (λ w s2 slots2 same2. on_gives al cs (combined o v w) N t.line (here u fr y.0 (w ∷ v ∷ stack) slots2 s2.used) stack _ (λ z. k z s2)
      (line y.0 (w ∷ v ∷ stack) slots2 s2 _ y.2.0 ∙ is _)
      (λ z. move _ _ (z ∷ stack) slots2 s2 _ y.2.1 (go z s2 slots2 same2)))))

  pub disjoins : (a b : Code) (eva evb : ThenValue → Then) → Evaluates a eva → Evaluates b evb
      → Evaluates (a ++ (jump_no t 2 ∷ on t (instruction.Push (Truth true)) ∷ jump t (length b) ∷ b)) (λ k. eva (λ v. unless_decided (decided op.Or v) k (evb (λ w s2. k w s2))))
  disjoins a b eva evb ea eb pc end s slots stack k has same go =
      let x = parts Body pc a _ end has in
      ea pc x.0 s slots stack _ x.1 same
      (λ v s1 slots1 same1. on_go al cs N _ _ _ (line x.0 (v ∷ stack) slots1 s1 _ x.2.0) (either (is_yes v) x.0 x.2 s1 slots1 same1))
    where
      either : (c : Bool) (at : ℕ) → IsCodeAt Body at (jump_no t 2 ∷ on t (instruction.Push (Truth true)) ∷ jump t (length b) ∷ b) end → (s1 : Store) (slots1 : Slots) → Same t.variables d h s1 slots1 → At (cond c (at + 1) (at + 1 + 2)) stack slots1 s1 (unless_decided (cond c (Some (Truth true)) None) k (evb (λ w s2. k w s2)) s1)
      either true at h1 s1 slots1 same1 =
          let e : at + 1 + 1 + 1 + length b ≡ end = sym (spans Body _ b end h1.1.1.1) in
          on_go al cs N _ _ _ (line (at + 1) stack slots1 s1 _ h1.1.0)
          (on_go al cs N _ _ _ (line (at + 1 + 1) (Truth true ∷ stack) slots1 s1 _ h1.1.1.0)
          (move _ _ (Truth true ∷ stack) slots1 s1 _ e (go (Truth true) s1 slots1 same1)))
      either false at h1 s1 slots1 same1 =
          let e : at + 1 + 2 ≡ at + 1 + 1 + 1 = omega arith in
          move _ _ stack slots1 s1 _ e (eb _ end s1 slots1 stack k h1.1.1.1 same1 go)

  pub conjoins : (a b : Code) (eva evb : ThenValue → Then) → Evaluates a eva → Evaluates b evb
      → Evaluates (a ++ (jump_no t (length b + 1) ∷ (b ++ (jump t 1 ∷ on t (instruction.Push (Truth false)) ∷ [])))) (λ k. eva (λ v. unless_decided (decided op.And v) k (evb (λ w s2. k w s2))))
  conjoins a b eva evb ea eb pc end s slots stack k has same go =
      let x = parts Body pc a _ end has in
      ea pc x.0 s slots stack _ x.1 same
      (λ v s1 slots1 same1. on_go al cs N _ _ _ (line x.0 (v ∷ stack) slots1 s1 _ x.2.0) (either (is_yes v) x.0 x.2 s1 slots1 same1))
    where
      either : (c : Bool) (at : ℕ) → IsCodeAt Body at (jump_no t (length b + 1) ∷ (b ++ (jump t 1 ∷ on t (instruction.Push (Truth false)) ∷ []))) end → (s1 : Store) (slots1 : Slots) → Same t.variables d h s1 slots1 → At (cond c (at + 1) (at + 1 + (length b + 1))) stack slots1 s1 (unless_decided (cond c None (Some (Truth false))) k (evb (λ w s2. k w s2)) s1)
      either true at h1 s1 slots1 same1 =
          let y = parts Body (at + 1) b _ end h1.1 in
          let e0 = y.2.1.1 in
          let e : y.0 + 1 + 1 ≡ end = omega arith in
          eb (at + 1) y.0 s1 slots1 stack _ y.1 same1
          (λ w s2 slots2 same2. on_go al cs N _ _ _ (line y.0 (w ∷ stack) slots2 s2 _ y.2.0)
          (move _ _ (w ∷ stack) slots2 s2 _ e (go w s2 slots2 same2)))
      either false at h1 s1 slots1 same1 =
          let y = parts Body (at + 1) b _ end h1.1 in
          let e0 = spans Body (at + 1) b y.0 y.1 in
          let e : at + 1 + (length b + 1) ≡ y.0 + 1 = omega arith in
          move _ _ stack slots1 s1 _ e
          (on_go al cs N _ _ _ (line (y.0 + 1) stack slots1 s1 _ y.2.1.0)
          (move _ _ (Truth false ∷ stack) slots1 s1 _ y.2.1.1 (go (Truth false) s1 slots1 same1)))

  pub no_values : EvaluatesAll 0 [] (λ k. k [])
  no_values pc end s slots stack k has same go = move _ _ stack slots s _ has (go [] s slots refl same)

  pub more_values : (n : ℕ) (a b : Code) (eva : ThenValue → Then) (evb : ThenValues → Then) → Evaluates a eva → EvaluatesAll n b evb → EvaluatesAll (n + 1) (a ++ b) (λ k. eva (λ v. evb (λ vs. k (v ∷ vs))))
  more_values n a b eva evb ea eb pc end s slots stack k has same go =
      let x = parts Body pc a b end has in
      ea pc x.0 s slots stack _ x.1 same
      (λ v s1 slots1 same1. eb x.0 end s1 slots1 (v ∷ stack) _ x.2 same1
      (λ vs s2 slots2 len same2. go (v ∷ vs) s2 slots2 (omega arith) same2))

  -- an element of a table
  pub elements_of : (x : List ℕ) (n : ℕ) (b : Code) (evb : ThenValues → Then) → is_among t.variables (Local x) ≡ true → EvaluatesAll n b evb
      → Evaluates (b ++ (on t (instruction.Elem (slot t (Local x)) n) ∷ [])) (λ k. evb (λ is s1. unless_fault (element (s1.cells (Local x)) (numbers_of is)) t.line (λ v. k v s1)))
  elements_of x n b evb known eb pc end s slots stack k has same go =
      let y = parts Body pc b _ end has in
      eb pc y.0 s slots stack _ y.1 same
      (λ vs s1 slots1 len same1. on_gives al cs (element (s1.cells (Local x)) (numbers_of vs)) N t.line (here u fr y.0 (onto vs stack) slots1 s1.used) stack _ (λ v. k v s1)
      (line y.0 (onto vs stack) slots1 s1 _ y.2.0
      ∙ ap (λ c. pushes_result (element c (numbers n (onto vs stack))) t.line (here u fr y.0 (onto vs stack) slots1 s1.used) (drop n (onto vs stack))) (same1.vars (Local x) known)
      ∙ ap (λ l. pushes_result (element (s1.cells (Local x)) l) t.line (here u fr y.0 (onto vs stack) slots1 s1.used) (drop n (onto vs stack))) (numbers_onto vs stack n len)
      ∙ ap (λ l. pushes_result (element (s1.cells (Local x)) (numbers_of vs)) t.line (here u fr y.0 (onto vs stack) slots1 s1.used) l) (drop_onto vs stack n len))
      (λ v. move _ _ (v ∷ stack) slots1 s1 _ y.2.1 (go v s1 slots1 same1)))

  -- a built-in over its values
  pub applies_to : (c : BuiltIn) (n : ℕ) (i : Instruction) (b : Code) (evb : ThenValues → Then) → ((s : State) → event_of al cs i t.line s ≡ applies c n t.line s) → EvaluatesAll n b evb
      → Evaluates (b ++ (on t i ∷ [])) (λ k. evb (λ vs s1. unless_fault (applied c vs) t.line (λ v. k v s1)))
  applies_to c n i b evb is eb pc end s slots stack k has same go =
      let y = parts Body pc b _ end has in
      eb pc y.0 s slots stack _ y.1 same
      (λ vs s1 slots1 len same1. on_gives al cs (applied c vs) N t.line (here u fr y.0 (onto vs stack) slots1 s1.used) stack _ (λ v. k v s1)
      (line y.0 (onto vs stack) slots1 s1 _ y.2.0 ∙ is _
      ∙ ap (λ l. pushes_result (applied c l) t.line (here u fr y.0 (onto vs stack) slots1 s1.used) (drop n (onto vs stack))) (taken_onto vs stack n len)
      ∙ ap (λ l. pushes_result (applied c vs) t.line (here u fr y.0 (onto vs stack) slots1 s1.used) l) (drop_onto vs stack n len))
      (λ v. move _ _ (v ∷ stack) slots1 s1 _ y.2.1 (go v s1 slots1 same1)))

  -- a test of the Robot
  pub tests : (c : RobotCommand) → is_test c ≡ true → Evaluates (on t instruction.Step ∷ on t (instruction.Ask (command.Robot c)) ∷ []) (λ k. tick (λ s1. asks (Robot c) (λ r. k (reply_value r)) s1))
  tests c is pc end s slots stack k has same go =
      on_step al cs N _ _ (asks (Robot c) (λ r. k (reply_value r))) s (line pc stack slots s _ has.0)
      (on_asks al cs N _ (Robot c) _ (λ r. k (reply_value r)) s
      (line (pc + 1) stack slots s _ has.1.0 ∙ ap (λ b. Asks (Robot c) (λ r. cond b (On (next (here u fr (pc + 1) stack slots s.used) (reply_value r ∷ stack))) (cond (is_wall r) (Over (Wall t.line)) (On (next (here u fr (pc + 1) stack slots s.used) stack))))) is)
      (λ r. after_on al cs N _ _ (move _ _ (reply_value r ∷ stack) slots s _ has.1.1 (go (reply_value r) s slots same))))
