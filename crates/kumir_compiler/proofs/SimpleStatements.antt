-- The code of statements without blocks does what they mean.
use Rattle.std.proofs.Common.{◌≡◌, ℕ, ◌+◌, ◌-◌, ◌*◌, Bool, true, false, cond, List, [], ◌∷◌, ◌++◌, length, map, Option, Some, None, Result, Ok, Err, refl, sym, ap, ◌∙◌, subst, arith}
use Rattle.std.specs.Prelude.{ℤ, slice_get, drop, nat_le}
use Rattle.kumir_tree.specs.declared.kind.Kind.{Kind}
use Rattle.kumir_tree.specs.Tree.{Tree, Trees, count}
use Rattle.kumir_tree.specs.Part.{Limits, Place, ToAnswer, ToScalar, ToElement, Shown, ShowValue, ShowText, ShowLine, Declares, Scalars, Tables}
use Rattle.performer_kit.specs.declared.commands.Command.TheVariants.{Robot, Pen}
use Rattle.kumir_values.specs.declared.value.Value.{Value}
use Rattle.kumir_values.specs.declared.bounds.Bound.{Bound}
use Rattle.kumir_values.specs.declared.run_end.RunFault.{RunFault}
use Rattle.kumir_values.specs.declared.run_end.RunFault.TheVariants.{Bounds, Elements}
use Rattle.kumir_values.specs.Bounds.{all_ordered, elements}
use Rattle.kumir_meaning.specs.Runs as state
use Rattle.kumir_names.specs.Variables.{Names, scalar, table, declares}
use Rattle.kumir_names.specs.Callees.{BuiltInCall, Called, Callee, PenCall, RobotCall}
use Rattle.kumir_meaning.specs.Program.{Placed, Program, callee_in}
use Rattle.kumir_meaning.specs.Operators.{is_yes, text_of}
use Rattle.kumir_meaning.specs.Store.{CellName, TheAnswer, Local, Store, Cell, Empty, Has, Spot, AtVariable, AtElement, checked, settled, put, with_cell, with_element, elements_in, without_values, made}
use Rattle.kumir_meaning.specs.Runs.{Printed, Sent, Rest, stops, unless_fault, tick, does, asks, takes, choose, Allowed, reply_value, is_wall, pen_command}
use Rattle.kumir_meaning.specs.Expressions.{Enter, Then, numbers_of, steps_in, eval, bounds}
use Rattle.kumir_meaning.specs.Statements.{aims, stores, claims, cleared, makes, establishes, invokes, takes_for, kind_at, inputs, outputs}
use Rattle.stack_code.specs.declared.instruction.CodeLine.{CodeLine}
use Rattle.stack_code.specs.declared.instruction.Instruction.TheVariants as instruction
use Rattle.stack_code.specs.declared.unit.CodeUnit.{CodeUnit}
use Rattle.stack_code.specs.CodeState.{State, Frame, Slots, Plain, with_slot, numbers, paired, next, next_with}
use Rattle.stack_code.specs.Instructions as code
use Rattle.performer_kit.specs.Commands.{pen_arity}
use Rattle.stack_code.specs.Instructions.{Event, Go, Halt, Does, Asks, After, On, Over, if_fine, unit_at, step}
use Rattle.kumir_compiler.specs.Code.{Code, Site, on, slot, aim_code, store_code, claim_code, limits_code, tables_code, declares_code, invoke_code, place_kind, kind_or_whole, inputs_code, outputs_code, tree_code, trees_code, arguments_code, call_places}
use Rattle.kumir_compiler.specs.Compilable.{IsThere, IsMissing, IsValue, AreLimits, IsTarget, AreTables, IsDeclared, IsInvoked, TakeInputs, AreShown}
use Rattle.kumir_compiler.proofs.Variables.{is_among}
use Rattle.kumir_compiler.proofs.LocalsHaveSlots.{In, Slotted, has_slot}
use Rattle.kumir_compiler.proofs.CodeAt.{IsCodeAt, parts}
use Rattle.kumir_compiler.proofs.SlotsHoldCells.{Same, stored, counted, narrowed}
use Rattle.kumir_compiler.proofs.Reach.{here, Reaches, Follows, on_go, on_halt, on_step, on_does, on_asks, on_takes, after_on, after_over, moved}
use Rattle.kumir_compiler.proofs.Operands.{onto, drop_onto, numbers_onto}
use Rattle.kumir_compiler.proofs.Evaluates.{GoesOn, line}
use Rattle.kumir_compiler.proofs.PassedToPlaces.{all_keep}
use Rattle.kumir_compiler.proofs.ArgumentsMean.{with_answer, EnterOk, enters_ok}
use Rattle.kumir_compiler.proofs.SettledPlaces.{settled_ok, settled_err}
use Rattle.kumir_compiler.proofs.ExpressionsMean.{site, spot_of, tree_ok, trees_ok, arguments_ok}

-- the place of a target by its indexes, and how many there are
abbrev pub aim : Place → List Value → Spot
aim ToAnswer vs = AtVariable TheAnswer
aim (ToScalar x) vs = AtVariable (Local x)
aim (ToElement x es) vs = AtElement x (numbers_of vs)

abbrev pub aim_count : Place → ℕ
aim_count ToAnswer = 0
aim_count (ToScalar x) = 0
aim_count (ToElement x es) = count es

no_onto : (vs stack : List Value) → length vs ≡ 0 → onto vs stack ≡ stack
no_onto [] stack e = refl
no_onto (v ∷ vs) stack e = absurd (omega arith)

module _ (al : Allowed) (p : Program) (cs : List CodeUnit) (u : ℕ) (fr : List Frame) (enter : Enter) (names : List CellName) (answer : Option Kind) (first : ℕ) (row : ℕ) (locals : Names) (N d : ℕ) (h : Slots) (ok : EnterOk al p cs u fr enter N) (sc : Slotted names answer locals) where
  abbrev T : Site
  T = site al p cs u fr enter names answer first row locals

  abbrev Lines : List CodeLine
  Lines = (unit_at cs u).body

  -- code that goes on
  abbrev pub Serves : Code → (Then → Then) → Type 0
  Serves code act = (pc end : ℕ) (s : Store) (slots : Slots) (stack : List Value) (k : Then) → IsCodeAt Lines pc code end → Same names d h s slots → GoesOn al cs u fr T N d h end stack k → Reaches al cs N (here u fr pc stack slots s.used) (act k s)

  aims_ok : (x : Place) → IsTarget x T → (pc end : ℕ) (s : Store) (slots : Slots) (stack : List Value) (k : Spot → Then) → IsCodeAt Lines pc (aim_code x T d) end → Same names d h s slots
      → ((vs : List Value) (s1 : Store) (slots1 : Slots) → length vs ≡ aim_count x → Same names d h s1 slots1 → Reaches al cs N (here u fr end (onto vs stack) slots1 s1.used) (k (aim x vs) s1))
      → Reaches al cs N (here u fr pc stack slots s.used) (aims x (spot_of al p cs u fr enter names answer first row locals) k s)
  aims_ok ToAnswer known pc end s slots stack k has same go = moved al cs u fr N pc end stack slots s.used _ has (go [] s slots refl same)
  aims_ok (ToScalar x) known pc end s slots stack k has same go = moved al cs u fr N pc end stack slots s.used _ has (go [] s slots refl same)
  aims_ok (ToElement x es) known pc end s slots stack k has same go =
      trees_ok al p cs u fr enter names answer first es row locals N d h ok sc known.1 pc end s slots stack (λ vs. k (AtElement x (numbers_of vs))) has same (λ vs s1 slots1 len same1. go vs s1 slots1 len same1)

  stores_variable : (x : CellName) (v : Value) (pc : ℕ) (s : Store) (slots : Slots) (stack : List Value) (k : Then) → is_among names x ≡ true → slice_get Lines pc ≡ Some (on T (instruction.Store (slot T x)) pc) → Same names d h s slots → GoesOn al cs u fr T N d h (pc + 1) stack k
      → Reaches al cs N (here u fr pc (v ∷ stack) slots s.used) (k (with_cell s x (Has v)))
  stores_variable x v pc s slots stack k known has same go =
      on_go al cs N _ _ _ (line al cs u fr T N d h pc (v ∷ stack) slots s _ has) (go _ _ (stored names d h s slots x (Has v) (Plain (Has v)) known refl same))

  stores_element : (x : List ℕ) (n : ℕ) (vs : List Value) (v : Value) (pc : ℕ) (s : Store) (slots : Slots) (stack : List Value) (k : Then) → is_among names (Local x) ≡ true → length vs ≡ n → slice_get Lines pc ≡ Some (on T (instruction.PutElem (slot T (Local x)) n) pc) → Same names d h s slots → GoesOn al cs u fr T N d h (pc + 1) stack k
      → (r : Result (List ℤ) RunFault) → checked (s.cells (Local x)) (numbers_of vs) ≡ r → Reaches al cs N (here u fr pc (v ∷ onto vs stack) slots s.used) (unless_fault (settled (AtElement x (numbers_of vs)) s) row (λ at. k (put at (Some v) s)))
  stores_element x n vs v pc s slots stack k known len has same go r e = by_result r e
    where
      now : State
      now = here u fr pc (v ∷ onto vs stack) slots s.used

      puts : List Value → Cell → List ℤ → State
      puts rest c at = next_with now rest (slot T (Local x)) (Plain (with_element c at (Some v)))

      is : (r : Result (List ℤ) RunFault) → checked (s.cells (Local x)) (numbers_of vs) ≡ r → step al cs now ≡ if_fine r row (λ at. puts stack (s.cells (Local x)) at)
      is r e =
          line al cs u fr T N d h pc (v ∷ onto vs stack) slots s _ has
          ∙ ap (λ c. if_fine (checked c (numbers n (onto vs stack))) row (λ at. puts (drop n (onto vs stack)) c at)) (same.vars (Local x) known)
          ∙ ap (λ l. if_fine (checked (s.cells (Local x)) l) row (λ at. puts (drop n (onto vs stack)) (s.cells (Local x)) at)) (numbers_onto vs stack n len)
          ∙ ap (λ l. if_fine (checked (s.cells (Local x)) (numbers_of vs)) row (λ at. puts l (s.cells (Local x)) at)) (drop_onto vs stack n len)
          ∙ ap (λ w. if_fine w row (λ at. puts stack (s.cells (Local x)) at)) e

      by_result : (r : Result (List ℤ) RunFault) → checked (s.cells (Local x)) (numbers_of vs) ≡ r → Reaches al cs N now (unless_fault (settled (AtElement x (numbers_of vs)) s) row (λ at. k (put at (Some v) s)))
      by_result (Err fault) e =
          subst (λ w. Reaches al cs N now (unless_fault w row (λ at. k (put at (Some v) s)))) (sym (settled_err x (numbers_of vs) s fault e)) (on_halt al cs N now (state.Fault row fault) (is (Err fault) e))
      by_result (Ok at) e =
          subst (λ w. Reaches al cs N now (unless_fault w row (λ at. k (put at (Some v) s)))) (sym (settled_ok x (numbers_of vs) at s e))
          (on_go al cs N now _ _ (is (Ok at) e)
          (go _ _ (stored names d h s slots (Local x) (with_element (s.cells (Local x)) at (Some v)) (Plain (with_element (s.cells (Local x)) at (Some v))) known refl same)))

  stores_ok : (x : Place) (vs : List Value) (v : Value) → IsTarget x T → length vs ≡ aim_count x → (pc : ℕ) (s : Store) (slots : Slots) (stack : List Value) (k : Then) → slice_get Lines pc ≡ Some (store_code x T pc) → Same names d h s slots → GoesOn al cs u fr T N d h (pc + 1) stack k
      → Reaches al cs N (here u fr pc (v ∷ onto vs stack) slots s.used) (stores (aim x vs) v (spot_of al p cs u fr enter names answer first row locals) k s)
  stores_ok ToAnswer vs v known len pc s slots stack k has same go =
      subst (λ l. Reaches al cs N (here u fr pc (v ∷ l) slots s.used) (k (with_cell s TheAnswer (Has v)))) (sym (no_onto vs stack len)) (stores_variable TheAnswer v pc s slots stack k (sc.answer_in known) has same go)
  stores_ok (ToScalar x) vs v known len pc s slots stack k has same go =
      subst (λ l. Reaches al cs N (here u fr pc (v ∷ l) slots s.used) (k (with_cell s (Local x) (Has v)))) (sym (no_onto vs stack len)) (stores_variable (Local x) v pc s slots stack k (has_slot names answer locals sc x known) has same go)
  stores_ok (ToElement x es) vs v known len pc s slots stack k has same go = stores_element x (count es) vs v pc s slots stack k (has_slot names answer locals sc x known.0) len has same go (checked (s.cells (Local x)) (numbers_of vs)) refl

  -- the place under another name, for what goes on
  pub goes_at : (q end : ℕ) (stack : List Value) (k : Then) → q ≡ end → GoesOn al cs u fr T N d h end stack k → GoesOn al cs u fr T N d h q stack k
  goes_at q end stack k e go s slots same = moved al cs u fr N q end stack slots s.used (k s) e (go s slots same)

  pub assigns_ok : (x : Place) (e : Tree) → IsTarget x T → IsValue e T → Serves (aim_code x T d ++ (tree_code e T d ++ (store_code x T ∷ []))) (λ k. aims x (spot_of al p cs u fr enter names answer first row locals) (λ at. eval e (spot_of al p cs u fr enter names answer first row locals) (λ v. stores at v (spot_of al p cs u fr enter names answer first row locals) k)))
  assigns_ok x e target known pc end s slots stack k has same go =
      let w = parts Lines pc (aim_code x T d) _ end has in
      let y = parts Lines w.0 (tree_code e T d) _ end w.2 in
      aims_ok x target pc w.0 s slots stack _ w.1 same
      (λ vs s1 slots1 len same1. tree_ok al p cs u fr enter names answer first e row locals N d h ok sc known w.0 y.0 s1 slots1 (onto vs stack) _ y.1 same1
      (λ v s2 slots2 same2. stores_ok x vs v target len y.0 s2 slots2 stack k y.2.0 same2 (goes_at (y.0 + 1) end stack k y.2.1 go)))

  takes_ok : (o : Option Kind) → IsThere o → (x : Place) (vs : List Value) → IsTarget x T → length vs ≡ aim_count x → (pc end : ℕ) (s : Store) (slots : Slots) (stack : List Value) (k : Then) → slice_get Lines pc ≡ Some (on T (instruction.Input (kind_or_whole o)) pc) → slice_get Lines (pc + 1) ≡ Some (store_code x T (pc + 1)) → pc + 1 + 1 ≡ end → Same names d h s slots → GoesOn al cs u fr T N d h end stack k
      → Reaches al cs N (here u fr pc (onto vs stack) slots s.used) (takes_for o (aim x vs) (spot_of al p cs u fr enter names answer first row locals) k s)
  takes_ok None there x vs target len pc end s slots stack k has1 has2 e same go = absurd there
  takes_ok (Some kind) there x vs target len pc end s slots stack k has1 has2 e same go =
      on_takes al cs N _ kind row _ (λ v. stores (aim x vs) v (spot_of al p cs u fr enter names answer first row locals) k) s (line al cs u fr T N d h pc (onto vs stack) slots s _ has1)
      (λ v. stores_ok x vs v target len (pc + 1) s slots stack k has2 same (goes_at (pc + 1 + 1) end stack k e go))

  aim_kind : (x : Place) (vs : List Value) → kind_at (aim x vs) locals ≡ place_kind x T
  aim_kind ToAnswer vs = refl
  aim_kind (ToScalar x) vs = refl
  aim_kind (ToElement x es) vs = refl

  pub inputs_ok : (xs : List Place) → TakeInputs xs T → Serves (inputs_code xs T d) (λ k. inputs xs (spot_of al p cs u fr enter names answer first row locals) k)
  inputs_ok [] known pc end s slots stack k has same go = moved al cs u fr N pc end stack slots s.used _ has (go s slots same)
  inputs_ok (x ∷ xs) known pc end s slots stack k has same go =
      let w = parts Lines pc (aim_code x T d) _ end has in
      aims_ok x known.0 pc w.0 s slots stack _ w.1 same
      (λ vs s1 slots1 len same1. subst (λ o. Reaches al cs N (here u fr w.0 (onto vs stack) slots1 s1.used) (takes_for o (aim x vs) (spot_of al p cs u fr enter names answer first row locals) (λ s2. inputs xs (spot_of al p cs u fr enter names answer first row locals) k s2) s1)) (sym (aim_kind x vs))
      (takes_ok (place_kind x T) known.1 x vs known.0 len w.0 (w.0 + 1 + 1) s1 slots1 stack _ w.2.0 w.2.1.0 refl same1
      (λ s2 slots2 same2. inputs_ok xs known.2 (w.0 + 1 + 1) end s2 slots2 stack k w.2.1.1 same2 go)))

  pub outputs_ok : (xs : List Shown) → AreShown xs T → Serves (outputs_code xs T d) (λ k. outputs xs (spot_of al p cs u fr enter names answer first row locals) k)
  outputs_ok [] known pc end s slots stack k has same go = moved al cs u fr N pc end stack slots s.used _ has (go s slots same)
  outputs_ok (ShowValue e ∷ xs) known pc end s slots stack k has same go =
      let w = parts Lines pc (tree_code e T d) _ end has in
      tree_ok al p cs u fr enter names answer first e row locals N d h ok sc known.0 pc w.0 s slots stack _ w.1 same
      (λ v s1 slots1 same1. on_does al cs N _ _ (Printed (text_of v)) (λ s2. outputs xs (spot_of al p cs u fr enter names answer first row locals) k s2) s1 (line al cs u fr T N d h w.0 (v ∷ stack) slots1 s1 _ w.2.0)
      (outputs_ok xs known.1 (w.0 + 1) end s1 slots1 stack k w.2.1 same1 go))
  outputs_ok (ShowText text ∷ xs) known pc end s slots stack k has same go =
      on_does al cs N _ _ (Printed text) (λ s2. outputs xs (spot_of al p cs u fr enter names answer first row locals) k s2) s (line al cs u fr T N d h pc stack slots s _ has.0)
      (outputs_ok xs known (pc + 1) end s slots stack k has.1 same go)
  outputs_ok (ShowLine ∷ xs) known pc end s slots stack k has same go =
      on_does al cs N _ _ (Printed (10 ∷ [])) (λ s2. outputs xs (spot_of al p cs u fr enter names answer first row locals) k s2) s (line al cs u fr T N d h pc stack slots s _ has.0)
      (outputs_ok xs known (pc + 1) end s slots stack k has.1 same go)

  pub claims_ok : (e : Tree) → IsValue e T → Serves (claim_code e T d) (λ k. claims e (spot_of al p cs u fr enter names answer first row locals) k)
  claims_ok e known pc end s slots stack k has same go =
      let w = parts Lines pc (tree_code e T d) _ end has in
      tree_ok al p cs u fr enter names answer first e row locals N d h ok sc known pc w.0 s slots stack _ w.1 same
      (λ v s1 slots1 same1. asserts (is_yes v) _ _ s1 (line al cs u fr T N d h w.0 (v ∷ stack) slots1 s1 _ w.2.0) (moved al cs u fr N _ _ stack slots1 s1.used (k s1) w.2.1 (go s1 slots1 same1)))
    where
      asserts : (b : Bool) (now then : State) (s1 : Store) → step al cs now ≡ cond b (Go then) (Halt (state.Assert row)) → Reaches al cs N then (k s1) → Reaches al cs N now (choose b k (λ s2. stops (state.Assert row)) s1)
      asserts true now then s1 e r = on_go al cs N now then (k s1) e r
      asserts false now then s1 e r = on_halt al cs N now (state.Assert row) e

  clears_ok : (kind : Kind) (xs : List (List ℕ)) → In names (map (scalar kind) xs) → Serves (map (λ x. on T (instruction.Clear (slot T (Local x)))) xs) (λ k s. k (cleared xs s))
  clears_ok kind [] i pc end s slots stack k has same go = moved al cs u fr N pc end stack slots s.used _ has (go s slots same)
  clears_ok kind (x ∷ xs) i pc end s slots stack k has same go =
      on_go al cs N _ _ _ (line al cs u fr T N d h pc stack slots s _ has.0)
      (clears_ok kind xs i.1 (pc + 1) end _ _ stack k has.1 (stored names d h s slots (Local x) Empty (Plain Empty) i.0 refl same) go)

  -- bounds leave their numbers in pairs
  pub limits_ok : (limits : Limits) → AreLimits limits T → (pc end : ℕ) (s : Store) (slots : Slots) (stack : List Value) (k : List Bound → Then) → IsCodeAt Lines pc (limits_code limits T d) end → Same names d h s slots
      → ((vs : List Value) (s1 : Store) (slots1 : Slots) → length vs ≡ 2 * length limits → Same names d h s1 slots1 → Reaches al cs N (here u fr end (onto vs stack) slots1 s1.used) (k (paired (numbers_of vs)) s1))
      → Reaches al cs N (here u fr pc stack slots s.used) (bounds limits (spot_of al p cs u fr enter names answer first row locals) k s)
  limits_ok [] known pc end s slots stack k has same go = moved al cs u fr N pc end stack slots s.used _ has (go [] s slots (omega arith) same)
  limits_ok (limit ∷ limits) known pc end s slots stack k has same go =
      let w = parts Lines pc (tree_code limit.0 T d) _ end has in
      let y = parts Lines w.0 (tree_code limit.1 T d) _ end w.2 in
      tree_ok al p cs u fr enter names answer first limit.0 row locals N d h ok sc known.0 pc w.0 s slots stack _ w.1 same
      (λ low s1 slots1 same1. tree_ok al p cs u fr enter names answer first limit.1 row locals N d h ok sc known.1 w.0 y.0 s1 slots1 (low ∷ stack) _ y.1 same1
      (λ high s2 slots2 same2. limits_ok limits known.2 y.0 end s2 slots2 (high ∷ low ∷ stack) _ y.2 same2
      (λ vs s3 slots3 len same3. go (low ∷ high ∷ vs) s3 slots3 (omega arith) same3)))

  -- a table made anew, in its two checks
  made_ok : (ordered room : Bool) (now then : State) (made : Store) (k : Store → Rest) → step al cs now ≡ cond ordered (cond room (Go then) (Halt (state.Fault row Elements))) (Halt (state.Fault row Bounds)) → Reaches al cs N then (k made) → Reaches al cs N now (unless_fault (cond ordered (cond room (Ok made) (Err Elements)) (Err Bounds)) row k)
  made_ok true true now then made k e r = on_go al cs N now then (k made) e r
  made_ok true false now then made k e r = on_halt al cs N now (state.Fault row Elements) e
  made_ok false room now then made k e r = on_halt al cs N now (state.Fault row Bounds) e

  makes_ok : (kind : Kind) (xs : List (List ℕ × Limits)) → In names (map (table kind) xs) → AreTables xs T → Serves (tables_code kind xs T d) (λ k. makes kind xs (spot_of al p cs u fr enter names answer first row locals) k)
  makes_ok kind [] i known pc end s slots stack k has same go = moved al cs u fr N pc end stack slots s.used _ has (go s slots same)
  makes_ok kind (x ∷ xs) i known pc end s slots stack k has same go =
      let w = parts Lines pc (limits_code x.1 T d) _ end has in
      limits_ok x.1 known.0 pc w.0 s slots stack _ w.1 same
      (λ vs s1 slots1 len same1.
      let bs = paired (numbers_of vs) in
      let count1 = s1.used - elements_in (s1.cells (Local x.0)) + elements bs in
      made_ok (all_ordered bs) (nat_le count1 al.room) _ (record { unit = u; pc = w.0 + 1; stack = stack; slots = with_slot slots1 (slot T (Local x.0)) (Plain (without_values kind bs)); used = count1; frames = fr }) (record { cells = (with_cell s1 (Local x.0) (without_values kind bs)).cells; used = count1 }) (λ s2. makes kind xs (spot_of al p cs u fr enter names answer first row locals) k s2)
      (line al cs u fr T N d h w.0 (onto vs stack) slots1 s1 _ w.2.0
      ∙ ap (λ l. code.makes_table al.room (slot T (Local x.0)) kind (paired l) row (here u fr w.0 (onto vs stack) slots1 s1.used) (drop (2 * length x.1) (onto vs stack))) (numbers_onto vs stack (2 * length x.1) len)
      ∙ ap (λ l. code.makes_table al.room (slot T (Local x.0)) kind bs row (here u fr w.0 (onto vs stack) slots1 s1.used) l) (drop_onto vs stack (2 * length x.1) len)
      ∙ ap (λ c. cond (all_ordered bs) (cond (nat_le (s1.used - elements_in c + elements bs) al.room) (Go (record { unit = u; pc = w.0 + 1; stack = stack; slots = with_slot slots1 (slot T (Local x.0)) (Plain (without_values kind bs)); used = s1.used - elements_in c + elements bs; frames = fr })) (Halt (state.Fault row Elements))) (Halt (state.Fault row Bounds))) (same1.vars (Local x.0) i.0))
      (makes_ok kind xs i.1 known.1 (w.0 + 1) end _ _ stack k w.2.1
      (counted names d h _ _ count1 (stored names d h s1 slots1 (Local x.0) (without_values kind bs) (Plain (without_values kind bs)) i.0 refl same1)) go))

  pub establishes_ok : (x : Declares) → In names (declares x) → IsDeclared x T → Serves (declares_code x T d) (λ k. establishes x (spot_of al p cs u fr enter names answer first row locals) k)
  establishes_ok (Scalars kind xs) i known = clears_ok kind xs i
  establishes_ok (Tables kind xs) i known = makes_ok kind xs i known

  -- ---- calls as statements
  missing_stack : (o : Option Kind) (v : Value) (stack : List Value) → IsMissing o → with_answer o v stack ≡ stack
  missing_stack None v stack missing = refl
  missing_stack (Some k) v stack missing = absurd missing

  walls : (b : Bool) (now : State) (s : Store) (k : Then) → Reaches al cs N now (k s) → Follows al cs N (cond b (Over (state.Wall row)) (On now)) (choose b (λ s2. stops (state.Wall row)) k s)
  walls true now s k r = after_over al cs N (state.Wall row)
  walls false now s k r = after_on al cs N now (k s) r

  pub invokes_ok : (c : Option (Callee Placed)) (f : List ℕ) → callee_in p f ≡ c → (es : Trees) → IsInvoked c es T → Serves (invoke_code c f es T d) (λ k. invokes c es (spot_of al p cs u fr enter names answer first row locals) k)
  invokes_ok (Some (Called a)) f e es known pc end s slots stack k has same go =
      let w = parts Lines pc (arguments_code es a.algorithm.head.params T d) _ end has in
      arguments_ok al p cs u fr enter names answer first es a.algorithm.head.params row locals N d h ok sc known.1 pc w.0 s slots stack (λ passed. steps_in a passed (spot_of al p cs u fr enter names answer first row locals) (λ v. k)) w.1 same
      (λ passed h1 s1 slots1 agree same1 match. enters_ok al cs u fr T p enter N (d + all_keep es a.algorithm.head.params) h1 f a (call_places es a.algorithm.head.params T d) passed refl ok e match w.0 end s1 slots1 stack (λ v. k) w.2 same1
      (λ v s2 slots2 same2. subst (λ l. Reaches al cs N (here u fr end l slots2 s2.used) (k s2)) (sym (missing_stack a.algorithm.head.gives v stack known.0))
      (go s2 slots2 (narrowed names d (d + all_keep es a.algorithm.head.params) h h1 s2 slots2 (omega arith) agree same2))))
  invokes_ok (Some (BuiltInCall b)) f e es known pc end s slots stack k has same go = absurd known
  invokes_ok (Some (RobotCall c)) f e es known pc end s slots stack k has same go =
      on_step al cs N _ _ (λ s1. asks (Robot c) (λ r. choose (is_wall r) (λ s2. stops (state.Wall row)) k) s1) s (line al cs u fr T N d h pc stack slots s _ has.0)
      (on_asks al cs N _ (Robot c) _ (λ r. choose (is_wall r) (λ s2. stops (state.Wall row)) k) s
      (line al cs u fr T N d h (pc + 1) stack slots s _ has.1.0 ∙ ap (λ b. Asks (Robot c) (λ r. cond b (On (next (here u fr (pc + 1) stack slots s.used) (reply_value r ∷ stack))) (cond (is_wall r) (Over (state.Wall row)) (On (next (here u fr (pc + 1) stack slots s.used) stack))))) known)
      (λ r. walls (is_wall r) _ s k (moved al cs u fr N _ _ stack slots s.used (k s) has.1.1 (go s slots same))))
  invokes_ok (Some (PenCall c)) f e es known pc end s slots stack k has same go =
      let w = parts Lines pc (trees_code es T d) _ end has in
      trees_ok al p cs u fr enter names answer first es row locals N d h ok sc known.1 pc w.0 s slots stack _ w.1 same
      (λ vs s1 slots1 len same1.
      on_step al cs N _ _ (λ s2. does (Sent (Pen (pen_command c (numbers_of vs)))) k s2) s1 (line al cs u fr T N d h w.0 (onto vs stack) slots1 s1 _ w.2.0)
      (on_does al cs N _ _ (Sent (Pen (pen_command c (numbers_of vs)))) k s1
      (line al cs u fr T N d h (w.0 + 1) (onto vs stack) slots1 s1 _ w.2.1.0
      ∙ ap (λ l. Does (Sent (Pen (pen_command c l))) (next (here u fr (w.0 + 1) (onto vs stack) slots1 s1.used) (drop (pen_arity c) (onto vs stack)))) (numbers_onto vs stack (pen_arity c) (len ∙ known.0))
      ∙ ap (λ l. Does (Sent (Pen (pen_command c (numbers_of vs)))) (next (here u fr (w.0 + 1) (onto vs stack) slots1 s1.used) l)) (drop_onto vs stack (pen_arity c) (len ∙ known.0)))
      (moved al cs u fr N _ _ stack slots1 s1.used (k s1) w.2.1.1 (go s1 slots1 same1))))
  invokes_ok None f e es known pc end s slots stack k has same go = absurd known
