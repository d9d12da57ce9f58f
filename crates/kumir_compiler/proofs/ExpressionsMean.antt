-- The code of expressions and arguments does what they mean.
use Rattle.std.proofs.Common.{◌≡◌, ℕ, ◌+◌, ◌<◌, List, [], ◌∷◌, ◌++◌, length, map, Option, Some, None, refl, sym, ap, ◌∙◌, subst, arith}
use Rattle.std.specs.Prelude.{drop}
use Rattle.kumir_tree.specs.declared.kind.Kind.{Kind}
use Rattle.kumir_tree.specs.declared.kind.Kind.TheVariants as kind
use Rattle.kumir_tree.specs.declared.kind.Mode.{Mode}
use Rattle.kumir_tree.specs.declared.kind.Mode.TheVariants.{Arg, Res, ArgRes}
use Rattle.kumir_tree.specs.declared.kind.Op.TheVariants as op
use Rattle.kumir_tree.specs.Tree.{Tree, Number, Truth as TruthOf, Answer, Named, Element, Call, Plus, Minus, Not, Binary, Trees, no_trees, ◌then◌, count}
use Rattle.kumir_tree.specs.Part.{Limits, Formal}
use Rattle.kumir_values.specs.declared.value.Value.{Value}
use Rattle.kumir_values.specs.declared.value.Value.TheVariants.{Whole, Truth}
use Rattle.kumir_names.specs.declared.built_in.BuiltIn.{BuiltIn}
use Rattle.kumir_names.specs.BuiltIns.{built_in_arity}
use Rattle.kumir_names.specs.declared.built_in.BuiltIn.TheVariants.{Div, Iabs, Imax, Imin, Mod}
use Rattle.kumir_names.specs.declared.variable.Variable.{Variable}
use Rattle.kumir_names.specs.Variables.{Names, variable}
use Rattle.kumir_names.specs.Callees.{BuiltInCall, Called, Callee, PenCall, RobotCall}
use Rattle.kumir_meaning.specs.Program.{Placed, Program, callee_in}
use Rattle.kumir_meaning.specs.Store.{CellName, TheAnswer, Local, Store, Spot, AtVariable, AtElement, read, element, read_at}
use Rattle.kumir_meaning.specs.Runs.{Rest, unless_fault, Allowed}
use Rattle.kumir_meaning.specs.Expressions.{Enter, Here, Then, ThenValue, Passed, ByValue, ByPlace, ByTable, calls, named, passes, name_of, steps_in, eval, values, args, fixes}
use Rattle.stack_code.specs.declared.instruction.CodeLine.{CodeLine}
use Rattle.stack_code.specs.declared.instruction.Instruction.TheVariants as instruction
use Rattle.stack_code.specs.declared.unit.CodeUnit.{CodeUnit}
use Rattle.stack_code.specs.CodeState.{State, Frame, Slots, cell_in, numbers}
use Rattle.stack_code.specs.Instructions.{pushes_result, operates, applies, event_of, unit_at}
use Rattle.type_check.specs.Kinds.{form_kind}
use Rattle.kumir_compiler.specs.Code.{Code, Site, on, hidden, position, kept_at, by_kind, among, built_in_code, call_code, named_code, enter_code, argument_code, tree_keeps, keeps, tree_place, call_place, call_places, read_code, tree_code, trees_code, arguments_code, place_code}
use Rattle.kumir_compiler.specs.Compilable.{IsThere, IsLocal, IsValueCall, IsName, IsArgument, IsValue, AreValues, AreArguments, IsPlace}
use Rattle.kumir_compiler.proofs.Variables.{is_among}
use Rattle.kumir_compiler.proofs.LocalsHaveSlots.{Slotted, has_slot}
use Rattle.kumir_compiler.proofs.CodeAt.{IsCodeAt, parts}
use Rattle.kumir_compiler.proofs.SlotsHoldCells.{Same, narrowed}
use Rattle.kumir_compiler.proofs.Reach.{here, Reaches, moved, on_gives}
use Rattle.kumir_compiler.proofs.Operands.{onto, drop_onto, numbers_onto}
use Rattle.kumir_compiler.proofs.Evaluates.{Evaluates, EvaluatesAll, line, pushes, loads, negates, denies, combines, disjoins, conjoins, no_values, more_values, elements_of, applies_to, tests}
use Rattle.kumir_compiler.proofs.PassedToPlaces.{Indexed, SpotAt, Matches, matches_more, MatchAll, pushed, all_pushed, onto_both, all_keep}
use Rattle.kumir_compiler.proofs.ArgumentsMean.{with_answer, EnterOk, fixes_element, enters_ok, loads_kept, kept_length}

module _ (al : Allowed) (p : Program) (cs : List CodeUnit) (u : ℕ) (fr : List Frame) (enter : Enter) (names : List CellName) (answer : Option Kind) (first : ℕ) where
  abbrev pub site : ℕ → Names → Site
  site row locals = record { program = p; variables = names; gives = answer; first = first; line = row; locals = locals }

  abbrev pub spot_of : ℕ → Names → Here
  spot_of row locals = record { program = p; first = first; line = row; locals = locals; room = al.room; enter = enter }

  abbrev Lines : List CodeLine
  Lines = (unit_at cs u).body

  abbrev Agree : ℕ → Slots → Slots → Type 0
  Agree d h h1 = (i : ℕ) → i < d → h1 i ≡ h i

  abbrev TakesSpot : Site → ℕ → ℕ → Slots → ℕ → List Value → Tree → (Spot → Then) → Type 0
  TakesSpot t N d h end stack e k =
      (x : Spot) (h1 : Slots) (s : Store) (slots : Slots) → Agree d h h1 → Same names (d + tree_keeps e) h1 s slots → SpotAt names (d + tree_keeps e) h1 x (tree_place e t d)
      → Reaches al cs N (here u fr end stack slots s.used) (k x s)

  abbrev TakesOne : Site → ℕ → ℕ → Slots → ℕ → List Value → Option Limits → Mode → Tree → (Passed → Then) → Type 0
  TakesOne t N d h end stack o mode e k =
      (a : Passed) (h1 : Slots) (s : Store) (slots : Slots) → Agree d h h1 → Same names (d + keeps o mode e) h1 s slots → Matches mode names (d + keeps o mode e) h1 a (call_place o mode e t d)
      → Reaches al cs N (here u fr end (onto (pushed a) stack) slots s.used) (k a s)

  abbrev pub TakesPassed : Site → ℕ → ℕ → Slots → ℕ → List Value → Trees → List Formal → (List Passed → Then) → Type 0
  TakesPassed t N d h end stack es params k =
      (passed : List Passed) (h1 : Slots) (s : Store) (slots : Slots) → Agree d h h1 → Same names (d + all_keep es params) h1 s slots → MatchAll names (d + all_keep es params) h1 params passed (call_places es params t d)
      → Reaches al cs N (here u fr end (onto (all_pushed passed) stack) slots s.used) (k passed s)

  -- the value at a place that was fixed
  reads_ok : (e : Tree) (t : Site) (x : Spot) (N d : ℕ) (h : Slots) (s : Store) (slots : Slots) (stack : List Value) (pc end : ℕ) (k : Value → Rest) → t.variables ≡ names → IsPlace e t → SpotAt names (d + tree_keeps e) h x (tree_place e t d) → Same t.variables (d + tree_keeps e) h s slots → IsCodeAt Lines pc (read_code e t d) end
      → ((v : Value) → Reaches al cs N (here u fr end (v ∷ stack) slots s.used) (k v)) → Reaches al cs N (here u fr pc stack slots s.used) (unless_fault (read_at x s) t.line k)
  reads_ok (Named x) t (AtVariable y) N d h s slots stack pc end k is known at same has go =
      on_gives al cs (read (s.cells y)) N t.line (here u fr pc stack slots s.used) stack _ k
      (line al cs u fr t N d h pc stack slots s _ has.0
      ∙ ap (λ j. pushes_result (read (cell_in (slots j))) t.line (here u fr pc stack slots s.used) stack) (at.0 ∙ ap (λ l. position l y) (sym is))
      ∙ ap (λ c. pushes_result (read c) t.line (here u fr pc stack slots s.used) stack) (same.vars y (ap (λ l. is_among l y) is ∙ at.1)))
      (λ v. moved al cs u fr N _ _ (v ∷ stack) slots s.used (k v) has.1 (go v))
  reads_ok (Named x) t (AtElement y index) N d h s slots stack pc end k is known at same has go = absurd at
  reads_ok (Element x es) t (AtVariable y) N d h s slots stack pc end k is known at same has go = absurd at
  reads_ok (Element x es) t (AtElement y index) N d h s slots stack pc end k is known at same has go =
      let w = parts Lines pc (map (λ x. on t (instruction.Load x)) (kept_at (count es) (hidden t d) [])) _ end has in
      let lens = kept_length (count es) (hidden t d) [] in
      loads_kept al cs u fr t index (kept_at (count es) (hidden t d) []) N (d + count es) h s slots stack pc w.0 _
      (subst (λ l. Indexed (length l) (d + count es) h index (kept_at (count es) (hidden t d) [])) (sym is) at.2) same w.1
      (λ vs e len. let n : length vs ≡ count es = omega arith in
      on_gives al cs (element (s.cells (Local y)) index) N t.line (here u fr w.0 (onto vs stack) slots s.used) stack _ k
      (line al cs u fr t N d h w.0 (onto vs stack) slots s _ w.2.0
      ∙ ap (λ j. pushes_result (element (cell_in (slots j)) (numbers (count es) (onto vs stack))) t.line (here u fr w.0 (onto vs stack) slots s.used) (drop (count es) (onto vs stack))) (at.0 ∙ ap (λ l. position l (Local y)) (sym is))
      ∙ ap (λ c. pushes_result (element c (numbers (count es) (onto vs stack))) t.line (here u fr w.0 (onto vs stack) slots s.used) (drop (count es) (onto vs stack))) (same.vars (Local y) (ap (λ l. is_among l (Local y)) is ∙ at.1))
      ∙ ap (λ l. pushes_result (element (s.cells (Local y)) l) t.line (here u fr w.0 (onto vs stack) slots s.used) (drop (count es) (onto vs stack))) (numbers_onto vs stack (count es) n ∙ e)
      ∙ ap (λ l. pushes_result (element (s.cells (Local y)) index) t.line (here u fr w.0 (onto vs stack) slots s.used) l) (drop_onto vs stack (count es) n))
      (λ v. moved al cs u fr N _ _ (v ∷ stack) slots s.used (k v) w.2.1 (go v)))
  reads_ok (Number z) t x N d h s slots stack pc end k is known at same has go = absurd known
  reads_ok (TruthOf b) t x N d h s slots stack pc end k is known at same has go = absurd known
  reads_ok Answer t x N d h s slots stack pc end k is known at same has go = absurd known
  reads_ok (Call f es) t x N d h s slots stack pc end k is known at same has go = absurd known
  reads_ok (Plus a) t x N d h s slots stack pc end k is known at same has go = absurd known
  reads_ok (Minus a) t x N d h s slots stack pc end k is known at same has go = absurd known
  reads_ok (Not a) t x N d h s slots stack pc end k is known at same has go = absurd known
  reads_ok (Binary o a b) t x N d h s slots stack pc end k is known at same has go = absurd known

  -- one argument, by its parameter
  argument_ok : (o : Option Limits) (mode : Mode) (e : Tree) (row : ℕ) (locals : Names) (N d : ℕ) (h : Slots) → Slotted names answer locals
      → (IsValue e (site row locals) → Evaluates al cs u fr (site row locals) N d h (tree_code e (site row locals) d) (λ k. eval e (spot_of row locals) k))
      → (IsPlace e (site row locals) → (pc end : ℕ) (s : Store) (slots : Slots) (stack : List Value) (k : Spot → Then) → IsCodeAt Lines pc (place_code e (site row locals) d) end → Same names d h s slots → TakesSpot (site row locals) N d h end stack e k → Reaches al cs N (here u fr pc stack slots s.used) (fixes e (spot_of row locals) k s))
      → IsArgument o mode (IsLocal (site row locals) (name_of e)) (IsValue e (site row locals)) (IsPlace e (site row locals))
      → (pc end : ℕ) (s : Store) (slots : Slots) (stack : List Value) (k : Passed → Then) → IsCodeAt Lines pc (argument_code o mode (tree_code e (site row locals) d) (place_code e (site row locals) d) (read_code e (site row locals) d)) end → Same names d h s slots
      → TakesOne (site row locals) N d h end stack o mode e k
      → Reaches al cs N (here u fr pc stack slots s.used) (passes o mode (name_of e) (λ k1. eval e (spot_of row locals) k1) (λ k1. fixes e (spot_of row locals) k1) (spot_of row locals) k s)
  argument_ok (Some limits) mode e row locals N d h sc iv ip known pc end s slots stack k has same go =
      let z : d ≡ d + 0 = omega arith in
      moved al cs u fr N pc end stack slots s.used _ has (go (ByTable (name_of e)) h s slots (λ i b. refl) (subst (λ n. Same names n h s slots) z same) (refl, has_slot names answer locals sc (name_of e) known))
  argument_ok None Arg e row locals N d h sc iv ip known pc end s slots stack k has same go =
      let z : d ≡ d + 0 = omega arith in
      iv known pc end s slots stack (λ v. k (ByValue v)) has same
      (λ v s1 slots1 same1. go (ByValue v) h s1 slots1 (λ i b. refl) (subst (λ n. Same names n h s1 slots1) z same1) tt)
  argument_ok None Res e row locals N d h sc iv ip known pc end s slots stack k has same go =
      ip known pc end s slots stack (λ x. k (ByPlace x None)) has same
      (λ x h1 s1 slots1 agree same1 at. go (ByPlace x None) h1 s1 slots1 agree same1 (at, tt))
  argument_ok None ArgRes e row locals N d h sc iv ip known pc end s slots stack k has same go =
      let w = parts Lines pc (place_code e (site row locals) d) _ end has in
      ip known pc w.0 s slots stack (λ x s1. unless_fault (read_at x s1) row (λ v. k (ByPlace x (Some v)) s1)) w.1 same
      (λ x h1 s1 slots1 agree same1 at. reads_ok e (site row locals) x N d h1 s1 slots1 stack w.0 end (λ v. k (ByPlace x (Some v)) s1) refl known at same1 w.2
      (λ v. go (ByPlace x (Some v)) h1 s1 slots1 agree same1 (at, tt)))

  there_stack : (o : Option Kind) (v : Value) (stack : List Value) → IsThere o → with_answer o v stack ≡ v ∷ stack
  there_stack None v stack there = absurd there
  there_stack (Some k) v stack there = refl

  -- a call of an algorithm with a kind, behind its arguments
  answers_ok : (f : List ℕ) (a : Placed) (es : Trees) (row : ℕ) (locals : Names) (N d : ℕ) (h : Slots) → EnterOk al p cs u fr enter N → callee_in p f ≡ Some (Called a) → IsThere a.algorithm.head.gives
      → ((pc end : ℕ) (s : Store) (slots : Slots) (stack : List Value) (k : List Passed → Then) → IsCodeAt Lines pc (arguments_code es a.algorithm.head.params (site row locals) d) end → Same names d h s slots → TakesPassed (site row locals) N d h end stack es a.algorithm.head.params k → Reaches al cs N (here u fr pc stack slots s.used) (args es a.algorithm.head.params (spot_of row locals) k s))
      → Evaluates al cs u fr (site row locals) N d h (arguments_code es a.algorithm.head.params (site row locals) d ++ enter_code f (call_places es a.algorithm.head.params (site row locals) d) (site row locals)) (λ k. args es a.algorithm.head.params (spot_of row locals) (λ passed. steps_in a passed (spot_of row locals) k))
  answers_ok f a es row locals N d h ok e there ia pc end s slots stack k has same go =
      let w = parts Lines pc (arguments_code es a.algorithm.head.params (site row locals) d) _ end has in
      ia pc w.0 s slots stack (λ passed. steps_in a passed (spot_of row locals) k) w.1 same
      (λ passed h1 s1 slots1 agree same1 match. enters_ok al cs u fr (site row locals) p enter N (d + all_keep es a.algorithm.head.params) h1 f a (call_places es a.algorithm.head.params (site row locals) d) passed refl ok e match w.0 end s1 slots1 stack k w.2 same1
      (λ v s2 slots2 same2. subst (λ l. Reaches al cs N (here u fr end l slots2 s2.used) (k v s2)) (sym (there_stack a.algorithm.head.gives v stack there))
      (go v s2 slots2 (narrowed names d (d + all_keep es a.algorithm.head.params) h h1 s2 slots2 (omega arith) agree same2))))

  built_in_acts : (b : BuiltIn) (row : ℕ) (s : State) → event_of al cs (built_in_code b) row s ≡ applies b (built_in_arity b) row s
  built_in_acts Div row s = refl
  built_in_acts Mod row s = refl
  built_in_acts Iabs row s = refl
  built_in_acts Imin row s = refl
  built_in_acts Imax row s = refl

  equal_acts : (o : Option Kind) (row : ℕ) (s : State) → event_of al cs (by_kind o instruction.Eq instruction.EqTruth) row s ≡ operates op.Equal row s
  equal_acts None row s = refl
  equal_acts (Some kind.Whole) row s = refl
  equal_acts (Some kind.Truth) row s = refl

  not_equal_acts : (o : Option Kind) (row : ℕ) (s : State) → event_of al cs (by_kind o instruction.Ne instruction.NeTruth) row s ≡ operates op.NotEqual row s
  not_equal_acts None row s = refl
  not_equal_acts (Some kind.Whole) row s = refl
  not_equal_acts (Some kind.Truth) row s = refl

  -- a call by what is called
  calls_ok : (c : Option (Callee Placed)) (f : List ℕ) → callee_in p f ≡ c → (row : ℕ) (locals : Names) (N d : ℕ) (h : Slots) (algorithm : Placed → Code) (vals : Code) (enters : Placed → ThenValue → Then) (computes : BuiltIn → ThenValue → Then) (wa : Placed → Type 0) (wb : BuiltIn → Type 0)
      → ((a : Placed) → callee_in p f ≡ Some (Called a) → IsThere a.algorithm.head.gives → wa a → Evaluates al cs u fr (site row locals) N d h (algorithm a) (enters a))
      → ((b : BuiltIn) → wb b → Evaluates al cs u fr (site row locals) N d h (vals ++ (on (site row locals) (built_in_code b) ∷ [])) (computes b))
      → IsValueCall c wa wb → Evaluates al cs u fr (site row locals) N d h (call_code c algorithm vals (site row locals)) (λ k. calls c (λ a. enters a k) (λ b. computes b k) (spot_of row locals) k)
  calls_ok (Some (Called a)) f e row locals N d h algorithm vals enters computes wa wb ia ib known = ia a e known.0 known.1
  calls_ok (Some (BuiltInCall b)) f e row locals N d h algorithm vals enters computes wa wb ia ib known = ib b known
  calls_ok (Some (RobotCall c)) f e row locals N d h algorithm vals enters computes wa wb ia ib known = tests al cs u fr (site row locals) N d h c known
  calls_ok (Some (PenCall c)) f e row locals N d h algorithm vals enters computes wa wb ia ib known = absurd known
  calls_ok None f e row locals N d h algorithm vals enters computes wa wb ia ib known = absurd known

  named_ok : (o : Option Variable) (x : List ℕ) (row : ℕ) (locals : Names) (N d : ℕ) (h : Slots) → EnterOk al p cs u fr enter N → Slotted names answer locals → variable locals x ≡ o → IsName o x (site row locals) → Evaluates al cs u fr (site row locals) N d h (named_code o x (site row locals)) (λ k. named o x (spot_of row locals) k)
  named_ok (Some v) x row locals N d h ok sc is known = loads al cs u fr (site row locals) N d h (Local x) (has_slot names answer locals sc x (subst IsThere (sym is) tt))
  named_ok None x row locals N d h ok sc is known =
      calls_ok (callee_in p x) x refl row locals N d h (λ a. enter_code x [] (site row locals)) [] (λ a k. steps_in a [] (spot_of row locals) k) _ (λ a. Unit {0}) (λ b. ⊥)
      (λ a e there w pc end s slots stack k has same go. enters_ok al cs u fr (site row locals) p enter N d h x a [] [] refl ok e tt pc end s slots stack k has same
      (λ v s2 slots2 same2. subst (λ l. Reaches al cs N (here u fr end l slots2 s2.used) (k v s2)) (sym (there_stack a.algorithm.head.gives v stack there)) (go v s2 slots2 same2)))
      (λ b w. absurd w) known

  mutual
    pub tree_ok : (e : Tree) (row : ℕ) (locals : Names) (N d : ℕ) (h : Slots) → EnterOk al p cs u fr enter N → Slotted names answer locals → IsValue e (site row locals) → Evaluates al cs u fr (site row locals) N d h (tree_code e (site row locals) d) (λ k. eval e (spot_of row locals) k)
    tree_ok (Number z) row locals N d h ok sc known = pushes al cs u fr (site row locals) N d h (Whole z)
    tree_ok (TruthOf b) row locals N d h ok sc known = pushes al cs u fr (site row locals) N d h (Truth b)
    tree_ok Answer row locals N d h ok sc known = loads al cs u fr (site row locals) N d h TheAnswer (sc.answer_in known)
    tree_ok (Named x) row locals N d h ok sc known = named_ok (variable locals x) x row locals N d h ok sc refl known
    tree_ok (Element x es) row locals N d h ok sc known =
        elements_of al cs u fr (site row locals) N d h x (count es) (trees_code es (site row locals) d) (λ k. values es (spot_of row locals) k) (has_slot names answer locals sc x known.0) (trees_ok es row locals N d h ok sc known.1)
    tree_ok (Call f es) row locals N d h ok sc known =
        calls_ok (callee_in p f) f refl row locals N d h
        (λ a. arguments_code es a.algorithm.head.params (site row locals) d ++ enter_code f (call_places es a.algorithm.head.params (site row locals) d) (site row locals))
        (trees_code es (site row locals) d)
        (λ a k. args es a.algorithm.head.params (spot_of row locals) (λ passed. steps_in a passed (spot_of row locals) k)) _
        (λ a. AreArguments es a.algorithm.head.params (site row locals)) (λ b. (count es ≡ built_in_arity b) × AreValues es (site row locals))
        (λ a e there w. answers_ok f a es row locals N d h ok e there (arguments_ok es a.algorithm.head.params row locals N d h ok sc w))
        (λ b w. applies_to al cs u fr (site row locals) N d h b (built_in_arity b) (built_in_code b) (trees_code es (site row locals) d) (λ k. values es (spot_of row locals) k) (built_in_acts b row)
        (subst (λ n. EvaluatesAll al cs u fr (site row locals) N d h n (trees_code es (site row locals) d) (λ k. values es (spot_of row locals) k)) w.0 (trees_ok es row locals N d h ok sc w.1)))
        known
    tree_ok (Plus a) row locals N d h ok sc known = tree_ok a row locals N d h ok sc known
    tree_ok (Minus a) row locals N d h ok sc known = negates al cs u fr (site row locals) N d h (tree_code a (site row locals) d) (λ k. eval a (spot_of row locals) k) (tree_ok a row locals N d h ok sc known)
    tree_ok (Not a) row locals N d h ok sc known = denies al cs u fr (site row locals) N d h (tree_code a (site row locals) d) (λ k. eval a (spot_of row locals) k) (tree_ok a row locals N d h ok sc known)
    tree_ok (Binary op.Or a b) row locals N d h ok sc known = disjoins al cs u fr (site row locals) N d h _ _ (λ k. eval a (spot_of row locals) k) (λ k. eval b (spot_of row locals) k) (tree_ok a row locals N d h ok sc known.0) (tree_ok b row locals N d h ok sc known.1)
    tree_ok (Binary op.And a b) row locals N d h ok sc known = conjoins al cs u fr (site row locals) N d h _ _ (λ k. eval a (spot_of row locals) k) (λ k. eval b (spot_of row locals) k) (tree_ok a row locals N d h ok sc known.0) (tree_ok b row locals N d h ok sc known.1)
    tree_ok (Binary op.Equal a b) row locals N d h ok sc known = combines al cs u fr (site row locals) N d h op.Equal (by_kind (form_kind (among (site row locals)) a) instruction.Eq instruction.EqTruth) _ _ (λ k. eval a (spot_of row locals) k) (λ k. eval b (spot_of row locals) k) (λ v. refl) (equal_acts (form_kind (among (site row locals)) a) row) (tree_ok a row locals N d h ok sc known.0) (tree_ok b row locals N d h ok sc known.1)
    tree_ok (Binary op.NotEqual a b) row locals N d h ok sc known = combines al cs u fr (site row locals) N d h op.NotEqual (by_kind (form_kind (among (site row locals)) a) instruction.Ne instruction.NeTruth) _ _ (λ k. eval a (spot_of row locals) k) (λ k. eval b (spot_of row locals) k) (λ v. refl) (not_equal_acts (form_kind (among (site row locals)) a) row) (tree_ok a row locals N d h ok sc known.0) (tree_ok b row locals N d h ok sc known.1)
    tree_ok (Binary op.Less a b) row locals N d h ok sc known = combines al cs u fr (site row locals) N d h op.Less instruction.Lt _ _ (λ k. eval a (spot_of row locals) k) (λ k. eval b (spot_of row locals) k) (λ v. refl) (λ s. refl) (tree_ok a row locals N d h ok sc known.0) (tree_ok b row locals N d h ok sc known.1)
    tree_ok (Binary op.Greater a b) row locals N d h ok sc known = combines al cs u fr (site row locals) N d h op.Greater instruction.Gt _ _ (λ k. eval a (spot_of row locals) k) (λ k. eval b (spot_of row locals) k) (λ v. refl) (λ s. refl) (tree_ok a row locals N d h ok sc known.0) (tree_ok b row locals N d h ok sc known.1)
    tree_ok (Binary op.LessOrEqual a b) row locals N d h ok sc known = combines al cs u fr (site row locals) N d h op.LessOrEqual instruction.Le _ _ (λ k. eval a (spot_of row locals) k) (λ k. eval b (spot_of row locals) k) (λ v. refl) (λ s. refl) (tree_ok a row locals N d h ok sc known.0) (tree_ok b row locals N d h ok sc known.1)
    tree_ok (Binary op.GreaterOrEqual a b) row locals N d h ok sc known = combines al cs u fr (site row locals) N d h op.GreaterOrEqual instruction.Ge _ _ (λ k. eval a (spot_of row locals) k) (λ k. eval b (spot_of row locals) k) (λ v. refl) (λ s. refl) (tree_ok a row locals N d h ok sc known.0) (tree_ok b row locals N d h ok sc known.1)
    tree_ok (Binary op.Plus a b) row locals N d h ok sc known = combines al cs u fr (site row locals) N d h op.Plus instruction.Add _ _ (λ k. eval a (spot_of row locals) k) (λ k. eval b (spot_of row locals) k) (λ v. refl) (λ s. refl) (tree_ok a row locals N d h ok sc known.0) (tree_ok b row locals N d h ok sc known.1)
    tree_ok (Binary op.Minus a b) row locals N d h ok sc known = combines al cs u fr (site row locals) N d h op.Minus instruction.Sub _ _ (λ k. eval a (spot_of row locals) k) (λ k. eval b (spot_of row locals) k) (λ v. refl) (λ s. refl) (tree_ok a row locals N d h ok sc known.0) (tree_ok b row locals N d h ok sc known.1)
    tree_ok (Binary op.Times a b) row locals N d h ok sc known = combines al cs u fr (site row locals) N d h op.Times instruction.Mul _ _ (λ k. eval a (spot_of row locals) k) (λ k. eval b (spot_of row locals) k) (λ v. refl) (λ s. refl) (tree_ok a row locals N d h ok sc known.0) (tree_ok b row locals N d h ok sc known.1)
    tree_ok (Binary op.Power a b) row locals N d h ok sc known = combines al cs u fr (site row locals) N d h op.Power instruction.Pow _ _ (λ k. eval a (spot_of row locals) k) (λ k. eval b (spot_of row locals) k) (λ v. refl) (λ s. refl) (tree_ok a row locals N d h ok sc known.0) (tree_ok b row locals N d h ok sc known.1)

    pub trees_ok : (es : Trees) (row : ℕ) (locals : Names) (N d : ℕ) (h : Slots) → EnterOk al p cs u fr enter N → Slotted names answer locals → AreValues es (site row locals) → EvaluatesAll al cs u fr (site row locals) N d h (count es) (trees_code es (site row locals) d) (λ k. values es (spot_of row locals) k)
    trees_ok no_trees row locals N d h ok sc known = no_values al cs u fr (site row locals) N d h
    trees_ok (e then es) row locals N d h ok sc known =
        more_values al cs u fr (site row locals) N d h (count es) (tree_code e (site row locals) d) (trees_code es (site row locals) d) (λ k. eval e (spot_of row locals) k) (λ k. values es (spot_of row locals) k) (tree_ok e row locals N d h ok sc known.0) (trees_ok es row locals N d h ok sc known.1)

    pub arguments_ok : (es : Trees) (params : List Formal) (row : ℕ) (locals : Names) (N d : ℕ) (h : Slots) → EnterOk al p cs u fr enter N → Slotted names answer locals → AreArguments es params (site row locals)
        → (pc end : ℕ) (s : Store) (slots : Slots) (stack : List Value) (k : List Passed → Then) → IsCodeAt Lines pc (arguments_code es params (site row locals) d) end → Same names d h s slots → TakesPassed (site row locals) N d h end stack es params k
        → Reaches al cs N (here u fr pc stack slots s.used) (args es params (spot_of row locals) k s)
    arguments_ok no_trees params row locals N d h ok sc known pc end s slots stack k has same go =
        let z : d ≡ d + 0 = omega arith in
        moved al cs u fr N pc end stack slots s.used _ has (go [] h s slots (λ i b. refl) (subst (λ n. Same names n h s slots) z same) tt)
    arguments_ok (e then es) [] row locals N d h ok sc known pc end s slots stack k has same go =
        let z : d ≡ d + 0 = omega arith in
        moved al cs u fr N pc end stack slots s.used _ has (go [] h s slots (λ i b. refl) (subst (λ n. Same names n h s slots) z same) tt)
    arguments_ok (e then es) (x ∷ params) row locals N d h ok sc known pc end s slots stack k has same go =
        let t = site row locals in
        let m = keeps x.bounds x.mode e in
        let w = parts Lines pc (argument_code x.bounds x.mode (tree_code e t d) (place_code e t d) (read_code e t d)) _ end has in
        let z : d + m + all_keep es params ≡ d + (m + all_keep es params) = omega arith in
        argument_ok x.bounds x.mode e row locals N d h sc (λ k1. tree_ok e row locals N d h ok sc k1) (λ k1. place_ok e row locals N d h ok sc k1) known.0 pc w.0 s slots stack _ w.1 same
        (λ a h1 s1 slots1 agree same1 match. arguments_ok es params row locals N (d + m) h1 ok sc known.1 w.0 end s1 slots1 (onto (pushed a) stack) _ w.2 same1
        (λ more h2 s2 slots2 agree2 same2 match2. subst (λ l. Reaches al cs N (here u fr end l slots2 s2.used) (k (a ∷ more) s2)) (onto_both (pushed a) (all_pushed more) stack)
        (go (a ∷ more) h2 s2 slots2 (λ i b. agree2 i (omega arith) ∙ agree i b) (subst (λ n. Same names n h2 s2 slots2) z same2) (
          matches_more x.mode names (d + m) (d + (m + all_keep es params)) h1 h2 a (call_place x.bounds x.mode e t d) (omega arith) agree2 match,
          subst (λ n. MatchAll names n h2 params more (call_places es params t (d + m))) z match2,
        ))))

    pub place_ok : (e : Tree) (row : ℕ) (locals : Names) (N d : ℕ) (h : Slots) → EnterOk al p cs u fr enter N → Slotted names answer locals → IsPlace e (site row locals)
        → (pc end : ℕ) (s : Store) (slots : Slots) (stack : List Value) (k : Spot → Then) → IsCodeAt Lines pc (place_code e (site row locals) d) end → Same names d h s slots → TakesSpot (site row locals) N d h end stack e k
        → Reaches al cs N (here u fr pc stack slots s.used) (fixes e (spot_of row locals) k s)
    place_ok (Named x) row locals N d h ok sc known pc end s slots stack k has same go =
        let z : d ≡ d + 0 = omega arith in
        moved al cs u fr N pc end stack slots s.used _ has (go (AtVariable (Local x)) h s slots (λ i b. refl) (subst (λ n. Same names n h s slots) z same) (refl, has_slot names answer locals sc x known))
    place_ok (Element x es) row locals N d h ok sc known pc end s slots stack k has same go =
        fixes_element al cs u fr (site row locals) x (count es) N d h (trees_code es (site row locals) d) (λ k1. values es (spot_of row locals) k1) (has_slot names answer locals sc x known.0) (trees_ok es row locals N d h ok sc known.1) pc end s slots stack k has same
        (λ index h1 s1 slots1 agree same1 indexed. go (AtElement x index) h1 s1 slots1 agree same1 (refl, has_slot names answer locals sc x known.0, indexed))
    place_ok (Number z) row locals N d h ok sc known pc end s slots stack k has same go = absurd known
    place_ok (TruthOf b) row locals N d h ok sc known pc end s slots stack k has same go = absurd known
    place_ok Answer row locals N d h ok sc known pc end s slots stack k has same go = absurd known
    place_ok (Call f es) row locals N d h ok sc known pc end s slots stack k has same go = absurd known
    place_ok (Plus a) row locals N d h ok sc known pc end s slots stack k has same go = absurd known
    place_ok (Minus a) row locals N d h ok sc known pc end s slots stack k has same go = absurd known
    place_ok (Not a) row locals N d h ok sc known pc end s slots stack k has same go = absurd known
    place_ok (Binary o a b) row locals N d h ok sc known pc end s slots stack k has same go = absurd known
