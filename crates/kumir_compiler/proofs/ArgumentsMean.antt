-- Places of arguments, and the begin of a call.
use Rattle.std.proofs.Common.{◌≡◌, ℕ, zero, suc, ◌+◌, ◌<◌, ◌≤◌, Bool, true, false, cond, List, [], ◌∷◌, ◌++◌, length, map, Option, Some, None, Result, Ok, Err, refl, sym, ap, ◌∙◌, subst, arith}
use Rattle.std.specs.Prelude.{ℤ, slice_get}
use Rattle.kumir_tree.specs.declared.kind.Kind.{Kind}
use Rattle.kumir_values.specs.declared.value.Value.{Value}
use Rattle.kumir_values.specs.declared.run_end.RunFault.{RunFault}
use Rattle.kumir_values.specs.declared.run_end.RunFault.TheVariants.{Index}
use Rattle.kumir_values.specs.Bounds.{inside}
use Rattle.kumir_names.specs.Callees.{Called}
use Rattle.kumir_meaning.specs.Program.{Placed, Program, callee_in}
use Rattle.kumir_meaning.specs.Operators.{number_of}
use Rattle.kumir_meaning.specs.Store.{CellName, Local, Store, Cell, Empty, Has, Holds, Spot, AtElement, read, checked, settled}
use Rattle.kumir_meaning.specs.Runs.{Rest, unless_fault, tick, Fault, Allowed}
use Rattle.kumir_meaning.specs.Expressions.{Enter, Then, ThenValue, ThenValues, Passed, numbers_of}
use Rattle.stack_code.specs.declared.instruction.CallPlace.{CallPlace}
use Rattle.stack_code.specs.declared.instruction.Instruction.TheVariants as instruction
use Rattle.stack_code.specs.declared.unit.CodeUnit.{CodeUnit}
use Rattle.stack_code.specs.CodeState.{Frame, Slots, Plain, with_slot, cell_in, numbers, next}
use Rattle.stack_code.specs.Instructions.{pushes_result, if_fine, unit_at}
use Rattle.kumir_compiler.specs.Code.{Code, Site, on, slot, hidden, keep_code, kept_at, enter_code, number_of_unit}
use Rattle.kumir_compiler.proofs.Variables.{is_among}
use Rattle.kumir_compiler.proofs.CodeAt.{IsCodeAt, parts}
use Rattle.kumir_compiler.proofs.SlotsHoldCells.{Same, grown, grown_agree, with_same}
use Rattle.kumir_compiler.proofs.Reach.{here, Reaches, fewer, on_go, on_halt, on_tick, on_last, moved}
use Rattle.kumir_compiler.proofs.Operands.{onto, numbers_onto}
use Rattle.kumir_compiler.proofs.Evaluates.{Body, EvaluatesAll, line}
use Rattle.kumir_compiler.proofs.PassedToPlaces.{Indexed, indexed_more, MatchAll, all_pushed, back, back_numbers, onto_split, onto_length}
use Rattle.kumir_compiler.proofs.SettledPlaces.{settled_ok, settled_err}

checked_is : (c : Cell) (index at : List ℤ) → checked c index ≡ Ok at → at ≡ index
checked_is Empty index at e = cc
checked_is (Has v) index at e = cc
checked_is (Holds m) index at e = go (inside m.bounds index) e
  where
    go : (b : Bool) → cond b (Ok index) (Err Index) ≡ Ok at → at ≡ index
    go true e = cc
    go false e = cc

-- the value of an algorithm with a kind
abbrev pub with_answer : Option Kind → Value → List Value → List Value
with_answer None v stack = stack
with_answer (Some k) v stack = v ∷ stack

-- what is asked of the entering of algorithms: below N steps each call goes on behind itself, with the caller's variables
pub record EnterOk (al : Allowed) (p : Program) (cs : List CodeUnit) (u : ℕ) (fr : List Frame) (enter : Enter) (N : ℕ) : Type 0 where
  pub by : (M : ℕ) → suc M ≤ N → (f : List ℕ) (a : Placed) → callee_in p f ≡ Some (Called a) → (names : List CellName) (row pc : ℕ) (places : List CallPlace)
      → slice_get (unit_at cs u).body pc ≡ Some (record { line = row; what = instruction.Call (number_of_unit p.algorithms f) places })
      → (D : ℕ) (h : Slots) (s : Store) (slots : Slots) (passed : List Passed) (stack : List Value) (k : ThenValue)
      → MatchAll names D h a.algorithm.head.params passed places → Same names D h s slots
      → ((v : Value) (s1 : Store) (slots1 : Slots) → Same names D h s1 slots1 → Reaches al cs M (here u fr (pc + 1) (with_answer a.algorithm.head.gives v stack) slots1 s1.used) (k v s1))
      → Reaches al cs M (here u fr pc (onto (all_pushed passed) stack) slots s.used) (enter row a passed s k)

pub enter_fewer : (al : Allowed) (p : Program) (cs : List CodeUnit) (u : ℕ) (fr : List Frame) (enter : Enter) (N M : ℕ) → N ≤ M → EnterOk al p cs u fr enter M → EnterOk al p cs u fr enter N
enter_fewer al p cs u fr enter N M le ok = record { by = λ K lt. ok.by K (omega arith) }

module _ (al : Allowed) (cs : List CodeUnit) (u : ℕ) (fr : List Frame) (t : Site) where
  -- the values on top go into hidden slots, the topmost first
  pub keep_ok : (m : ℕ) (top : List Value) (N D x : ℕ) (h : Slots) (s : Store) (slots : Slots) (stack : List Value) (zs : List ℤ) (at : List ℕ) (pc end : ℕ) (a : Rest)
      → length top ≡ m → x ≡ length t.variables + D → Indexed (length t.variables) D h zs at → Same t.variables D h s slots → IsCodeAt (Body al cs u fr t N D h) pc (keep_code m x t) end
      → ((h1 slots1 : Slots) → ((i : ℕ) → i < D → h1 i ≡ h i) → Same t.variables (D + m) h1 s slots1 → Indexed (length t.variables) (D + m) h1 (back top zs) (kept_at m x at) → Reaches al cs N (here u fr end stack slots1 s.used) a)
      → Reaches al cs N (here u fr pc (top ++ stack) slots s.used) a
  keep_ok zero [] N D x h s slots stack zs at pc end a len is indexed same has go =
      let z : D ≡ D + 0 = omega arith in
      moved al cs u fr N pc end stack slots s.used a has
      (go h slots (λ i b. refl) (subst (λ n. Same t.variables n h s slots) z same) (subst (λ n. Indexed (length t.variables) n h zs at) z indexed))
  keep_ok zero (v ∷ top) N D x h s slots stack zs at pc end a len is indexed same has go = absurd (omega arith)
  keep_ok (suc m) [] N D x h s slots stack zs at pc end a len is indexed same has go = absurd (omega arith)
  keep_ok (suc m) (v ∷ top) N D x h s slots stack zs at pc end a len is indexed same has go =
      let z : D + 1 + m ≡ D + suc m = omega arith in
      let h2 = with_slot h D (Plain (Has v)) in
      let same2 = subst (λ y. Same t.variables (D + 1) h2 s (with_slot slots y (Plain (Has v)))) (sym is) (grown t.variables D h s slots (Plain (Has v)) same) in
      let less : D < D + 1 = omega arith in
      let le : D ≤ D + 1 = omega arith in
      on_go al cs N _ _ a (line al cs u fr t N D h pc (v ∷ (top ++ stack)) slots s _ has.0)
      (keep_ok m top N (D + 1) (suc x) h2 s (with_slot slots x (Plain (Has v))) stack (number_of v ∷ zs) (x ∷ at) (pc + 1) end a (omega arith) (omega arith)
      ((D, v, is, less, with_same h D (Plain (Has v)), refl), indexed_more (length t.variables) D (D + 1) h h2 zs at le (λ i b. grown_agree h D i (Plain (Has v)) b) indexed)
      same2 has.1
      (λ h1 slots1 agree same1 indexed1. go h1 slots1 (λ i b. agree i (omega arith) ∙ grown_agree h D i (Plain (Has v)) b)
      (subst (λ n. Same t.variables n h1 s slots1) z same1)
      (subst (λ n. Indexed (length t.variables) n h1 (back (v ∷ top) zs) (kept_at (suc m) x at)) z indexed1)))

  -- an element whose indexes are checked and kept
  pub fixes_element : (x : List ℕ) (n N d : ℕ) (h : Slots) (b : Code) (evb : ThenValues → Then) → is_among t.variables (Local x) ≡ true → EvaluatesAll al cs u fr t N d h n b evb
      → (pc end : ℕ) (s : Store) (slots : Slots) (stack : List Value) (k : Spot → Then) → IsCodeAt (Body al cs u fr t N d h) pc (b ++ (on t (instruction.Probe (slot t (Local x)) n) ∷ keep_code n (hidden t d) t)) end → Same t.variables d h s slots
      → ((index : List ℤ) (h1 : Slots) (s1 : Store) (slots1 : Slots) → ((i : ℕ) → i < d → h1 i ≡ h i) → Same t.variables (d + n) h1 s1 slots1 → Indexed (length t.variables) (d + n) h1 index (kept_at n (hidden t d) []) → Reaches al cs N (here u fr end stack slots1 s1.used) (k (AtElement x index) s1))
      → Reaches al cs N (here u fr pc stack slots s.used) (evb (λ is s1. unless_fault (settled (AtElement x (numbers_of is)) s1) t.line (λ spot. k spot s1)) s)
  fixes_element x n N d h b evb known eb pc end s slots stack k has same go =
      let y = parts (Body al cs u fr t N d h) pc b _ end has in
      eb pc y.0 s slots stack _ y.1 same (λ vs s1 slots1 len same1. probed y.0 y.2 vs s1 slots1 len same1 (checked (s1.cells (Local x)) (numbers_of vs)) refl)
    where
      probed : (at : ℕ) → IsCodeAt (Body al cs u fr t N d h) at (on t (instruction.Probe (slot t (Local x)) n) ∷ keep_code n (hidden t d) t) end → (vs : List Value) (s1 : Store) (slots1 : Slots) → length vs ≡ n → Same t.variables d h s1 slots1
          → (r : Result (List ℤ) RunFault) → checked (s1.cells (Local x)) (numbers_of vs) ≡ r → Reaches al cs N (here u fr at (onto vs stack) slots1 s1.used) (unless_fault (settled (AtElement x (numbers_of vs)) s1) t.line (λ spot. k spot s1))
      probed at h1 vs s1 slots1 len same1 (Err fault) e =
          subst (λ w. Reaches al cs N (here u fr at (onto vs stack) slots1 s1.used) (unless_fault w t.line (λ spot. k spot s1))) (sym (settled_err x (numbers_of vs) s1 fault e))
          (on_halt al cs N _ (Fault t.line fault) (line al cs u fr t N d h at (onto vs stack) slots1 s1 _ h1.0
          ∙ ap (λ c. if_fine (checked c (numbers n (onto vs stack))) t.line (λ w. next (here u fr at (onto vs stack) slots1 s1.used) (onto vs stack))) (same1.vars (Local x) known)
          ∙ ap (λ l. if_fine (checked (s1.cells (Local x)) l) t.line (λ w. next (here u fr at (onto vs stack) slots1 s1.used) (onto vs stack))) (numbers_onto vs stack n len)
          ∙ ap (λ w. if_fine w t.line (λ w. next (here u fr at (onto vs stack) slots1 s1.used) (onto vs stack))) e))
      probed at h1 vs s1 slots1 len same1 (Ok is) e =
          let same_index : is ≡ numbers_of vs = checked_is (s1.cells (Local x)) (numbers_of vs) is e in
          let top : length (onto vs []) ≡ n = onto_length vs [] ∙ (let z : length vs + 0 ≡ n = omega arith in z) in
          subst (λ w. Reaches al cs N (here u fr at (onto vs stack) slots1 s1.used) (unless_fault w t.line (λ spot. k spot s1))) (sym (settled_ok x (numbers_of vs) is s1 e))
          (on_go al cs N _ _ _ (line al cs u fr t N d h at (onto vs stack) slots1 s1 _ h1.0
          ∙ ap (λ c. if_fine (checked c (numbers n (onto vs stack))) t.line (λ w. next (here u fr at (onto vs stack) slots1 s1.used) (onto vs stack))) (same1.vars (Local x) known)
          ∙ ap (λ l. if_fine (checked (s1.cells (Local x)) l) t.line (λ w. next (here u fr at (onto vs stack) slots1 s1.used) (onto vs stack))) (numbers_onto vs stack n len)
          ∙ ap (λ w. if_fine w t.line (λ w. next (here u fr at (onto vs stack) slots1 s1.used) (onto vs stack))) e)
          (subst (λ l. Reaches al cs N (here u fr (at + 1) l slots1 s1.used) (k (AtElement x is) s1)) (sym (onto_split vs [] stack))
          (keep_ok n (onto vs []) N d (hidden t d) h s1 slots1 stack [] [] (at + 1) end (k (AtElement x is) s1) top refl tt same1 h1.1
          (λ h2 slots2 agree same2 indexed. go is h2 s1 slots2 agree same2 (subst (λ l. Indexed (length t.variables) (d + n) h2 l (kept_at n (hidden t d) [])) (back_numbers vs ∙ sym same_index) indexed)))))

  -- a step, and then the call
  pub enters_ok : (p : Program) (enter : Enter) (N D : ℕ) (h : Slots) (f : List ℕ) (a : Placed) (places : List CallPlace) (passed : List Passed) → t.program ≡ p → EnterOk al p cs u fr enter N → callee_in p f ≡ Some (Called a) → MatchAll t.variables D h a.algorithm.head.params passed places
      → (pc end : ℕ) (s : Store) (slots : Slots) (stack : List Value) (k : ThenValue) → IsCodeAt (Body al cs u fr t N D h) pc (enter_code f places t) end → Same t.variables D h s slots
      → ((v : Value) (s1 : Store) (slots1 : Slots) → Same t.variables D h s1 slots1 → Reaches al cs N (here u fr end (with_answer a.algorithm.head.gives v stack) slots1 s1.used) (k v s1))
      → Reaches al cs N (here u fr pc (onto (all_pushed passed) stack) slots s.used) (tick (λ s1. enter t.line a passed s1 k) s)
  enters_ok p enter zero D h f a places passed is ok e match pc end s slots stack k has same go =
      on_last al cs _ _ (λ s1. enter t.line a passed s1 k) s (line al cs u fr t zero D h pc (onto (all_pushed passed) stack) slots s _ has.0)
  enters_ok p enter (suc N) D h f a places passed is ok e match pc end s slots stack k has same go =
      on_tick al cs N _ _ (λ s1. enter t.line a passed s1 k) s (line al cs u fr t (suc N) D h pc (onto (all_pushed passed) stack) slots s _ has.0)
      (ok.by N (omega arith) f a e t.variables t.line (pc + 1) places (has.1.0 ∙ ap (λ q. Some (record { line = t.line; what = instruction.Call (number_of_unit q.algorithms f) places })) is) D h s slots passed stack k match same
      (λ v s1 slots1 same1. moved al cs u fr N _ _ (with_answer a.algorithm.head.gives v stack) slots1 s1.used _ has.1.1 (fewer al cs N (suc N) _ _ (omega arith) (go v s1 slots1 same1))))

  -- the indexes that were kept are pushed again
  pub loads_kept : (index : List ℤ) (at : List ℕ) (N D : ℕ) (h : Slots) (s : Store) (slots : Slots) (stack : List Value) (pc end : ℕ) (a : Rest) → Indexed (length t.variables) D h index at → Same t.variables D h s slots → IsCodeAt (Body al cs u fr t N D h) pc (map (λ x. on t (instruction.Load x)) at) end
      → ((vs : List Value) → numbers_of vs ≡ index → length vs ≡ length at → Reaches al cs N (here u fr end (onto vs stack) slots s.used) a)
      → Reaches al cs N (here u fr pc stack slots s.used) a
  loads_kept [] [] N D h s slots stack pc end a indexed same has go = moved al cs u fr N pc end stack slots s.used a has (go [] refl refl)
  loads_kept [] (x ∷ at) N D h s slots stack pc end a indexed same has go = absurd indexed
  loads_kept (z ∷ index) [] N D h s slots stack pc end a indexed same has go = absurd indexed
  loads_kept (z ∷ index) (x ∷ at) N D h s slots stack pc end a indexed same has go =
      let w = indexed.0 in
      let held : slots x ≡ Plain (Has w.1) = ap slots w.2 ∙ same.kept w.0 w.3 ∙ w.4 in
      on_go al cs N _ _ a (line al cs u fr t N D h pc stack slots s _ has.0 ∙ ap (λ c. pushes_result (read (cell_in c)) t.line (here u fr pc stack slots s.used) stack) held)
      (loads_kept index at N D h s slots (w.1 ∷ stack) (pc + 1) end a indexed.1 same has.1
      (λ vs e len. go (w.1 ∷ vs) (ap (λ m. m ∷ numbers_of vs) w.5 ∙ ap (λ l. z ∷ l) e) (ap suc len)))

pub kept_length : (m x : ℕ) (at : List ℕ) → length (kept_at m x at) ≡ m + length at
kept_length zero x at = omega arith
kept_length (suc m) x at = let e = kept_length m (suc x) (x ∷ at) in omega arith
