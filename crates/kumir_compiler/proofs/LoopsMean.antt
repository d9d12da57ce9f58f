-- Loops and choices over any code of their parts.
use Rattle.std.proofs.Common.{◌≡◌, ℕ, zero, suc, ◌+◌, ◌-◌, ◌≤◌, Bool, true, false, cond, List, ◌∷◌, length, Some, None, refl, ap, ◌∙◌, arith}
use Rattle.std.specs.Prelude.{ℤ, ◌+ℤ◌}
use Rattle.kumir_values.specs.declared.value.Value.{Value}
use Rattle.kumir_values.specs.declared.value.Value.TheVariants.{Whole}
use Rattle.kumir_meaning.specs.Operators.{is_yes}
use Rattle.kumir_meaning.specs.Store.{Local, Store, Has, with_cell}
use Rattle.kumir_meaning.specs.Runs.{Rest, tick, choose, Allowed}
use Rattle.kumir_meaning.specs.Expressions.{Then, ThenValue}
use Rattle.kumir_meaning.specs.Loops.{while_yes, turns, past, counts, forever, until}
use Rattle.stack_code.specs.declared.instruction.CodeLine.{CodeLine}
use Rattle.stack_code.specs.declared.unit.CodeUnit.{CodeUnit}
use Rattle.stack_code.specs.CodeState.{State, Frame, Slots, Plain, Left, Numbers, with_slot}
use Rattle.stack_code.specs.Instructions as code
use Rattle.stack_code.specs.Instructions.{Go, unit_at}
use Rattle.kumir_compiler.specs.Code.{Code, Site, slot, hidden, while_code, turns_code, forever_code, until_code, choice_code}
use Rattle.kumir_compiler.proofs.Variables.{is_among}
use Rattle.kumir_compiler.proofs.CodeAt.{IsCodeAt, parts, spans}
use Rattle.kumir_compiler.proofs.SlotsHoldCells.{Same, stored, grown, shrunk, with_same}
use Rattle.kumir_compiler.proofs.Reach.{here, Reaches, fewer, on_go, on_tick, on_last, on_none, on_step, moved, on_branch}
use Rattle.kumir_compiler.proofs.Evaluates.{GoesOn, Evaluates, line}

module _ (al : Allowed) (cs : List CodeUnit) (u : ℕ) (fr : List Frame) (t : Site) where
  abbrev Lines : List CodeLine
  Lines = (unit_at cs u).body

  -- code with a way out, which leads behind the places that follow it
  abbrev pub Acts : ℕ → ℕ → Slots → Code → ℕ → (Then → Then → Then) → Type 0
  Acts N d h body after runs =
      (pc end away : ℕ) (s : Store) (slots : Slots) (stack : List Value) (out k : Then) → IsCodeAt Lines pc body end → away ≡ end + after → Same t.variables d h s slots
      → GoesOn al cs u fr t N d h away stack out → GoesOn al cs u fr t N d h end stack k → Reaches al cs N (here u fr pc stack slots s.used) (runs out k s)

  goes_fewer : (N M d : ℕ) (h : Slots) (pc : ℕ) (stack : List Value) (k : Then) → N ≤ M → GoesOn al cs u fr t M d h pc stack k → GoesOn al cs u fr t N d h pc stack k
  goes_fewer N M d h pc stack k le g s slots same = fewer al cs N M _ (k s) le (g s slots same)

  pub while_ok : (m N M d : ℕ) (h : Slots) (test body : Code) (evt : ThenValue → Then) (runs : Then → Then → Then) → N ≤ m → N ≤ M → ((K : ℕ) → K ≤ M → Evaluates al cs u fr t K d h test evt) → ((K : ℕ) → K ≤ M → Acts K d h body 1 runs)
      → (pc end : ℕ) (s : Store) (slots : Slots) (stack : List Value) (k : Then) → IsCodeAt Lines pc (while_code test body t) end → Same t.variables d h s slots → GoesOn al cs u fr t N d h end stack k
      → Reaches al cs N (here u fr pc stack slots s.used) (while_yes m evt runs k s)
  while_ok zero zero M d h test body evt runs le lm ot ob pc end s slots stack k has same go = on_none al cs _ _ (line al cs u fr t 0 d h pc stack slots s _ has.0)
  while_ok zero (suc N) M d h test body evt runs le lm ot ob pc end s slots stack k has same go = absurd (omega arith)
  while_ok (suc m) zero M d h test body evt runs le lm ot ob pc end s slots stack k has same go =
      on_last al cs _ _ (λ s1. evt (λ v. choose (is_yes v) (runs k (λ s2. while_yes m evt runs k s2)) k) s1) s (line al cs u fr t 0 d h pc stack slots s _ has.0)
  while_ok (suc m) (suc N) M d h test body evt runs le lm ot ob pc end s slots stack k has same go =
      let w = parts Lines (pc + 1) test _ end has.1 in
      let y = parts Lines (w.0 + 1) body _ end w.2.1 in
      let e1 = spans Lines (pc + 1) test w.0 w.1 in
      let e2 = spans Lines (w.0 + 1) body y.0 y.1 in
      let e3 = y.2.1 in
      let exit : w.0 + 1 + (length body + 1) ≡ end = omega arith in
      let away : end ≡ y.0 + 1 = omega arith in
      let begin : y.0 - (length body + 1 + length test + 1) ≡ pc = omega arith in
      let less = goes_fewer N (suc N) d h end stack k (omega arith) go in
      on_tick al cs N _ _ (λ s1. evt (λ v. choose (is_yes v) (runs k (λ s2. while_yes m evt runs k s2)) k) s1) s (line al cs u fr t N d h pc stack slots s _ has.0)
      (ot N (omega arith) (pc + 1) w.0 s slots stack _ w.1 same
      (λ v s1 slots1 same1. on_go al cs N _ _ _ (line al cs u fr t N d h w.0 (v ∷ stack) slots1 s1 _ w.2.0)
      (on_branch al cs (is_yes v) u fr N (w.0 + 1) (w.0 + 1 + (length body + 1)) stack slots1 s1.used (runs k (λ s2. while_yes m evt runs k s2)) k s1
      (ob N (omega arith) (w.0 + 1) y.0 end s1 slots1 stack k (λ s2. while_yes m evt runs k s2) y.1 away same1 less
      (λ s2 slots2 same2. on_go al cs N _ _ _ (line al cs u fr t N d h y.0 stack slots2 s2 _ y.2.0)
      (moved al cs u fr N _ pc stack slots2 s2.used _ begin (while_ok m N M d h test body evt runs (omega arith) (omega arith) ot ob pc end s2 slots2 stack k has same2 less))))
      (moved al cs u fr N _ end stack slots1 s1.used (k s1) exit (less s1 slots1 same1)))))

  pub forever_ok : (m N M d : ℕ) (h : Slots) (body : Code) (runs : Then → Then → Then) → N ≤ m → N ≤ M → ((K : ℕ) → K ≤ M → Acts K d h body 1 runs)
      → (pc end : ℕ) (s : Store) (slots : Slots) (stack : List Value) (k : Then) → IsCodeAt Lines pc (forever_code body t) end → Same t.variables d h s slots → GoesOn al cs u fr t N d h end stack k
      → Reaches al cs N (here u fr pc stack slots s.used) (forever m runs k s)
  forever_ok zero zero M d h body runs le lm ob pc end s slots stack k has same go = on_none al cs _ _ (line al cs u fr t 0 d h pc stack slots s _ has.0)
  forever_ok zero (suc N) M d h body runs le lm ob pc end s slots stack k has same go = absurd (omega arith)
  forever_ok (suc m) zero M d h body runs le lm ob pc end s slots stack k has same go =
      on_last al cs _ _ (runs k (λ s1. forever m runs k s1)) s (line al cs u fr t 0 d h pc stack slots s _ has.0)
  forever_ok (suc m) (suc N) M d h body runs le lm ob pc end s slots stack k has same go =
      let y = parts Lines (pc + 1) body _ end has.1 in
      let e2 = spans Lines (pc + 1) body y.0 y.1 in
      let e3 = y.2.1 in
      let away : end ≡ y.0 + 1 = omega arith in
      let begin : y.0 - (length body + 1) ≡ pc = omega arith in
      let less = goes_fewer N (suc N) d h end stack k (omega arith) go in
      on_tick al cs N _ _ (runs k (λ s1. forever m runs k s1)) s (line al cs u fr t N d h pc stack slots s _ has.0)
      (ob N (omega arith) (pc + 1) y.0 end s slots stack k (λ s1. forever m runs k s1) y.1 away same less
      (λ s2 slots2 same2. on_go al cs N _ _ _ (line al cs u fr t N d h y.0 stack slots2 s2 _ y.2.0)
      (moved al cs u fr N _ pc stack slots2 s2.used _ begin (forever_ok m N M d h body runs (omega arith) (omega arith) ob pc end s2 slots2 stack k has same2 less))))

  -- the end of the loop, with its test, stands at r
  pub until_ok : (r : Site) → r.variables ≡ t.variables → (m N M d : ℕ) (h : Slots) (body test : Code) (runs : Then → Then → Then) (evt : ThenValue → Then) → N ≤ m → N ≤ M → ((K : ℕ) → K ≤ M → Evaluates al cs u fr t K d h test evt) → ((K : ℕ) → K ≤ M → Acts K d h body (length test + 2) runs)
      → (pc end : ℕ) (s : Store) (slots : Slots) (stack : List Value) (k : Then) → IsCodeAt Lines pc (until_code body test t r) end → Same t.variables d h s slots → GoesOn al cs u fr t N d h end stack k
      → Reaches al cs N (here u fr pc stack slots s.used) (until m runs evt k s)
  until_ok r er zero zero M d h body test runs evt le lm ot ob pc end s slots stack k has same go = on_none al cs _ _ (line al cs u fr t 0 d h pc stack slots s _ has.0)
  until_ok r er zero (suc N) M d h body test runs evt le lm ot ob pc end s slots stack k has same go = absurd (omega arith)
  until_ok r er (suc m) zero M d h body test runs evt le lm ot ob pc end s slots stack k has same go =
      on_last al cs _ _ (runs k (λ s1. tick (λ s2. evt (λ v. choose (is_yes v) k (λ s3. until m runs evt k s3)) s2) s1)) s (line al cs u fr t 0 d h pc stack slots s _ has.0)
  until_ok r er (suc m) (suc N) M d h body test runs evt le lm ot ob pc end s slots stack k has same go =
      let y = parts Lines (pc + 1) body _ end has.1 in
      let w = parts Lines (y.0 + 1) test _ end y.2.1 in
      let e1 = spans Lines (pc + 1) body y.0 y.1 in
      let e2 = spans Lines (y.0 + 1) test w.0 w.1 in
      let e3 = w.2.1 in
      let away : end ≡ y.0 + (length test + 2) = omega arith in
      let begin : w.0 - (length test + 1 + length body + 1) ≡ pc = omega arith in
      let less = goes_fewer N (suc N) d h end stack k (omega arith) go in
      on_tick al cs N _ _ (runs k (λ s1. tick (λ s2. evt (λ v. choose (is_yes v) k (λ s3. until m runs evt k s3)) s2) s1)) s (line al cs u fr t N d h pc stack slots s _ has.0)
      (ob N (omega arith) (pc + 1) y.0 end s slots stack k (λ s1. tick (λ s2. evt (λ v. choose (is_yes v) k (λ s3. until m runs evt k s3)) s2) s1) y.1 away same less
      (λ s1 slots1 same1. on_step al cs N _ _ (λ s2. evt (λ v. choose (is_yes v) k (λ s3. until m runs evt k s3)) s2) s1 (line al cs u fr t N d h y.0 stack slots1 s1 _ y.2.0)
      (ot N (omega arith) (y.0 + 1) w.0 s1 slots1 stack _ w.1 same1
      (λ v s2 slots2 same2. on_go al cs N _ _ _ (line al cs u fr t N d h w.0 (v ∷ stack) slots2 s2 _ w.2.0)
      (on_branch al cs (is_yes v) u fr N (w.0 + 1) (w.0 - (length test + 1 + length body + 1)) stack slots2 s2.used k (λ s3. until m runs evt k s3) s2
      (moved al cs u fr N _ end stack slots2 s2.used (k s2) e3 (less s2 slots2 same2))
      (moved al cs u fr N _ pc stack slots2 s2.used _ begin (until_ok r er m N M d h body test runs evt (omega arith) (omega arith) ot ob pc end s2 slots2 stack k has same2 less)))))))

  -- the turns that are left stand in the hidden slot
  pub turns_ok : (m N M c d : ℕ) (h : Slots) (body : Code) (runs : Then → Then → Then) → N ≤ m → N ≤ M → ((c1 K : ℕ) → K ≤ M → Acts K (d + 1) (with_slot h d (Left c1)) body 1 runs)
      → (pc end : ℕ) (s : Store) (slots : Slots) (stack : List Value) (k : Then) → IsCodeAt Lines pc (turns_code (hidden t d) None body t) end → Same t.variables (d + 1) (with_slot h d (Left c)) s slots → GoesOn al cs u fr t N d h end stack k
      → Reaches al cs N (here u fr pc stack slots s.used) (turns m c runs k s)
  turns_ok zero zero M c d h body runs le lm ob pc end s slots stack k has same go = on_none al cs _ _ (line al cs u fr t 0 d h pc stack slots s _ has.0)
  turns_ok zero (suc N) M c d h body runs le lm ob pc end s slots stack k has same go = absurd (omega arith)
  turns_ok (suc m) zero M zero d h body runs le lm ob pc end s slots stack k has same go = on_last al cs _ _ k s (line al cs u fr t 0 d h pc stack slots s _ has.0)
  turns_ok (suc m) zero M (suc c) d h body runs le lm ob pc end s slots stack k has same go =
      on_last al cs _ _ (λ s1. runs k (λ s2. turns m c runs k s2) s1) s (line al cs u fr t 0 d h pc stack slots s _ has.0)
  turns_ok (suc m) (suc N) M zero d h body runs le lm ob pc end s slots stack k has same go =
      let y = parts Lines (pc + 1 + 1) body _ end has.1.1 in
      let e2 = spans Lines (pc + 1 + 1) body y.0 y.1 in
      let e3 = y.2.1 in
      let exit : pc + 1 + 1 + (length body + 1) ≡ end = omega arith in
      let less = goes_fewer N (suc N) d h end stack k (omega arith) go in
      let held : slots (hidden t d) ≡ Left 0 = same.kept d (omega arith) ∙ with_same h d (Left 0) in
      on_tick al cs N _ _ k s (line al cs u fr t N d h pc stack slots s _ has.0)
      (on_go al cs N _ _ _ (line al cs u fr t N d h (pc + 1) stack slots s _ has.1.0 ∙ ap (λ x. Go (code.next_turn x (hidden t d) None (pc + 1 + 1 + (length body + 1)) (here u fr (pc + 1) stack slots s.used))) held)
      (moved al cs u fr N _ end stack slots s.used (k s) exit (less s slots (shrunk t.variables d h s slots (Left 0) same))))
  turns_ok (suc m) (suc N) M (suc c) d h body runs le lm ob pc end s slots stack k has same go =
      let y = parts Lines (pc + 1 + 1) body _ end has.1.1 in
      let e2 = spans Lines (pc + 1 + 1) body y.0 y.1 in
      let e3 = y.2.1 in
      let away : end ≡ y.0 + 1 = omega arith in
      let begin : y.0 - (length body + 2) ≡ pc = omega arith in
      let less = goes_fewer N (suc N) d h end stack k (omega arith) go in
      let held : slots (hidden t d) ≡ Left (suc c) = same.kept d (omega arith) ∙ with_same h d (Left (suc c)) in
      on_tick al cs N _ _ (λ s1. runs k (λ s2. turns m c runs k s2) s1) s (line al cs u fr t N d h pc stack slots s _ has.0)
      (on_go al cs N _ _ _ (line al cs u fr t N d h (pc + 1) stack slots s _ has.1.0 ∙ ap (λ x. Go (code.next_turn x (hidden t d) None (pc + 1 + 1 + (length body + 1)) (here u fr (pc + 1) stack slots s.used))) held)
      (ob c N (omega arith) (pc + 1 + 1) y.0 end s _ stack k (λ s2. turns m c runs k s2) y.1 away (grown t.variables d h s slots (Left c) (shrunk t.variables d h s slots (Left (suc c)) same))
      (λ s2 slots2 same2. less s2 slots2 (shrunk t.variables d h s2 slots2 (Left c) same2))
      (λ s2 slots2 same2. on_go al cs N _ _ _ (line al cs u fr t N d h y.0 stack slots2 s2 _ y.2.0)
      (moved al cs u fr N _ pc stack slots2 s2.used _ begin (turns_ok m N M c d h body runs (omega arith) (omega arith) ob pc end s2 slots2 stack k has same2 less)))))

  one_of : (b : Bool) (N : ℕ) (s1 s2 : State) (x y : Then) (g : Store) → Reaches al cs N s1 (x g) → Reaches al cs N s2 (y g) → Reaches al cs N (cond b s1 s2) (choose b x y g)
  one_of true N s1 s2 x y g r1 r2 = r1
  one_of false N s1 s2 x y g r1 r2 = r2

  -- the next number, the last one and the step stand in the hidden slot
  pub counts_ok : (x : List ℕ) → is_among t.variables (Local x) ≡ true → (m N M d : ℕ) (z last by : ℤ) (h : Slots) (body : Code) (runs : Then → Then → Then) → N ≤ m → N ≤ M → ((z1 : ℤ) (K : ℕ) → K ≤ M → Acts K (d + 1) (with_slot h d (Numbers z1 last by)) body 1 runs)
      → (pc end : ℕ) (s : Store) (slots : Slots) (stack : List Value) (k : Then) → IsCodeAt Lines pc (turns_code (hidden t d) (Some (slot t (Local x))) body t) end → Same t.variables (d + 1) (with_slot h d (Numbers z last by)) s slots → GoesOn al cs u fr t N d h end stack k
      → Reaches al cs N (here u fr pc stack slots s.used) (counts m z last by x runs k s)
  counts_ok x known zero zero M d z last by h body runs le lm ob pc end s slots stack k has same go = on_none al cs _ _ (line al cs u fr t 0 d h pc stack slots s _ has.0)
  counts_ok x known zero (suc N) M d z last by h body runs le lm ob pc end s slots stack k has same go = absurd (omega arith)
  counts_ok x known (suc m) zero M d z last by h body runs le lm ob pc end s slots stack k has same go =
      on_last al cs _ _ (choose (past z last by) k (λ s1. runs k (λ s2. counts m (z +ℤ by) last by x runs k s2) (with_cell s1 (Local x) (Has (Whole z))))) s (line al cs u fr t 0 d h pc stack slots s _ has.0)
  counts_ok x known (suc m) (suc N) M d z last by h body runs le lm ob pc end s slots stack k has same go =
      let y = parts Lines (pc + 1 + 1) body _ end has.1.1 in
      let e2 = spans Lines (pc + 1 + 1) body y.0 y.1 in
      let e3 = y.2.1 in
      let exit : pc + 1 + 1 + (length body + 1) ≡ end = omega arith in
      let away : end ≡ y.0 + 1 = omega arith in
      let begin : y.0 - (length body + 2) ≡ pc = omega arith in
      let less = goes_fewer N (suc N) d h end stack k (omega arith) go in
      let held : slots (hidden t d) ≡ Numbers z last by = same.kept d (omega arith) ∙ with_same h d (Numbers z last by) in
      let inner = stored t.variables (d + 1) (with_slot h d (Numbers (z +ℤ by) last by)) s (with_slot slots (hidden t d) (Numbers (z +ℤ by) last by)) (Local x) (Has (Whole z)) (Plain (Has (Whole z))) known refl (grown t.variables d h s slots (Numbers (z +ℤ by) last by) (shrunk t.variables d h s slots (Numbers z last by) same)) in
      on_tick al cs N _ _ (choose (past z last by) k (λ s1. runs k (λ s2. counts m (z +ℤ by) last by x runs k s2) (with_cell s1 (Local x) (Has (Whole z))))) s (line al cs u fr t N d h pc stack slots s _ has.0)
      (on_go al cs N _ _ _ (line al cs u fr t N d h (pc + 1) stack slots s _ has.1.0 ∙ ap (λ c. Go (code.next_turn c (hidden t d) (Some (slot t (Local x))) (pc + 1 + 1 + (length body + 1)) (here u fr (pc + 1) stack slots s.used))) held)
      (one_of (past z last by) N _ _ k (λ s1. runs k (λ s2. counts m (z +ℤ by) last by x runs k s2) (with_cell s1 (Local x) (Has (Whole z)))) s
      (moved al cs u fr N _ end stack slots s.used (k s) exit (less s slots (shrunk t.variables d h s slots (Numbers z last by) same)))
      (ob (z +ℤ by) N (omega arith) (pc + 1 + 1) y.0 end _ _ stack k (λ s2. counts m (z +ℤ by) last by x runs k s2) y.1 away inner
      (λ s2 slots2 same2. less s2 slots2 (shrunk t.variables d h s2 slots2 (Numbers (z +ℤ by) last by) same2))
      (λ s2 slots2 same2. on_go al cs N _ _ _ (line al cs u fr t N d h y.0 stack slots2 s2 _ y.2.0)
      (moved al cs u fr N _ pc stack slots2 s2.used _ begin (counts_ok x known m N M d (z +ℤ by) last by h body runs (omega arith) (omega arith) ob pc end s2 slots2 stack k has same2 less))))))

  -- one of two codes, by the value on top
  pub choice_ok : (a b : Code) (v : Value) (N d : ℕ) (h : Slots) (pc end : ℕ) (s : Store) (slots : Slots) (stack : List Value) (x y : Then) → IsCodeAt Lines pc (choice_code a b t) end
      → ((mid : ℕ) → IsCodeAt Lines (pc + 1) a mid → end ≡ mid + (length b + 1) → ((s1 : Store) (slots1 : Slots) (q : Rest) → Reaches al cs N (here u fr end stack slots1 s1.used) q → Reaches al cs N (here u fr mid stack slots1 s1.used) q) → Reaches al cs N (here u fr (pc + 1) stack slots s.used) (x s))
      → ((at : ℕ) → IsCodeAt Lines at b end → Reaches al cs N (here u fr at stack slots s.used) (y s))
      → Reaches al cs N (here u fr pc (v ∷ stack) slots s.used) (choose (is_yes v) x y s)
  choice_ok a b v N d h pc end s slots stack x y has first_way otherwise =
      let w = parts Lines (pc + 1) a _ end has.1 in
      let e1 = spans Lines (pc + 1) a w.0 w.1 in
      let e2 = spans Lines (w.0 + 1) b end w.2.1 in
      let e3 : end ≡ w.0 + (length b + 1) = omega arith in
      let e4 : w.0 + 1 + length b ≡ end = omega arith in
      let e5 : pc + 1 + (length a + 1) ≡ w.0 + 1 = omega arith in
      on_go al cs N _ _ _ (line al cs u fr t N d h pc (v ∷ stack) slots s _ has.0)
      (on_branch al cs (is_yes v) u fr N (pc + 1) (pc + 1 + (length a + 1)) stack slots s.used x y s
      (first_way w.0 w.1 e3 (λ s1 slots1 q r. on_go al cs N _ _ q (line al cs u fr t N d h w.0 stack slots1 s1 _ w.2.0) (moved al cs u fr N _ end stack slots1 s1.used q e4 r)))
      (moved al cs u fr N _ (w.0 + 1) stack slots s.used (y s) e5 (otherwise (w.0 + 1) w.2.1)))
