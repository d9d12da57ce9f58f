-- A recursion on a count of turns, beside a loop that counts up; and what waits for an operand.
use Rattle.std.proofs.Common.{◌≡◌, ℕ, suc, ◌+◌, ◌-◌, ◌<◌, List, [], ◌∷◌, ◌++◌, Some, None, ap, ◌∙◌, refl, arith}
use Rattle.kumir_tree.specs.Tree.{Tree}
use Rattle.expr_forms.specs.declared.pending.Pending.{Pending}
use Rattle.expr_forms.specs.Looks.{Outcome}
use Rattle.expr_forms.specs.Reading.{wrapped, wrap_one, waiting_of, given}

pub one_more : {X : Type 0} {x : X} (f : ℕ → X) (n at : ℕ) → at < n → x ≡ f (n - at) → x ≡ f (suc (n - (at + 1)))
one_more f n at below e = let turn : n - at ≡ suc (n - (at + 1)) = omega arith in e ∙ ap f turn

pub deeper : {X : Type 0} (f : ℕ → X) (n : ℕ) → 0 < n → f n ≡ f (suc (n - 1))
deeper f n some = let e : n ≡ suc (n - 1) = omega arith in ap f e

pub wrapped_more : (ws : List Pending) (w : Pending) (x : Tree) → wrapped (ws ++ w ∷ []) x ≡ wrapped ws (wrap_one (waiting_of w) x)
wrapped_more [] w x = refl
wrapped_more (v ∷ ws) w x = ap (wrap_one (waiting_of v)) (wrapped_more ws w x)

-- what is read, once it is given to what waits
abbrev pub with_pending : List Pending → Outcome Tree → Outcome Tree
with_pending ws None = None
with_pending ws (Some r) = Some (wrapped ws r.0, r.1)

pub with_one_more : (ws : List Pending) (w : Pending) (o : Outcome Tree) → with_pending (ws ++ w ∷ []) o ≡ with_pending ws (given (waiting_of w) o)
with_one_more ws w None = refl
with_one_more ws w (Some r) = ap (λ x. Some (x, r.1)) (wrapped_more ws w r.0)
