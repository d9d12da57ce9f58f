-- Requests whose lines are gathered.
use Rattle.std.proofs.Common.{◌≡◌, ℕ, zero, suc, ◌≤◌, cond, List, [], ◌∷◌, ◌++◌, length, Option, Some, None, refl, sym, ap, subst, ◌∙◌, arith}
use Rattle.std.specs.Prelude.{nat_lt}
use Rattle.std.proofs.lemmas.List.{length_push}
use Rattle.script_lines.specs.declared.request.Request.{Request}
use Rattle.script_lines.specs.declared.gathered.Gathered.{Gathered}
use Rattle.script_lines.specs.declared.read.RequestLine.{RequestLine}
use Rattle.script_lines.specs.declared.read.RequestLine.TheVariants.{Nothing, Alone, EditHead, FieldHead}
use Rattle.script_lines.specs.Words.{request_line}
use Rattle.script_lines.specs.Requests.{lines_wanted, asked, request_at}
use Rattle.script_lines.specs.Begun.{Begun, begun_of, wanted, completed, left_by}
use Rattle.script_lines.specs.Reader.{IsGathered, Gathers}
use Rattle.script_lines.proofs.Steps.{lt_true, lt_false, at_none}

pub whole_one : (b : Begun) (r : Request) → r ≡ (record { line = b.first; ask = asked (request_line b.head) b.sofar }) → wanted b.head ≤ length b.sofar → r ∷ [] ≡ cond (nat_lt (length b.sofar) (wanted b.head)) [] ((record { line = b.first; ask = asked (request_line b.head) b.sofar }) ∷ [])
whole_one b r is h =
    ap (λ x. x ∷ []) is ∙ sym (ap (λ t. cond t [] ((record { line = b.first; ask = asked (request_line b.head) b.sofar }) ∷ [])) (lt_false (length b.sofar) (wanted b.head) h))

-- a request line by itself
pub first_settled : (n : ℕ) (head : RequestLine) → (head ≡ Nothing → ⊥) → cond (nat_lt 0 (lines_wanted head)) [] ((record { line = n; ask = asked head [] }) ∷ []) ≡ request_at n head []
first_settled n Nothing other = absurd (other refl)
first_settled n (Alone a) other = refl
first_settled n (EditHead f c zero) other = refl
first_settled n (EditHead f c (suc a)) other =
    ap (λ t. cond t [] ((record { line = n; ask = asked (EditHead f c (suc a)) [] }) ∷ [])) (lt_true 0 (suc a) (omega arith)) ∙ sym (at_none n (EditHead f c (suc a)) [] (omega arith))
first_settled n (FieldHead zero) other = refl
first_settled n (FieldHead (suc a)) other =
    ap (λ t. cond t [] ((record { line = n; ask = asked (FieldHead (suc a)) [] }) ∷ [])) (lt_true 0 (suc a) (omega arith)) ∙ sym (at_none n (FieldHead (suc a)) [] (omega arith))

pub some_begun : (b : Option Begun) (g : Gathered) → Gathers b (Some g) → (x : Begun) × (b ≡ Some x) × IsGathered x g
some_begun None g h = absurd h
some_begun (Some x) g h = (x, refl, h)

pub no_begun : (b : Option Begun) → Gathers b None → b ≡ None
no_begun None h = refl
no_begun (Some x) h = absurd h

pub one_more : (x : Begun) (l : List ℕ) (rs : List Request) → rs ≡ cond (nat_lt (length (x.sofar ++ l ∷ [])) (wanted x.head)) [] ((record { line = x.first; ask = asked (request_line x.head) (x.sofar ++ l ∷ []) }) ∷ []) → (n : ℕ) → rs ≡ completed n (Some x) l
one_more x l rs is n = is ∙ ap (λ k. cond (nat_lt k (wanted x.head)) [] ((record { line = x.first; ask = asked (request_line x.head) (x.sofar ++ l ∷ []) }) ∷ [])) (length_push x.sofar l)

pub one_left : (x : Begun) (l : List ℕ) (g : Option Gathered) → Gathers (cond (nat_lt (length (x.sofar ++ l ∷ [])) (wanted x.head)) (Some (begun_of x.first x.head (x.sofar ++ l ∷ []))) None) g → (n : ℕ) → Gathers (left_by n (Some x) l) g
one_left x l g is n = subst (λ k. Gathers (cond (nat_lt k (wanted x.head)) (Some (begun_of x.first x.head (x.sofar ++ l ∷ []))) None) g) (length_push x.sofar l) is
