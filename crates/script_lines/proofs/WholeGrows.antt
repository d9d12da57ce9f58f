-- What more bytes add to the requests of a script, and what its end adds.
use Rattle.std.proofs.Common.{◌≡◌, ℕ, ◌+◌, ◌<◌, ◌≤◌, Bool, true, false, cond, List, [], ◌∷◌, ◌++◌, length, take, map, Option, Some, None, ◌⊎◌, ⊎_elim, refl, sym, ap, subst, ◌∙◌, append_assoc, append-nil, arith}
use Rattle.std.specs.Prelude.{◌==◌, nat_lt, nat_le}
use Rattle.std.specs.Str.Lines.{strip_carriage_return}
use Rattle.script_lines.specs.declared.request.Request.{Request}
use Rattle.script_lines.specs.declared.read.RequestLine.{RequestLine}
use Rattle.script_lines.specs.declared.read.RequestLine.TheVariants.{Nothing, Alone, EditHead, FieldHead}
use Rattle.script_lines.specs.Lines.{ended, unended, numbered, ended_lines}
use Rattle.script_lines.specs.Words.{request_line}
use Rattle.script_lines.specs.Requests.{lines_wanted, asked, request_at, requests_in, cut_off_in, whole, requests, bad_at}
use Rattle.script_lines.specs.Begun.{Begun, begun_of, wanted, begun_in, completed, left_by, first_of}
use Rattle.script_lines.proofs.Steps.{goes, cut_off_is, lt_from, at_none}
use Rattle.script_lines.proofs.Ends.{length_numbered, lines_byte, lines_feed}

-- ---- more bytes

feed_or_other : (x : ℕ) → (x ≡ 10) ⊎ (x ≡ 10 → ⊥)
feed_or_other x = grind arith

byte_more : (fed : List ℕ) (x : ℕ) → (more : List Request) × (whole (fed ++ x ∷ []) ≡ whole fed ++ more)
byte_more fed x =
    let at = 1 + length (ended [] fed) in
    let line = numbered at (strip_carriage_return (unended [] fed)) in
    ⊎_elim
    (λ (feed : x ≡ 10). (
      completed at (begun_in 1 0 (ended_lines fed)) line,
      ap (λ b. whole (fed ++ b ∷ [])) feed ∙ ap (requests_in 1 0) (lines_feed fed at refl)
          ∙ (goes 1 0 (ended_lines fed) line at (omega arith) (ap (λ n. 1 + n) (sym (length_numbered 1 (ended [] fed))))).done,
    ))
    (λ (other : x ≡ 10 → ⊥). ([], ap (requests_in 1 0) (lines_byte fed x other) ∙ sym (append-nil (whole fed))))
    (feed_or_other x)

pub grows : (b c : List ℕ) → (more : List Request) × (whole (b ++ c) ≡ whole b ++ more)
grows b [] = ([], ap whole (append-nil b) ∙ sym (append-nil (whole b)))
grows b (x ∷ cs) =
    let one = byte_more b x in
    let rest = grows (b ++ x ∷ []) cs in
    (one.0 ++ rest.0, ap whole (sym (append_assoc b (x ∷ []) cs)) ∙ rest.1 ∙ ap (λ z. z ++ rest.0) one.1 ∙ append_assoc (whole b) one.0 rest.0)

-- ---- the end

one_if : (t : Bool) (r : Request) → length (cond t (r ∷ []) []) ≤ 1
one_if true r = omega arith
one_if false r = omega arith

made_one : (number : ℕ) (head : RequestLine) → length {A = Request} (cond (nat_le (lines_wanted head) 0) ((record { line = number; ask = asked head (take (lines_wanted head) []) }) ∷ []) []) ≤ 1
made_one number head = one_if (nat_le (lines_wanted head) 0) (record { line = number; ask = asked head (take (lines_wanted head) []) })

one_at : (number : ℕ) (head : RequestLine) → length (request_at number head []) ≤ 1
one_at number Nothing = omega arith
one_at number (Alone a) = made_one number (Alone a)
one_at number (EditHead from count added) = made_one number (EditHead from count added)
one_at number (FieldHead n) = made_one number (FieldHead n)

one_begun : (b : Option Begun) → length (map bad_at (first_of b)) ≤ 1
one_begun None = omega arith
one_begun (Some b) = omega arith

-- a line completes a request, or leaves one with lines missing, or neither
one_last : (at : ℕ) (b : Option Begun) (l : List ℕ) → length (completed at b l ++ map bad_at (first_of (left_by at b l))) ≤ 1
one_last at None l =
    elim (nat_lt 0 (wanted l)) as (λ t. nat_lt 0 (wanted l) ≡ t → length (request_at at (request_line l) [] ++ map bad_at (first_of (cond t (Some (begun_of at l [])) None))) ≤ 1) [
      | true ↦ λ e. subst (λ r. length (r ++ bad_at at ∷ []) ≤ 1) (sym (at_none at (request_line l) [] (lt_from 0 (wanted l) e))) (omega arith)
      | false ↦ λ e. subst (λ r. length r ≤ 1) (sym (append-nil (request_at at (request_line l) []))) (one_at at (request_line l))
    ] refl
one_last at (Some b) l =
    elim (nat_lt (length b.sofar + 1) (wanted b.head)) as (λ t. length (completed_if t ++ map bad_at (first_of (left_if t))) ≤ 1) [
      | true ↦ omega arith
      | false ↦ omega arith
    ]
  where
    completed_if : Bool → List Request
    completed_if t = cond t [] ((record { line = b.first; ask = asked (request_line b.head) (b.sofar ++ l ∷ []) }) ∷ [])

    left_if : Bool → Option Begun
    left_if t = cond t (Some (begun_of b.first b.head (b.sofar ++ l ∷ []))) None

-- the requests of these lines, if they are all
abbrev of_lines : List (List ℕ) → List Request
of_lines ls = requests_in 1 0 ls ++ map bad_at (cut_off_in 1 0 ls)

at_most_one : (fed line : List ℕ) (t : Bool) → (more : List Request) × (of_lines (cond t (ended_lines fed) (ended_lines fed ++ line ∷ [])) ≡ whole fed ++ more) × (length more ≤ 1)
at_most_one fed line true = (
  map bad_at (cut_off_in 1 0 (ended_lines fed)),
  refl,
  subst (λ c. length (map bad_at c) ≤ 1) (sym (cut_off_is 1 0 (ended_lines fed))) (one_begun (begun_in 1 0 (ended_lines fed))),
)
at_most_one fed line false =
    let at = length (ended_lines fed) + 1 in
    let begun = begun_in 1 0 (ended_lines fed) in
    let on = goes 1 0 (ended_lines fed) line at (omega arith) (omega arith) in (
      completed at begun line ++ map bad_at (first_of (left_by at begun line)),
      ap (λ c. requests_in 1 0 (ended_lines fed ++ line ∷ []) ++ map bad_at c) (cut_off_is 1 0 (ended_lines fed ++ line ∷ []) ∙ ap first_of on.begun)
          ∙ ap (λ x. x ++ map bad_at (first_of (left_by at begun line))) on.done
          ∙ append_assoc (whole fed) (completed at begun line) (map bad_at (first_of (left_by at begun line))),
      one_last at begun line,
    )

pub one_more_at_end : (b : List ℕ) → (more : List Request) × (requests b ≡ whole b ++ more) × (length more ≤ 1)
one_more_at_end b = at_most_one b (numbered (length (ended_lines b) + 1) (unended [] b)) (length (unended [] b) == 0)
