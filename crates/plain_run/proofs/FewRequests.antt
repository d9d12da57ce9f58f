-- A script has no more requests than bytes.
use Rattle.std.proofs.Common.{◌≡◌, ℕ, zero, suc, ◌+◌, ◌≤◌, Bool, true, false, List, [], ◌∷◌, ◌++◌, length, length-append, arith}
use Rattle.std.specs.Prelude.{if◌then◌else◌, ◌==◌, nat_le, take}
use Rattle.script_lines.specs.declared.read.RequestLine.{RequestLine}
use Rattle.script_lines.specs.declared.read.RequestLine.TheVariants.{Nothing, Alone, EditHead, FieldHead}
use Rattle.script_lines.specs.Lines.{ended, numbered_from, ended_lines}
use Rattle.script_lines.specs.Words.{request_line}
use Rattle.script_lines.specs.Requests.{lines_wanted, asked, request_at, requests_in, whole}

either : {T : Type 0} (b : Bool) (xs ys : List T) (n : ℕ) → length xs ≤ n → length ys ≤ n → length (if b then xs else ys) ≤ n
either true xs ys n p q = p
either false xs ys n p q = q

few_ended : (begun bytes : List ℕ) → length (ended begun bytes) ≤ length bytes
few_ended begun [] = omega arith
few_ended begun (b ∷ bs) =
    either (b == 10) (begun ∷ ended [] bs) (ended (begun ++ b ∷ []) bs) (length (b ∷ bs)) (omega (arith, few_ended [] bs)) (omega (arith, few_ended (begun ++ b ∷ []) bs))

same_number : (number : ℕ) (lines : List (List ℕ)) → length (numbered_from number lines) ≡ length lines
same_number number [] = omega arith
same_number number (line ∷ lines) = omega (arith, same_number (number + 1) lines)

request_few : (number : ℕ) (head : RequestLine) (more : List (List ℕ)) → length (request_at number head more) ≤ 1
request_few number Nothing more = omega arith
request_few number (Alone a) more = either (nat_le (lines_wanted (Alone a)) (length more)) (record { line = number; ask = asked (Alone a) (take (lines_wanted (Alone a)) more) } ∷ []) [] 1 (omega arith) (omega arith)
request_few number (EditHead from count added) more = either (nat_le added (length more)) (record { line = number; ask = asked (EditHead from count added) (take added more) } ∷ []) [] 1 (omega arith) (omega arith)
request_few number (FieldHead n) more = either (nat_le n (length more)) (record { line = number; ask = asked (FieldHead n) (take n more) } ∷ []) [] 1 (omega arith) (omega arith)

requests_few : (number taken : ℕ) (lines : List (List ℕ)) → length (requests_in number taken lines) ≤ length lines
requests_few number taken [] = omega arith
requests_few number zero (line ∷ lines) =
    let first = request_at number (request_line line) lines in
    let rest = requests_in (number + 1) (lines_wanted (request_line line)) lines in
    omega (arith, length-append first rest, request_few number (request_line line) lines, requests_few (number + 1) (lines_wanted (request_line line)) lines)
requests_few number (suc taken) (line ∷ lines) = omega (arith, requests_few (number + 1) taken lines)

pub whole_few : (bytes : List ℕ) → length (whole bytes) ≤ length bytes
whole_few bytes = omega (arith, requests_few 1 0 (ended_lines bytes), same_number 1 (ended [] bytes), few_ended [] bytes)
