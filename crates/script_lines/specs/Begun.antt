-- A request with lines missing, and what one more line makes of it.
use Rattle.std.specs.Prelude.{ℕ, zero, suc, ◌+◌, List, [], ◌∷◌, ◌++◌, Option, Some, None, length, nat_lt, cond}
use Rattle.script_lines.specs.declared.request.Request.{Request}
use Rattle.script_lines.specs.Words.{request_line}
use Rattle.script_lines.specs.Requests.{lines_wanted, asked, request_at}

-- a request whose line has this number, with the lines that it wants so far
pub record Begun : Type 0 where
  pub first : ℕ
  pub head : List ℕ
  pub sofar : List (List ℕ)

abbrev pub begun_of : ℕ → List ℕ → List (List ℕ) → Begun
begun_of first head sofar = record { first = first; head = head; sofar = sofar }

abbrev pub wanted : List ℕ → ℕ
wanted line = lines_wanted (request_line line)

-- the last request line, if lines that it wants are missing
abbrev pub begun_in : ℕ → ℕ → List (List ℕ) → Option Begun
begun_in number taken [] = None
begun_in number zero (line ∷ lines) = cond (nat_lt (length lines) (wanted line)) (Some (begun_of number line lines)) (begun_in (number + 1) (wanted line) lines)
begun_in number (suc taken) (line ∷ lines) = begun_in (number + 1) taken lines

-- what one more line completes
abbrev pub completed : ℕ → Option Begun → List ℕ → List Request
completed number None line = request_at number (request_line line) []
completed number (Some b) line = cond (nat_lt (length b.sofar + 1) (wanted b.head)) [] ((record { line = b.first; ask = asked (request_line b.head) (b.sofar ++ line ∷ []) }) ∷ [])

-- and what it leaves
abbrev pub left_by : ℕ → Option Begun → List ℕ → Option Begun
left_by number None line = cond (nat_lt 0 (wanted line)) (Some (begun_of number line [])) None
left_by number (Some b) line = cond (nat_lt (length b.sofar + 1) (wanted b.head)) (Some (begun_of b.first b.head (b.sofar ++ line ∷ []))) None

-- the number of its line
abbrev pub first_of : Option Begun → List ℕ
first_of None = []
first_of (Some b) = b.first ∷ []
