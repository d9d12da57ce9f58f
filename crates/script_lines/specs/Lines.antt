-- The lines of a script. docs/PROGRAM.md, "Script".
use Rattle.std.specs.Prelude.{ℕ, ◌+◌, ◌==◌, ◌&&◌, if◌then◌else◌, Bool, List, [], ◌∷◌, ◌++◌, length, nat_le}
use Rattle.std.specs.Str.{is_utf8}
use Rattle.std.specs.Str.Lines.{strip_carriage_return}
use Rattle.kumir_tree.specs.Lines.{without_mark}

-- the lines that a line feed ends, where these bytes begin the first of them
abbrev pub ended : List ℕ → List ℕ → List (List ℕ)
ended begun [] = []
ended begun (b ∷ bs) = if b == 10 then begun ∷ ended [] bs else ended (begun ++ b ∷ []) bs

-- the bytes behind the last line feed
abbrev pub unended : List ℕ → List ℕ → List ℕ
unended begun [] = begun
unended begun (b ∷ bs) = if b == 10 then unended [] bs else unended (begun ++ b ∷ []) bs

-- a line with that number, without a leading U+FEFF if it is the first
abbrev pub numbered : ℕ → List ℕ → List ℕ
numbered number line = if number == 1 then without_mark line else line

-- the lines from that number on, each without the carriage return before its end
abbrev pub numbered_from : ℕ → List (List ℕ) → List (List ℕ)
numbered_from number [] = []
numbered_from number (line ∷ lines) = numbered number (strip_carriage_return line) ∷ numbered_from (number + 1) lines

-- the lines of a script that are ended, when more may follow
abbrev pub ended_lines : List ℕ → List (List ℕ)
ended_lines bytes = numbered_from 1 (ended [] bytes)

-- all lines of a whole script: where bytes stand behind the last line feed, they are a line too
abbrev pub all_lines : List ℕ → List (List ℕ)
all_lines bytes =
    let lines = ended_lines bytes in
    let rest = unended [] bytes in
    if length rest == 0 then lines else lines ++ numbered (length lines + 1) rest ∷ []

-- a line that a request can have: no longer than the limit, and UTF-8
abbrev pub is_plain : List ℕ → Bool
is_plain line = nat_le (length line) 4096 && is_utf8 line
