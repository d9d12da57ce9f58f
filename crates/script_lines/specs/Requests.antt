-- The requests of a script. docs/PROGRAM.md, "Script".
use Rattle.std.specs.Prelude.{ℕ, zero, suc, ◌+◌, if◌then◌else◌, List, [], ◌∷◌, ◌++◌, length, take, map, nat_lt, nat_le}
use Rattle.std.specs.List.{list_all}
use Rattle.std.specs.Str.{chars}
use Rattle.script_lines.specs.declared.request.Ask.{Ask}
use Rattle.script_lines.specs.declared.request.Ask.TheVariants as ask
use Rattle.script_lines.specs.declared.request.Request.{Request}
use Rattle.script_lines.specs.declared.read.RequestLine.{RequestLine}
use Rattle.script_lines.specs.declared.read.RequestLine.TheVariants.{Nothing, Alone, EditHead, FieldHead}
use Rattle.script_lines.specs.Lines.{ended_lines, all_lines, is_plain}
use Rattle.script_lines.specs.Words.{request_line}

-- how many lines follow a request line
abbrev pub lines_wanted : RequestLine → ℕ
lines_wanted Nothing = 0
lines_wanted (Alone a) = 0
lines_wanted (EditHead from count added) = added
lines_wanted (FieldHead n) = n

-- what a request line and the lines that follow it ask for
abbrev pub asked : RequestLine → List (List ℕ) → Ask
asked Nothing lines = ask.Bad
asked (Alone a) lines = a
asked (EditHead from count added) lines = if list_all is_plain lines then ask.Edit (record { from = from; count = count; lines = map chars lines }) else ask.Bad
asked (FieldHead n) lines = if list_all is_plain lines then ask.Field (map chars lines) else ask.Bad

-- the request that begins with the line of that number, where the lines that it wants are there
abbrev pub request_at : ℕ → RequestLine → List (List ℕ) → List Request
request_at number Nothing more = []
request_at number head more =
    if nat_le (lines_wanted head) (length more) then (record { line = number; ask = asked head (take (lines_wanted head) more) } ∷ []) else []

-- The requests of lines, the first of which has this number, when more lines may follow. The first `taken` of the lines
-- belong to the request before them.
abbrev pub requests_in : ℕ → ℕ → List (List ℕ) → List Request
requests_in number taken [] = []
requests_in number zero (line ∷ lines) = request_at number (request_line line) lines ++ requests_in (number + 1) (lines_wanted (request_line line)) lines
requests_in number (suc taken) (line ∷ lines) = requests_in (number + 1) taken lines

-- the number of the last request line, if lines that it wants are missing
abbrev pub cut_off_in : ℕ → ℕ → List (List ℕ) → List ℕ
cut_off_in number taken [] = []
cut_off_in number zero (line ∷ lines) =
    (if nat_lt (length lines) (lines_wanted (request_line line)) then (number ∷ []) else []) ++ cut_off_in (number + 1) (lines_wanted (request_line line)) lines
cut_off_in number (suc taken) (line ∷ lines) = cut_off_in (number + 1) taken lines

abbrev pub bad_at : ℕ → Request
bad_at number = record { line = number; ask = ask.Bad }

-- the requests that these bytes complete when more may follow
abbrev pub whole : List ℕ → List Request
whole bytes = requests_in 1 0 (ended_lines bytes)

-- the requests of a whole script: one whose lines are cut off is a bad one
abbrev pub requests : List ℕ → List Request
requests bytes = requests_in 1 0 (all_lines bytes) ++ map bad_at (cut_off_in 1 0 (all_lines bytes))
