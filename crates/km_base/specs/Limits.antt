-- The limits of texts, programs, runs and scripts, as numbers. docs/PROGRAM.md, "Limits".
use Rattle.std.specs.Prelude.{ℕ}

-- bytes of a text, with one byte counted between each two neighbouring lines
abbrev pub text_bytes : ℕ
text_bytes = 262144

-- lines of a text
abbrev pub text_lines : ℕ
text_lines = 8192

-- characters of one line of a text
abbrev pub line_characters : ℕ
line_characters = 1024

-- brackets that are open at one place of a piece
abbrev pub open_brackets : ℕ
open_brackets = 100

-- blocks that are open at one place of a unit
abbrev pub open_blocks : ℕ
open_blocks = 100

-- algorithms that are entered at one time in a run, the main one counted
abbrev pub call_depth : ℕ
call_depth = 1000

-- table elements that exist at one time in a run
abbrev pub table_elements : ℕ
table_elements = 1000000

-- steps of a run, where the command line does not say otherwise
abbrev pub usual_steps : ℕ
usual_steps = 1000000

-- the most steps that the command line may ask for
abbrev pub most_steps : ℕ
most_steps = 100000000

-- bytes of a session script
abbrev pub script_bytes : ℕ
script_bytes = 67108864

-- bytes of one line of a session script, without its end
abbrev pub script_line_bytes : ℕ
script_line_bytes = 4096

-- lines that one edit adds
abbrev pub added_lines : ℕ
added_lines = 8192

-- lines of one field text
abbrev pub field_lines : ℕ
field_lines = 65536

-- cells of a field from left to right, and from top to bottom
abbrev pub field_side : ℕ
field_side = 128

-- the number of the newest version that a text can have
abbrev pub newest_version : ℕ
newest_version = 100000
