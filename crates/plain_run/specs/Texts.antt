-- Which bytes are a text, and why other bytes are refused. docs/PROGRAM.md, "Statuses" and "Limits".
use Rattle.std.specs.Prelude.{ℕ, ◌-◌, ◌<◌, ◌≤◌, Bool, true, false, List, [], length, take, slice_index_or, All}
use Rattle.std.specs.Str.{IsUtf8, IsValidUpTo}
use Rattle.km_base.specs.Limits.{text_bytes, text_lines, line_characters}
use Rattle.kumir_tree.specs.Lines.{lines_of}
use Rattle.km_ports.specs.declared.status.Status.{Status}
use Rattle.km_ports.specs.declared.status.Status.TheVariants as status
use Rattle.km_ports.specs.declared.status.Excess.{Excess}
use Rattle.km_ports.specs.declared.status.Excess.TheVariants as excess

-- no line has more characters than a line may have
abbrev pub AreShort : List (List ℕ) → Type 0
AreShort lines = All (λ line. length line ≤ line_characters) lines

-- lines within the limits
pub record AreLines (lines : List (List ℕ)) : Type 0 where
  pub few : length lines ≤ text_lines
  pub short : AreShort lines

-- that line, counted from 1, is the first with more characters than a line may have
pub record IsFirstLong (lines : List (List ℕ)) (number : ℕ) : Type 0 where
  pub counted : 1 ≤ number
  pub within : number ≤ length lines
  pub long : line_characters < length (slice_index_or lines (number - 1) [])
  pub before : AreShort (take (number - 1) lines)

-- which limit lines pass: that of lines, or else that of characters
abbrev pub Exceed : List (List ℕ) → Excess → Type 0
Exceed lines excess.Bytes = ⊥
Exceed lines excess.Lines = text_lines < length lines
Exceed lines (excess.Characters number) = (length lines ≤ text_lines) × IsFirstLong lines number

-- a text: bytes within their limit, in UTF-8, with lines within the limits
pub record IsText (input : List ℕ) : Type 0 where
  pub bytes : length input ≤ text_bytes
  pub utf8 : IsUtf8 input
  pub lines : AreLines (lines_of input)

-- Why the input is no text, in the order in which it is asked: bytes, UTF-8, lines, characters. Each cause excludes
-- those before it, so an input that is no text has one.
abbrev pub IsRefusedAs : List ℕ → Status → Type 0
IsRefusedAs input (status.TooLong excess.Bytes) = text_bytes < length input
IsRefusedAs input (status.NotUtf8 place) = (length input ≤ text_bytes) × (IsUtf8 input → ⊥) × IsValidUpTo input place
IsRefusedAs input (status.TooLong excess.Lines) = (length input ≤ text_bytes) × IsUtf8 input × Exceed (lines_of input) excess.Lines
IsRefusedAs input (status.TooLong (excess.Characters number)) = (length input ≤ text_bytes) × IsUtf8 input × Exceed (lines_of input) (excess.Characters number)
IsRefusedAs input status.Fine = ⊥
IsRefusedAs input status.Faults = ⊥
IsRefusedAs input status.Words = ⊥
IsRefusedAs input status.Read = ⊥
IsRefusedAs input status.Write = ⊥
IsRefusedAs input status.Memory = ⊥

-- the statuses that say that the input is no text
abbrev pub says_no_text : Status → Bool
says_no_text status.Fine = false
says_no_text status.Faults = false
says_no_text status.Words = false
says_no_text status.Read = false
says_no_text status.Write = false
says_no_text status.Memory = false
says_no_text (status.NotUtf8 place) = true
says_no_text (status.TooLong e) = true

-- the statuses that say that the work was done
abbrev pub says_done : Status → Bool
says_done status.Fine = true
says_done status.Faults = true
says_done status.Words = false
says_done status.Read = false
says_done status.Write = false
says_done status.Memory = false
says_done (status.NotUtf8 place) = false
says_done (status.TooLong e) = false

-- the statuses that come only behind the end of the input
abbrev pub says_read_to_end : Status → Bool
says_read_to_end status.Fine = true
says_read_to_end status.Faults = true
says_read_to_end status.Words = false
says_read_to_end status.Read = false
says_read_to_end status.Write = true
says_read_to_end status.Memory = false
says_read_to_end (status.NotUtf8 place) = true
says_read_to_end (status.TooLong excess.Bytes) = false
says_read_to_end (status.TooLong excess.Lines) = true
says_read_to_end (status.TooLong (excess.Characters line)) = true
