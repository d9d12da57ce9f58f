-- The lines of a text, each as the list of its characters.
use Rattle.std.specs.Prelude.{ℕ, ◌&&◌, ◌==◌, if◌then◌else◌, List, drop, map, ◌≢◌, All, slice_index}
use Rattle.std.specs.Str.{chars}
use Rattle.std.specs.Str.Lines.{lines}

-- the characters of one line: no line feed is among them
abbrev pub IsLine : List ℕ → Type 0
IsLine cs = All (λ c. c ≢ 10) cs

-- the bytes of a text without a leading U+FEFF
abbrev pub without_mark : List ℕ → List ℕ
without_mark bytes = if slice_index bytes 0 == 239 && slice_index bytes 1 == 187 && slice_index bytes 2 == 191 then drop 3 bytes else bytes

-- The lines of a text in UTF-8. A leading U+FEFF is dropped. A line feed ends a line, and one carriage return directly
-- before it belongs to the end; a last line feed begins no further line.
abbrev pub lines_of : List ℕ → List (List ℕ)
lines_of bytes = map chars (lines (without_mark bytes))
