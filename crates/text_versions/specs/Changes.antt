-- Changes of one line, and the edits that they stand for.
use Rattle.std.specs.Prelude.{ℕ, ◌+◌, ◌-◌, ◌&&◌, Bool, if◌then◌else◌, List, [], ◌∷◌, ◌++◌, length, take, drop, nat_le, slice_index_or, Result, Err}
use Rattle.text_versions.specs.declared.limits.Limits.{Limits}
use Rattle.text_versions.specs.declared.edit.Edit.{Edit}
use Rattle.text_versions.specs.declared.versions.ApplyRefusal.{ApplyRefusal}
use Rattle.text_versions.specs.declared.versions.ApplyRefusal.TheVariants.{Range}
use Rattle.text_versions.specs.Edits.{text_after, answer_to}

-- the line with the text in the place of `count` characters from place `from` on, counted from 0
abbrev pub changed : List ℕ → ℕ → ℕ → List ℕ → List ℕ
changed line from count text = take from line ++ text ++ drop (from + count) line

-- that line of the text, counted from 1
abbrev pub line_of : List (List ℕ) → ℕ → List ℕ
line_of lines line = slice_index_or lines (line - 1) []

-- the characters that the change replaces are characters of a line of the text
abbrev pub is_change_in_range : List (List ℕ) → ℕ → ℕ → ℕ → Bool
is_change_in_range lines line from count =
    nat_le 1 line && nat_le line (length lines)
    && nat_le (from + count) (length (line_of lines line))

-- the edit that the change stands for: it puts the changed line in the place of that line
abbrev pub edit_of_change : List (List ℕ) → ℕ → ℕ → ℕ → List ℕ → Edit
edit_of_change lines line from count text =
    record { from = line; count = 1; lines = changed (line_of lines line) from count text ∷ [] }

-- the answer to a change, after these edits were accepted
abbrev pub answer_to_change : Limits → List Edit → ℕ → ℕ → ℕ → List ℕ → Result ℕ ApplyRefusal
answer_to_change limits edits line from count text =
    if is_change_in_range (text_after edits) line from count
    then answer_to limits edits (edit_of_change (text_after edits) line from count text)
    else Err Range
