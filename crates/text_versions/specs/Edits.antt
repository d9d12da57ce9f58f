-- Edits, and the versions that they make.
use Rattle.std.specs.Prelude.{ℕ, ◌+◌, ◌-◌, ◌&&◌, Bool, if◌then◌else◌, List, [], ◌++◌, length, take, drop, fold, nat_le, Result, Ok, Err}
use Rattle.text_versions.specs.declared.limits.Limits.{Limits}
use Rattle.text_versions.specs.declared.edit.Edit.{Edit}
use Rattle.text_versions.specs.declared.versions.ApplyRefusal.{ApplyRefusal}
use Rattle.text_versions.specs.declared.versions.ApplyRefusal.TheVariants.{Range, TooLong, TooMany}
use Rattle.text_versions.specs.Texts.{is_within}

-- the lines that the edit replaces are lines of the text
abbrev pub is_in_range : List (List ℕ) → Edit → Bool
is_in_range lines e = nat_le 1 e.from && nat_le (e.from - 1 + e.count) (length lines)

-- the lines before line `from`, the new lines, and what follows the next `count` lines
abbrev pub edited : List (List ℕ) → Edit → List (List ℕ)
edited lines e = take (e.from - 1) lines ++ e.lines ++ drop (e.from - 1 + e.count) lines

-- the text that the edits make of the empty text
abbrev pub text_after : List Edit → List (List ℕ)
text_after edits = fold edited [] edits

-- the text after the first of the edits
abbrev pub version : List Edit → ℕ → List (List ℕ)
version edits v = text_after (take v edits)

-- the answer to one more edit, after these were accepted: the first refusal that has its cause, or the new number
abbrev pub answer_to : Limits → List Edit → Edit → Result ℕ ApplyRefusal
answer_to limits edits e =
    if is_in_range (text_after edits) e
    then (if is_within limits (edited (text_after edits) e)
    then (if nat_le limits.versions (length edits) then Err TooMany else Ok (length edits + 1))
    else Err TooLong)
    else Err Range

-- what comes of an edit of the text of version `newest`: the first refusal that has its cause, or the new text
abbrev pub outcome_of : Limits → List (List ℕ) → ℕ → Edit → Result (List (List ℕ)) ApplyRefusal
outcome_of limits text newest e =
    if is_in_range text e
    then (if is_within limits (edited text e)
    then (if nat_le limits.versions newest then Err TooMany else Ok (edited text e))
    else Err TooLong)
    else Err Range
