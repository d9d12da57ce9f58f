-- Request lines. docs/PROGRAM.md, "Script".
use Rattle.std.specs.Prelude.{ℕ, ℤ, ◌==◌, ◌&&◌, ◌||◌, if◌then◌else◌, Bool, true, false, Option, Some, None, List, [], ◌∷◌, length, nat_le, slice_index, codes}
use Rattle.std.specs.List.{slice_split}
use Rattle.std.specs.Str.{bytes_eq}
use Rattle.decimals.specs.Numbers.{number_of, whole_of}
use Rattle.kumir_values.specs.declared.value.Value.{Value}
use Rattle.kumir_values.specs.declared.value.Value.TheVariants.{Whole, Truth}
use Rattle.kumir_values.specs.Values.{printed}
use Rattle.script_lines.specs.declared.request.Ask.TheVariants.{Run, Stop, Wait, Bad}
use Rattle.script_lines.specs.declared.read.RequestLine.{RequestLine}
use Rattle.script_lines.specs.declared.read.RequestLine.TheVariants.{Nothing, Alone, EditHead, FieldHead}
use Rattle.script_lines.specs.Lines.{is_plain}

-- a number of at most nine digits
abbrev pub short_number_of : List ℕ → Option ℕ
short_number_of word = if nat_le (length word) 9 then number_of word else None

-- the value that the word is
abbrev pub some_whole : Option ℤ → Option Value
some_whole None = None
some_whole (Some z) = Some (Whole z)

abbrev pub value_of : List ℕ → Option Value
value_of word =
    if bytes_eq word (printed (Truth true)) then Some (Truth true)
    else (if bytes_eq word (printed (Truth false)) then Some (Truth false) else some_whole (whole_of word))

-- the values that the words are, where each is one
abbrev pub with_value : Option Value → Option (List Value) → Option (List Value)
with_value None values = None
with_value (Some v) None = None
with_value (Some v) (Some vs) = Some (v ∷ vs)

abbrev pub values_of : List (List ℕ) → Option (List Value)
values_of [] = Some []
values_of (word ∷ words) = with_value (value_of word) (values_of words)

abbrev pub edit_head : Option ℕ → Option ℕ → Option ℕ → RequestLine
edit_head (Some from) (Some count) (Some added) = if nat_le added 8192 then EditHead from count added else Alone Bad
edit_head _ _ _ = Alone Bad

-- what follows `edit`: three numbers of at most nine digits, and at most 8,192 added lines
abbrev pub edit_line : List (List ℕ) → RequestLine
edit_line (from ∷ count ∷ added ∷ []) = edit_head (short_number_of from) (short_number_of count) (short_number_of added)
edit_line _ = Alone Bad

abbrev pub field_head : Option ℕ → RequestLine
field_head (Some n) = if nat_le 1 n && nat_le n 65536 then FieldHead n else Alone Bad
field_head None = Alone Bad

-- what follows `field`: a number from 1 to 65,536
abbrev pub field_line : List (List ℕ) → RequestLine
field_line (n ∷ []) = field_head (number_of n)
field_line _ = Alone Bad

abbrev pub run_head : Option (List Value) → RequestLine
run_head (Some inputs) = Alone (Run inputs)
run_head None = Alone Bad

-- the request line of these words, parted by one blank each
abbrev pub line_of_words : List (List ℕ) → RequestLine
line_of_words [] = Alone Bad
line_of_words (word ∷ words) =
    if bytes_eq word (codes "edit") then edit_line words
    else (if bytes_eq word (codes "field") then field_line words
    else (if bytes_eq word (codes "run") then run_head (values_of words)
    else (if length words == 0 && bytes_eq word (codes "stop") then Alone Stop
    else (if length words == 0 && bytes_eq word (codes "wait") then Alone Wait else Alone Bad))))

-- an empty line, or one that begins with `#`
abbrev pub is_nothing : List ℕ → Bool
is_nothing line = length line == 0 || slice_index line 0 == 35

-- the request line that a line is
abbrev pub request_line : List ℕ → RequestLine
request_line line = if is_nothing line then Nothing else (if is_plain line then line_of_words (slice_split (λ b. b == 32) line) else Alone Bad)
