-- How margins print, as bytes.
use Rattle.std.specs.Prelude.{ℕ, List, ◌++◌, codes}
use Rattle.std.specs.List.{flat_map}
use Rattle.std.specs.Fmt.{decimal}
use Rattle.margins.specs.declared.margin.Mark.{Mark}

-- line and code, parted by one blank, and the line's end
abbrev pub printed_line : Mark → List ℕ
printed_line m = decimal m.line ++ (codes " " ++ (decimal m.code ++ codes "\n"))

-- line and code with a colon between
abbrev pub mark_word : Mark → List ℕ
mark_word m = decimal m.line ++ (codes ":" ++ decimal m.code)

-- the same after one blank
abbrev pub printed_mark : Mark → List ℕ
printed_mark m = codes " " ++ mark_word m

-- the lines of `check`
abbrev pub printed_lines : List Mark → List ℕ
printed_lines marks = flat_map printed_line marks

-- the marks of an entry of the transcript
abbrev pub printed_margin : List Mark → List ℕ
printed_margin marks = flat_map printed_mark marks
