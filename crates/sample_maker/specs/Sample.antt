-- The sample of a number: a script, as its bytes. docs/PROGRAM.md, "Sample".
use Rattle.std.specs.Prelude.{ℕ, ◌+◌, ◌*◌, ◌-◌, ◌%◌, List, ◌++◌, codes}
use Rattle.std.specs.List.{flat_map, range_with_len}
use Rattle.std.specs.Fmt.{decimal}
use Rattle.std.specs.Str.{encode_utf8_all}

-- a text in UTF-8
abbrev pub utf8 : List ℕ → List ℕ
utf8 text = encode_utf8_all text

-- how many algorithms the main one calls, one after the other: the stages
abbrev pub stages : ℕ → ℕ
stages number = 20 + number % 200

-- their numbers 1, 2, ..
abbrev pub stage_numbers : ℕ → List ℕ
stage_numbers number = range_with_len 1 (stages number)

-- ---- the text of version 1

-- the line that calls stage j
abbrev pub call_line : ℕ → List ℕ
call_line j = codes "s := f_" ++ (decimal j ++ codes "(s)\n")

-- the main algorithm, which has 6 lines and one for each stage
abbrev pub main_text : ℕ → List ℕ
main_text number =
    utf8 (codes "алг главная\nнач\nцел s\ns := ") ++ (decimal (number % 1000) ++ (codes "\n"
    ++ (flat_map call_line (stage_numbers number) ++ utf8 (codes "вывод s\nкон\n"))))

-- the line that gives stage j its value
abbrev pub value_line : ℕ → ℕ → List ℕ
value_line factor j = utf8 (codes "знач := mod(x * ") ++ (decimal factor ++ (codes " + " ++ (decimal j ++ codes ", 1000)\n")))

-- stage j, which has 4 lines; the third gives its value
abbrev pub stage_text : ℕ → List ℕ
stage_text j = utf8 (codes "алг цел f_") ++ (decimal j ++ (utf8 (codes "(арг цел x)\nнач\n") ++ (value_line 1 j ++ utf8 (codes "кон\n"))))

-- ---- the requests

abbrev pub edit_line : ℕ → ℕ → ℕ → List ℕ
edit_line from count added = codes "edit " ++ (decimal from ++ (codes " " ++ (decimal count ++ (codes " " ++ (decimal added ++ codes "\n")))))

-- the first edit: all lines of version 1
abbrev pub first_edit : ℕ → List ℕ
first_edit number = edit_line 1 0 (5 * stages number + 6) ++ (main_text number ++ flat_map stage_text (stage_numbers number))

-- the edit that puts another factor into the value of stage j
abbrev pub next_edit : ℕ → ℕ → List ℕ
next_edit number j = edit_line (stages number + 6 + 4 * (j - 1) + 3) 1 1 ++ value_line (2 + (number + j) % 7) j

-- the script: the first edit, one for each stage, and a run
abbrev pub sample : ℕ → List ℕ
sample number = first_edit number ++ (flat_map (next_edit number) (stage_numbers number) ++ codes "run\n")
