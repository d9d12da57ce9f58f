-- A sample is within the limit of scripts.
use Rattle.std.proofs.Common.{◌≡◌, ℕ, zero, suc, ◌+◌, ◌*◌, ◌-◌, ◌%◌, ◌^◌, ◌<◌, ◌≤◌, true, List, ◌++◌, length, length-append, refl, sym, subst, arith}
use Rattle.std.specs.Prelude.{nat_le, codes}
use Rattle.std.specs.List.{flat_map, range_with_len}
use Rattle.std.specs.Fmt.{decimal}
use Rattle.std.proofs.lemmas.Fmt.{length-decimal-le}
use Rattle.std.proofs.lemmas.Bool.{leb-true}
use Rattle.km_base.specs.Limits.{script_bytes}
use Rattle.sample_maker.specs.Sample.{utf8, stages, stage_numbers, call_line, main_text, value_line, stage_text, edit_line, first_edit, next_edit, sample}

-- ---- parts

joined : (m n : ℕ) (xs ys : List ℕ) → length xs ≤ m → length ys ≤ n → length (xs ++ ys) ≤ m + n
joined m n xs ys p q = omega (arith, length-append xs ys, p, q)

word : (n : ℕ) (xs : List ℕ) → nat_le (length xs) n ≡ true → length xs ≤ n
word n xs e = leb-true (length xs) n e

number_short : (n : ℕ) → n < 2 ^ 64 → length (decimal n) ≤ 20
number_short n small = length-decimal-le 20 n (omega arith) (omega (arith, small)) small

value_head : length (utf8 (codes "знач := mod(x * ")) ≤ 30
unfolding lib.Utf8.encode
value_head = word 30 (utf8 (codes "знач := mod(x * ")) refl

stage_head : length (utf8 (codes "алг цел f_")) ≤ 30
unfolding lib.Utf8.encode
stage_head = word 30 (utf8 (codes "алг цел f_")) refl

stage_begin : length (utf8 (codes "(арг цел x)\nнач\n")) ≤ 60
unfolding lib.Utf8.encode
stage_begin = word 60 (utf8 (codes "(арг цел x)\nнач\n")) refl

stage_end : length (utf8 (codes "кон\n")) ≤ 40
unfolding lib.Utf8.encode
stage_end = word 40 (utf8 (codes "кон\n")) refl

main_head : length (utf8 (codes "алг главная\nнач\nцел s\ns := ")) ≤ 100
unfolding lib.Utf8.encode
main_head = word 100 (utf8 (codes "алг главная\nнач\nцел s\ns := ")) refl

main_end : length (utf8 (codes "вывод s\nкон\n")) ≤ 9979
unfolding lib.Utf8.encode
main_end = word 9979 (utf8 (codes "вывод s\nкон\n")) refl

-- the texts of so many numbers, each of which is short
texts_short : (f : ℕ → List ℕ) (n a : ℕ) → a + n ≤ 300 → ((j : ℕ) → j < 300 → length (f j) ≤ 300) → length (flat_map f (range_with_len a n)) ≤ n * 300
texts_short f zero a within short = omega arith
texts_short f (suc n) a within short =
    omega (arith, length-append (f a) (flat_map f (range_with_len (a + 1) n)), short a (omega (arith, within)), texts_short f n (a + 1) (omega (arith, within)) short)

-- ---- lines

call_short : (j : ℕ) → j < 300 → length (call_line j) ≤ 300
call_short j few =
    let all = joined 7 24 (codes "s := f_") (decimal j ++ codes "(s)\n") (word 7 (codes "s := f_") refl) (joined 20 4 (decimal j) (codes "(s)\n") (number_short j (omega (arith, few))) (word 4 (codes "(s)\n") refl)) in
    omega (arith, all)

value_short : (factor j : ℕ) → factor < 2 ^ 64 → j < 2 ^ 64 → length (value_line factor j) ≤ 100
value_short factor j small few =
    let all = joined 30 70 (utf8 (codes "знач := mod(x * ")) (decimal factor ++ (codes " + " ++ (decimal j ++ codes ", 1000)\n")))
    value_head
    (joined 20 50 (decimal factor) (codes " + " ++ (decimal j ++ codes ", 1000)\n")) (number_short factor small)
    (joined 10 40 (codes " + ") (decimal j ++ codes ", 1000)\n") (word 10 (codes " + ") refl)
    (joined 20 20 (decimal j) (codes ", 1000)\n") (number_short j few) (word 20 (codes ", 1000)\n") refl)))) in
    omega (arith, all)

edit_short : (from count added : ℕ) → from < 2 ^ 64 → count < 2 ^ 64 → added < 2 ^ 64 → length (edit_line from count added) ≤ 100
edit_short from count added p q r =
    let all = joined 10 83 (codes "edit ") (decimal from ++ (codes " " ++ (decimal count ++ (codes " " ++ (decimal added ++ codes "\n"))))) (word 10 (codes "edit ") refl)
    (joined 20 63 (decimal from) (codes " " ++ (decimal count ++ (codes " " ++ (decimal added ++ codes "\n")))) (number_short from p)
    (joined 1 62 (codes " ") (decimal count ++ (codes " " ++ (decimal added ++ codes "\n"))) (word 1 (codes " ") refl)
    (joined 20 42 (decimal count) (codes " " ++ (decimal added ++ codes "\n")) (number_short count q)
    (joined 1 41 (codes " ") (decimal added ++ codes "\n") (word 1 (codes " ") refl)
    (joined 20 21 (decimal added) (codes "\n") (number_short added r) (word 21 (codes "\n") refl)))))) in
    omega (arith, all)

stage_short : (j : ℕ) → j < 300 → length (stage_text j) ≤ 300
stage_short j few =
    let all = joined 30 220 (utf8 (codes "алг цел f_")) (decimal j ++ (utf8 (codes "(арг цел x)\nнач\n") ++ (value_line 1 j ++ utf8 (codes "кон\n")))) stage_head
    (joined 20 200 (decimal j) (utf8 (codes "(арг цел x)\nнач\n") ++ (value_line 1 j ++ utf8 (codes "кон\n"))) (number_short j (omega (arith, few)))
    (joined 60 140 (utf8 (codes "(арг цел x)\nнач\n")) (value_line 1 j ++ utf8 (codes "кон\n")) stage_begin
    (joined 100 40 (value_line 1 j) (utf8 (codes "кон\n")) (value_short 1 j (omega arith) (omega (arith, few))) stage_end))) in
    omega (arith, all)

next_short : (number j : ℕ) → j < 300 → length (next_edit number j) ≤ 300
next_short number j few =
    let all = joined 100 100 (edit_line (stages number + 6 + 4 * (j - 1) + 3) 1 1) (value_line (2 + (number + j) % 7) j)
    (edit_short (stages number + 6 + 4 * (j - 1) + 3) 1 1 (omega (arith, few)) (omega arith) (omega arith))
    (value_short (2 + (number + j) % 7) j (omega arith) (omega (arith, few))) in
    omega (arith, all)

-- ---- the script

main_short : (number : ℕ) → length (main_text number) ≤ 100000
main_short number =
    let stages_few : stages number < 220 = omega arith in
    let calls = texts_short call_line (stages number) 1 (omega (arith, stages_few)) call_short in
    let all = joined 100 90000 (utf8 (codes "алг главная\nнач\nцел s\ns := ")) (decimal (number % 1000) ++ (codes "\n" ++ (flat_map call_line (stage_numbers number) ++ utf8 (codes "вывод s\nкон\n"))))
    main_head
    (joined 20 89980 (decimal (number % 1000)) (codes "\n" ++ (flat_map call_line (stage_numbers number) ++ utf8 (codes "вывод s\nкон\n"))) (number_short (number % 1000) (omega arith))
    (joined 1 89979 (codes "\n") (flat_map call_line (stage_numbers number) ++ utf8 (codes "вывод s\nкон\n")) (word 1 (codes "\n") refl)
    (joined 80000 9979 (flat_map call_line (stage_numbers number)) (utf8 (codes "вывод s\nкон\n")) (omega (arith, calls, stages_few)) main_end))) in
    omega (arith, all)

sample_short : (number : ℕ) → length (sample number) ≤ script_bytes
sample_short number =
    let stages_few : stages number < 220 = omega arith in
    let steps = texts_short stage_text (stages number) 1 (omega (arith, stages_few)) stage_short in
    let edits = texts_short (next_edit number) (stages number) 1 (omega (arith, stages_few)) (next_short number) in
    let first = joined 100 200000 (edit_line 1 0 (5 * stages number + 6)) (main_text number ++ flat_map stage_text (stage_numbers number))
    (edit_short 1 0 (5 * stages number + 6) (omega arith) (omega arith) (omega (arith, stages_few)))
    (joined 100000 100000 (main_text number) (flat_map stage_text (stage_numbers number)) (main_short number) (omega (arith, steps, stages_few))) in
    let all = joined 200100 100100 (first_edit number) (flat_map (next_edit number) (stage_numbers number) ++ codes "run\n") first
    (joined 100000 100 (flat_map (next_edit number) (stage_numbers number)) (codes "run\n") (omega (arith, edits, stages_few)) (word 100 (codes "run\n") refl)) in
    omega (arith, all)

pub within : (number : ℕ) (bytes : List ℕ) → bytes ≡ sample number → length bytes ≤ script_bytes
within number bytes is = subst (λ b. length b ≤ script_bytes) (sym is) (sample_short number)
