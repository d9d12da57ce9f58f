-- A printed margin is an empty part and then its marks, each after one blank.
use Rattle.std.proofs.Common.{◌≡◌, ℕ, suc, ◌+◌, ◌^◌, ◌<◌, false, List, [], ◌∷◌, ◌++◌, get_or, map, eqb, refl, ap, ◌∙◌, append-nil, arith}
use Rattle.std.specs.Prelude.{All}
use Rattle.std.specs.List.{slice_split}
use Rattle.std.specs.Fmt.{decimal}
use Rattle.std.proofs.lemmas.Bool.Decides.{nat_tests}
use Rattle.std.proofs.lemmas.List.{get_or_default}
use Rattle.std.proofs.lemmas.List.Elements.{All-append, All-cons}
use Rattle.std.proofs.lemmas.List.Splits.{slice_split_none, slice_split_at}
use Rattle.std.proofs.lemmas.Str.Parse.{digit_at}
use Rattle.std.proofs.lemmas.Fmt.{decimal_is_IsNumeral}
use Rattle.margins.specs.declared.margin.Mark.{Mark}
use Rattle.margins.specs.Marks.{IsMark, IsMargin}
use Rattle.margins.specs.Printed.{mark_word, printed_margin}

abbrev NoBlank : List ℕ → Type 0
NoBlank text = All (λ c. eqb c 32 ≡ false) text

digit_no_blank : (c : ℕ) → 48 < c + 1 → eqb c 32 ≡ false
digit_no_blank c h = grind (arith, nat_tests)

decimal_no_blank : (n : ℕ) → n < 2 ^ 64 → NoBlank (decimal n)
decimal_no_blank n small k d within =
    let digit = digit_at (decimal n) k (decimal_is_IsNumeral n small).0.1 within in
    let same : get_or (decimal n) k d ≡ get_or (decimal n) k 0 = get_or_default (decimal n) k d 0 within in
    digit_no_blank (get_or (decimal n) k d) (omega (arith, digit.0))

mark_no_blank : (m : Mark) → IsMark m → NoBlank (mark_word m)
mark_no_blank m h =
    All-append (λ c. eqb c 32 ≡ false) (decimal m.line) (58 ∷ decimal m.code)
    (decimal_no_blank m.line (omega (arith, h.line)))
    (All-cons (λ c. eqb c 32 ≡ false) 58 (decimal m.code) refl (decimal_no_blank m.code (omega (arith, h.code))))

split_marks : (m : Mark) (ms : List Mark) → All IsMark (m ∷ ms) → slice_split (λ b. eqb b 32) (mark_word m ++ printed_margin ms) ≡ mark_word m ∷ map mark_word ms
split_marks m [] each =
    ap (slice_split (λ b. eqb b 32)) (append-nil (mark_word m)) ∙ slice_split_none (λ b. eqb b 32) (mark_word m) (mark_no_blank m (each 0 m (omega arith)))
split_marks m (n ∷ ms) each =
    slice_split_at (λ b. eqb b 32) (mark_word m) 32 (mark_word n ++ printed_margin ms) (mark_no_blank m (each 0 m (omega arith))) refl
    ∙ ap (λ l. mark_word m ∷ l) (split_marks n ms (λ k d h. each (suc k) d (omega arith)))

pub margin_words : (ms : List Mark) → IsMargin ms → slice_split (λ b. eqb b 32) (printed_margin ms) ≡ [] ∷ map mark_word ms
margin_words [] margin = refl
margin_words (m ∷ ms) margin = ap (λ l. [] ∷ l) (split_marks m ms margin.each)

pub tails_same : (x y : List ℕ) (xs ys : List (List ℕ)) → x ∷ xs ≡ y ∷ ys → xs ≡ ys
tails_same x y xs ys e = cc
