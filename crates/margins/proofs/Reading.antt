-- The parts of a printed margin.
use Rattle.std.proofs.Common.{◌≡◌, ◌≢◌, ℕ, ◌+◌, ◌^◌, ◌<◌, List, [], ◌∷◌, ◌++◌, length, get_or, take, map, Option, Some, Result, Ok, MatchOption, Bor, sym, ap, ◌∙◌, arith}
use Rattle.std.specs.Fmt.{decimal}
use Rattle.std.specs.Str.Parse.{ParsesUnsigned, AllDigits, digits_value}
use Rattle.std.proofs.lemmas.List.{length-take-le, get_or-take, take_more, get_or_default, get_or-map, length-map}
use Rattle.std.proofs.lemmas.Str.Parse.{IsNumeralModel, numerals_by_value, tells_digits, not_in_digits}
use Rattle.std.proofs.lemmas.Str.Pattern.{IsSplitOnceResult, split_after}
use Rattle.std.proofs.lemmas.Fmt.{parse-decimal, decimal_is_IsNumeral}
use Rattle.margins.specs.declared.margin.Mark.{Mark}
use Rattle.margins.specs.Marks.{IsMark, IsMargin, IsBefore}
use Rattle.margins.specs.Printed.{mark_word}

own : IsNumeralModel (AllDigits 10) (digits_value 10)
own = numerals_by_value (AllDigits 10) tells_digits

wide_line : (m : Mark) → IsMark m → m.line < 2 ^ 64
wide_line m h = omega (arith, h.line)

wide_code : (m : Mark) → IsMark m → m.code < 2 ^ 64
wide_code m h = omega (arith, h.code)

no_colon : (n : ℕ) → n < 2 ^ 64 → (i : ℕ) → i < length (decimal n) → get_or (decimal n) i 0 ≢ 58
no_colon n small = not_in_digits own (decimal n) 58 (decimal_is_IsNumeral n small).0.1 (λ h. omega arith)

pub same_ok : {E : Type 0} (r : Result ℕ E) (m n : ℕ) → r ≡ Ok m → r ≡ Ok n → m ≡ n
same_ok r m n p q = cc

-- line and code stand before and after the colon
pub mark_parts : (word : List ℕ) (m : Mark) (r : Option (Bor (List ℕ) × Bor (List ℕ))) → IsSplitOnceResult 58 word r → IsMark m → word ≡ mark_word m → MatchOption r ⊥ (λ x. (x.0.now ≡ decimal m.line) × (x.1.now ≡ decimal m.code))
mark_parts word m r cut h is = split_after 58 word (decimal m.line) (decimal m.code) r cut (omega arith) is (no_colon m.line (wide_line m h))

pub line_read : {E : Type 0} (text : List ℕ) (m : Mark) (r : Result ℕ E) → ParsesUnsigned 32 10 text r → IsMark m → text ≡ decimal m.line → r ≡ Ok m.line
line_read text m r parses h is = parse-decimal 32 m.line text r h.line (wide_line m h) is parses

pub code_read : {E : Type 0} (text : List ℕ) (m : Mark) (r : Result ℕ E) → ParsesUnsigned 16 10 text r → IsMark m → text ≡ decimal m.code → r ≡ Ok m.code
code_read text m r parses h is = parse-decimal 16 m.code text r h.code (wide_code m h) is parses

no_mark : Mark
no_mark = record { line = 0; code = 0 }

-- a mark of a margin, at its place
pub record IsAt (ms : List Mark) (i : ℕ) (m : Mark) : Type 0 where
  pub within : i < length ms
  pub is : m ≡ get_or ms i m
  pub mark : IsMark m

-- a part of a printed margin is a mark of it
pub mark_at : (words : List (Bor (List ℕ))) (ms : List Mark) (i : ℕ) (w : Bor (List ℕ)) → i < length words → IsMargin ms → map (λ w. w.now) words ≡ map mark_word ms → (m : Mark) × IsAt ms i m × ((get_or words i w).now ≡ mark_word m)
mark_at words ms i w within margin same =
    let lengths : length words ≡ length ms = sym (length-map words (λ w. w.now)) ∙ ap length same ∙ length-map ms mark_word in
    let below : i < length ms = omega arith in
    let m = get_or ms i no_mark in (
      m,
      record { within = below; is = get_or_default ms i no_mark m below; mark = margin.each i no_mark below },
      sym (get_or-map (λ w. w.now) words i w [] within) ∙ ap (λ l. get_or l i []) same ∙ get_or-map mark_word ms i no_mark [] below,
    )

-- the marks before it stand on lines before its own
pub before_it : (ms : List Mark) (i : ℕ) (m : Mark) → IsMargin ms → IsAt ms i m → IsBefore (take i ms) m.line
before_it ms i m margin at k d below =
    let within = at.within in
    let short : length (take i ms) ≡ i = length-take-le i ms (omega arith) in
    let less : k < i = omega arith in
    let rises = margin.rising k i d less at.within in
    let own_line : m.line ≡ (get_or ms i d).line = ap (λ x. x.line) (at.is ∙ get_or_default ms i m d at.within) in
    let same : (get_or (take i ms) k d).line ≡ (get_or ms k d).line = ap (λ x. x.line) (get_or-take i ms k d less) in
    omega arith

-- one more mark
pub take_it : (ms : List Mark) (i : ℕ) (m : Mark) → IsAt ms i m → take (i + 1) ms ≡ take i ms ++ m ∷ []
take_it ms i m at = take_more ms i m at.within ∙ ap (λ x. take i ms ++ x ∷ []) (sym at.is)

pub same_mark : (r : Option Mark) (m n : Mark) → r ≡ Some m → r ≡ Some n → m ≡ n
same_mark r m n p q = cc
