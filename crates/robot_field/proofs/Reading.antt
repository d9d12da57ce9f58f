-- Numbers and words read back from their one spelling.
use Rattle.std.proofs.Common.{◌≡◌, ◌≢◌, ℕ, ◌+◌, ◌^◌, ◌<◌, length, get_or, List, [], ◌∷◌, ◌++◌, Option, Result, Ok, Err, MatchOption, take, suc, zero, Bool, true, false, encode_utf8_all, ◌⊎◌, ⊎_elim, refl, sym, ap, subst, ◌∙◌, arith}
use Rattle.std.specs.Bool.{OnFalse}
use Rattle.std.proofs.lemmas.Bool.{false≢true}
use Rattle.std.proofs.lemmas.List.{take_more}
use Rattle.std.specs.Fmt.{decimal}
use Rattle.std.specs.Str.Parse.{ParsesUnsigned, AllDigits}
use Rattle.std.specs.Result.{result_ok, OkIff}
use Rattle.std.proofs.lemmas.Str.Parse.{IsNumeralModel, not_in_digits, parse_plain, numerals_by_value, tells_digits, digit_at}
use Rattle.std.proofs.lemmas.Fmt.{decimal-digits_value, parse-decimal, decimal_is_IsNumeral, first_decimal, decimal_nonempty, decimal_digit, decimal_injective}
use Rattle.std.specs.Str.Parse.{digits_value}
use Rattle.std.proofs.Common.{Bor}
use Rattle.std.proofs.lemmas.Str.Pattern.{IsSplitOnceResult, split_after}
use Rattle.robot_field.specs.declared.text.MarkKind.{MarkKind}
use Rattle.robot_field.specs.declared.text.MarkKind.TheVariants.{Paint, RightWall, BelowWall}
use Rattle.robot_field.specs.declared.text.Mark.{Mark}
use Rattle.robot_field.specs.declared.text.Header.{Header}
use Rattle.robot_field.specs.Board.{Board}
use Rattle.robot_field.specs.Text.{kind_word, mark_text, header_text, IsCountedMark, IsCountedHeader}
use Rattle.robot_field.specs.FieldText.{is_placed, fits, fits_kind, marked, Marks, SetsMark, IsMarkLine, IsHeaderLine}
use Rattle.robot_field.specs.Numbers.{IsCount, ReadsOne, pair_text}

own : IsNumeralModel (AllDigits 10) (digits_value 10)
own = numerals_by_value (AllDigits 10) tells_digits

-- zero is spelled `0`
positive : (n : ℕ) (bs : List ℕ) → bs ≡ decimal n → 48 < get_or bs 0 0 → 0 < n
positive zero bs e h = let z : get_or bs 0 0 ≡ 48 = ap (λ t. get_or t 0 0) (e ∙ decimal_digit 0 (omega arith)) in absurd (omega arith)
positive (suc n) bs e h = omega arith

small : (n : ℕ) → n < 2 ^ 32 → n < 2 ^ 64
small n h = omega arith

-- what `parse` gives of a text that begins with a digit above 0
pub parsed_is_read : {E : Type 0} (bs : List ℕ) (r : Result ℕ E) → ParsesUnsigned 32 10 bs r → 48 < get_or bs 0 0 → ReadsOne bs (result_ok r)
parsed_is_read bs r parses first =
    elim r as (λ r. ParsesUnsigned 32 10 bs r → OkIff r (AllDigits 10 bs × (0 < length bs) × (digits_value 10 bs < 2 ^ 32)) (digits_value 10 bs) → ReadsOne bs (result_ok r)) [
      | Ok n ↦ λ p plain.
          let is : bs ≡ decimal n = sym (ap decimal plain.1 ∙ decimal-digits_value own bs plain.0.0 plain.0.1 (λ zero_first. absurd (omega arith)) (small _ plain.0.2)) in
          ((positive n bs is first, subst (λ m. m < 2 ^ 32) (sym plain.1) plain.0.2), is)
      | Err e ↦ λ p plain n count is. let parsed = parse-decimal 32 n bs (Err e) count.1 (small n count.1) is p in cc
    ] parses (parse_plain own 32 bs r parses (omega arith))

-- a text that begins with no digit above 0 is no number from 1
pub no_number : (bs : List ℕ) → (get_or bs 0 0 < 49) ⊎ (57 < get_or bs 0 0) → (n : ℕ) → IsCount n → bs ≢ decimal n
no_number bs first n count is =
    let at : get_or bs 0 0 ≡ get_or (decimal n) 0 0 = ap (λ t. get_or t 0 0) is in
    let low = first_decimal n count.0 (small n count.1) in
    let digit = digit_at (decimal n) 0 (decimal_is_IsNumeral n (small n count.1)).0.1 (decimal_nonempty n (small n count.1)) in
    ⊎_elim (λ h. omega arith) (λ h. omega (arith, digit.1)) first

-- no blank stands in a number
no_blank : (n : ℕ) → IsCount n → (i : ℕ) → i < length (decimal n) → get_or (decimal n) i 0 ≢ 32
no_blank n count = not_in_digits own (decimal n) 32 (decimal_is_IsNumeral n (small n count.1)).0.1 (λ h. omega arith)

-- a number and what follows a blank, by the one cut of `split_once`
pub cut_at_number : (bs rest : List ℕ) (n : ℕ) (r : Option (Bor (List ℕ) × Bor (List ℕ))) → IsSplitOnceResult 32 bs r → IsCount n → bs ≡ decimal n ++ 32 ∷ rest → MatchOption r ⊥ (λ x. (x.0.now ≡ decimal n) × (x.1.now ≡ rest))
cut_at_number bs rest n r cut count is = split_after 32 bs (decimal n) rest r cut (omega arith) is (no_blank n count)

tail_no_blank : (x : ℕ) (xs : List ℕ) → ((i : ℕ) → i < length (x ∷ xs) → get_or (x ∷ xs) i 0 ≢ 32) → (i : ℕ) → i < length xs → get_or xs i 0 ≢ 32
tail_no_blank x xs none i h = none (suc i) (omega arith)

-- there is one first blank
cut_same : (xs ys r s : List ℕ) → ((i : ℕ) → i < length xs → get_or xs i 0 ≢ 32) → ((i : ℕ) → i < length ys → get_or ys i 0 ≢ 32) → xs ++ 32 ∷ r ≡ ys ++ 32 ∷ s → (xs ≡ ys) × (r ≡ s)
cut_same [] [] r s h k e = (refl, cc)
cut_same [] (y ∷ ys) r s h k e = let first : y ≡ 32 = cc in absurd (k 0 (omega arith) first)
cut_same (x ∷ xs) [] r s h k e = let first : x ≡ 32 = cc in absurd (h 0 (omega arith) first)
cut_same (x ∷ xs) (y ∷ ys) r s h k e =
    let rest : xs ++ 32 ∷ r ≡ ys ++ 32 ∷ s = cc in
    let more = cut_same xs ys r s (tail_no_blank x xs h) (tail_no_blank y ys k) rest in
    let first : x ≡ y = cc in
    (cc, more.1)

-- a text begins with one number and a blank in one way
pub same_number_and_rest : (n m : ℕ) (r s : List ℕ) → IsCount n → IsCount m → decimal n ++ 32 ∷ r ≡ decimal m ++ 32 ∷ s → (n ≡ m) × (r ≡ s)
same_number_and_rest n m r s h k e =
    let cut = cut_same (decimal n) (decimal m) r s (no_blank n h) (no_blank m k) e in
    (decimal_injective n m (small n h.1) (small m k.1) cut.0, cut.1)

pub no_number_empty : (bs : List ℕ) → length bs ≡ 0 → (n : ℕ) → IsCount n → bs ≢ decimal n
no_number_empty bs empty n count is =
    let long = decimal_nonempty n (small n count.1) in
    let same : length bs ≡ length (decimal n) = ap length is in
    omega arith

-- two numbers: not where no number and blank stand first, and not where the rest is no number
pub no_pair : (bs rest : List ℕ) (n : ℕ) → IsCount n → bs ≡ decimal n ++ 32 ∷ rest → ((m : ℕ) → IsCount m → rest ≢ decimal m) → (x y : ℕ) → IsCount x → IsCount y → bs ≢ pair_text x y
no_pair bs rest n count is none x y p q e = none y q (same_number_and_rest n x rest (decimal y) count p (sym is ∙ e)).1

-- what stands after the first number of two spellings is the same
pub rest_same : (bs rest tail : List ℕ) (n m : ℕ) → IsCount n → IsCount m → bs ≡ decimal n ++ 32 ∷ rest → bs ≡ decimal m ++ 32 ∷ tail → rest ≡ tail
rest_same bs rest tail n m p q is e = (same_number_and_rest n m rest tail p q (sym is ∙ e)).1

-- two numbers have one spelling
pair_same : (x y v w : ℕ) → IsCount x → IsCount y → IsCount v → IsCount w → pair_text x y ≡ pair_text v w → (x ≡ v) × (y ≡ w)
pair_same x y v w p q r s e =
    let cut = same_number_and_rest x v (decimal y) (decimal w) p r e in
    (cut.0, decimal_injective y w (small y q.1) (small w s.1) cut.1)

pub header_same : (h k : Header) → IsCountedHeader h → IsCountedHeader k → header_text h ≡ header_text k → is_placed h ≡ is_placed k
header_same h k p q e =
    let one = same_number_and_rest h.width k.width _ _ p.width q.width e in
    let two = same_number_and_rest h.height k.height _ _ p.height q.height one.1 in
    let three = pair_same h.x h.y k.x k.y p.x p.y q.x q.y two.1 in
    let w = one.0 in
    let v = two.0 in
    let x = three.0 in
    let y = three.1 in
    cc

-- the word of a mark and its blank
kind_same : (k l : MarkKind) (r s : List ℕ) → kind_word k ++ 32 ∷ r ≡ kind_word l ++ 32 ∷ s → (k ≡ l) × (r ≡ s)
kind_same Paint Paint r s e = (refl, cc)
kind_same RightWall RightWall r s e = (refl, cc)
kind_same BelowWall BelowWall r s e = (refl, cc)
kind_same Paint RightWall r s e = let first : ◌≡◌ {A = ℕ} 112 114 = ap (λ t. get_or t 0 0) e in absurd (omega arith)
kind_same Paint BelowWall r s e = let first : ◌≡◌ {A = ℕ} 112 98 = ap (λ t. get_or t 0 0) e in absurd (omega arith)
kind_same RightWall Paint r s e = let first : ◌≡◌ {A = ℕ} 114 112 = ap (λ t. get_or t 0 0) e in absurd (omega arith)
kind_same RightWall BelowWall r s e = let first : ◌≡◌ {A = ℕ} 114 98 = ap (λ t. get_or t 0 0) e in absurd (omega arith)
kind_same BelowWall Paint r s e = let first : ◌≡◌ {A = ℕ} 98 112 = ap (λ t. get_or t 0 0) e in absurd (omega arith)
kind_same BelowWall RightWall r s e = let first : ◌≡◌ {A = ℕ} 98 114 = ap (λ t. get_or t 0 0) e in absurd (omega arith)

pub mark_same : (b : Board) (m n : Mark) → IsCountedMark m → IsCountedMark n → mark_text m ≡ mark_text n → fits b m ≡ fits b n
mark_same b m n p q e =
    let word = kind_same m.kind n.kind _ _ e in
    let pair = pair_same m.x m.y n.x n.y p.x p.y q.x q.y word.1 in
    ap (λ k. fits_kind b k m.x m.y) word.0 ∙ ap (λ x. fits_kind b n.kind x m.y) pair.0 ∙ ap (λ y. fits_kind b n.kind n.x y) pair.1

-- one more line
pub Marks-push : (b c : Board) (lines : List (List ℕ)) (line : List ℕ) (m : Mark) → Marks b lines c → IsMarkLine c line m → Marks b (lines ++ line ∷ []) (marked c m)
Marks-push b c [] line m same is = (m, subst (λ b. IsMarkLine b line m) same is, ap (λ b. marked b m) same)
Marks-push b c (l ∷ lines) line m (n, this, those) is = (n, this, Marks-push (marked b n) c lines line m those is)

-- a mark that does not fit leaves the line no mark at all
pub no_other_mark : (b : Board) (line : List ℕ) (m : Mark) (set : Bool) → IsCountedMark m → encode_utf8_all line ≡ mark_text m → set ≡ fits b m → OnFalse set ((n : Mark) → IsMarkLine b line n → ⊥)
no_other_mark b line m true p text set = tt
no_other_mark b line m false p text set = λ n is.
    let same = mark_same b m n p is.counted (sym text ∙ is.text) in
    let fit = is.fits_it in
    absurd (false≢true (set ∙ same ∙ fit))

-- a first line that is not placed is no first line of a field
pub no_other_header : (line : List ℕ) (h : Header) → IsCountedHeader h → encode_utf8_all line ≡ header_text h → is_placed h ≡ false → (k : Header) → IsHeaderLine line k → ⊥
no_other_header line h p text placed k is = false≢true (sym placed ∙ header_same h k p is.counted (sym text ∙ is.text) ∙ is.placed)

-- the mark of one more line is set
pub Marks-more : (b c new : Board) (lines : List (List ℕ)) (place : ℕ) (line : List ℕ) → place < length lines → line ≡ get_or lines place line → Marks b (take place lines) c → SetsMark c line new → Marks b (take (place + 1) lines) new
Marks-more b c new lines place line within at before set =
    subst (λ ls. Marks b ls new) (sym (take_more lines place line within ∙ ap (λ l. take place lines ++ l ∷ []) (sym at)))
    (subst (λ n. Marks b (take place lines ++ line ∷ []) n) (sym set.set) (Marks-push b c (take place lines) line set.mark before set.is))
