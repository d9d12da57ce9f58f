-- Numbers are read from their one spelling.
use Rattle.std.proofs.Common.{◌≡◌, ℕ, ℤ, to_z, of_z, suc, ◌+◌, [], ◌∷◌, get_or, eqb, rules, ◌^◌, ◌<◌, Bool, true, false, cond, ◌&&◌, List, Some, None, Result, Ok, Err, refl, sym, ap, subst, ◌∙◌, arith}
use Rattle.std.specs.Prelude.{nat_lt}
use Rattle.std.specs.Int.Signed.{mag}
use Rattle.std.specs.Prelude.{FitsSigned}
use Rattle.std.specs.Int.{w32, w64, FitsUnsignedBits}
use Rattle.std.specs.Result.{OkIff, result_ok}
use Rattle.std.proofs.lemmas.Int.{to_z-of_z}
use Rattle.std.specs.Fmt.{decimal, signed_decimal}
use Rattle.std.specs.Str.{bytes_eq}
use Rattle.std.specs.Str.Parse.{digits_value, signed_digits_value, ParsesSigned}
use Rattle.std.proofs.lemmas.Bool.{false≢true}
use Rattle.std.proofs.lemmas.Bool.Decides.{Decides-ltb}
use Rattle.std.proofs.lemmas.Slice.Eq.{bytes_eq-Decides}
use Rattle.std.specs.Prelude.{All}
use lib.IntN.{pos, negsuc, neg_ℤ, nat_abs}
use Rattle.std.proofs.lemmas.Bool.Decides.{nat_tests}
use Rattle.std.proofs.lemmas.List.{get_or_default}
use Rattle.std.proofs.lemmas.List.Elements.{All-cons}
use Rattle.std.proofs.lemmas.Str.Parse.{digit_at}
use Rattle.std.proofs.lemmas.Fmt.{decimal_is_IsNumeral, decimal_nonempty}
use Rattle.decimals.specs.Numbers.{number_of, whole_of, wide_of}

pub and_parts : (a b : Bool) → (a && b) ≡ true → (a ≡ true) × (b ≡ true)
and_parts true true e = (refl, refl)
and_parts true false e = absurd (false≢true e)
and_parts false b e = absurd (false≢true e)

pub and_true : (a b : Bool) → a ≡ true → b ≡ true → (a && b) ≡ true
and_true true true p q = refl
and_true true false p q = absurd (false≢true q)
and_true false b p q = absurd (false≢true p)

some_if : {A : Type 0} (b : Bool) (x : A) → b ≡ true → cond b (Some x) None ≡ Some x
some_if true x e = refl
some_if false x e = absurd (false≢true e)

none_if : {A : Type 0} (b : Bool) (x : A) → (b ≡ true → ⊥) → cond b (Some x) None ≡ None
none_if true x e = absurd (e refl)
none_if false x e = refl

pub number_is : (word : List ℕ) (n : ℕ) → n < 2 ^ 32 → word ≡ decimal n → number_of word ≡ Some n
unfolding number_of
number_is word n small is =
    let value : digits_value 10 word ≡ n = ap (digits_value 10) is ∙ (decimal_is_IsNumeral n (omega arith)).1 in
    some_if (nat_lt (digits_value 10 word) (2 ^ 32) && bytes_eq (decimal (digits_value 10 word)) word) (digits_value 10 word)
    (and_true _ _ ((Decides-ltb (digits_value 10 word) (2 ^ 32)).1 (omega arith)) ((bytes_eq-Decides (decimal (digits_value 10 word)) word).1 (ap decimal value ∙ sym is)))
    ∙ ap Some value

pub number_not : (word : List ℕ) → ((n : ℕ) → n < 2 ^ 32 → word ≡ decimal n → ⊥) → number_of word ≡ None
unfolding number_of
number_not word none =
    none_if (nat_lt (digits_value 10 word) (2 ^ 32) && bytes_eq (decimal (digits_value 10 word)) word) (digits_value 10 word)
    (λ test. let parts = and_parts _ _ test in none (digits_value 10 word) ((Decides-ltb (digits_value 10 word) (2 ^ 32)).0 parts.0) (sym ((bytes_eq-Decides (decimal (digits_value 10 word)) word).0 parts.1)))

pub whole_is : (word : List ℕ) (z : ℤ) → mag z < 2 ^ 31 → z ≡ signed_digits_value 10 word → word ≡ signed_decimal z → whole_of word ≡ Some z
unfolding whole_of
whole_is word z small value is =
    some_if (nat_lt (mag (signed_digits_value 10 word)) (2 ^ 31) && bytes_eq (signed_decimal (signed_digits_value 10 word)) word) (signed_digits_value 10 word)
    (and_true _ _ ((Decides-ltb (mag (signed_digits_value 10 word)) (2 ^ 31)).1 (subst (λ y. mag y < 2 ^ 31) value small)) ((bytes_eq-Decides (signed_decimal (signed_digits_value 10 word)) word).1 (ap signed_decimal (sym value) ∙ sym is)))
    ∙ ap Some (sym value)

pub whole_not : (word : List ℕ) → ((z : ℤ) → mag z < 2 ^ 31 → word ≡ signed_decimal z → ⊥) → whole_of word ≡ None
unfolding whole_of
whole_not word none =
    none_if (nat_lt (mag (signed_digits_value 10 word)) (2 ^ 31) && bytes_eq (signed_decimal (signed_digits_value 10 word)) word) (signed_digits_value 10 word)
    (λ test. let parts = and_parts _ _ test in none (signed_digits_value 10 word) ((Decides-ltb (mag (signed_digits_value 10 word)) (2 ^ 31)).0 parts.0) (sym ((bytes_eq-Decides (signed_decimal (signed_digits_value 10 word)) word).0 parts.1)))

-- the texts of two different words
pub words_differ : (a b : List ℕ) (r : Bool) → r ≡ bytes_eq a b → r ≡ false → a ≡ b → ⊥
words_differ a b r is other same = false≢true (sym other ∙ is ∙ (bytes_eq-Decides a b).1 same)

pub words_same : (a b : List ℕ) (r : Bool) → r ≡ bytes_eq a b → r ≡ true → a ≡ b
words_same a b r is equal = (bytes_eq-Decides a b).0 (sym is ∙ equal)

pub ok_same : {A E : Type 0} (r : Result A E) (x y : A) → r ≡ Ok x → r ≡ Ok y → x ≡ y
ok_same r x y p q = cc

-- the range of 32 bits
pub whole_fits : (z : ℤ) → mag z < 2 ^ 31 → FitsSigned w32 z
whole_fits z h = search rules

pub whole_small : (z : ℤ) → FitsSigned w32 z → mag z < 2 ^ 31
whole_small z h = search rules

pub wide_is : (word : List ℕ) (z : ℤ) → mag z < 2 ^ 63 → z ≡ signed_digits_value 10 word → word ≡ signed_decimal z → wide_of word ≡ Some z
unfolding wide_of
wide_is word z small value is =
    some_if (nat_lt (mag (signed_digits_value 10 word)) (2 ^ 63) && bytes_eq (signed_decimal (signed_digits_value 10 word)) word) (signed_digits_value 10 word)
    (and_true _ _ ((Decides-ltb (mag (signed_digits_value 10 word)) (2 ^ 63)).1 (subst (λ y. mag y < 2 ^ 63) value small)) ((bytes_eq-Decides (signed_decimal (signed_digits_value 10 word)) word).1 (ap signed_decimal (sym value) ∙ sym is)))
    ∙ ap Some (sym value)

pub wide_not : (word : List ℕ) → ((z : ℤ) → mag z < 2 ^ 63 → word ≡ signed_decimal z → ⊥) → wide_of word ≡ None
unfolding wide_of
wide_not word none =
    none_if (nat_lt (mag (signed_digits_value 10 word)) (2 ^ 63) && bytes_eq (signed_decimal (signed_digits_value 10 word)) word) (signed_digits_value 10 word)
    (λ test. let parts = and_parts _ _ test in none (signed_digits_value 10 word) ((Decides-ltb (mag (signed_digits_value 10 word)) (2 ^ 63)).0 parts.0) (sym ((bytes_eq-Decides (signed_decimal (signed_digits_value 10 word)) word).0 parts.1)))

-- what `parse` read
pub wide_parsed : {E : Type 0} (word : List ℕ) (r : Result ℤ E) (z : ℤ) → ParsesSigned w64 10 word r → r ≡ Ok z → FitsSigned w64 z × (z ≡ signed_digits_value 10 word)
wide_parsed word r z parses is =
    let at = subst (ParsesSigned w64 10 word) is parses in
    (subst (FitsSigned w64) (sym at.1) at.0.1, at.1)

-- the range of 64 bits
pub wide_fits : (z : ℤ) → mag z < 2 ^ 63 → FitsSigned w64 z
wide_fits z h = search rules

pub wide_small : (z : ℤ) → FitsSigned w64 z → mag z < 2 ^ 63
wide_small z h = search rules

-- what a printed number is as a word
minus_other : (c : ℕ) → 48 < c + 1 → eqb c 45 ≡ false
minus_other c h = grind (arith, nat_tests)

plus_other : (c : ℕ) → 48 < c + 1 → eqb c 43 ≡ false
plus_other c h = grind (arith, nat_tests)

signed_plain : (ds : List ℕ) → 48 < get_or ds 0 0 + 1 → signed_digits_value 10 ds ≡ pos (digits_value 10 ds)
signed_plain [] h = absurd (omega (arith, h))
signed_plain (c ∷ cs) h = rw (minus_other c h) (rw (plus_other c h) refl)

pub value_again : (z : ℤ) → mag z < 2 ^ 63 → signed_digits_value 10 (signed_decimal z) ≡ z
value_again (pos n) h =
    let is = decimal_is_IsNumeral n (omega (arith, h)) in
    let digit = digit_at (decimal n) 0 is.0.1 (decimal_nonempty n (omega (arith, h))) in
    signed_plain (decimal n) (omega (arith, digit.0)) ∙ ap pos is.1
value_again (negsuc n) h = ap (λ k. neg_ℤ (pos k)) (decimal_is_IsNumeral (suc n) (omega (arith, h))).1

pub number_again : (n : ℕ) → n < 2 ^ 32 → number_of (decimal n) ≡ Some n
number_again n h = number_is (decimal n) n h refl

pub whole_again : (z : ℤ) → mag z < 2 ^ 31 → whole_of (signed_decimal z) ≡ Some z
whole_again z h = whole_is (signed_decimal z) z h (sym (value_again z (omega (arith, h)))) refl

pub wide_again : (z : ℤ) → mag z < 2 ^ 63 → wide_of (signed_decimal z) ≡ Some z
wide_again z h = wide_is (signed_decimal z) z h (sym (value_again z h)) refl

minus_lower : (x : ℕ) → x < 45 → eqb 45 x ≡ false
minus_lower x h = grind (arith, nat_tests)

digit_other : (c x : ℕ) → 48 < c + 1 → x < 48 → eqb c x ≡ false
digit_other c x h k = grind (arith, nat_tests)

-- a byte below the digits stands in no printed number
pub lower_than_digits : (x n : ℕ) → x < 48 → n < 2 ^ 64 → All (λ c. eqb c x ≡ false) (decimal n)
lower_than_digits x n below small k d within =
    let digit = digit_at (decimal n) k (decimal_is_IsNumeral n small).0.1 within in
    let same : get_or (decimal n) k d ≡ get_or (decimal n) k 0 = get_or_default (decimal n) k d 0 within in
    digit_other (get_or (decimal n) k d) x (omega (arith, digit.0)) below

pub lower_than_minus : (x : ℕ) (z : ℤ) → x < 45 → mag z < 2 ^ 63 → All (λ c. eqb c x ≡ false) (signed_decimal z)
lower_than_minus x (pos n) below small = lower_than_digits x n (omega arith) (omega (arith, small))
lower_than_minus x (negsuc n) below small =
    All-cons (λ c. eqb c x ≡ false) 45 (decimal (suc n)) (minus_lower x below) (lower_than_digits x (suc n) (omega arith) (omega (arith, small)))

-- what a word is that is read as a number
some_when : {A : Type 0} (b : Bool) (x y : A) → cond b (Some x) None ≡ Some y → (b ≡ true) × (x ≡ y)
some_when true x y e = (refl, cc)
some_when false x y e = absurd (let never : ⊥ = cc in never)

pub number_only : (word : List ℕ) (n : ℕ) → number_of word ≡ Some n → (n < 2 ^ 32) × (word ≡ decimal n)
unfolding number_of
number_only word n is =
    let read = some_when (nat_lt (digits_value 10 word) (2 ^ 32) && bytes_eq (decimal (digits_value 10 word)) word) (digits_value 10 word) n is in
    let parts = and_parts _ _ read.0 in
    (subst (λ m. m < 2 ^ 32) read.1 ((Decides-ltb (digits_value 10 word) (2 ^ 32)).0 parts.0), sym ((bytes_eq-Decides (decimal (digits_value 10 word)) word).0 parts.1) ∙ ap decimal read.1)

pub whole_only : (word : List ℕ) (z : ℤ) → whole_of word ≡ Some z → (mag z < 2 ^ 31) × (word ≡ signed_decimal z)
unfolding whole_of
whole_only word z is =
    let read = some_when (nat_lt (mag (signed_digits_value 10 word)) (2 ^ 31) && bytes_eq (signed_decimal (signed_digits_value 10 word)) word) (signed_digits_value 10 word) z is in
    let parts = and_parts _ _ read.0 in
    (subst (λ y. mag y < 2 ^ 31) read.1 ((Decides-ltb (mag (signed_digits_value 10 word)) (2 ^ 31)).0 parts.0), sym ((bytes_eq-Decides (signed_decimal (signed_digits_value 10 word)) word).0 parts.1) ∙ ap signed_decimal read.1)

pub wide_only : (word : List ℕ) (z : ℤ) → wide_of word ≡ Some z → (mag z < 2 ^ 63) × (word ≡ signed_decimal z)
unfolding wide_of
wide_only word z is =
    let read = some_when (nat_lt (mag (signed_digits_value 10 word)) (2 ^ 63) && bytes_eq (signed_decimal (signed_digits_value 10 word)) word) (signed_digits_value 10 word) z is in
    let parts = and_parts _ _ read.0 in
    (subst (λ y. mag y < 2 ^ 63) read.1 ((Decides-ltb (mag (signed_digits_value 10 word)) (2 ^ 63)).0 parts.0), sym ((bytes_eq-Decides (signed_decimal (signed_digits_value 10 word)) word).0 parts.1) ∙ ap signed_decimal read.1)

-- ---- a narrower number is a wide one in its range

none_else : {A : Type 0} (x : A) → None ≡ Some x → ⊥
none_else x e = cc

some_same : {A : Type 0} (x y : A) → Some x ≡ Some y → x ≡ y
some_same x y e = cc

wide_whole : (word : List ℕ) (z : ℤ) → mag z < 2 ^ 31 → word ≡ signed_decimal z → wide_of word ≡ Some z
wide_whole word z small is = ap wide_of is ∙ wide_again z (omega (arith, small))

pub whole_of_none : (word : List ℕ) → None ≡ wide_of word → None ≡ whole_of word
whole_of_none word none = sym (whole_not word (λ z small is. none_else z (none ∙ wide_whole word z small is)))

whole_of_ok : {E : Type 0} (word : List ℕ) (z : ℤ) (r : Result ℤ E) → Some z ≡ wide_of word → OkIff r (FitsSigned w32 z) z → result_ok r ≡ whole_of word
whole_of_ok word z (Ok x) read fits =
    let is = wide_only word z (sym read) in
    ap Some fits.1 ∙ sym (whole_is word z (whole_small z fits.0) (sym (ap (signed_digits_value 10) is.1 ∙ value_again z is.0)) is.1)
whole_of_ok word z (Err e) read fits =
    sym (whole_not word (λ y small is. fits (subst (FitsSigned w32) (sym (some_same z y (read ∙ wide_whole word y small is))) (whole_fits y small))))

pub whole_of_some : {E : Type 0} (word : List ℕ) (z : ℤ) (r : Result ℤ E) → Some z ≡ wide_of word → OkIff r (FitsSigned w32 (to_z w64 (of_z w64 z))) (to_z w64 (of_z w64 z)) → result_ok r ≡ whole_of word
whole_of_some word z r read fits =
    let same = to_z-of_z w64 z (wide_fits z (wide_only word z (sym read)).0) in
    whole_of_ok word z r read (subst (λ y. OkIff r (FitsSigned w32 y) y) same fits)

wide_number : (word : List ℕ) (n : ℕ) → n < 2 ^ 32 → word ≡ decimal n → wide_of word ≡ Some (pos n)
wide_number word n small is = ap wide_of is ∙ wide_again (pos n) (omega (arith, small))

pub number_of_none : (word : List ℕ) → None ≡ wide_of word → None ≡ number_of word
number_of_none word none = sym (number_not word (λ n small is. none_else (pos n) (none ∙ wide_number word n small is)))

fits_number : (n : ℕ) → n < 2 ^ 32 → FitsUnsignedBits 32 (pos n)
fits_number n h = search rules

number_fits : (z : ℤ) → FitsUnsignedBits 32 z → (n : ℕ) × (z ≡ pos n) × (n < 2 ^ 32)
number_fits (pos n) fits = (n, refl, search rules)
number_fits (negsuc n) fits = absurd (search rules)

number_of_ok : {E : Type 0} (word : List ℕ) (z : ℤ) (r : Result ℕ E) → Some z ≡ wide_of word → OkIff r (FitsUnsignedBits 32 z) (nat_abs z) → result_ok r ≡ number_of word
number_of_ok word z (Ok x) read fits =
    let n = number_fits z fits.0 in
    let is = wide_only word z (sym read) in
    ap Some (fits.1 ∙ ap nat_abs n.1) ∙ sym (number_is word n.0 n.2 (is.1 ∙ ap signed_decimal n.1))
number_of_ok word z (Err e) read fits =
    sym (number_not word (λ n small is. fits (subst (FitsUnsignedBits 32) (sym (some_same z (pos n) (read ∙ wide_number word n small is))) (fits_number n small))))

pub number_of_some : {E : Type 0} (word : List ℕ) (z : ℤ) (r : Result ℕ E) → Some z ≡ wide_of word → OkIff r (FitsUnsignedBits 32 (to_z w64 (of_z w64 z))) (nat_abs (to_z w64 (of_z w64 z))) → result_ok r ≡ number_of word
number_of_some word z r read fits =
    let same = to_z-of_z w64 z (wide_fits z (wide_only word z (sym read)).0) in
    number_of_ok word z r read (subst (λ y. OkIff r (FitsUnsignedBits 32 y) (nat_abs y)) same fits)
