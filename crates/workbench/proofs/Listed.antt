-- Words that are no command.
use Rattle.std.proofs.Common.{◌≡◌, ◌∙◌, ◌<◌, ◌^◌, ◌&&◌, ◌||◌, ℕ, Bool, cond, false, true, not, refl, true≢false, sym, subst, ap, arith, codes, List, [], ◌∷◌, Some, None, is_some, nat_eq, nat_lt, ltb-true}
use Rattle.std.specs.Char.{digit_value}
use Rattle.std.specs.Fmt.{decimal}
use Rattle.std.specs.Str.{bytes_eq}
use Rattle.std.specs.Str.Parse.{AllDigits, digits_value}
use Rattle.std.proofs.lemmas.Bool.{eqb-true}
use Rattle.std.proofs.lemmas.Fmt.{decimal_is_IsNumeral}
use Rattle.std.proofs.lemmas.Slice.Eq.{bytes_eq-Decides}
use Rattle.clap.specs.Lexer.{long_of}
use Rattle.clap.specs.Walk.{Text}
use Rattle.decimals.specs.Numbers.{number_of}
use Rattle.workbench.specs.Words.{command_of, has_other_option, is_other_option, plain_within, sample_of}
use Rattle.workbench.proofs.Levels.{IsValue}

-- ---- equal words

not_equal : (a b : Text) → (a ≡ b → ⊥) → bytes_eq a b ≡ false
not_equal a b differ = go (bytes_eq a b) refl
  where
    go : (r : Bool) → bytes_eq a b ≡ r → r ≡ false
    go false e = refl
    go true e = absurd (differ ((bytes_eq-Decides a b).0 e))

apart : (a b : Text) → bytes_eq a b ≡ false → bytes_eq b a ≡ false
apart a b e = not_equal b a (λ same. true≢false (sym ((bytes_eq-Decides a b).1 (sym same)) ∙ e))

-- ---- a first word that is no name

pub record IsOther (word : Text) : Type 0 where
  pub tokens : bytes_eq (codes "tokens") word ≡ false
  pub check : bytes_eq (codes "check") word ≡ false
  pub plain : bytes_eq (codes "plain") word ≡ false
  pub sample : bytes_eq (codes "sample") word ≡ false

pub other_is_none : (word : Text) (rest : List Text) → IsOther word → command_of (word ∷ rest) ≡ None
other_is_none word [] o =
    rw (apart (codes "tokens") word o.tokens) (rw (apart (codes "check") word o.check) (rw (apart (codes "plain") word o.plain) refl))
other_is_none word (second ∷ []) o = rw (apart (codes "sample") word o.sample) refl
other_is_none word (second ∷ number ∷ []) o = rw (apart (codes "plain") word o.plain) refl
other_is_none word (second ∷ number ∷ more ∷ rest) o = refl

-- ---- words behind a name

pub tokens_is_none : (word : Text) (rest : List Text) → command_of (codes "tokens" ∷ word ∷ rest) ≡ None
tokens_is_none word [] = refl
tokens_is_none word (number ∷ []) = refl
tokens_is_none word (number ∷ more ∷ rest) = refl

pub check_is_none : (word : Text) (rest : List Text) → command_of (codes "check" ∷ word ∷ rest) ≡ None
check_is_none word [] = refl
check_is_none word (number ∷ []) = refl
check_is_none word (number ∷ more ∷ rest) = refl

value_is_not_steps : (word : Text) → IsValue word → bytes_eq word (codes "--steps") ≡ false
value_is_not_steps word v =
    not_equal word (codes "--steps") (λ same. true≢false (ap is_some (ap long_of (sym same) ∙ v.long)))

pub plain_is_none : (word : Text) (rest : List Text) → IsValue word → command_of (codes "plain" ∷ word ∷ rest) ≡ None
plain_is_none word [] v = refl
plain_is_none word (number ∷ []) v = rw (value_is_not_steps word v) refl
plain_is_none word (number ∷ more ∷ rest) v = refl

-- ---- a hyphen

-- a number does not begin with one
hyphen_is_no_number : (rest : List ℕ) → number_of (45 ∷ rest) ≡ None
unfolding number_of
hyphen_is_no_number rest = go (nat_lt n (2 ^ 32)) refl (bytes_eq (decimal n) word) refl
  where
    word : List ℕ
    word = 45 ∷ rest

    n : ℕ
    n = digits_value 10 (45 ∷ rest)

    go : (below : Bool) → nat_lt n (2 ^ 32) ≡ below → (same : Bool) → bytes_eq (decimal n) word ≡ same
        → cond (below && same) (Some n) None ≡ None
    go false e same e2 = refl
    go true e false e2 = refl
    go true e true e2 =
        let low : n < 2 ^ 64 = omega (arith, ltb-true n (2 ^ 32) e) in
        let digits = subst (AllDigits 10) ((bytes_eq-Decides _ _).0 e2) (decimal_is_IsNumeral n low).0.1 in
        let wrong : digit_value 45 < 10 = digits.0 in
        absurd (omega arith)

option_is_no_number : (word : Text) → is_other_option word ≡ true → number_of word ≡ None
option_is_no_number [] h = absurd (true≢false (sym h))
option_is_no_number (byte ∷ rest) h = go (nat_eq byte 45) refl h
  where
    go : (b : Bool) → nat_eq byte 45 ≡ b → (b && not (bytes_eq (byte ∷ rest) (codes "--steps"))) ≡ true
        → number_of (byte ∷ rest) ≡ None
    go true e h = subst (λ x. number_of (x ∷ rest) ≡ None) (sym (eqb-true byte 45 e)) (hyphen_is_no_number rest)
    go false e h = absurd (true≢false (sym h))

pub sample_steps_is_none : (rest : List Text) → command_of (codes "sample" ∷ codes "--steps" ∷ rest) ≡ None
sample_steps_is_none [] = ap sample_of (hyphen_is_no_number (codes "-steps"))
sample_steps_is_none (more ∷ []) = refl
sample_steps_is_none (more ∷ again ∷ rest) = refl

pub sample_more_is_none : (word more : Text) (rest : List Text) → command_of (codes "sample" ∷ word ∷ more ∷ rest) ≡ None
sample_more_is_none word more [] = refl
sample_more_is_none word more (again ∷ rest) = refl

pub two_steps_is_none : (rest : List Text) → command_of (codes "plain" ∷ codes "--steps" ∷ codes "--steps" ∷ rest) ≡ None
two_steps_is_none [] = ap plain_within (hyphen_is_no_number (codes "-steps"))
two_steps_is_none (more ∷ rest) = refl

not_listed : (name word : Text) → is_other_option name ≡ false → is_other_option word ≡ true → bytes_eq word name ≡ false
not_listed name word known h = not_equal word name (λ same. true≢false (sym h ∙ ap is_other_option same ∙ known))

-- words of which one does not pass the first test
pub other_option_is_none : (words : List Text) → has_other_option words ≡ true → command_of words ≡ None
other_option_is_none [] h = absurd (true≢false (sym h))
other_option_is_none (word ∷ []) h = go (is_other_option word) refl h
  where
    go : (a : Bool) → is_other_option word ≡ a → (a || false) ≡ true → command_of (word ∷ []) ≡ None
    go false e h = absurd (true≢false (sym h))
    go true e h = rw (not_listed (codes "tokens") word refl e)
        (rw (not_listed (codes "check") word refl e) (rw (not_listed (codes "plain") word refl e) refl))
other_option_is_none (word ∷ number ∷ []) h = go (is_other_option word) refl (is_other_option number) refl h
  where
    number_not : (a : Bool) → cond a (sample_of None) None ≡ None
    number_not false = refl
    number_not true = refl

    go : (a : Bool) → is_other_option word ≡ a → (b : Bool) → is_other_option number ≡ b → (a || (b || false)) ≡ true
        → command_of (word ∷ number ∷ []) ≡ None
    go true e b f h = rw (not_listed (codes "sample") word refl e) refl
    go false e true f h = rw (option_is_no_number number f) (number_not (bytes_eq word (codes "sample")))
    go false e false f h = absurd (true≢false (sym h))
other_option_is_none (word ∷ second ∷ number ∷ []) h =
    go (is_other_option word) refl (is_other_option second) refl (is_other_option number) refl h
  where
    second_not : (a : Bool) → cond (a && false) (plain_within (number_of number)) None ≡ None
    second_not false = refl
    second_not true = refl

    number_not : (a b : Bool) → cond (a && b) (plain_within None) None ≡ None
    number_not false b = refl
    number_not true false = refl
    number_not true true = refl

    go : (a : Bool) → is_other_option word ≡ a → (b : Bool) → is_other_option second ≡ b
        → (c : Bool) → is_other_option number ≡ c → (a || (b || (c || false))) ≡ true
        → command_of (word ∷ second ∷ number ∷ []) ≡ None
    go true e b f c g h = rw (not_listed (codes "plain") word refl e) refl
    go false e true f c g h = rw (not_listed (codes "--steps") second refl f) (second_not (bytes_eq word (codes "plain")))
    go false e false f true g h = rw (option_is_no_number number g)
        (number_not (bytes_eq word (codes "plain")) (bytes_eq second (codes "--steps")))
    go false e false f false g h = absurd (true≢false (sym h))
other_option_is_none (word ∷ second ∷ number ∷ more ∷ rest) h = refl
