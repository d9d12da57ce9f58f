-- Places and classes of a cutting are determined.
use Rattle.std.proofs.Common.{◌≡◌, ℕ, ◌<◌, ◌≤◌, Bool, true, false, ◌||◌, ⊎_elim, List, [], ◌∷◌, ◌++◌, get_or, arith, sym, subst, ◌∙◌, refl}
use Rattle.std.proofs.str.Laws.{order}
use Rattle.std.specs.List.{AllByRecursion}
use Rattle.kumir_lexer.specs.declared.cutting.Class.{Class}
use Rattle.kumir_lexer.specs.declared.cutting.Class.TheVariants.{Word, Number, Real, Literal, Sign}
use Rattle.kumir_lexer.specs.Classes.{is_blank, begins_comment, is_digit, begins, is_word, IsReal, pointed, pointed_and_scaled, scaled, IsExponent, unsigned, signed, Stands, Longest}
use Rattle.kumir_lexer.specs.Cutting.{OnlyBlanks, Reaches, IsOver}
use Rattle.kumir_lexer.proofs.Digits.{mark_is_no_digit, digits_pass}
use Rattle.kumir_lexer.proofs.Longest.{stands_some, stands_opens, digit_is_no_quote, digit_opens_no_sign, quote_opens_no_sign}

-- ---- places

no_blank : (a b : Bool) → (a || b) ≡ false → a ≡ false
no_blank true b h = absurd (let none : ⊥ = cc in none)
no_blank false b h = refl

no_comment : (a b : Bool) → (a || b) ≡ false → b ≡ false
no_comment true b h = absurd (let none : ⊥ = cc in none)
no_comment false b h = h

pub differ : (b : Bool) → b ≡ true → b ≡ false → ⊥
differ b h g = cc

not_before : (line : List ℕ) (at p q : ℕ) → Reaches line at p → OnlyBlanks line at q → p < q → ⊥
not_before line at p q a blanks lt = differ (is_blank (get_or line p 0)) (blanks p a.behind lt) (no_blank _ _ a.begins)

pub one_place : (line : List ℕ) (at p q : ℕ) → Reaches line at p → Reaches line at q → p ≡ q
one_place line at p q a b =
    ⊎_elim
    (λ (lt : p < q). absurd (not_before line at p q a b.blanks lt))
    (λ (le : q ≤ p). ⊎_elim
    (λ (lt : q < p). absurd (not_before line at q p b a.blanks lt))
    (λ (ge : p ≤ q). omega arith)
    (order q p))
    (order p q)

blank_is_no_comment : (c : ℕ) → is_blank c ≡ true → begins_comment c ≡ true → ⊥
blank_is_no_comment c b k = grind arith

pub over_or_not : (line : List ℕ) (at q : ℕ) → IsOver line at → Reaches line at q → ⊥
over_or_not line at q over a =
    ⊎_elim
    (λ (lt : q < over.to). not_before line at q over.to a over.blanks lt)
    (λ (le : over.to ≤ q). ⊎_elim
    (λ (lt : over.to < q). blank_is_no_comment (get_or line over.to 0) (a.blanks over.to over.behind lt) (over.ends (omega (arith, a.within))))
    (λ (ge : q ≤ over.to).
    let same : over.to ≡ q = omega arith in
    differ (begins_comment (get_or line q 0)) (subst (λ p. begins_comment (get_or line p 0) ≡ true) same (over.ends (omega (arith, a.within)))) (no_comment (is_blank (get_or line q 0)) _ a.begins))
    (order over.to q))
    (order q over.to)

-- ---- classes

all_behind : (xs ys : List ℕ) → AllByRecursion (λ d. is_digit d ≡ true) (xs ++ ys) → AllByRecursion (λ d. is_digit d ≡ true) ys
all_behind [] ys h = h
all_behind (x ∷ xs) ys h = all_behind xs ys h.1

exponent_is_no_digits : (xs : List ℕ) → IsExponent xs → AllByRecursion (λ d. is_digit d ≡ true) xs → ⊥
exponent_is_no_digits xs (unsigned {c} {ds} m g) h = differ (is_digit c) h.0 (mark_is_no_digit c m)
exponent_is_no_digits xs (signed {c} {s} {ds} m p g) h = differ (is_digit c) h.0 (mark_is_no_digit c m)

real_is_no_digits : (t : List ℕ) → IsReal t → AllByRecursion (λ d. is_digit d ≡ true) t → ⊥
real_is_no_digits t (pointed ds es g e) h = differ false (all_behind ds (46 ∷ es) h).0 refl
real_is_no_digits t (pointed_and_scaled ds es xs g e x) h = differ false (all_behind ds (46 ∷ (es ++ xs)) h).0 refl
real_is_no_digits t (scaled ds xs g x) h = exponent_is_no_digits xs x (all_behind ds xs h)

word_alone : (is_after_name : Bool) (d : Class) (c : ℕ) (cs : List ℕ) (n : ℕ) → is_word d ≡ false → Stands is_after_name Word (c ∷ cs) n → Stands is_after_name d (c ∷ cs) n → ⊥
word_alone is_after_name d c cs n e a b = differ (begins is_after_name c) (stands_opens is_after_name Word c cs n a).0 ((stands_opens is_after_name d c cs n b).0 ∙ e)

two_classes : (is_after_name : Bool) (c : ℕ) (cs : List ℕ) (n : ℕ) (a b : Class) → Stands is_after_name a (c ∷ cs) n → Stands is_after_name b (c ∷ cs) n → a ≡ b
two_classes is_after_name c cs n Word Word a b = refl
two_classes is_after_name c cs n Word Number a b = absurd (word_alone is_after_name Number c cs n refl a b)
two_classes is_after_name c cs n Word Real a b = absurd (word_alone is_after_name Real c cs n refl a b)
two_classes is_after_name c cs n Word Literal a b = absurd (word_alone is_after_name Literal c cs n refl a b)
two_classes is_after_name c cs n Word Sign a b = absurd (word_alone is_after_name Sign c cs n refl a b)
two_classes is_after_name c cs n Number Word a b = absurd (word_alone is_after_name Number c cs n refl b a)
two_classes is_after_name c cs n Number Number a b = refl
two_classes is_after_name c cs n Number Real a b = absurd (real_is_no_digits _ b.1.1 (digits_pass _ a.1.1))
two_classes is_after_name c cs n Number Literal a b = absurd (digit_is_no_quote c (stands_opens is_after_name Number c cs n a).1 (stands_opens is_after_name Literal c cs n b).1)
two_classes is_after_name c cs n Number Sign a b = absurd (digit_opens_no_sign c (stands_opens is_after_name Number c cs n a).1 (stands_opens is_after_name Sign c cs n b).1)
two_classes is_after_name c cs n Real Word a b = absurd (word_alone is_after_name Real c cs n refl b a)
two_classes is_after_name c cs n Real Number a b = absurd (real_is_no_digits _ a.1.1 (digits_pass _ b.1.1))
two_classes is_after_name c cs n Real Real a b = refl
two_classes is_after_name c cs n Real Literal a b = absurd (digit_is_no_quote c (stands_opens is_after_name Real c cs n a).1 (stands_opens is_after_name Literal c cs n b).1)
two_classes is_after_name c cs n Real Sign a b = absurd (digit_opens_no_sign c (stands_opens is_after_name Real c cs n a).1 (stands_opens is_after_name Sign c cs n b).1)
two_classes is_after_name c cs n Literal Word a b = absurd (word_alone is_after_name Literal c cs n refl b a)
two_classes is_after_name c cs n Literal Number a b = absurd (digit_is_no_quote c (stands_opens is_after_name Number c cs n b).1 (stands_opens is_after_name Literal c cs n a).1)
two_classes is_after_name c cs n Literal Real a b = absurd (digit_is_no_quote c (stands_opens is_after_name Real c cs n b).1 (stands_opens is_after_name Literal c cs n a).1)
two_classes is_after_name c cs n Literal Literal a b = refl
two_classes is_after_name c cs n Literal Sign a b = absurd (quote_opens_no_sign c (stands_opens is_after_name Literal c cs n a).1 (stands_opens is_after_name Sign c cs n b).1)
two_classes is_after_name c cs n Sign Word a b = absurd (word_alone is_after_name Sign c cs n refl b a)
two_classes is_after_name c cs n Sign Number a b = absurd (digit_opens_no_sign c (stands_opens is_after_name Number c cs n b).1 (stands_opens is_after_name Sign c cs n a).1)
two_classes is_after_name c cs n Sign Real a b = absurd (digit_opens_no_sign c (stands_opens is_after_name Real c cs n b).1 (stands_opens is_after_name Sign c cs n a).1)
two_classes is_after_name c cs n Sign Literal a b = absurd (quote_opens_no_sign c (stands_opens is_after_name Literal c cs n b).1 (stands_opens is_after_name Sign c cs n a).1)
two_classes is_after_name c cs n Sign Sign a b = refl

one_class : (is_after_name : Bool) (text : List ℕ) (n : ℕ) (a b : Class) → Stands is_after_name a text n → Stands is_after_name b text n → a ≡ b
one_class is_after_name [] n a b s r = absurd (omega (arith, stands_some is_after_name a [] n s, s.0))
one_class is_after_name (c ∷ cs) n a b s r = two_classes is_after_name c cs n a b s r

one_length : (is_after_name : Bool) (text : List ℕ) (n m : ℕ) (a b : Class) → Longest is_after_name a text n → Longest is_after_name b text m → n ≡ m
one_length is_after_name text n m a b s r = omega (arith, s.longest b m r.stands, r.longest a n s.stands)

-- the longest token has one class and one length
pub one_longest : (is_after_name : Bool) (text : List ℕ) (n m : ℕ) (a b : Class) → Longest is_after_name a text n → Longest is_after_name b text m → (n ≡ m) × (a ≡ b)
one_longest is_after_name text n m a b s r =
    let e = one_length is_after_name text n m a b s r in
    (e, one_class is_after_name text n a b s.stands (subst (λ k. Stands is_after_name b text k) (sym e) r.stands))
