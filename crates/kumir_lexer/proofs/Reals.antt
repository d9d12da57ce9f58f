-- The longest prefix that is a real.
use Rattle.std.proofs.Common.{◌≡◌, ℕ, zero, suc, ◌+◌, ◌≤◌, true, false, cond, ◌==◌, List, [], ◌∷◌, ◌++◌, length, take, drop, arith, sym, subst, ◌∙◌, refl, ap, append_assoc, length-append}
use Rattle.std.proofs.Math.Seq.{take-add, drop-append_seam}
use Rattle.std.specs.List.{prefix_len}
use Rattle.kumir_lexer.specs.Classes.{is_digit, IsDigits, IsExponent, unsigned, signed, IsReal, pointed, pointed_and_scaled, scaled, marks_exponent, is_plus_or_minus}
use Rattle.kumir_lexer.specs.Prefixes.{with_digits, sign_width, exponent_len, fraction_len, scale_len, real_len}
use Rattle.kumir_lexer.proofs.Digits.{prefix_passes, prefix_fits, prefix_at_least, prefix_exact, digits_pass, digits_some, digits_from, mark_is_no_digit, mark_is_no_point, digit_is_no_sign}
use Rattle.std.proofs.lemmas.List.{length-take-le}

with_some : (a d : ℕ) → 1 ≤ d → with_digits a d ≡ a + d
with_some a d h = let e : (d == 0) ≡ false = grind arith in rw e refl

with_none : (a d : ℕ) → 1 ≤ with_digits a d → 1 ≤ d
with_none a zero h = h
with_none a (suc d) h = omega arith

pub some_from : (n : ℕ) → (n == 0) ≡ false → 1 ≤ n
some_from zero e = absurd (let none : ⊥ = cc in none)
some_from (suc n) e = omega arith

-- ---- whatever follows, the prefix is no shorter

digits_are_unsigned : (ds rest : List ℕ) → IsDigits ds → sign_width (ds ++ rest) ≡ 0
digits_are_unsigned [] rest h = absurd h
digits_are_unsigned (d ∷ ds) rest h = rw (digit_is_no_sign d h.0) refl

exponent_at_least : (xs : List ℕ) → IsExponent xs → (rest : List ℕ) → length xs ≤ exponent_len (xs ++ rest)
exponent_at_least xs (unsigned {c} {ds} m h) rest =
    let more = prefix_at_least is_digit ds rest (digits_pass ds h) in
    let some : 1 ≤ prefix_len is_digit (ds ++ rest) = omega (arith, more, digits_some ds h) in
    rw (m, digits_are_unsigned ds rest h, with_some 1 (prefix_len is_digit (ds ++ rest)) some) (omega (arith, more))
exponent_at_least xs (signed {c} {s} {ds} m p h) rest =
    let more = prefix_at_least is_digit ds rest (digits_pass ds h) in
    let some : 1 ≤ prefix_len is_digit (ds ++ rest) = omega (arith, more, digits_some ds h) in
    rw (m, p, with_some 2 (prefix_len is_digit (ds ++ rest)) some) (omega (arith, more))

fraction_at_least : (es rest : List ℕ) → IsDigits es → suc (length es) ≤ fraction_len (46 ∷ (es ++ rest))
fraction_at_least es rest h =
    let more = prefix_at_least is_digit es rest (digits_pass es h) in
    let some : 1 ≤ prefix_len is_digit (es ++ rest) = omega (arith, more, digits_some es h) in
    rw (with_some 1 (prefix_len is_digit (es ++ rest)) some) (omega (arith, more))

fraction_exact : (es : List ℕ) (c : ℕ) (rest : List ℕ) → IsDigits es → is_digit c ≡ false → fraction_len (46 ∷ (es ++ c ∷ rest)) ≡ suc (length es)
fraction_exact es c rest h n = rw (prefix_exact is_digit es c rest (digits_pass es h) n, with_some 1 (length es) (digits_some es h)) (omega arith)

fraction_none : (c : ℕ) (rest : List ℕ) → marks_exponent c ≡ true → fraction_len (c ∷ rest) ≡ 0
fraction_none c rest m = rw (mark_is_no_point c m) refl

-- an exponent alone
scale_exponent : (xs : List ℕ) → IsExponent xs → (rest : List ℕ) → length xs ≤ scale_len (xs ++ rest)
scale_exponent xs (unsigned {c} {ds} m h) rest = rw (fraction_none c (ds ++ rest) m) (omega (arith, exponent_at_least (c ∷ ds) (unsigned m h) rest))
scale_exponent xs (signed {c} {s} {ds} m p h) rest = rw (fraction_none c (s ∷ (ds ++ rest)) m) (omega (arith, exponent_at_least (c ∷ s ∷ ds) (signed m p h) rest))

-- a fraction, and behind it something that begins with no digit
scale_both : (es : List ℕ) (c : ℕ) (cs rest : List ℕ) → IsDigits es → is_digit c ≡ false → length (c ∷ cs) ≤ exponent_len (c ∷ (cs ++ rest)) → suc (length es) + length (c ∷ cs) ≤ scale_len (46 ∷ (es ++ c ∷ (cs ++ rest)))
scale_both es c cs rest h n more = rw (fraction_exact es c (cs ++ rest) h n, drop-append_seam es (c ∷ (cs ++ rest))) (omega (arith, more))

scale_point_and_exponent : (es xs : List ℕ) → IsDigits es → IsExponent xs → (rest : List ℕ) → suc (length es) + length xs ≤ scale_len (46 ∷ (es ++ (xs ++ rest)))
scale_point_and_exponent es xs h (unsigned {c} {ds} m g) rest = scale_both es c ds rest h (mark_is_no_digit c m) (exponent_at_least (c ∷ ds) (unsigned m g) rest)
scale_point_and_exponent es xs h (signed {c} {s} {ds} m p g) rest = scale_both es c (s ∷ ds) rest h (mark_is_no_digit c m) (exponent_at_least (c ∷ s ∷ ds) (signed m p g) rest)

-- digits, and behind them something that begins with no digit
real_from : (ds : List ℕ) (c : ℕ) (rest : List ℕ) (k : ℕ) → IsDigits ds → is_digit c ≡ false → 1 ≤ k → k ≤ scale_len (c ∷ rest) → length ds + k ≤ real_len (ds ++ c ∷ rest)
real_from ds c rest k h n some more =
    let e : (scale_len (c ∷ rest) == 0) ≡ false = grind arith in
    rw (prefix_exact is_digit ds c rest (digits_pass ds h) n, drop-append_seam ds (c ∷ rest), e) (omega (arith, more))

real_scaled : (ds xs rest : List ℕ) → IsDigits ds → IsExponent xs → length ds + length xs ≤ real_len (ds ++ (xs ++ rest))
real_scaled ds xs rest h (unsigned {c} {ds = es} m g) = real_from ds c (es ++ rest) (suc (length es)) h (mark_is_no_digit c m) (omega arith) (scale_exponent (c ∷ es) (unsigned m g) rest)
real_scaled ds xs rest h (signed {c} {s} {ds = es} m p g) = real_from ds c (s ∷ (es ++ rest)) (suc (suc (length es))) h (mark_is_no_digit c m) (omega arith) (scale_exponent (c ∷ s ∷ es) (signed m p g) rest)

pub real_at_least : (t : List ℕ) → IsReal t → (rest : List ℕ) → length t ≤ real_len (t ++ rest)
real_at_least t (pointed ds es h g) rest =
    let more = fraction_at_least es rest g in
    let all : length ds + suc (length es) ≤ real_len (ds ++ 46 ∷ (es ++ rest)) = real_from ds 46 (es ++ rest) (suc (length es)) h refl (omega arith) (omega (arith, more)) in
    rw (append_assoc ds (46 ∷ es) rest) (omega (arith, all, length-append ds (46 ∷ es)))
real_at_least t (pointed_and_scaled ds es xs h g x) rest =
    let more = scale_point_and_exponent es xs g x rest in
    let all : length ds + (suc (length es) + length xs) ≤ real_len (ds ++ 46 ∷ (es ++ (xs ++ rest))) = real_from ds 46 (es ++ (xs ++ rest)) (suc (length es) + length xs) h refl (omega arith) more in
    rw (append_assoc ds (46 ∷ (es ++ xs)) rest, append_assoc es xs rest) (omega (arith, all, length-append ds (46 ∷ (es ++ xs)), length-append es xs))
real_at_least t (scaled ds xs h x) rest =
    rw (append_assoc ds xs rest) (omega (arith, real_scaled ds xs rest h x, length-append ds xs))

-- ---- the prefix is a real

prefix_digits : (cs : List ℕ) → 1 ≤ prefix_len is_digit cs → IsDigits (take (prefix_len is_digit cs) cs)
prefix_digits cs h = digits_from _ (omega (arith, length-take-le (prefix_len is_digit cs) cs (prefix_fits is_digit cs))) (prefix_passes is_digit cs)

fraction_ok : (text : List ℕ) → 1 ≤ fraction_len text → (es : List ℕ) × IsDigits es × (take (fraction_len text) text ≡ 46 ∷ es)
fraction_ok [] h = absurd (omega arith)
fraction_ok (c ∷ cs) h =
    elim (c == 46) as (λ b. (c == 46) ≡ b → 1 ≤ cond b (with_digits 1 (prefix_len is_digit cs)) 0 → (es : List ℕ) × IsDigits es × (take (cond b (with_digits 1 (prefix_len is_digit cs)) 0) (c ∷ cs) ≡ 46 ∷ es)) [
      | true ↦ λ e some.
          let d : 1 ≤ prefix_len is_digit cs = with_none 1 _ some in
          let is : c ≡ 46 = grind arith in
          let n : with_digits 1 (prefix_len is_digit cs) ≡ suc (prefix_len is_digit cs) = with_some 1 _ d ∙ (omega arith) in
          (take (prefix_len is_digit cs) cs, prefix_digits cs d, rw (n, is) refl)
      | false ↦ λ e some. absurd (omega arith)
    ] refl h

exponent_ok_behind : (c : ℕ) (cs : List ℕ) → marks_exponent c ≡ true → 1 ≤ with_digits (1 + sign_width cs) (prefix_len is_digit (drop (sign_width cs) cs)) → IsExponent (take (with_digits (1 + sign_width cs) (prefix_len is_digit (drop (sign_width cs) cs))) (c ∷ cs))
exponent_ok_behind c [] m h = absurd (omega (arith, with_none 1 0 h))
exponent_ok_behind c (s ∷ cs) m h =
    elim (is_plus_or_minus s) as (λ b. is_plus_or_minus s ≡ b → 1 ≤ with_digits (1 + cond b 1 0) (prefix_len is_digit (drop (cond b 1 0) (s ∷ cs))) → IsExponent (take (with_digits (1 + cond b 1 0) (prefix_len is_digit (drop (cond b 1 0) (s ∷ cs)))) (c ∷ s ∷ cs))) [
      | true ↦ λ e some.
          let d : 1 ≤ prefix_len is_digit cs = with_none 2 _ some in
          let n : with_digits 2 (prefix_len is_digit cs) ≡ suc (suc (prefix_len is_digit cs)) = with_some 2 _ d ∙ (omega arith) in
          subst (λ k. IsExponent (take k (c ∷ s ∷ cs))) (sym n) (signed m e (prefix_digits cs d))
      | false ↦ λ e some.
          let d : 1 ≤ prefix_len is_digit (s ∷ cs) = with_none 1 _ some in
          let n : with_digits 1 (prefix_len is_digit (s ∷ cs)) ≡ suc (prefix_len is_digit (s ∷ cs)) = with_some 1 _ d ∙ (omega arith) in
          subst (λ k. IsExponent (take k (c ∷ s ∷ cs))) (sym n) (unsigned m (prefix_digits (s ∷ cs) d))
    ] refl h

exponent_ok : (text : List ℕ) → 1 ≤ exponent_len text → IsExponent (take (exponent_len text) text)
exponent_ok [] h = absurd (omega arith)
exponent_ok (c ∷ cs) h =
    elim (marks_exponent c) as (λ b. marks_exponent c ≡ b → 1 ≤ cond b (with_digits (1 + sign_width cs) (prefix_len is_digit (drop (sign_width cs) cs))) 0 → IsExponent (take (cond b (with_digits (1 + sign_width cs) (prefix_len is_digit (drop (sign_width cs) cs))) 0) (c ∷ cs))) [
      | true ↦ λ e some. exponent_ok_behind c cs e some
      | false ↦ λ e some. absurd (omega arith)
    ] refl h

scale_by : (f x : ℕ) (ds text : List ℕ) → IsDigits ds → f ≡ fraction_len text → x ≡ exponent_len (drop f text) → 1 ≤ f + x → IsReal (ds ++ take (f + x) text)
scale_by zero x ds text h e g some =
    let n : 1 ≤ exponent_len text = omega (arith, g) in
    let one : zero + x ≡ exponent_len text = omega (arith, g) in
    rw one (scaled ds (take (exponent_len text) text) h (exponent_ok text n))
scale_by (suc f) zero ds text h e g some =
    let found = fraction_ok text (omega (arith, e)) in
    let one : suc f + zero ≡ fraction_len text = omega (arith, e) in
    rw (one, found.2) (pointed ds found.0 h found.1)
scale_by (suc f) (suc x) ds text h e g some =
    let found = fraction_ok text (omega (arith, e)) in
    let prefix : take (suc f) text ≡ 46 ∷ found.0 = ap (λ k. take k text) e ∙ found.2 in
    let more : 1 ≤ exponent_len (drop (suc f) text) = omega (arith, g) in
    rw (take-add (suc f) (suc x) text, prefix) (subst (λ k. IsReal (ds ++ 46 ∷ (found.0 ++ take k (drop (suc f) text)))) (sym g) (pointed_and_scaled ds found.0 _ h found.1 (exponent_ok (drop (suc f) text) more)))

pub real_ok : (text : List ℕ) → 1 ≤ prefix_len is_digit text → 1 ≤ real_len text → IsReal (take (real_len text) text)
real_ok text digits h =
    let n : ℕ = prefix_len is_digit text in
    let rest : List ℕ = drop n text in
    elim (scale_len rest == 0) as (λ b. (scale_len rest == 0) ≡ b → 1 ≤ cond b 0 (n + scale_len rest) → IsReal (take (cond b 0 (n + scale_len rest)) text)) [
      | true ↦ λ e some. absurd (omega arith)
      | false ↦ λ e some.
          let more : 1 ≤ scale_len rest = some_from (scale_len rest) e in
          rw (take-add n (scale_len rest) text) (scale_by (fraction_len rest) _ (take n text) rest (prefix_digits text digits) refl refl more)
    ] refl h
