-- Which prefix is the longest token.
use Rattle.std.proofs.Common.{◌≡◌, ℕ, zero, suc, ◌<◌, ◌≤◌, Bool, true, false, cond, ◌&&◌, not, nat_le, List, [], ◌∷◌, ◌++◌, length, take, drop, get_or, arith, sym, subst, ◌∙◌, refl, ap}
use Rattle.std.specs.Prelude.{is_some}
use Rattle.std.specs.List.{prefix_len}
use Rattle.std.proofs.lemmas.List.{length-take-le, take-append-drop}
use Rattle.kumir_lexer.specs.declared.cutting.Class.{Class}
use Rattle.kumir_lexer.specs.declared.cutting.Class.TheVariants.{Word, Number, Real, Literal, Sign}
use Rattle.kumir_lexer.specs.Spelling.{sign_of}
use Rattle.kumir_lexer.specs.Classes.{is_digit, is_quote, in_word, begins, IsDigits, IsReal, pointed, pointed_and_scaled, scaled, HasShape, is_word, Stands, Longest, NoneStands}
use Rattle.kumir_lexer.specs.Prefixes.{real_len, literal_len, sign_len}
use Rattle.kumir_lexer.proofs.Digits.{prefix_fits, prefix_passes, prefix_longest, begins_in_word, digits_pass}
use Rattle.kumir_lexer.proofs.Reals.{real_ok, real_at_least}
use Rattle.kumir_lexer.proofs.Marks.{both_true, literal_ok, literal_exact, sign_text, is_sign_text}

-- ---- signs

sign_size : (t : List ℕ) → is_sign_text t ≡ true → (1 ≤ length t) × (length t ≤ 2)
sign_size [] h = absurd (let none : ⊥ = cc in none)
sign_size (c ∷ []) h = (omega arith, omega arith)
sign_size (c ∷ d ∷ []) h = (omega arith, omega arith)
sign_size (c ∷ d ∷ e ∷ rest) h = absurd (let none : ⊥ = cc in none)

sign_by : (text : List ℕ) (two one : Bool) → is_some (sign_of (take 2 text)) ≡ two → is_some (sign_of (take 1 text)) ≡ one → (long : Bool) → nat_le 2 (length text) ≡ long → 1 ≤ cond (long && two) 2 (cond one 1 0) → is_some (sign_of (take (cond (long && two) 2 (cond one 1 0)) text)) ≡ true
sign_by text true one e f true l h = e
sign_by text true true e f false l h = f
sign_by text true false e f false l h = absurd (omega arith)
sign_by text false true e f true l h = f
sign_by text false false e f true l h = absurd (omega arith)
sign_by text false true e f false l h = f
sign_by text false false e f false l h = absurd (omega arith)

sign_ok : (text : List ℕ) → 1 ≤ sign_len text → is_some (sign_of (take (sign_len text) text)) ≡ true
sign_ok text h = sign_by text (is_some (sign_of (take 2 text))) (is_some (sign_of (take 1 text))) refl refl (nat_le 2 (length text)) refl h

sign_limit : (text : List ℕ) (m : ℕ) → m ≤ length text → is_some (sign_of (take m text)) ≡ true → m ≤ sign_len text
sign_limit text zero l h = omega arith
sign_limit text (suc zero) l h =
    let h' : is_some (sign_of (take 1 text)) ≡ true = h in
    elim (nat_le 2 (length text) && is_some (sign_of (take 2 text))) as (λ b. 1 ≤ cond b 2 (cond (is_some (sign_of (take 1 text))) 1 0)) [ true ↦ omega arith | false ↦ rw h' (omega arith) ]
sign_limit text (suc (suc zero)) l h =
    let long : nat_le 2 (length text) ≡ true = grind arith in
    let h' : is_some (sign_of (take 2 text)) ≡ true = h in
    rw (long, h') (omega arith)
sign_limit text (suc (suc (suc m))) l h =
    let size = sign_size (take (suc (suc (suc m))) text) (sign_text _ h) in
    absurd (omega (arith, size.1, length-take-le (suc (suc (suc m))) text l))

-- ---- how the texts of a class begin

abbrev pub opens : Class → ℕ → Bool
opens Word c = true
opens Number c = is_digit c
opens Real c = is_digit c
opens Literal c = is_quote c
opens Sign c = not (is_digit c) && not (is_quote c)

digits_open : (ds rest : List ℕ) → IsDigits ds → (1 ≤ length (ds ++ rest)) × (is_digit (get_or (ds ++ rest) 0 0) ≡ true)
digits_open [] rest h = absurd h
digits_open (d ∷ ds) rest h = (omega arith, h.0)

real_opens : (t : List ℕ) → IsReal t → (1 ≤ length t) × (is_digit (get_or t 0 0) ≡ true)
real_opens t (pointed ds es h g) = digits_open ds (46 ∷ es) h
real_opens t (pointed_and_scaled ds es xs h g x) = digits_open ds (46 ∷ (es ++ xs)) h
real_opens t (scaled ds xs h x) = digits_open ds xs h

sign_opens : (t : List ℕ) → is_sign_text t ≡ true → (1 ≤ length t) × ((not (is_digit (get_or t 0 0)) && not (is_quote (get_or t 0 0))) ≡ true)
sign_opens [] h = absurd (let none : ⊥ = cc in none)
sign_opens (c ∷ []) h = (omega arith, h)
sign_opens (c ∷ d ∷ []) h = (omega arith, h)
sign_opens (c ∷ d ∷ e ∷ rest) h = absurd (let none : ⊥ = cc in none)

shape_opens : (class : Class) (t : List ℕ) → HasShape class t → (1 ≤ length t) × (opens class (get_or t 0 0) ≡ true)
shape_opens Word [] h = absurd h
shape_opens Word (c ∷ cs) h = (omega arith, refl)
shape_opens Number [] h = absurd h
shape_opens Number (c ∷ cs) h = (omega arith, h.0)
shape_opens Real t h = real_opens t h
shape_opens Literal t h = (let e = ap (λ (u : List ℕ). length u) h.2 in omega (arith, e), ap (λ (u : List ℕ). is_quote (get_or u 0 0)) h.2)
shape_opens Sign t h = sign_opens t (sign_text t h)

-- a token takes a character or more
pub stands_some : (is_after_name : Bool) (class : Class) (text : List ℕ) (n : ℕ) → Stands is_after_name class text n → 1 ≤ n
stands_some is_after_name class text n s = omega (arith, (shape_opens class (take n text) s.1.1).0, length-take-le n text s.0)

-- the class that stands has to begin as the text does
pub stands_opens : (is_after_name : Bool) (class : Class) (c : ℕ) (cs : List ℕ) (n : ℕ) → Stands is_after_name class (c ∷ cs) n → (begins is_after_name c ≡ is_word class) × (opens class c ≡ true)
stands_opens is_after_name class c cs zero s = absurd (omega (arith, stands_some is_after_name class (c ∷ cs) zero s))
stands_opens is_after_name class c cs (suc n) s = (s.1.0, (shape_opens class (c ∷ take n cs) s.1.1).1)

-- ---- words

word_limit : (is_after_name : Bool) (c : ℕ) (cs : List ℕ) → begins is_after_name c ≡ true → (other : Class) (m : ℕ) → Stands is_after_name other (c ∷ cs) m → m ≤ suc (prefix_len in_word cs)
word_limit is_after_name c cs h other zero s = omega arith
word_limit is_after_name c cs h Word (suc m) s = let i : m ≤ length cs = omega arith in omega (arith, prefix_longest in_word cs m i s.1.1)
word_limit is_after_name c cs h Number (suc m) s = absurd (let none : ⊥ = cc in none)
word_limit is_after_name c cs h Real (suc m) s = absurd (let none : ⊥ = cc in none)
word_limit is_after_name c cs h Literal (suc m) s = absurd (let none : ⊥ = cc in none)
word_limit is_after_name c cs h Sign (suc m) s = absurd (let none : ⊥ = cc in none)

longest_word : (is_after_name : Bool) (c : ℕ) (cs : List ℕ) → begins is_after_name c ≡ true → Longest is_after_name Word (c ∷ cs) (prefix_len in_word (c ∷ cs))
longest_word is_after_name c cs h =
    let starts : in_word c ≡ true = begins_in_word is_after_name c h in
    let one : suc (prefix_len in_word cs) ≡ prefix_len in_word (c ∷ cs) = rw starts (omega arith) in
    subst (Longest is_after_name Word (c ∷ cs)) one (record {
      stands = (omega (arith, prefix_fits in_word cs), (h, prefix_passes in_word cs));
      longest = word_limit is_after_name c cs h;
    })

pub longest_word_at : (is_after_name : Bool) (text : List ℕ) (n x : ℕ) → 1 ≤ length text → x ≡ get_or text 0 0 → begins is_after_name x ≡ true → n ≡ prefix_len in_word text → Longest is_after_name Word text n
longest_word_at is_after_name [] n x l e h p = absurd (omega arith)
longest_word_at is_after_name (c ∷ cs) n x l e h p = subst (Longest is_after_name Word (c ∷ cs)) (sym p) (longest_word is_after_name c cs (subst (λ y. begins is_after_name y ≡ true) e h))

-- ---- the other classes, where no word begins

prefix : (text : List ℕ) (m : ℕ) → take m text ++ drop m text ≡ text
prefix text m = take-append-drop m text

number_limit : (text : List ℕ) (m : ℕ) → m ≤ length text → IsDigits (take m text) → m ≤ prefix_len is_digit text
number_limit text m l h = prefix_longest is_digit text m l (digits_pass _ h)

real_limit : (text : List ℕ) (m : ℕ) → m ≤ length text → IsReal (take m text) → m ≤ real_len text
real_limit text m l h =
    let more : length (take m text) ≤ real_len text = subst (λ u. length (take m text) ≤ real_len u) (prefix text m) (real_at_least (take m text) h (drop m text)) in
    omega (arith, more, length-take-le m text l)

literal_limit : (text : List ℕ) (m : ℕ) → m ≤ length text → HasShape Literal (take m text) → m ≤ literal_len text
literal_limit text m l h = let e = literal_exact (take m text) h (drop m text) in let e' : length (take m text) ≡ literal_len text = e ∙ ap literal_len (prefix text m) in omega (arith, e', length-take-le m text l)

pub digit_is_no_quote : (c : ℕ) → is_digit c ≡ true → is_quote c ≡ true → ⊥
digit_is_no_quote c d q = grind arith

pub digit_opens_no_sign : (c : ℕ) → is_digit c ≡ true → (not (is_digit c) && not (is_quote c)) ≡ true → ⊥
digit_opens_no_sign c d h = let e : not (is_digit c) ≡ true = (both_true (not (is_digit c)) (not (is_quote c)) h).0 in let f : not (is_digit c) ≡ false = rw d refl in cc

pub quote_opens_no_sign : (c : ℕ) → is_quote c ≡ true → (not (is_digit c) && not (is_quote c)) ≡ true → ⊥
quote_opens_no_sign c q h = let e : not (is_quote c) ≡ true = (both_true (not (is_digit c)) (not (is_quote c)) h).1 in let f : not (is_quote c) ≡ false = rw q refl in cc

-- what begins with a digit is no longer than the digits and the real there
digit_limit : (is_after_name : Bool) (c : ℕ) (cs : List ℕ) (k : ℕ) → begins is_after_name c ≡ false → is_digit c ≡ true → prefix_len is_digit (c ∷ cs) ≤ k → real_len (c ∷ cs) ≤ k → (other : Class) (m : ℕ) → Stands is_after_name other (c ∷ cs) m → m ≤ k
digit_limit is_after_name c cs k h d n r Word m s = let e = (stands_opens is_after_name Word c cs m s).0 in absurd (let none : ⊥ = cc in none)
digit_limit is_after_name c cs k h d n r Number m s = omega (arith, number_limit (c ∷ cs) m s.0 s.1.1)
digit_limit is_after_name c cs k h d n r Real m s = omega (arith, real_limit (c ∷ cs) m s.0 s.1.1)
digit_limit is_after_name c cs k h d n r Literal m s = absurd (digit_is_no_quote c d (stands_opens is_after_name Literal c cs m s).1)
digit_limit is_after_name c cs k h d n r Sign m s = absurd (digit_opens_no_sign c d (stands_opens is_after_name Sign c cs m s).1)

-- what begins with a quote is a literal
quote_limit : (is_after_name : Bool) (c : ℕ) (cs : List ℕ) → begins is_after_name c ≡ false → is_quote c ≡ true → (other : Class) (m : ℕ) → Stands is_after_name other (c ∷ cs) m → m ≤ literal_len (c ∷ cs)
quote_limit is_after_name c cs h q Word m s = let e = (stands_opens is_after_name Word c cs m s).0 in absurd (let none : ⊥ = cc in none)
quote_limit is_after_name c cs h q Number m s = absurd (digit_is_no_quote c (stands_opens is_after_name Number c cs m s).1 q)
quote_limit is_after_name c cs h q Real m s = absurd (digit_is_no_quote c (stands_opens is_after_name Real c cs m s).1 q)
quote_limit is_after_name c cs h q Literal m s = literal_limit (c ∷ cs) m s.0 s.1.1
quote_limit is_after_name c cs h q Sign m s = absurd (quote_opens_no_sign c q (stands_opens is_after_name Sign c cs m s).1)

-- what begins otherwise is a sign
other_limit : (is_after_name : Bool) (c : ℕ) (cs : List ℕ) → begins is_after_name c ≡ false → is_digit c ≡ false → is_quote c ≡ false → (other : Class) (m : ℕ) → Stands is_after_name other (c ∷ cs) m → m ≤ sign_len (c ∷ cs)
other_limit is_after_name c cs h d q Word m s = let e = (stands_opens is_after_name Word c cs m s).0 in absurd (let none : ⊥ = cc in none)
other_limit is_after_name c cs h d q Number m s = let e = (stands_opens is_after_name Number c cs m s).1 in absurd (let none : ⊥ = cc in none)
other_limit is_after_name c cs h d q Real m s = let e = (stands_opens is_after_name Real c cs m s).1 in absurd (let none : ⊥ = cc in none)
other_limit is_after_name c cs h d q Literal m s = let e = (stands_opens is_after_name Literal c cs m s).1 in absurd (let none : ⊥ = cc in none)
other_limit is_after_name c cs h d q Sign m s = sign_limit (c ∷ cs) m s.0 s.1.1

real_longer : (text : List ℕ) → 1 ≤ real_len text → prefix_len is_digit text ≤ real_len text
real_longer text h = grind arith

-- ---- at a text whose first character is known

pub longest_number_at : (is_after_name : Bool) (text : List ℕ) (n r x : ℕ) → 1 ≤ length text → x ≡ get_or text 0 0 → begins is_after_name x ≡ false → is_digit x ≡ true → n ≡ prefix_len is_digit text → r ≡ real_len text → r ≤ 0 → Longest is_after_name Number text n
longest_number_at is_after_name [] n r x l e h d p q z = absurd (omega arith)
longest_number_at is_after_name (c ∷ cs) n r x l e h d p q z =
    let h' = subst (λ y. begins is_after_name y ≡ false) e h in
    let d' = subst (λ y. is_digit y ≡ true) e d in
    let one : suc (prefix_len is_digit cs) ≡ n = p' d' p in
    subst (Longest is_after_name Number (c ∷ cs)) one (record {
      stands = (omega (arith, prefix_fits is_digit cs), (h', (d', prefix_passes is_digit cs)));
      longest = digit_limit is_after_name c cs (suc (prefix_len is_digit cs)) h' d' (omega (arith, one, p)) (omega (arith, q));
    }) where
      p' : is_digit c ≡ true → n ≡ prefix_len is_digit (c ∷ cs) → suc (prefix_len is_digit cs) ≡ n
      p' d' p = sym (p ∙ rw d' (omega arith))

stands_from : (is_after_name : Bool) (class : Class) (c : ℕ) (cs : List ℕ) (n : ℕ) → 1 ≤ n → n ≤ length (c ∷ cs) → begins is_after_name c ≡ is_word class → HasShape class (take n (c ∷ cs)) → Stands is_after_name class (c ∷ cs) n
stands_from is_after_name class c cs zero some l h s = absurd (omega arith)
stands_from is_after_name class c cs (suc n) some l h s = (l, (h, s))

digit_counts : (c : ℕ) (cs : List ℕ) → is_digit c ≡ true → 1 ≤ prefix_len is_digit (c ∷ cs)
digit_counts c cs d = rw d (omega arith)

pub longest_real_at : (is_after_name : Bool) (text : List ℕ) (n x : ℕ) → 1 ≤ length text → x ≡ get_or text 0 0 → begins is_after_name x ≡ false → is_digit x ≡ true → n ≡ real_len text → n ≤ length text → 0 < n → Longest is_after_name Real text n
longest_real_at is_after_name [] n x l e h d p w z = absurd (omega arith)
longest_real_at is_after_name (c ∷ cs) n x l e h d p w z =
    let h' = subst (λ y. begins is_after_name y ≡ false) e h in
    let d' = subst (λ y. is_digit y ≡ true) e d in
    let some : 1 ≤ real_len (c ∷ cs) = omega (arith, p) in
    subst (Longest is_after_name Real (c ∷ cs)) (sym p) (record {
      stands = stands_from is_after_name Real c cs (real_len (c ∷ cs)) some (omega (arith, p)) h' (real_ok (c ∷ cs) (digit_counts c cs d') some);
      longest = digit_limit is_after_name c cs (real_len (c ∷ cs)) h' d' (real_longer (c ∷ cs) some) (omega arith);
    })

pub longest_literal_at : (is_after_name : Bool) (text : List ℕ) (n x : ℕ) → 1 ≤ length text → x ≡ get_or text 0 0 → begins is_after_name x ≡ false → is_quote x ≡ true → n ≡ literal_len text → n ≤ length text → 0 < n → Longest is_after_name Literal text n
longest_literal_at is_after_name [] n x l e h q p w z = absurd (omega arith)
longest_literal_at is_after_name (c ∷ cs) n x l e h q p w z =
    let h' = subst (λ y. begins is_after_name y ≡ false) e h in
    let q' = subst (λ y. is_quote y ≡ true) e q in
    let some : 1 ≤ literal_len (c ∷ cs) = omega (arith, p) in
    subst (Longest is_after_name Literal (c ∷ cs)) (sym p) (record {
      stands = stands_from is_after_name Literal c cs (literal_len (c ∷ cs)) some (omega (arith, p)) h' (literal_ok (c ∷ cs) some);
      longest = quote_limit is_after_name c cs h' q';
    })

pub longest_sign_at : (is_after_name : Bool) (text : List ℕ) (n x : ℕ) → 1 ≤ length text → x ≡ get_or text 0 0 → begins is_after_name x ≡ false → is_digit x ≡ false → is_quote x ≡ false → n ≡ sign_len text → n ≤ length text → 0 < n → Longest is_after_name Sign text n
longest_sign_at is_after_name [] n x l e h d q p w z = absurd (omega arith)
longest_sign_at is_after_name (c ∷ cs) n x l e h d q p w z =
    let h' = subst (λ y. begins is_after_name y ≡ false) e h in
    let d' = subst (λ y. is_digit y ≡ false) e d in
    let q' = subst (λ y. is_quote y ≡ false) e q in
    let some : 1 ≤ sign_len (c ∷ cs) = omega (arith, p) in
    subst (Longest is_after_name Sign (c ∷ cs)) (sym p) (record {
      stands = stands_from is_after_name Sign c cs (sign_len (c ∷ cs)) some (omega (arith, p)) h' (sign_ok (c ∷ cs) some);
      longest = other_limit is_after_name c cs h' d' q';
    })

pub no_literal_at : (is_after_name : Bool) (text : List ℕ) (n x : ℕ) → 1 ≤ length text → x ≡ get_or text 0 0 → begins is_after_name x ≡ false → is_quote x ≡ true → n ≡ literal_len text → n ≤ 0 → NoneStands is_after_name text
no_literal_at is_after_name [] n x l e h q p z = absurd (omega arith)
no_literal_at is_after_name (c ∷ cs) n x l e h q p z =
    λ class m s. let most = quote_limit is_after_name c cs (subst (λ y. begins is_after_name y ≡ false) e h) (subst (λ y. is_quote y ≡ true) e q) class m s in omega (arith, most, p, z, stands_some is_after_name class (c ∷ cs) m s)

pub no_sign_at : (is_after_name : Bool) (text : List ℕ) (n x : ℕ) → 1 ≤ length text → x ≡ get_or text 0 0 → begins is_after_name x ≡ false → is_digit x ≡ false → is_quote x ≡ false → n ≡ sign_len text → n ≤ 0 → NoneStands is_after_name text
no_sign_at is_after_name [] n x l e h d q p z = absurd (omega arith)
no_sign_at is_after_name (c ∷ cs) n x l e h d q p z =
    λ class m s. let most = other_limit is_after_name c cs (subst (λ y. begins is_after_name y ≡ false) e h) (subst (λ y. is_digit y ≡ false) e d) (subst (λ y. is_quote y ≡ false) e q) class m s in omega (arith, most, p, z, stands_some is_after_name class (c ∷ cs) m s)
