-- Prefixes that are literals and signs.
use Rattle.std.proofs.Common.{◌≡◌, ℕ, suc, ◌+◌, ◌<◌, ◌≤◌, Bool, true, false, cond, ◌&&◌, not, nat_lt, List, [], ◌∷◌, ◌++◌, length, take, get_or, map, Some, arith, sym, subst, ◌∙◌, refl, ap, append_assoc, length-append}
use Rattle.std.specs.Prelude.{is_some}
use Rattle.std.specs.List.{AllByRecursion, prefix_len}
use Rattle.std.specs.Str.{bytes_eq}
use Rattle.kumir_tree.specs.declared.token.Sign.{Sign}
use Rattle.kumir_lexer.specs.declared.spelling.TheConstants.{SIGNS}
use Rattle.kumir_lexer.specs.declared.cutting.Class.TheVariants.{Literal}
use Rattle.kumir_lexer.specs.Spelling.{meaning, sign_of}
use Rattle.kumir_lexer.specs.Classes.{is_digit, is_quote, HasShape}
use Rattle.kumir_lexer.specs.Prefixes.{literal_len}
use Rattle.kumir_lexer.proofs.Digits.{prefix_passes, prefix_exact}
use Rattle.std.proofs.lemmas.List.{take_more}
use Rattle.std.proofs.lemmas.List.Sums.{prefix_len_stops}
use Rattle.std.proofs.lemmas.Bool.{eqb-true}
use Rattle.std.proofs.lemmas.Slice.Eq.{bytes_eq-Decides}

pub both_true : (a b : Bool) → (a && b) ≡ true → (a ≡ true) × (b ≡ true)
both_true true b h = (refl, h)
both_true false b h = absurd (let none : ⊥ = cc in none)

-- ---- literals

unquoted : (xs : List ℕ) → AllByRecursion (λ c. is_quote c ≡ false) xs → AllByRecursion (λ c. not (is_quote c) ≡ true) xs
unquoted [] h = tt
unquoted (x ∷ xs) h = (rw h.0 refl, unquoted xs h.1)

not_quoted : (b : Bool) → not b ≡ true → b ≡ false
not_quoted true h = cc
not_quoted false h = refl

unquoted_back : (xs : List ℕ) → AllByRecursion (λ c. not (is_quote c) ≡ true) xs → AllByRecursion (λ c. is_quote c ≡ false) xs
unquoted_back [] h = tt
unquoted_back (x ∷ xs) h = (not_quoted (is_quote x) h.0, unquoted_back xs h.1)

literal_from : (cs rest : List ℕ) → AllByRecursion (λ c. is_quote c ≡ false) cs → literal_len (34 ∷ (cs ++ 34 ∷ rest)) ≡ length cs + 2
literal_from cs rest h =
    let n : prefix_len (λ d. not (is_quote d)) (cs ++ 34 ∷ rest) ≡ length cs = prefix_exact (λ d. not (is_quote d)) cs 34 rest (unquoted cs h) refl in
    let less : nat_lt (length cs) (length (cs ++ 34 ∷ rest)) ≡ true = grind (arith, length-append cs (34 ∷ rest)) in
    rw (n, less) refl

pub literal_exact : (t : List ℕ) → HasShape Literal t → (rest : List ℕ) → length t ≡ literal_len (t ++ rest)
literal_exact t h rest =
    let cs : List ℕ = h.0 in
    let seen : t ++ rest ≡ 34 ∷ (cs ++ 34 ∷ rest) = ap (λ (u : List ℕ). u ++ rest) h.2 ∙ ap (λ (u : List ℕ). 34 ∷ u) (append_assoc cs (34 ∷ []) rest) in
    let long : length t ≡ length cs + 2 = ap (λ (u : List ℕ). length u) h.2 ∙ omega (arith, length-append cs (34 ∷ [])) in
    long ∙ sym (ap literal_len seen ∙ literal_from cs rest h.1)

quoted : (b : Bool) → not b ≡ false → b ≡ true
quoted true h = refl
quoted false h = absurd (let none : ⊥ = cc in none)

less_from : (m n : ℕ) → nat_lt m n ≡ true → m < n
less_from m n e = grind arith

quote_from : (c : ℕ) → is_quote c ≡ true → c ≡ 34
quote_from c h = eqb-true c 34 h

literal_by : (c : ℕ) (cs : List ℕ) → is_quote c ≡ true → (n : ℕ) → n ≡ prefix_len (λ d. not (is_quote d)) cs → n < length cs → HasShape Literal (take (n + 2) (c ∷ cs))
literal_by c cs q n e less =
    let stop : not (is_quote (get_or cs n 0)) ≡ false = subst (λ k. not (is_quote (get_or cs k 0)) ≡ false) (sym e) (prefix_len_stops (λ d. not (is_quote d)) cs 0 (subst (λ k. k < length cs) e less)) in
    let last : get_or cs n 0 ≡ 34 = quote_from _ (quoted (is_quote (get_or cs n 0)) stop) in
    let grown : take (n + 1) cs ≡ take n cs ++ 34 ∷ [] = take_more cs n 0 less ∙ ap (λ d. take n cs ++ d ∷ []) last in
    let inner : AllByRecursion (λ d. is_quote d ≡ false) (take n cs) = subst (λ k. AllByRecursion (λ d. is_quote d ≡ false) (take k cs)) (sym e) (unquoted_back _ (prefix_passes (λ d. not (is_quote d)) cs)) in
    let two : n + 2 ≡ suc (n + 1) = omega arith in
    (take n cs, inner, ap (λ k. take k (c ∷ cs)) two ∙ ap (λ u. c ∷ u) grown ∙ ap (λ d. d ∷ (take n cs ++ 34 ∷ [])) (quote_from c q))

pub literal_ok : (text : List ℕ) → 1 ≤ literal_len text → HasShape Literal (take (literal_len text) text)
literal_ok [] h = absurd (omega arith)
literal_ok (c ∷ cs) h =
    elim (is_quote c && nat_lt (prefix_len (λ d. not (is_quote d)) cs) (length cs)) as (λ b. (is_quote c && nat_lt (prefix_len (λ d. not (is_quote d)) cs) (length cs)) ≡ b → 1 ≤ cond b (prefix_len (λ d. not (is_quote d)) cs + 2) 0 → HasShape Literal (take (cond b (prefix_len (λ d. not (is_quote d)) cs + 2) 0) (c ∷ cs))) [
      | true ↦ λ e some. literal_by c cs (both_true (is_quote c) _ e).0 _ refl (less_from _ _ (both_true (is_quote c) _ e).1)
      | false ↦ λ e some. absurd (omega arith)
    ] refl h

-- ---- signs

-- one character or two, the first no digit and no quote
abbrev pub is_sign_text : List ℕ → Bool
is_sign_text [] = false
is_sign_text (c ∷ []) = not (is_digit c) && not (is_quote c)
is_sign_text (c ∷ d ∷ []) = not (is_digit c) && not (is_quote c)
is_sign_text (c ∷ d ∷ e ∷ rest) = false

abbrev all_sign_texts : List (List ℕ × Sign) → Bool
all_sign_texts [] = true
all_sign_texts (e ∷ es) = is_sign_text e.0 && all_sign_texts es

signs_are : all_sign_texts (map (λ e. (e.0.now, e.1)) SIGNS) ≡ true
signs_are = refl

meaning_is : (table : List (List ℕ × Sign)) → all_sign_texts table ≡ true → (t : List ℕ) → is_some (meaning table t) ≡ true → is_sign_text t ≡ true
meaning_is [] all t h = absurd (let none : ⊥ = cc in none)
meaning_is (e ∷ es) all t h =
    elim (bytes_eq e.0 t) as (λ b. bytes_eq e.0 t ≡ b → is_some (cond b (Some e.1) (meaning es t)) ≡ true → is_sign_text t ≡ true) [
      | true ↦ λ same some. subst (λ u. is_sign_text u ≡ true) ((bytes_eq-Decides e.0 t).0 same) (both_true (is_sign_text e.0) (all_sign_texts es) all).0
      | false ↦ λ other some. meaning_is es (both_true (is_sign_text e.0) (all_sign_texts es) all).1 t some
    ] refl h

pub sign_text : (t : List ℕ) → is_some (sign_of t) ≡ true → is_sign_text t ≡ true
unfolding sign_of
sign_text t h = meaning_is (map (λ e. (e.0.now, e.1)) SIGNS) signs_are t h
