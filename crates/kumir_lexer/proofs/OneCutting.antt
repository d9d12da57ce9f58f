-- Each line has at most one cutting.
use Rattle.std.proofs.Common.{◌≡◌, ℕ, ◌-◌, Bool, true, false, ◌||◌, ⊎_elim, List, [], ◌∷◌, ◌++◌, take, drop, get_or, Option, Some, None, arith, sym, ap, subst, ◌∙◌, refl}
use Rattle.std.specs.Prelude.{slice_range, codes}
use Rattle.std.proofs.lemmas.Slice.Eq.{bytes_eq-Decides}
use Rattle.kumir_tree.specs.declared.token.Token.{Token}
use Rattle.kumir_tree.specs.declared.token.Token.TheVariants as token
use Rattle.kumir_tree.specs.declared.token.Spanned.{Spanned}
use Rattle.kumir_lexer.specs.declared.cutting.Class.{Class}
use Rattle.kumir_lexer.specs.declared.cutting.Class.TheVariants.{Word, Number, Real, Literal, Sign}
use Rattle.kumir_lexer.specs.declared.cutting.LexFault.{LexFault}
use Rattle.kumir_lexer.specs.Spelling.{is_text, key_of, sign_of}
use Rattle.kumir_lexer.specs.Classes.{Longest, NoneStands}
use Rattle.kumir_lexer.specs.Cutting.{names_reals, Spells, IsRefused, bad_code, IsFaulty, IsToken, is_name, Cuts, Cut}
use Rattle.kumir_lexer.specs.Joined.{joined}
use Rattle.kumir_lexer.proofs.OneToken.{one_place, over_or_not, one_longest, differ}

some_same : {T : Type 0} (a b : T) (o : Option T) → o ≡ Some a → o ≡ Some b → a ≡ b
some_same a b o e f = let g : Some a ≡ Some b = sym e ∙ f in cc

some_none : {T : Type 0} (a : T) (o : Option T) → o ≡ Some a → o ≡ None → ⊥
some_none a o e f = let g : Some a ≡ None = sym e ∙ f in cc

-- ---- what a text says

two_words : (text : List ℕ) (a b : Token) → Spells Word text a → Spells Word text b → a ≡ b
two_words text (token.Key k) (token.Key j) s r = ap token.Key (some_same k j (key_of text) s r)
two_words text (token.Key k) (token.Named y) s r = absurd (some_none k (key_of text) s r.0)
two_words text (token.Named x) (token.Key j) s r = absurd (some_none j (key_of text) r s.0)
two_words text (token.Named x) (token.Named y) s r = ap token.Named (s.2 ∙ sym r.2)
two_words text (token.Key k) b s r = absurd r
two_words text (token.Named x) b s r = absurd r
two_words text a b s r = absurd s

two_numbers : (text : List ℕ) (a b : Token) → Spells Number text a → Spells Number text b → a ≡ b
two_numbers text (token.Number m) (token.Number n) s r = ap token.Number (s.1 ∙ sym r.1)
two_numbers text (token.Number m) b s r = absurd r
two_numbers text a b s r = absurd s

same_prefix : (xs ys : List ℕ) → xs ++ 34 ∷ [] ≡ ys ++ 34 ∷ [] → xs ≡ ys
same_prefix [] [] e = refl
same_prefix [] (y ∷ ys) e = absurd (no_end ys (ap (λ l. drop 1 l) e)) where
  no_end : (ys : List ℕ) → [] ≡ ys ++ 34 ∷ [] → ⊥
  no_end [] e = cc
  no_end (y ∷ ys) e = cc
same_prefix (x ∷ xs) [] e = absurd (no_end xs (ap (λ l. drop 1 l) (sym e))) where
  no_end : (ys : List ℕ) → [] ≡ ys ++ 34 ∷ [] → ⊥
  no_end [] e = cc
  no_end (y ∷ ys) e = cc
same_prefix (x ∷ xs) (y ∷ ys) e =
    let head : x ≡ y = ap (λ l. get_or l 0 0) e in
    let tail = same_prefix xs ys (ap (λ l. drop 1 l) e) in
    (λ i. head i ∷ tail i)

two_literals : (text : List ℕ) (a b : Token) → Spells Literal text a → Spells Literal text b → a ≡ b
two_literals text (token.Literal xs) (token.Literal ys) s r = ap token.Literal (same_prefix xs ys (ap (λ l. drop 1 l) (sym s ∙ r)))
two_literals text (token.Literal xs) b s r = absurd r
two_literals text a b s r = absurd s

two_signs : (text : List ℕ) (a b : Token) → Spells Sign text a → Spells Sign text b → a ≡ b
two_signs text (token.Sign m) (token.Sign n) s r = ap token.Sign (some_same m n (sign_of text) s r)
two_signs text (token.Sign m) b s r = absurd r
two_signs text a b s r = absurd s

one_reading : (class : Class) (text : List ℕ) (a b : Token) → Spells class text a → Spells class text b → a ≡ b
one_reading Word text a b s r = two_words text a b s r
one_reading Number text a b s r = two_numbers text a b s r
one_reading Real text a b s r = absurd s
one_reading Literal text a b s r = two_literals text a b s r
one_reading Sign text a b s r = two_signs text a b s r

-- the words of reals are no keywords
real_key : (text : List ℕ) → names_reals text ≡ true → key_of text ≡ None
unfolding key_of
real_key text h =
    elim (is_text (codes "вещ") text) as (λ b. is_text (codes "вещ") text ≡ b → key_of text ≡ None) [
      | true ↦ λ e. subst (λ t. key_of t ≡ None) ((bytes_eq-Decides (codes "вещ") text).0 e) refl
      | false ↦ λ e. subst (λ t. key_of t ≡ None) ((bytes_eq-Decides (codes "вещтаб") text).0 (other _ _ h e)) refl
    ] refl where
      other : (a b : Bool) → (a || b) ≡ true → a ≡ false → b ≡ true
      other true b h e = absurd (differ true refl e)
      other false b h e = h

-- a text is a token or a fault, and not both
token_or_fault : (class : Class) (text : List ℕ) (a : Token) (code : ℕ) → Spells class text a → IsRefused class text code → ⊥
token_or_fault Word text (token.Key k) code s r = some_none k (key_of text) s (real_key text r.0)
token_or_fault Word text (token.Named x) code s r = differ (names_reals text) r.0 s.1
token_or_fault Word text a code s r = absurd s
token_or_fault Number text (token.Number n) code s r = omega (arith, s.0, r.0)
token_or_fault Number text a code s r = absurd s
token_or_fault Real text a code s r = s
token_or_fault Literal text a code s r = r
token_or_fault Sign text a code s r = r

one_code : (class : Class) (text : List ℕ) (c d : ℕ) → IsRefused class text c → IsRefused class text d → c ≡ d
one_code Word text c d r s = r.1 ∙ sym s.1
one_code Number text c d r s = r.1 ∙ sym s.1
one_code Real text c d r s = r ∙ sym s
one_code Literal text c d r s = absurd r
one_code Sign text c d r s = absurd r

one_fault : (is_after_name : Bool) (text : List ℕ) (c d : ℕ) → IsFaulty is_after_name text c → IsFaulty is_after_name text d → c ≡ d
one_fault is_after_name text c d f g =
    ⊎_elim
    (λ (p : NoneStands is_after_name text × (c ≡ bad_code (get_or text 0 0))). ⊎_elim
    (λ (q : NoneStands is_after_name text × (d ≡ bad_code (get_or text 0 0))). p.1 ∙ sym q.1)
    (λ (q : (class : Class) × (n : ℕ) × Longest is_after_name class text n × IsRefused class (take n text) d). absurd (p.0 q.0 q.1 q.2.stands))
    g)
    (λ (p : (class : Class) × (n : ℕ) × Longest is_after_name class text n × IsRefused class (take n text) c). ⊎_elim
    (λ (q : NoneStands is_after_name text × (d ≡ bad_code (get_or text 0 0))). absurd (q.0 p.0 p.1 p.2.stands))
    (λ (q : (class : Class) × (n : ℕ) × Longest is_after_name class text n × IsRefused class (take n text) d).
    let same = one_longest is_after_name text p.1 q.1 p.0 q.0 p.2 q.2 in
    one_code p.0 (take p.1 text) c d p.3 (subst (λ k. IsRefused p.0 (take k text) d) (sym same.0) (subst (λ k. IsRefused k (take q.1 text) d) (sym same.1) q.3)))
    g)
    f

-- ---- whole lines

one_token : (is_after_name : Bool) (line : List ℕ) (t u : Spanned) → t.from ≡ u.from → IsToken is_after_name line t → IsToken is_after_name line u → t ≡ u
one_token is_after_name line t u e a b =
    let b' : Longest is_after_name b.class (drop t.from line) (u.to - u.from) = subst (λ p. Longest is_after_name b.class (drop p line) (u.to - u.from)) (sym e) b.longest in
    let same = one_longest is_after_name (drop t.from line) (t.to - t.from) (u.to - u.from) a.class b.class a.longest b' in
    let size : t.to - t.from ≡ u.to - u.from = same.0 in
    let ends : t.to ≡ u.to = omega (arith, a.ordered, b.ordered, e, size) in
    let text : slice_range line u.from u.to ≡ slice_range line t.from t.to = (λ i. slice_range line (sym e i) (sym ends i)) in
    let says : Spells a.class (slice_range line t.from t.to) u.token = subst (λ k. Spells k (slice_range line t.from t.to) u.token) (sym same.1) (subst (λ x. Spells b.class x u.token) text b.spells) in
    let tokens = one_reading a.class (slice_range line t.from t.to) t.token u.token a.spells says in
    (λ i. record { token = tokens i; from = e i; to = ends i })

-- a token and a fault at one place
token_not_fault : (is_after_name : Bool) (line : List ℕ) (t : Spanned) (code : ℕ) → IsToken is_after_name line t → IsFaulty is_after_name (drop t.from line) code → ⊥
token_not_fault is_after_name line t code a f =
    ⊎_elim
    (λ (p : NoneStands is_after_name (drop t.from line) × (code ≡ bad_code (get_or (drop t.from line) 0 0))). p.0 a.class (t.to - t.from) a.longest.stands)
    (λ (p : (class : Class) × (n : ℕ) × Longest is_after_name class (drop t.from line) n × IsRefused class (take n (drop t.from line)) code).
    let same = one_longest is_after_name (drop t.from line) (t.to - t.from) p.1 a.class p.0 a.longest p.2 in
    let refused : IsRefused a.class (take (t.to - t.from) (drop t.from line)) code = subst (λ k. IsRefused a.class (take k (drop t.from line)) code) (sym same.0) (subst (λ k. IsRefused k (take p.1 (drop t.from line)) code) (sym same.1) p.3) in
    token_or_fault a.class _ t.token code a.spells refused)
    f

only : (is_after_name : Bool) (at : ℕ) (line : List ℕ) (ts us : List Spanned) (f g : Option LexFault) → Cuts is_after_name at line ts f → Cuts is_after_name at line us g → (ts ≡ us) × (f ≡ g)
only is_after_name at line [] [] None None a b = (refl, refl)
only is_after_name at line [] [] None (Some g) a b = absurd (over_or_not line at g.place a b.0)
only is_after_name at line [] [] (Some f) None a b = absurd (over_or_not line at f.place b a.0)
only is_after_name at line [] [] (Some f) (Some g) a b =
    let place = one_place line at f.place g.place a.0 b.0 in
    let code = one_fault is_after_name (drop f.place line) f.code g.code a.1 (subst (λ p. IsFaulty is_after_name (drop p line) g.code) (sym place) b.1) in
    (refl, λ i. Some (record { code = code i; place = place i }))
only is_after_name at line [] (u ∷ us) None g a b = absurd (over_or_not line at u.from a b.0)
only is_after_name at line (t ∷ ts) [] f None a b = absurd (over_or_not line at t.from b a.0)
only is_after_name at line [] (u ∷ us) (Some f) g a b =
    let place = one_place line at f.place u.from a.0 b.0 in
    absurd (token_not_fault is_after_name line u f.code b.1 (subst (λ p. IsFaulty is_after_name (drop p line) f.code) place a.1))
only is_after_name at line (t ∷ ts) [] f (Some g) a b =
    let place = one_place line at g.place t.from b.0 a.0 in
    absurd (token_not_fault is_after_name line t g.code a.1 (subst (λ p. IsFaulty is_after_name (drop p line) g.code) place b.1))
only is_after_name at line (t ∷ ts) (u ∷ us) f g a b =
    let place = one_place line at t.from u.from a.0 b.0 in
    let same = one_token is_after_name line t u place a.1 b.1 in
    let rest = only (is_name t.token) t.to line ts us f g a.2 (subst (λ (v : Spanned). Cuts (is_name v.token) v.to line us g) (sym same) b.2) in
    ((λ i. same i ∷ rest.0 i), rest.1)

pub one_cut : (line : List ℕ) (ts us : List Spanned) (f g : Option LexFault) → Cut line ts f → Cut line us g → (ts ≡ us) × (f ≡ g)
one_cut line ts us f g a b =
    let same = only false 0 line a.0 b.0 f g a.1 b.1 in
    (a.2 ∙ ap joined same.0 ∙ sym b.2, same.1)
