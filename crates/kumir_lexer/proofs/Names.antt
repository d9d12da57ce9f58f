-- Joining names from the right and from the left is the same.
use Rattle.std.proofs.Common.{◌≡◌, ℕ, false, List, [], ◌∷◌, ◌++◌, refl, ap, sym, ◌∙◌, append_assoc, append-nil}
use Rattle.kumir_tree.specs.declared.token.Token.{Token}
use Rattle.kumir_tree.specs.declared.token.Token.TheVariants as token
use Rattle.kumir_tree.specs.declared.token.Spanned.{Spanned}
use Rattle.std.specs.Prelude.{Option}
use Rattle.kumir_lexer.specs.declared.cutting.LexFault.{LexFault}
use Rattle.kumir_lexer.specs.Cutting.{is_name, Cuts, Cut}
use Rattle.kumir_lexer.specs.Joined.{joined_two, joined_before, joined, joined_behind}

abbrev at : Token → ℕ → ℕ → Spanned
at t from to = record { token = t; from = from; to = to }

-- three neighbours
three : (a b c : Token) (f g h i j k : ℕ) → joined_before (at a f g) (joined_two b c (at b h i) (at c j k)) ≡ joined_behind (joined_two a b (at a f g) (at b h i) ++ []) (at c j k)
three (token.Named x) (token.Named y) (token.Named z) f g h i j k = ap (λ l. at (token.Named l) f k ∷ []) (sym (append_assoc x (32 ∷ y) (32 ∷ z)))
three (token.Named x) (token.Named y) c f g h i j k = refl
three (token.Named x) b c f g h i j k = refl
three a (token.Named y) (token.Named z) f g h i j k = refl
three a (token.Named y) c f g h i j k = refl
three a b c f g h i j k = refl

-- two neighbours before others
many : (a b : Token) (t u w : Spanned) (us : List Spanned) (v : Spanned) → joined_two a b t u ++ joined_behind (w ∷ us) v ≡ joined_behind (joined_two a b t u ++ w ∷ us) v
many (token.Named x) (token.Named y) t u w us v = refl
many (token.Named x) b t u w us v = refl
many a b t u w us v = refl

before_behind : (t : Spanned) (us : List Spanned) (v : Spanned) → joined_before t (joined_behind us v) ≡ joined_behind (joined_before t us) v
before_behind t [] v = append-nil (joined_two t.token v.token t v)
before_behind t (u ∷ []) v = three t.token u.token v.token t.from t.to u.from u.to v.from v.to
before_behind t (u ∷ w ∷ us) v = many t.token u.token t u w us v

pub joined_more : (ts : List Spanned) (v : Spanned) → joined (ts ++ v ∷ []) ≡ joined_behind (joined ts) v
joined_more [] v = refl
joined_more (t ∷ ts) v = ap (joined_before t) (joined_more ts v) ∙ before_behind t (joined ts) v

-- a token that joins with none, and two that join
pub behind_other : (us : List Spanned) (u v : Spanned) → joined_two u.token v.token u v ≡ u ∷ v ∷ [] → joined_behind (us ++ u ∷ []) v ≡ (us ++ u ∷ []) ++ v ∷ []
behind_other [] u v e = e
behind_other (w ∷ []) u v e = ap (λ l. w ∷ l) e
behind_other (w ∷ x ∷ us) u v e = ap (λ l. w ∷ l) (behind_other (x ∷ us) u v e)

pub behind_name : (us : List Spanned) (u v w : Spanned) → joined_two u.token v.token u v ≡ w ∷ [] → joined_behind (us ++ u ∷ []) v ≡ us ++ w ∷ []
behind_name [] u v w e = e
behind_name (x ∷ []) u v w e = ap (λ l. x ∷ l) e
behind_name (x ∷ y ∷ us) u v w e = ap (λ l. x ∷ l) (behind_name (y ∷ us) u v w e)

two_other : (a b : Token) (t u : Spanned) → is_name b ≡ false → joined_two a b t u ≡ t ∷ u ∷ []
two_other (token.Named x) (token.Named y) t u e = absurd (let none : ⊥ = cc in none)
two_other (token.Named x) b t u e = refl
two_other a b t u e = refl

-- a token that is no name stands behind the others as it is
pub behind_no_name : (us : List Spanned) (v : Spanned) → is_name v.token ≡ false → joined_behind us v ≡ us ++ v ∷ []
behind_no_name [] v e = refl
behind_no_name (u ∷ []) v e = two_other u.token v.token u v e
behind_no_name (u ∷ w ∷ us) v e = ap (λ l. u ∷ l) (behind_no_name (w ∷ us) v e)

pub cut_from : (line : List ℕ) (words tokens : List Spanned) (fault : Option LexFault) → Cuts false 0 line words fault → tokens ≡ joined words → Cut line tokens fault
cut_from line words tokens fault cuts e = (words, cuts, e)
