-- Lists that grow at their end.
use Rattle.std.proofs.Common.{◌≡◌, ℕ, List, [], ◌∷◌, ◌++◌, ap, sym, ◌∙◌, append_assoc, append-nil}

-- two parts, one behind the other
pub both_added : (a b d : List (List ℕ)) (c e : List (List ℕ)) → b ≡ a ++ c → d ≡ b ++ e → d ≡ a ++ (c ++ e)
both_added a b d c e f g = g ∙ ap (λ l. l ++ e) f ∙ append_assoc a c e

-- a name, and more behind it
pub one_added : (a b d : List (List ℕ)) (x : List ℕ) (e : List (List ℕ)) → b ≡ a ++ x ∷ [] → d ≡ b ++ e → d ≡ a ++ (x ∷ e)
one_added a b d x e f g = both_added a b d (x ∷ []) e f g

pub four_added : (a b c d e : List (List ℕ)) (x : List ℕ) (p q r : List (List ℕ)) → b ≡ a ++ x ∷ [] → c ≡ b ++ p → d ≡ c ++ q → e ≡ d ++ r → e ≡ a ++ (x ∷ (p ++ (q ++ r)))
four_added a b c d e x p q r f g h i = one_added a b e x (p ++ (q ++ r)) f (both_added b c e p (q ++ r) g (both_added c d e q r h i))

pub nothing_added : (a c : List (List ℕ)) → c ≡ [] → a ≡ a ++ c
nothing_added a c e = sym (ap (λ l. a ++ l) e ∙ append-nil a)
