-- Texts that were put one behind the other.
use Rattle.std.proofs.Common.{◌≡◌, ℕ, List, ◌++◌, ap, ◌∙◌, append_assoc}
use Rattle.std.specs.Prelude.{Result, Ok, Err, OnOk, if◌then◌else◌}
use Rattle.std.specs.Result.{is_ok}

-- a text, and then another
pub behind : (out first second a b : List ℕ) → first ≡ out ++ a → second ≡ first ++ b → second ≡ out ++ (a ++ b)
behind out first second a b p q = q ∙ ap (λ s. s ++ b) p ∙ append_assoc out a b

-- a text, and then another if it was put
pub then_put : {T E : Type 0} (r : Result T E) (out first second a b : List ℕ) → first ≡ out ++ a → second ≡ (if is_ok r then first ++ b else first) → OnOk r (second ≡ out ++ (a ++ b))
then_put (Ok x) out first second a b p q = behind out first second a b p q
then_put (Err e) out first second a b p q = tt

-- three parts, and what stands behind them
pub three_then : (a b c rest : List ℕ) → (a ++ (b ++ c)) ++ rest ≡ a ++ (b ++ (c ++ rest))
three_then a b c rest = append_assoc a (b ++ c) rest ∙ ap (λ s. a ++ s) (append_assoc b c rest)
