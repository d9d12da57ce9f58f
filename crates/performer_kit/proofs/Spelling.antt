-- Texts compared by their characters.
use Rattle.std.proofs.Common.{◌≡◌, ℕ, Bool, true, false, List, sym, ◌∙◌, ap, encode_utf8_all, refl}
use Rattle.std.specs.Str.{chars, bytes_eq, IsUtf8}
use Rattle.std.proofs.lemmas.Str.{encodes-chars}
use Rattle.std.proofs.lemmas.Slice.Eq.{bytes_eq-Decides}

-- two tests that say yes together are one
same_answer : (a b : Bool) → (a ≡ true → b ≡ true) → (b ≡ true → a ≡ true) → a ≡ b
same_answer true b there back = sym (there refl)
same_answer false true there back = back refl
same_answer false false there back = refl

-- two texts have the same bytes exactly where they have the same characters
pub bytes_eq-chars : (xs ys : List ℕ) → IsUtf8 xs → IsUtf8 ys → bytes_eq (chars xs) (chars ys) ≡ bytes_eq xs ys
bytes_eq-chars xs ys u v =
    let cs = bytes_eq-Decides (chars xs) (chars ys) in
    let bs = bytes_eq-Decides xs ys in
    same_answer _ _
    (λ e. bs.1 (sym (encodes-chars xs u) ∙ ap encode_utf8_all (cs.0 e) ∙ encodes-chars ys v))
    (λ e. cs.1 (ap chars (bs.0 e)))
