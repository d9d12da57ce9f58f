-- Characters that are written one by one.
use Rattle.std.proofs.Common.{◌≡◌, ℕ, ◌+◌, ◌<◌, List, [], ◌∷◌, ◌++◌, length, take, get_or, ap, sym, ◌∙◌, append_assoc, append-nil}
use Rattle.std.specs.Char.{encode_utf8}
use Rattle.std.specs.Str.{encode_utf8_all}
use Rattle.std.proofs.lemmas.List.{take_more}
use Rattle.std.proofs.lemmas.Str.{encodes-append}

pub encoded_more : (text : List ℕ) (i x : ℕ) (before out : List ℕ) → i < length text → x ≡ get_or text i x → out ≡ before ++ encode_utf8_all (take i text) → out ++ encode_utf8 x ≡ before ++ encode_utf8_all (take (i + 1) text)
encoded_more text i x before out lt is e =
    let one : encode_utf8_all (take (i + 1) text) ≡ encode_utf8_all (take i text) ++ encode_utf8 x =
    ap encode_utf8_all (take_more text i x lt) ∙ encodes-append (take i text) (get_or text i x ∷ []) ∙ ap (λ b. encode_utf8_all (take i text) ++ b) (append-nil (encode_utf8 (get_or text i x))) ∙ ap (λ y. encode_utf8_all (take i text) ++ encode_utf8 y) (sym is) in
    ap (λ o. o ++ encode_utf8 x) e ∙ append_assoc before (encode_utf8_all (take i text)) (encode_utf8 x) ∙ ap (λ b. before ++ b) (sym one)
