use Rattle.std.proofs.Common.{◌≡◌, ℕ, ◌+◌, ◌<◌, List, [], ◌∷◌, ◌++◌, length, get_or, take, refl, sym, ap, ◌∙◌, append_assoc, append-nil}
use lib.Utf8.{encode}
use Rattle.std.specs.Str.{encode_utf8_all}
use Rattle.std.proofs.lemmas.List.{take_more}
use Rattle.std.proofs.lemmas.Str.{encodes-append}
use Rattle.sample_maker.proofs.printed.push_text.Goals as goal

-- one more character, with its bytes
text_more : (out text bytes : List ℕ) (i c : ℕ) → i < length text → c ≡ get_or text i c → encode_utf8_all (c ∷ []) ≡ bytes ++ [] → (out ++ encode_utf8_all (take i text)) ++ bytes ≡ out ++ encode_utf8_all (take (i + 1) text)
text_more out text bytes i c within at spelled =
    ap (λ b. (out ++ encode_utf8_all (take i text)) ++ b) (sym (append-nil bytes) ∙ sym spelled)
    ∙ append_assoc out (encode_utf8_all (take i text)) (encode_utf8_all (c ∷ []))
    ∙ ap (λ b. out ++ b) (sym (encodes-append (take i text) (c ∷ [])) ∙ ap encode_utf8_all (ap (λ x. take i text ++ x ∷ []) at ∙ sym (take_more text i c within)))

pub loop-c-preserved : goal.loop-c-preserved
loop-c-preserved c =
    c.in_ok-push.ensures.bytes ∙ ap (λ s. s ++ encode c.c-item.result) c.loop-c.invariant ∙ text_more _ c.args.text.now (encode c.c-item.result) c.loop-c.c-index c.c-item.result c.loop-c-test.true c.c-item.is refl
