use Rattle.std.proofs.Common.{◌≡◌, ℕ, ◌+◌, ◌<◌, List, [], ◌∷◌, ◌++◌, length, get_or, take, sym, ap, ◌∙◌, append_assoc}
use Rattle.std.specs.Str.{encode_utf8_all}
use Rattle.std.proofs.lemmas.List.{take_more, flat_map_more}
use Rattle.std.proofs.lemmas.Str.{encodes-append}
use Rattle.transcript.specs.Print.{escaped, escaped_char}
use Rattle.transcript.proofs.print.push_escaped.Goals as goal

-- one more character
escaped_more : (out text : List ℕ) (i c : ℕ) → i < length text → c ≡ get_or text i c → (out ++ encode_utf8_all (escaped (take i text))) ++ encode_utf8_all (escaped_char c) ≡ out ++ encode_utf8_all (escaped (take (i + 1) text))
escaped_more out text i c within at =
    append_assoc out (encode_utf8_all (escaped (take i text))) (encode_utf8_all (escaped_char c))
    ∙ ap (λ b. out ++ b)
    (sym (encodes-append (escaped (take i text)) (escaped_char c))
    ∙ ap encode_utf8_all (flat_map_more escaped_char [] (take i text) c ∙ ap escaped (ap (λ x. take i text ++ x ∷ []) at ∙ sym (take_more text i c within))))

pub loop-c-preserved : goal.loop-c-preserved
loop-c-preserved c =
    c.in_ok-push_escaped_char.ensures
    ∙ ap (λ b. b ++ encode_utf8_all (escaped_char c.c-item.result)) c.loop-c.invariant
    ∙ escaped_more _ c.args.text.now c.loop-c.c-index c.c-item.result c.loop-c-test.true c.c-item.is
