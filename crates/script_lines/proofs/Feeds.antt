-- No line feed stands in the text of bytes among which none stands.
use Rattle.std.proofs.Common.{◌≡◌, ◌≢◌, ℕ, ◌+◌, List, [], ◌∷◌, ◌++◌, length, refl, sym, ap, subst, ◌∙◌, arith, encode_utf8_all, length-append}
use Rattle.std.specs.Prelude.{All}
use Rattle.std.specs.List.{AllByRecursion}
use Rattle.std.specs.Str.{chars, IsUtf8}
use Rattle.std.specs.Char.{encode_utf8}
use Rattle.std.proofs.lemmas.List.{get_or-append-add}
use Rattle.std.proofs.lemmas.List.Elements.{All-from_recursion}
use Rattle.std.proofs.lemmas.Str.{chars_from_encodes, encode_ascii}

abbrev NoFeed : List ℕ → Type 0
NoFeed bs = All (λ b. b ≢ 10) bs

feed_first : (c : ℕ) (cs : List ℕ) → NoFeed (encode_utf8 c ++ encode_utf8_all cs) → c ≢ 10
feed_first c cs none is =
    let first : encode_utf8 c ++ encode_utf8_all cs ≡ 10 ∷ encode_utf8_all cs = ap (λ x. x ++ encode_utf8_all cs) (ap encode_utf8 is ∙ encode_ascii 10 (omega arith)) in
    subst NoFeed first none 0 0 (omega arith) refl

no_feed_chars : (cs : List ℕ) → NoFeed (encode_utf8_all cs) → AllByRecursion (λ c. c ≢ 10) cs
no_feed_chars [] none = tt
no_feed_chars (c ∷ cs) none = (
  feed_first c cs none,
  no_feed_chars cs (λ k d h is.
      let long = length-append (encode_utf8 c) (encode_utf8_all cs) in
      none (length (encode_utf8 c) + k) d (omega arith) (get_or-append-add (encode_utf8 c) (encode_utf8_all cs) k d ∙ is)),
)

pub no_feed : (bs : List ℕ) → IsUtf8 bs → NoFeed bs → All (λ c. c ≢ 10) (chars bs)
no_feed bs text none =
    subst (λ cs. All (λ c. c ≢ 10) cs) (chars_from_encodes text.0 bs text text.1.1)
    (All-from_recursion (λ c. c ≢ 10) text.0 (no_feed_chars text.0 (subst NoFeed (sym text.1.1) none)))
