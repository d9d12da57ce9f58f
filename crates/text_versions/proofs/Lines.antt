-- Lines that are changed.
use Rattle.std.proofs.Common.{◌≡◌, ◌≢◌, ℕ, ◌+◌, List, ◌++◌, take, drop, sym, ap, ◌∙◌}
use Rattle.std.specs.Str.{chars, encode_utf8_all}
use Rattle.std.specs.Prelude.{String}
use Rattle.std.specs.String.{string_bytes}
use Rattle.std.proofs.lemmas.List.Elements.{All-take, All-drop, All-append}
use Rattle.std.proofs.lemmas.Str.{chars_from_encodes, IsUtf8-string_bytes}
use Rattle.kumir_tree.specs.Lines.{IsLine}
use Rattle.text_versions.specs.Changes.{changed}

-- a changed line has no line feed
pub changed_is_line : (line added : List ℕ) (from count : ℕ) → IsLine line → IsLine added → IsLine (changed line from count added)
changed_is_line line added from count is added_is =
    All-append (λ c. c ≢ 10) (take from line ++ added) (drop (from + count) line)
    (All-append (λ c. c ≢ 10) (take from line) added (All-take (λ c. c ≢ 10) from line is) added_is)
    (All-drop (λ c. c ≢ 10) (from + count) line is)

-- the characters of a text that is spelled so
pub changed_spelled : {Z : Type 0} (text : String Z) (l line a added : List ℕ) (from count : ℕ) → string_bytes text ≡ encode_utf8_all (changed l from count a) → l ≡ line → a ≡ added → chars (string_bytes text) ≡ changed line from count added
changed_spelled text l line a added from count e same same' =
    sym (chars_from_encodes (changed l from count a) (string_bytes text) (IsUtf8-string_bytes text) (sym e))
    ∙ ap (λ x. changed x from count a) same
    ∙ ap (changed line from count) same'
