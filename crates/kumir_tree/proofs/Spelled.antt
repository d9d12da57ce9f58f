-- A text and its characters.
use Rattle.std.proofs.Common.{◌≡◌, ℕ, List, sym}
use Rattle.std.specs.Str.{chars, encode_utf8_all, IsUtf8}
use Rattle.std.proofs.lemmas.Str.{encodes-chars, encodes_same}

-- a text is the spelling of its characters
pub spelled_by : (bs cs : List ℕ) → IsUtf8 bs → chars bs ≡ cs → bs ≡ encode_utf8_all cs
spelled_by bs cs u e = rw (← e) (sym (encodes-chars bs u))

-- two texts with the same spelling have the same characters
pub same_spelling : (cs ds : List ℕ) → encode_utf8_all cs ≡ encode_utf8_all ds → cs ≡ ds
same_spelling cs ds e = encodes_same cs ds e
