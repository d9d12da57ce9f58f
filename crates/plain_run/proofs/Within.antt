-- Lines within the limits of a text.
use Rattle.std.proofs.Common.{◌≡◌, ℕ, ◌+◌, ◌≤◌, true, List, [], ◌∷◌, length, map, arith, ap, refl}
use Rattle.std.specs.Prelude.{nat_le, sum_by}
use Rattle.std.specs.List.{AllByRecursion, list_all}
use Rattle.std.specs.Str.{encode_utf8_all}
use Rattle.std.proofs.lemmas.List.Sums.{sum_by-append}
use Rattle.std.proofs.lemmas.List.Elements.{recursion_from_All}
use Rattle.km_base.specs.Limits.{text_bytes}
use Rattle.text_versions.specs.Texts.{byte_count, is_within, text_limits}
use Rattle.plain_run.specs.Feeds.{weight}
use Rattle.plain_run.specs.Texts.{AreLines}

spelled_weight : (ls : List (List ℕ)) → sum_by (λ l. length (encode_utf8_all l) + 1) ls ≡ weight (map encode_utf8_all ls)
spelled_weight [] = refl
spelled_weight (l ∷ ls) = omega (arith, sum_by-append (λ x. length (encode_utf8_all x) + 1) (l ∷ []) ls, spelled_weight ls)

le_true : (a b : ℕ) → a ≤ b → nat_le a b ≡ true
le_true a b h = grind (arith, h)

all_short : (ls : List (List ℕ)) (most : ℕ) → AllByRecursion (λ l. length l ≤ most) ls → list_all (λ l. nat_le (length l) most) ls ≡ true
all_short [] most h = refl
all_short (l ∷ ls) most h = rw (le_true (length l) most h.0, all_short ls most h.1) refl

pub within_limits : (ls bytes : List (List ℕ)) → map encode_utf8_all ls ≡ bytes → weight bytes ≤ text_bytes + 1 → AreLines ls → is_within text_limits ls ≡ true
within_limits ls bytes spelled weighed lines =
    let fits : byte_count ls ≤ text_limits.bytes = omega (arith, spelled_weight ls, ap weight spelled, weighed) in
    rw (le_true (byte_count ls) text_limits.bytes fits, le_true (length ls) text_limits.lines lines.few, all_short ls text_limits.characters (recursion_from_All (λ l. length l ≤ text_limits.characters) ls lines.short)) refl
