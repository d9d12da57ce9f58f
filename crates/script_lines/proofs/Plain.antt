-- Which lines are plain.
use Rattle.std.proofs.Common.{◌≡◌, ℕ, ◌≤◌, Bool, true, false, List, length, refl, arith}
use Rattle.std.specs.Prelude.{nat_le}
use Rattle.std.specs.Str.{is_utf8, IsUtf8}
use Rattle.std.proofs.lemmas.Bool.Decides.{nat_tests}
use Rattle.std.proofs.lemmas.Str.{IsUtf8-from_is_utf8, is_utf8-from_IsUtf8}
use Rattle.script_lines.specs.Lines.{is_plain}
use Rattle.decimals.proofs.Numbers.{and_parts, and_true}

not_true : (b : Bool) → (b ≡ true → ⊥) → b ≡ false
not_true true never = absurd (never refl)
not_true false never = refl

le_true : (m n : ℕ) → m ≤ n → nat_le m n ≡ true
le_true m n h = grind (arith, nat_tests)

le_from_true : (m n : ℕ) → nat_le m n ≡ true → m ≤ n
le_from_true m n h = grind (arith, nat_tests)

pub plain_is : (line : List ℕ) → length line ≤ 4096 → IsUtf8 line → is_plain line ≡ true
plain_is line short text = and_true (nat_le (length line) 4096) (is_utf8 line) (le_true (length line) 4096 short) (is_utf8-from_IsUtf8 line text)

pub plain_parts : (line : List ℕ) → is_plain line ≡ true → (length line ≤ 4096) × IsUtf8 line
plain_parts line plain =
    let parts = and_parts (nat_le (length line) 4096) (is_utf8 line) plain in
    (le_from_true (length line) 4096 parts.0, IsUtf8-from_is_utf8 line parts.1)

pub plain_not : (line : List ℕ) → (IsUtf8 line → ⊥) → is_plain line ≡ false
plain_not line never = not_true (is_plain line) (λ plain. never (plain_parts line plain).1)
