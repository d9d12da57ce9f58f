-- Texts and their limits.
use Rattle.std.specs.Prelude.{◌≡◌, ℕ, ◌+◌, ◌-◌, ◌<◌, ◌&&◌, Bool, if◌then◌else◌, List, length, nat_le, sum_by, Result, Ok, Err, MatchResult, ◌≢◌}
use Rattle.std.specs.List.{list_all}
use Rattle.std.specs.Str.{encode_utf8_all}
use Rattle.km_base.specs.Limits.{text_bytes, text_lines, line_characters, newest_version}
use Rattle.text_versions.specs.declared.limits.Limits.{Limits}

-- the bytes of the lines, and one byte for the end of each
abbrev pub ended_bytes : List (List ℕ) → ℕ
ended_bytes lines = sum_by (λ l. length (encode_utf8_all l) + 1) lines

-- the bytes of the lines, and one byte between each two neighbouring lines
abbrev pub byte_count : List (List ℕ) → ℕ
byte_count lines = ended_bytes lines - 1

-- no line has more characters
abbrev pub are_short : ℕ → List (List ℕ) → Bool
are_short characters lines = list_all (λ l. nat_le (length l) characters) lines

-- the limits of the texts of a session. docs/PROGRAM.md, "Limits".
abbrev pub text_limits : Limits
text_limits = record { bytes = text_bytes; lines = text_lines; characters = line_characters; versions = newest_version }

-- the limits of the texts of a session whose script is of version 2
abbrev pub second_limits : Limits
second_limits = record { bytes = 1048576; lines = 32768; characters = 1024; versions = 400000 }

-- the limits of the texts of a session, whose script is of version 2 or not
abbrev pub limits_of : Bool → Limits
limits_of second = if second then second_limits else text_limits

-- no limit of the text is passed
abbrev pub is_within : Limits → List (List ℕ) → Bool
is_within limits lines =
    nat_le (byte_count lines) limits.bytes && nat_le (length lines) limits.lines
    && are_short limits.characters lines

-- what holds of the lines of each text
pub record IsText (text : List (List ℕ)) : Type 0 where
  pub lines : length text < 4294967295
  pub bytes : byte_count text < 4294967295

-- the answer of a call is that one, unless it is want of memory
abbrev pub IsUnless : {T E : Type 0} → E → Result T E → Result T E → Type 0
IsUnless memory wanted answer = MatchResult answer (λ v. wanted ≡ Ok v) (λ e. (e ≢ memory) → wanted ≡ Err e)
