-- How long a class's longest prefix is, 0 where there is none. The relations of `Classes` say what that means.
use Rattle.std.specs.Prelude.{ℕ, ◌+◌, not, ◌&&◌, ◌==◌, nat_lt, nat_le, if◌then◌else◌, List, [], ◌∷◌, length, take, drop, is_some}
use Rattle.std.specs.List.{prefix_len}
use Rattle.kumir_lexer.specs.Spelling.{sign_of}
use Rattle.kumir_lexer.specs.Classes.{is_digit, marks_exponent, is_plus_or_minus, is_quote}

-- a number behind something of this length, both or nothing
abbrev pub with_digits : ℕ → ℕ → ℕ
with_digits before digits = if digits == 0 then 0 else before + digits

abbrev pub sign_width : List ℕ → ℕ
sign_width [] = 0
sign_width (c ∷ cs) = if is_plus_or_minus c then 1 else 0

abbrev pub exponent_len : List ℕ → ℕ
exponent_len [] = 0
exponent_len (c ∷ cs) = if marks_exponent c then with_digits (1 + sign_width cs) (prefix_len is_digit (drop (sign_width cs) cs)) else 0

abbrev pub fraction_len : List ℕ → ℕ
fraction_len [] = 0
fraction_len (c ∷ cs) = if c == 46 then with_digits 1 (prefix_len is_digit cs) else 0

-- a fraction and an exponent behind whole digits
abbrev pub scale_len : List ℕ → ℕ
scale_len text = fraction_len text + exponent_len (drop (fraction_len text) text)

abbrev pub real_len : List ℕ → ℕ
real_len text = let digits = prefix_len is_digit text in let more = scale_len (drop digits text) in if more == 0 then 0 else digits + more

abbrev pub literal_len : List ℕ → ℕ
literal_len [] = 0
literal_len (c ∷ cs) = let inner = prefix_len (λ d. not (is_quote d)) cs in if is_quote c && nat_lt inner (length cs) then inner + 2 else 0

abbrev pub sign_len : List ℕ → ℕ
sign_len text = if nat_le 2 (length text) && is_some (sign_of (take 2 text)) then 2 else (if is_some (sign_of (take 1 text)) then 1 else 0)
