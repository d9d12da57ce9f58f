-- The lines that `tokens` prints, as bytes.
use Rattle.std.specs.Prelude.{ℕ, List, [], ◌++◌, Option, Some, None, codes}
use Rattle.std.specs.List.{flat_map}
use Rattle.std.specs.Fmt.{decimal, signed_decimal}
use Rattle.std.specs.Str.{encode_utf8_all}
use Rattle.kumir_tree.specs.declared.token.Token.{Token}
use Rattle.kumir_tree.specs.declared.token.Token.TheVariants as token
use Rattle.kumir_tree.specs.declared.token.Spanned.{Spanned}
use Rattle.kumir_lexer.specs.Spelling.{key_spelling, sign_spelling}
use Rattle.kumir_lexer.specs.declared.cutting.LexFault.{LexFault}

-- the class of a token and its text
abbrev pub printed_class : Token → List ℕ
printed_class (token.Key k) = codes "key " ++ encode_utf8_all (key_spelling k)
printed_class (token.Named x) = codes "name " ++ encode_utf8_all x
printed_class (token.Number n) = codes "number " ++ signed_decimal n
printed_class (token.Literal cs) = codes "literal " ++ encode_utf8_all cs
printed_class (token.Sign s) = codes "sign " ++ encode_utf8_all (sign_spelling s)

-- the line, the two places and the rest, each after one blank, and the line's end
abbrev pub printed_line : ℕ → ℕ → ℕ → List ℕ → List ℕ
printed_line line from to rest = decimal line ++ (codes " " ++ (decimal from ++ (codes " " ++ (decimal to ++ (codes " " ++ (rest ++ codes "\n"))))))

abbrev pub printed_token : ℕ → Spanned → List ℕ
printed_token line t = printed_line line t.from t.to (printed_class t.token)

abbrev pub printed_fault : ℕ → LexFault → List ℕ
printed_fault line fault = printed_line line fault.place fault.place (codes "fault " ++ decimal fault.code)

abbrev pub printed_end : ℕ → Option LexFault → List ℕ
printed_end line None = []
printed_end line (Some fault) = printed_fault line fault

-- the lines of one line's tokens and of its fault
abbrev pub printed_tokens : ℕ → List Spanned → Option LexFault → List ℕ
printed_tokens line tokens fault = flat_map (printed_token line) tokens ++ printed_end line fault
