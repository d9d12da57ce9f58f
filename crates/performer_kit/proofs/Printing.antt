-- Printed commands as bytes.
use Rattle.std.proofs.Common.{◌≡◌, ℕ, ℤ, ◌^◌, ◌<◌, List, [], ◌∷◌, ◌++◌, ap, sym, ◌∙◌, encode_utf8_all, append-nil, arith}
use Rattle.std.specs.Fmt.{signed_decimal}
use Rattle.std.specs.Int.Signed.{mag}
use Rattle.std.proofs.lemmas.Fmt.{IsAscii-signed}
use Rattle.std.proofs.lemmas.Str.{encodes-IsAscii, encodes-append, encode_ascii}
use Rattle.performer_kit.specs.declared.commands.Command.{Command}
use Rattle.performer_kit.specs.Commands.{printed_command, printed_numbers, joined_words, command_name, command_numbers}

encodes_blank : (cs : List ℕ) → encode_utf8_all (32 ∷ cs) ≡ 32 ∷ encode_utf8_all cs
encodes_blank cs = ap (λ bs. bs ++ encode_utf8_all cs) (encode_ascii 32 (omega arith))

-- the bytes of a printed number after a blank, and of what follows
encodes_number : (z : ℤ) (cs : List ℕ) → mag z < 2 ^ 63 → encode_utf8_all ((32 ∷ signed_decimal z) ++ cs) ≡ 32 ∷ (signed_decimal z ++ encode_utf8_all cs)
encodes_number z cs h =
    encodes_blank (signed_decimal z ++ cs)
    ∙ ap (λ bs. 32 ∷ bs) (encodes-append (signed_decimal z) cs ∙ ap (λ bs. bs ++ encode_utf8_all cs) (encodes-IsAscii (signed_decimal z) (IsAscii-signed z h)))

-- two printed numbers are their own bytes
pub encodes-printed_two : (y z : ℤ) → mag y < 2 ^ 63 → mag z < 2 ^ 63 → encode_utf8_all (printed_numbers (y ∷ z ∷ [])) ≡ 32 ∷ (signed_decimal y ++ 32 ∷ signed_decimal z)
unfolding printed_numbers
encodes-printed_two y z h k =
    encodes_number y ((32 ∷ signed_decimal z) ++ []) h
    ∙ ap (λ bs. 32 ∷ (signed_decimal y ++ bs)) (encodes_number z [] k ∙ ap (λ bs. 32 ∷ bs) (append-nil (signed_decimal z)))

-- a printed command is its printed name and then its printed numbers, as bytes too
pub encodes-printed_command : (c : Command) (zs : List ℤ) (name : List ℕ) → name ≡ encode_utf8_all (joined_words (command_name c)) → command_numbers c ≡ zs → name ++ encode_utf8_all (printed_numbers zs) ≡ encode_utf8_all (printed_command c)
unfolding printed_command
encodes-printed_command c zs name n e =
    ap (λ bs. bs ++ encode_utf8_all (printed_numbers zs)) n
    ∙ ap (λ z. encode_utf8_all (joined_words (command_name c)) ++ encode_utf8_all (printed_numbers z)) (sym e)
    ∙ sym (encodes-append (joined_words (command_name c)) (printed_numbers (command_numbers c)))

-- a command without numbers prints as its printed name
pub encodes-printed_bare : (c : Command) → command_numbers c ≡ [] → encode_utf8_all (joined_words (command_name c)) ≡ encode_utf8_all (printed_command c)
unfolding printed_command printed_numbers
encodes-printed_bare c e =
    ap encode_utf8_all (sym (append-nil (joined_words (command_name c))) ∙ ap (λ zs. joined_words (command_name c) ++ printed_numbers zs) (sym e))
