-- What `tokens` writes.
use Rattle.std.specs.Prelude.{◌≡◌, ℕ, ◌+◌, List, [], ◌∷◌, ◌++◌, Option}
use Rattle.kumir_tree.specs.Lines.{lines_of}
use Rattle.kumir_tree.specs.declared.token.Spanned.{Spanned}
use Rattle.kumir_lexer.specs.Cutting.{Cut}
use Rattle.kumir_lexer.specs.Printed.{printed_tokens}
use Rattle.kumir_lexer.specs.declared.cutting.LexFault.{LexFault}
use Rattle.km_ports.specs.declared.status.Status.{Status}
use Rattle.km_ports.specs.declared.status.Status.TheVariants as status

-- the printed cuttings of these lines in order, the first of which has this number
unfoldable pub PrintsLines : ℕ → List (List ℕ) → List ℕ → Type 0
PrintsLines number [] text = text ≡ []
PrintsLines number (line ∷ lines) text =
    (tokens : List Spanned) × (fault : Option LexFault) × (rest : List ℕ)
    × Cut line tokens fault × PrintsLines (number + 1) lines rest × (text ≡ printed_tokens number tokens fault ++ rest)

-- the printed cuttings of the lines of a text in UTF-8
abbrev pub PrintsTokens : List ℕ → List ℕ → Type 0
PrintsTokens bytes text = PrintsLines 1 (lines_of bytes) text

-- the answer of `tokens`: the status is Fine, and the text is that print
abbrev pub AnswersTokens : List ℕ → Status → List ℕ → Type 0
AnswersTokens input s text = (s ≡ status.Fine) × PrintsTokens input text
