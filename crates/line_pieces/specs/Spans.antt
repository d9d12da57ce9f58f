-- The lines of a text in units (docs/LANGUAGE.md, "Units"). A line is the list of its characters.
use Rattle.std.specs.Prelude.{◌≡◌, ℕ, ◌+◌, ◌-◌, ◌<◌, ◌≤◌, List, [], ◌∷◌, length, slice_index_or, Option, All}
use Rattle.std.specs.Str.{encode_utf8_all}
use Rattle.std.specs.List.{AllByRecursion}
use Rattle.kumir_tree.specs.declared.token.Token.TheVariants as token
use Rattle.kumir_tree.specs.declared.token.Key.TheVariants as key
use Rattle.kumir_tree.specs.declared.token.Spanned.{Spanned}
use Rattle.kumir_lexer.specs.declared.cutting.LexFault.{LexFault}
use Rattle.kumir_lexer.specs.Cutting.{Cut}
use Rattle.line_pieces.specs.declared.spans.LineSpan.{LineSpan}

-- the first of the tokens is `алг`
abbrev pub IsAlgorithmWord : List Spanned → Type 0
IsAlgorithmWord [] = ⊥
IsAlgorithmWord (t ∷ ts) = t.token ≡ token.Key key.Algorithm

-- the line begins a unit: its first token is `алг`, whatever comes behind it
unfoldable pub BeginsUnit : List ℕ → Type 0
BeginsUnit line = (tokens : List Spanned) × (fault : Option LexFault) × Cut line tokens fault × IsAlgorithmWord tokens

-- the line with a number; lines are numbered from 1
abbrev pub line_of : List (List ℕ) → ℕ → List ℕ
line_of lines number = slice_index_or lines (number - 1) []

-- the lines from one number to before another begin no unit
abbrev pub NoneBegins : List (List ℕ) → ℕ → ℕ → Type 0
NoneBegins lines from to = (k : ℕ) → from ≤ k → k < to → BeginsUnit (line_of lines k) → ⊥

-- a unit has a line that begins it, and the lines up to the next such line
pub record IsUnitSpan (lines : List (List ℕ)) (span : LineSpan) : Type 0 where
  pub some : 0 < span.count
  pub begins : BeginsUnit (line_of lines span.first)
  pub rest : NoneBegins lines (span.first + 1) (span.first + span.count)

-- the spans stand one behind the other, from a line on up to before another
abbrev pub Cover : ℕ → List LineSpan → ℕ → Type 0
Cover at [] end = at ≡ end
Cover at (span ∷ spans) end = (span.first ≡ at) × Cover (at + span.count) spans end

-- the prelude, which begins no unit, and then the units; together all lines in order
abbrev pub AreSpans : List (List ℕ) → List LineSpan → Type 0
AreSpans lines [] = ⊥
AreSpans lines (prelude ∷ units) =
    NoneBegins lines 1 (1 + prelude.count) × AllByRecursion (IsUnitSpan lines) units × Cover 1 (prelude ∷ units) (length lines + 1)

-- each line has fewer than 2^32 - 1 bytes
abbrev pub AreShort : List (List ℕ) → Type 0
AreShort lines = All (λ line. length (encode_utf8_all line) < 4294967295) lines

-- there is a first line, and it begins a unit
abbrev pub FirstBegins : List (List ℕ) → Type 0
FirstBegins [] = ⊥
FirstBegins (line ∷ lines) = BeginsUnit line
