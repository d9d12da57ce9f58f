-- What is one only: the pieces of a line and the spans of a text.
use Rattle.std.specs.Prelude.{◌≡◌, ℕ, List}
use Rattle.kumir_tree.specs.declared.token.Token.{Token}
use Rattle.line_pieces.specs.declared.pieces.Piece.{Piece}
use Rattle.line_pieces.specs.declared.spans.LineSpan.{LineSpan}
use Rattle.line_pieces.specs.Ends.{Pieces}
use Rattle.line_pieces.specs.Spans.{AreSpans}

-- each list of tokens has a list of pieces
abbrev pub EachHasPieces : Type 0
EachHasPieces = (tokens : List Token) → (pieces : List Piece) × Pieces tokens pieces

-- and no other one
abbrev pub OneListOfPieces : Type 0
OneListOfPieces = (tokens : List Token) (ps qs : List Piece) → Pieces tokens ps → Pieces tokens qs → ps ≡ qs

-- each list of lines has a list of spans
abbrev pub EachHasSpans : Type 0
EachHasSpans = (lines : List (List ℕ)) → (spans : List LineSpan) × AreSpans lines spans

-- and no other one
abbrev pub OneListOfSpans : Type 0
OneListOfSpans = (lines : List (List ℕ)) (ss rs : List LineSpan) → AreSpans lines ss → AreSpans lines rs → ss ≡ rs
