use Rattle.std.proofs.Common.{◌-◌, ◌≤◌, List, ◌++◌, length}
use Rattle.expr_forms.specs.Tokens.{tokens_of}
use Rattle.line_pieces.specs.Ends.{IsEnd, ArePieces}
use Rattle.line_pieces.specs.declared.pieces.Piece.{Piece}
use Rattle.line_pieces.proofs.pieces.cut.Given as goal

abbrev pub invariant-loop-begin : goal.invariant-loop-begin
invariant-loop-begin l = record {
  in_range : l.begin ≤ length l.tokens;
  begins : IsEnd (tokens_of l.tokens) l.begin;
  so_far : (ps : List Piece) → ArePieces (tokens_of l.tokens) l.begin ps → ArePieces (tokens_of l.tokens) 0 (l.pieces ++ ps);
}

abbrev pub decreases-loop-begin : goal.decreases-loop-begin
decreases-loop-begin l = length l.tokens - l.begin
