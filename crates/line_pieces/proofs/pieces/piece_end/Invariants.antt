use Rattle.std.proofs.Common.{◌≡◌, ◌+◌, ◌≤◌, true}
use Rattle.std.specs.List.{slice_range}
use Rattle.expr_forms.specs.Tokens.{tokens_of}
use Rattle.line_pieces.specs.Ends.{squares}
use Rattle.line_pieces.proofs.Places.{NoMarks, NoFreeColons}
use Rattle.line_pieces.proofs.pieces.piece_end.Given as goal

abbrev pub invariant-loop-at : goal.invariant-loop-at
invariant-loop-at l = record {
  bound : l.squares ≤ l.at;
  count : l.squares ≡ squares (slice_range (tokens_of l.tokens) l.begin l.at);
  bare : NoMarks (tokens_of l.tokens) l.begin (l.at + 1);
  first : l.is_case ≡ true → NoFreeColons (tokens_of l.tokens) l.begin (l.at + 1);
}
