use Rattle.std.proofs.Common.{◌≡◌, ◌++◌, take}
use Rattle.script_lines.specs.Requests.{whole}
use Rattle.script_lines.specs.Reader.{IsState}
use Rattle.script_lines.proofs.state.take_piece.Given as goal

abbrev pub invariant-loop-byte : goal.invariant-loop-byte
invariant-loop-byte l = record {
  state : IsState l.state;
  fed : l.state.fed ≡ l.fn.state.fed ++ take l.byte-index l.piece;
  requests : whole l.state.fed ≡ whole l.fn.state.fed ++ l.requests;
}
