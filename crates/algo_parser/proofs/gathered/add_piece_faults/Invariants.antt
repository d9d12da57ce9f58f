use Rattle.std.proofs.Common.{◌≡◌, ◌++◌, take, map}
use Rattle.std.specs.List.{flat_map}
use Rattle.algo_parser.specs.Units.{piece_fault}
use Rattle.algo_parser.specs.Hearing.{heard_of}
use Rattle.algo_parser.proofs.gathered.add_piece_faults.Given as goal

abbrev pub invariant-loop-piece : goal.invariant-loop-piece
invariant-loop-piece l = l.faults ≡ l.fn.faults ++ flat_map (piece_fault l.line) (map heard_of (take l.piece-index l.pieces))
