use Rattle.std.proofs.Common.{◌≡◌, ◌++◌, take, map}
use Rattle.std.specs.List.{flat_map}
use Rattle.algo_parser.specs.Units.{use_in, performers_of, unknown_of}
use Rattle.algo_parser.specs.Hearing.{heard_of, joined}
use Rattle.algo_parser.proofs.gathered.add_uses_on.Given as goal

abbrev pub invariant-loop-piece : goal.invariant-loop-piece
invariant-loop-piece l = record {
  performers : l.performers ≡ joined l.fn.performers (performers_of (flat_map (use_in l.line) (map heard_of (take l.piece-index l.pieces))));
  unknown : l.unknown ≡ l.fn.unknown ++ unknown_of (flat_map (use_in l.line) (map heard_of (take l.piece-index l.pieces)));
}
