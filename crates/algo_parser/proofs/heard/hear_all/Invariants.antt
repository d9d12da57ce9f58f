use Rattle.std.proofs.Common.{take, map}
use Rattle.expr_forms.specs.Tokens.{tokens_of}
use Rattle.algo_parser.specs.Units.{HearsAll}
use Rattle.algo_parser.specs.Hearing.{heard_of}
use Rattle.algo_parser.proofs.heard.hear_all.Given as goal

abbrev pub invariant-loop-piece : goal.invariant-loop-piece
invariant-loop-piece l = HearsAll (tokens_of l.tokens) (take l.piece-index l.pieces) (map heard_of l.all.items)
