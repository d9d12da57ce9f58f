use Rattle.std.proofs.Common.{IfOk, subst}
use Rattle.algo_parser.specs.Units.{Hears}
use Rattle.algo_parser.specs.Hearing.{heard_of}
use Rattle.algo_parser.proofs.Hears.{some_slice, tokens_range}
use Rattle.algo_parser.proofs.heard.hear_piece.Goals as goal

pub hear-requires : goal.hear-requires
hear-requires c = some_slice c.args.tokens.now c.args.piece.now.from c.args.piece.now.to c.requires.some c.requires.inside

pub returns : goal.returns
returns c = subst (λ l. IfOk c.hear.result (λ heard. Hears l (heard_of heard))) (tokens_range c.args.tokens.now c.args.piece.now.from c.args.piece.now.to) c.hear.ensures
