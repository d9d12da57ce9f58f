use Rattle.kumir_lexer.proofs.Steps.{token_here}
use Rattle.kumir_lexer.proofs.cutting.next_step.Goals as goal

pub returns-in-Token : goal.returns-in-Token
returns-in-Token c = token_here c.args.is_after_name c.args.line.now c.behind-rest.result.now c.args.at c.in-Some.len c.in-Some.class c.in_ok-token.field-0 c.in-Token.token c.requires.inside c.behind-rest.ensures c.in-Some.ensures.some c.in_ok-token.ensures c.in-Token.is
