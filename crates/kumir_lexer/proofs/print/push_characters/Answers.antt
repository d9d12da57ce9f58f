use Rattle.std.proofs.Common.{◌∙◌}
use Rattle.kumir_lexer.proofs.Encoded.{encoded_more}
use Rattle.kumir_lexer.proofs.print.push_characters.Goals as goal

pub loop-c-preserved : goal.loop-c-preserved
loop-c-preserved c = c.in_ok-push.ensures.bytes ∙ encoded_more _ _ c.c-item.result _ _ c.loop-c-test.true c.c-item.is c.loop-c.invariant
