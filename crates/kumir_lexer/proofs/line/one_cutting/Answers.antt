use Rattle.kumir_lexer.proofs.SomeCutting.{some_cut}
use Rattle.kumir_lexer.proofs.OneCutting.{one_cut}
use Rattle.kumir_lexer.proofs.line.one_cutting.Goals as goal

pub returns : goal.returns
returns c = record {
  some = some_cut;
  only = one_cut;
}
