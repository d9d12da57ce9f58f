use Rattle.algo_parser.proofs.Hears.{says_next}
use Rattle.algo_parser.proofs.Gathers.{number_next}
use Rattle.algo_parser.proofs.gathered.gather.Goals as goal

pub loop-at-preserved : goal.loop-at-preserved
loop-at-preserved c = record {
  number = number_next c.loop-at.at c.loop-at.gathered.said _ c.in_ok-said.said c.loop-at.invariant.number c.in_ok-add.ensures.said;
  said = says_next c.args.lines.now c.loop-at.at c.index-lines-at.result c.loop-at.gathered.said _ c.in_ok-said.said c.loop-at-test.true c.index-lines-at.is c.loop-at.invariant.said c.in_ok-said.ensures c.in_ok-add.ensures.said;
  all = c.in_ok-add.ensures.gathered;
}
