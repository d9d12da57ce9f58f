use Rattle.incr_analysis.proofs.Preludes.{knows_robot, knows_pen}
use Rattle.incr_analysis.proofs.analysed.knows_performer.Goals as goal

pub returns-then-known : goal.returns-then-known
returns-then-known c = knows_robot c.args.units.now c.in-Some.prelude.now c.performers_of-known.result c.if-known.true c.in-Some.ensures.value c.performers_of-known.ensures

pub returns-else-known : goal.returns-else-known
returns-else-known c = knows_pen c.args.units.now c.in-Some.prelude.now c.performers_of-known.result c.if-known.false c.in-Some.ensures.value c.performers_of-known.ensures
