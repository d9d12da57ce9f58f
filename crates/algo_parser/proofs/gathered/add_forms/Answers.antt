use Rattle.algo_parser.specs.Units.{form_at}
use Rattle.algo_parser.proofs.Gathers.{added_more}
use Rattle.algo_parser.proofs.gathered.add_forms.Goals as goal

pub loop-piece-preserved : goal.loop-piece-preserved
loop-piece-preserved c = added_more (form_at c.args.line) _ _ _ c.loop-piece.yielded _ c.loop-piece.invariant c.in_ok-add_form.ensures
