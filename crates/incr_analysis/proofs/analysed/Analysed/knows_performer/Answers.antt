use Rattle.incr_analysis.proofs.Shown.{shown_units}
use Rattle.incr_analysis.proofs.analysed.Analysed.knows_performer.Goals as goal

pub returns-clause-of_text : goal.returns-clause-of_text
returns-clause-of_text c = shown_units _ _ _ c.self.inside.units _ c.self.view_is c.self.invariant.1
