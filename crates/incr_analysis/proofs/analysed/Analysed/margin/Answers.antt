use Rattle.incr_analysis.proofs.Shown.{shown_analysis}
use Rattle.incr_analysis.proofs.analysed.Analysed.margin.Goals as goal

pub returns-clause-analysis : goal.returns-clause-analysis
returns-clause-analysis c = shown_analysis _ _ _ c.self.inside.units _ c.self.view_is c.self.invariant.1
