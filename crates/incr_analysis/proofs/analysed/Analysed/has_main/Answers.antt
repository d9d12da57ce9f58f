use Rattle.incr_analysis.proofs.Shown.{main_takes_nothing, empty_params}
use Rattle.incr_analysis.proofs.analysed.Analysed.has_main.Goals as goal

pub returns-in-Some-clause-main : goal.returns-in-Some-clause-main
returns-in-Some-clause-main c = main_takes_nothing c.in-Some.header _ c.is_empty.result c.in-Some.ensures.header (empty_params c.in-Some.header.now.params c.is_empty.result c.is_empty.ensures)
