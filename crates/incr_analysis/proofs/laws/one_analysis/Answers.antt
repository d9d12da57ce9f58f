use Rattle.incr_analysis.proofs.OneFullAnalysis as proofs
use Rattle.incr_analysis.proofs.laws.one_analysis.Goals as goal

pub returns-clause-some : goal.returns-clause-some
returns-clause-some c = proofs.each_has_analysis c.one_list_of_spans.ensures.some c.one_reading.ensures.some c.one_margin.ensures.some

pub returns-clause-only : goal.returns-clause-only
returns-clause-only c = proofs.one_analysis c.one_list_of_spans.ensures.only c.one_reading.ensures.only c.one_margin.ensures.only
