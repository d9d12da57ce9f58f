use Rattle.incr_analysis.proofs.OneFullAnalysis as proofs
use Rattle.incr_analysis.proofs.laws.one_list_of_units.Goals as goal

pub returns-clause-some : goal.returns-clause-some
returns-clause-some c = proofs.each_has_units c.one_list_of_spans.ensures.some c.one_reading.ensures.some

pub returns-clause-only : goal.returns-clause-only
returns-clause-only c = proofs.one_program c.one_list_of_spans.ensures.only c.one_reading.ensures.only
