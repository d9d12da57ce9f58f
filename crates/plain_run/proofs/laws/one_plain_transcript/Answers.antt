use Rattle.plain_run.proofs.OnePlain.{some_plain, one_plain}
use Rattle.plain_run.proofs.laws.one_plain_transcript.Goals as goal

pub returns-clause-some : goal.returns-clause-some
returns-clause-some c =
    some_plain (record { some = c.one_analysis.ensures.some; one = c.one_analysis.ensures.only; units = c.one_list_of_units.ensures.some; same = c.one_list_of_units.ensures.only })

pub returns-clause-one : goal.returns-clause-one
returns-clause-one c =
    one_plain (record { some = c.one_analysis.ensures.some; one = c.one_analysis.ensures.only; units = c.one_list_of_units.ensures.some; same = c.one_list_of_units.ensures.only })
