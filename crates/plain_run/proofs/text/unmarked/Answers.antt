use Rattle.plain_run.proofs.Marks.{mark_taken, no_mark}
use Rattle.plain_run.proofs.text.unmarked.Goals as goal

pub returns-in-Some : goal.returns-in-Some
returns-in-Some c = let found = c.in-Some.ensures.cases in mark_taken c.args.text.now c.in-Some.rest.now found.0 found.1 found.2

pub returns-in-None : goal.returns-in-None
returns-in-None c = no_mark c.args.text.now c.in-None.ensures.cases
