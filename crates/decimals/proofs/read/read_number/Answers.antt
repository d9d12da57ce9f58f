use Rattle.std.proofs.Common.{◌∙◌, sym}
use Rattle.decimals.proofs.Numbers.{number_of_some, number_of_none}
use Rattle.decimals.proofs.read.read_number.Goals as goal

pub returns-in-Some : goal.returns-in-Some
returns-in-Some c = c.ok.ensures.value ∙ number_of_some c.args.word.now c.in-Some.number c.try_from.result (sym c.in-Some.is ∙ c.in_ok-number.ensures) c.try_from.ensures

pub returns-in-None : goal.returns-in-None
returns-in-None c = number_of_none c.args.word.now (sym c.in-None.is ∙ c.in_ok-number.ensures)
