use Rattle.transcript.proofs.Texts.{entry_is_line}
use Rattle.transcript.proofs.line.lines_are_texts.Goals as goal

pub returns-clause-utf8 : goal.returns-clause-utf8
returns-clause-utf8 c e h = (entry_is_line e h).0

pub returns-clause-one : goal.returns-clause-one
returns-clause-one c e h = (entry_is_line e h).1
