use Rattle.transcript.proofs.Again.{words_again}
use Rattle.transcript.proofs.words.plain_again.Goals as goal

pub returns : goal.returns
returns c = words_again
