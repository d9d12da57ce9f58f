use Rattle.transcript.proofs.OneReading.{no_feed_none, other_line_none}
use Rattle.transcript.proofs.entries.read_first.Goals as goal

pub returns-in-None : goal.returns-in-None
returns-in-None c = other_line_none c.args.bytes.now c.in-Some.line.now c.in-Some.rest.now c.in-Some.ensures.0 c.in-Some.ensures.1 (rw c.in-None.is at c.in_ok-entry.ensures)
