use Rattle.std.proofs.Common.{sym}
use Rattle.transcript.proofs.OneReading.{line_parts, no_feed_at}
use Rattle.transcript.proofs.entries.split_line.Goals as goal

pub returns-in-Some : goal.returns-in-Some
returns-in-Some c = line_parts c.args.bytes.now c.in-Some.at (sym c.in-Some.ensures.place) c.in-Some.ensures.bound

pub returns-in-None : goal.returns-in-None
returns-in-None c = no_feed_at 0 c.args.bytes.now (sym c.in-None.ensures.place)
