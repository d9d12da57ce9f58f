use Rattle.std.proofs.Common.{sym, refl}
use Rattle.transcript.specs.Print.{print}
use Rattle.transcript.proofs.OneReading.{same_entries}
use Rattle.transcript.proofs.entries.one_print.Goals as goal

pub returns : goal.returns
returns c es fs h k is = same_entries (print es) es fs h k refl is
