use Rattle.std.proofs.Common.{◌≡◌, take}
use Rattle.script_lines.specs.Answer.{newest}
use Rattle.sample_maker.proofs.counted.newest_version.Given as goal

abbrev pub invariant-loop-entry : goal.invariant-loop-entry
invariant-loop-entry l = l.count ≡ newest (take l.entry-index l.entries)
