use Rattle.std.proofs.Common.{◌≡◌, take}
use Rattle.std.specs.List.{flat_map}
use Rattle.sample_maker.specs.Summaries.{output_of}
use Rattle.sample_maker.proofs.counted.joined_outputs.Given as goal

abbrev pub invariant-loop-entry : goal.invariant-loop-entry
invariant-loop-entry l = l.out ≡ flat_map output_of (take l.entry-index l.entries)
