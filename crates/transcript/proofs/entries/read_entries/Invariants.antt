use Rattle.std.proofs.Common.{◌≡◌, ◌++◌, ℕ, ◌+◌, ◌≤◌, All, length}
use Rattle.transcript.specs.Print.{print}
use Rattle.transcript.specs.Entries.{IsShown}
use Rattle.transcript.proofs.entries.read_entries.Given as goal

abbrev pub invariant-loop-rest : goal.invariant-loop-rest
invariant-loop-rest l = record {
  cut : l.bytes ≡ print l.entries ++ l.rest;
  shown : All IsShown l.entries;
  counted : l.line ≡ length l.entries + 1;
  room : length l.entries + length l.rest ≤ length l.bytes;
}

abbrev pub decreases-loop-rest : goal.decreases-loop-rest
decreases-loop-rest l = length l.rest
