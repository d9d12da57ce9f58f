use Rattle.std.proofs.Common.{◌≡◌, ◌++◌, reverse, length}
use Rattle.plain_run.proofs.plain.turned.Given as goal

abbrev pub invariant-loop-request : goal.invariant-loop-request
invariant-loop-request l = l.initial.requests ≡ l.requests ++ reverse l.turned

abbrev pub decreases-loop-request : goal.decreases-loop-request
decreases-loop-request l = length l.requests
