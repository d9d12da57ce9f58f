use Rattle.std.proofs.Common.{◌≡◌, ◌+◌, ◌-◌, ◌++◌, ◌≤◌}
use Rattle.kumir_compiler.specs.Code.{keep_code}
use Rattle.kumir_compiler.specs.PendingCode.{code_of}
use Rattle.kumir_compiler.specs.SitesSeen.{site_of}
use Rattle.kumir_compiler.proofs.calls.put_keep.Given as goal

abbrev pub invariant-loop-at : goal.invariant-loop-at
invariant-loop-at l = (l.at ≤ l.count) × (code_of l.out ≡ keep_code (l.count - l.at) (l.first + l.at) (site_of l.site) ++ code_of l.fn.out)

abbrev pub decreases-loop-at : goal.decreases-loop-at
decreases-loop-at l = l.at
