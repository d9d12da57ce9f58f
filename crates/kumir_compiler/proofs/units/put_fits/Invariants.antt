use Rattle.std.proofs.Common.{◌≡◌, ◌≤◌, ◌++◌, drop, length, map}
use Rattle.kumir_tree.specs.Parts.{formal_of}
use Rattle.kumir_compiler.specs.UnitCode.{fits_code}
use Rattle.kumir_compiler.specs.PendingCode.{code_of}
use Rattle.kumir_compiler.specs.SitesSeen.{site_of}
use Rattle.kumir_compiler.proofs.units.put_fits.Given as goal

abbrev pub invariant-loop-at : goal.invariant-loop-at
invariant-loop-at l = (l.at ≤ length l.params) × (code_of l.out ≡ fits_code (map formal_of (drop l.at l.params)) (site_of l.site) ++ code_of l.fn.out)

abbrev pub decreases-loop-at : goal.decreases-loop-at
decreases-loop-at l = l.at
