use Rattle.std.proofs.Common.{◌≡◌, ◌&&◌, drop}
use Rattle.kumir_tree.specs.Parts.{limits_of}
use Rattle.type_check.specs.Parts as p
use Rattle.type_check.specs.Scopes.{among}
use Rattle.type_check.proofs.fits.bounds_fit.Given as goal

abbrev pub invariant-loop-b : goal.invariant-loop-b
invariant-loop-b l = (l.fit && p.bounds_fit (among l.scope) (limits_of (drop l.b-index l.bounds))) ≡ p.bounds_fit (among l.scope) (limits_of l.bounds)
