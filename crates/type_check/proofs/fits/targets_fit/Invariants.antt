use Rattle.std.proofs.Common.{◌≡◌, ◌&&◌, drop}
use Rattle.kumir_tree.specs.Parts.{places_of}
use Rattle.type_check.specs.Parts as p
use Rattle.type_check.specs.Scopes.{among}
use Rattle.type_check.proofs.fits.targets_fit.Given as goal

abbrev pub invariant-loop-target : goal.invariant-loop-target
invariant-loop-target l = (l.fit && p.places_fit (among l.scope) (places_of (drop l.target-index l.targets))) ≡ p.places_fit (among l.scope) (places_of l.targets)
