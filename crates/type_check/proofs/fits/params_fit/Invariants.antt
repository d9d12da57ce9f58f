use Rattle.std.proofs.Common.{◌≡◌, ◌&&◌, drop, map}
use Rattle.kumir_tree.specs.Parts.{formal_of}
use Rattle.type_check.specs.Parts as p
use Rattle.type_check.specs.Scopes.{among}
use Rattle.type_check.proofs.fits.params_fit.Given as goal

abbrev pub invariant-loop-param : goal.invariant-loop-param
invariant-loop-param l = (l.fit && p.formals_fit (among l.scope) (map formal_of (drop l.param-index l.params))) ≡ p.formals_fit (among l.scope) (map formal_of l.params)
