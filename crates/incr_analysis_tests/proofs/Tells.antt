-- What a stop that tells once has seen.
use Rattle.std.proofs.Common.{◌≡◌, ◌<◌, ℕ, Bool, true, false, [], ◌∷◌, Some, if◌then◌else◌, refl, arith}
use Rattle.incr_analysis.specs.Stops.{SeesMore}

pub told_once : (told : Bool) (version : ℕ) → told ≡ false → SeesMore (if told then version ∷ [] else []) (version ∷ []) (Some version)
told_once true version e = absurd (let wrong : ⊥ = cc in wrong)
told_once false version e = (version ∷ [], refl, (0, omega arith, refl))
