-- What a sink in memory was given.
use Rattle.std.proofs.Common.{◌≡◌, ℕ, List, [], ◌++◌, Some, ap, ◌∙◌}
use Rattle.std.specs.Io.KnownBytes.{append_known}

-- all that was put into an empty one
pub all_put : (before now bytes : List ℕ) → before ≡ [] → Some now ≡ append_known (Some before) bytes → now ≡ bytes
all_put before now bytes empty put =
    let all : now ≡ before ++ bytes = cc in
    all ∙ ap (λ b. b ++ bytes) empty
