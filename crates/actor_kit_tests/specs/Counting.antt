-- The law of an actor that counts down, and the causes of its turns.
use Rattle.std.specs.Prelude.{◌≡◌, ℕ, ◌+◌, ◌<◌, Bool, true, false}
use Rattle.actor_kit.specs.declared.actor.Turn.{Turn}
use Rattle.actor_kit.specs.declared.actor.Turn.TheVariants.{Worked, Idle, Ended}

-- what is left and what was counted stays the same together
abbrev pub Counts : ℕ → ℕ → ℕ → ℕ → Type 0
Counts first_left first_count left count = count + left ≡ first_count + first_left

-- of what is left before and after a turn, and of whether it rests
abbrev pub CountsBecause : Turn → ℕ → Bool → ℕ → Bool → Type 0
CountsBecause Worked left rests left' rests' = left' < left
CountsBecause Idle left rests left' rests' = (rests ≡ true) × (rests' ≡ false)
CountsBecause Ended left rests left' rests' = left' ≡ 0
