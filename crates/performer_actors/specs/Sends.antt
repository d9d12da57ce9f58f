-- What comes of sending an item that is due.
use Rattle.std.specs.Prelude.{◌≡◌}
use Rattle.mail_link.specs.Ends.{SendEnd, posted, refused}
use Rattle.actor_kit.specs.declared.actor.Turn.{Turn}
use Rattle.actor_kit.specs.declared.actor.Turn.TheVariants.{Worked, Idle, Ended}

-- the item was sent, and what was behind it is due; or it was refused, and is due still
abbrev pub Sends : {T D : Type 0} → T → D → SendEnd T → D → Turn → SendEnd T → D → Type 0
Sends item behind sender due Worked sender' due' = (sender' ≡ posted sender item) × (due' ≡ behind)
Sends item behind sender due Idle sender' due' = (sender' ≡ refused sender) × (due' ≡ due)
Sends item behind sender due Ended sender' due' = ⊥
