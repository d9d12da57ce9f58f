-- What actors send: words of their laws, and of the causes of their turns.
use Rattle.std.specs.Prelude.{◌≡◌, ◌≤◌, ◌<◌, List, ◌++◌, length}
use Rattle.mail_link.specs.Ends.{SendEnd, TakeEnd}

-- all of these were sent in their order, or all but the last
pub record SentButLast {T : Type 0} (sent all : List T) : Type 0 where
  pub unsent : List T
  pub all_are : all ≡ sent ++ unsent
  pub few : length unsent ≤ 1

-- one of these is due: it is not sent yet
abbrev pub IsDue : {T : Type 0} → List T → List T → Type 0
IsDue sent all = length sent < length all

-- an item was sent, or taken, in the turn
abbrev pub SentMore : {T : Type 0} → SendEnd T → SendEnd T → Type 0
SentMore before after = length before.sent < length after.sent

abbrev pub TookMore : {T : Type 0} → TakeEnd T → TakeEnd T → Type 0
TookMore before after = length before.taken < length after.taken
