-- What contracts see of the two ends of a link.
use Rattle.std.specs.Prelude.{◌≡◌, ℕ, ◌+◌, List, [], ◌∷◌, ◌++◌, length, refl}
use Rattle.std.specs.Coded.{Coded, code_by, coded×, coded_list, coded_ℕ}
use Rattle.atomic_table.specs.Seated.{TableId, table_id_coded}

-- which link an end is of; no call changes it
abbrev pub LinkId : Type 0
LinkId = TableId

pub record SendEnd (T : Type 0) : Type 0 where
  pub link : LinkId
  pub capacity : ℕ
  -- the items sent, in the order in which they were sent
  pub sent : List T
  -- how often an item was refused
  pub refusals : ℕ

pub record TakeEnd (T : Type 0) : Type 0 where
  pub link : LinkId
  pub capacity : ℕ
  -- the items taken, in the order in which they were taken
  pub taken : List T
  -- how often a take found nothing
  pub empties : ℕ

module _ {T : Type 0} where
  abbrev pub send_end : LinkId → ℕ → List T → ℕ → SendEnd T
  send_end link capacity sent refusals = record { link = link; capacity = capacity; sent = sent; refusals = refusals }

  abbrev pub take_end : LinkId → ℕ → List T → ℕ → TakeEnd T
  take_end link capacity taken empties = record { link = link; capacity = capacity; taken = taken; empties = empties }

  abbrev pub send_end_code : Coded T → Coded (SendEnd T)
  send_end_code c = code_by (TableId × (ℕ × (List T × ℕ))) (coded× table_id_coded (coded× coded_ℕ (coded× (coded_list c) coded_ℕ)))
      (λ e. (e.link, (e.capacity, (e.sent, e.refusals)))) (λ p. send_end p.0 p.1.0 p.1.1.0 p.1.1.1) (λ _. refl)

  abbrev pub take_end_code : Coded T → Coded (TakeEnd T)
  take_end_code c = code_by (TableId × (ℕ × (List T × ℕ))) (coded× table_id_coded (coded× coded_ℕ (coded× (coded_list c) coded_ℕ)))
      (λ e. (e.link, (e.capacity, (e.taken, e.empties)))) (λ p. take_end p.0 p.1.0 p.1.1.0 p.1.1.1) (λ _. refl)

  -- both ends came from one `link`
  abbrev pub OfOneLink : SendEnd T → TakeEnd T → Type 0
  OfOneLink sender receiver = receiver.link ≡ sender.link

  -- the sender after one more item was sent
  abbrev pub posted : SendEnd T → T → SendEnd T
  posted s item = send_end s.link s.capacity (s.sent ++ item ∷ []) s.refusals

  -- the sender after one more item was refused
  abbrev pub refused : SendEnd T → SendEnd T
  refused s = send_end s.link s.capacity s.sent (s.refusals + 1)

  -- the receiver after one more item was taken
  abbrev pub received : TakeEnd T → T → TakeEnd T
  received r item = take_end r.link r.capacity (r.taken ++ item ∷ []) r.empties

  -- the receiver after one more take found nothing
  abbrev pub missed : TakeEnd T → TakeEnd T
  missed r = take_end r.link r.capacity r.taken (r.empties + 1)

  -- what was sent is what was taken, followed by n items
  abbrev pub Delivered : List T → List T → ℕ → Type 0
  Delivered sent taken n = (waits : List T) × (sent ≡ taken ++ waits) × (length waits ≡ n)

  -- at a step of the call the queue held its capacity: as many of the items sent, the last ones
  abbrev pub FoundFull : SendEnd T → Type 0
  FoundFull s = (taken : List T) × Delivered s.sent taken s.capacity
