-- What contracts see of the two ends of a beacon.
use Rattle.std.specs.Prelude.{◌≡◌, ℕ, List, [], ◌∷◌, ◌++◌, refl}
use Rattle.std.specs.Coded.{Coded, code_by, coded×, coded_list, coded_ℕ}
use Rattle.atomic_table.specs.Seated.{TableId, table_id_coded}

-- which beacon an end is of; no call changes it
abbrev pub BeaconId : Type 0
BeaconId = TableId

pub record RaiseEnd : Type 0 where
  pub beacon : BeaconId
  -- the numbers raised, in the order in which they were raised
  pub raised : List ℕ

pub record LookEnd : Type 0 where
  pub beacon : BeaconId
  -- the numbers shown, in the order in which they were shown
  pub shown : List ℕ

abbrev pub raise_end : BeaconId → List ℕ → RaiseEnd
raise_end beacon raised = record { beacon = beacon; raised = raised }

abbrev pub look_end : BeaconId → List ℕ → LookEnd
look_end beacon shown = record { beacon = beacon; shown = shown }

abbrev pub raise_end_code : Coded RaiseEnd
raise_end_code = code_by (TableId × List ℕ) (coded× table_id_coded (coded_list coded_ℕ)) (λ e. (e.beacon, e.raised)) (λ p. raise_end p.0 p.1) (λ _. refl)

abbrev pub look_end_code : Coded LookEnd
look_end_code = code_by (TableId × List ℕ) (coded× table_id_coded (coded_list coded_ℕ)) (λ e. (e.beacon, e.shown)) (λ p. look_end p.0 p.1) (λ _. refl)

-- both ends came from one `beacon`
abbrev pub OfOneBeacon : RaiseEnd → LookEnd → Type 0
OfOneBeacon raiser looker = looker.beacon ≡ raiser.beacon

-- the raiser after one more number was raised
abbrev pub raised : RaiseEnd → ℕ → RaiseEnd
raised r version = raise_end r.beacon (r.raised ++ version ∷ [])

-- the looker after one more number was shown
abbrev pub saw : LookEnd → ℕ → LookEnd
saw l version = look_end l.beacon (l.shown ++ version ∷ [])
