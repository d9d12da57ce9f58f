-- The rule of a beacon: its word is the last number raised, or 0. What was raised and what was shown do not fall, and each number shown is 0 or was raised.
-- One view at most may raise, and it has the list of what was raised. One at most may look, and it has the list of what was shown. A spent view may do neither.
use Rattle.std.specs.Prelude.{◌≡◌, ℕ, Bool, true, false, ◌≤◌, ◌<◌, ◌^◌, List, [], All, slice_index}
use mathlib.Core.Option.{some}
use lib.ListN.{get_elem?}
use Rattle.beacon_word.specs.declared.rule.Log.{Log}
use Rattle.beacon_word.specs.Beacon.{last_or_zero, BeaconLaw}

abbrev pub log : Bool → Bool → List ℕ → List ℕ → Log
log raises looks raised shown = record { raises = raises; looks = looks; raised = raised; shown = shown }

abbrev pub spent : Log
spent = log false false [] []

pub record IsHistory (word : ℕ) (raised shown : List ℕ) : Type 0 where
  pub law : BeaconLaw raised shown
  pub last : word ≡ last_or_zero raised
  pub later : All (λ n. n ≤ word) shown
  pub fits : word < 2 ^ 32

-- what the view v at the number `port` knows, where the view at `raiser` raises and the one at `looker` looks
abbrev pub Knows : ℕ → ℕ → List ℕ → List ℕ → ℕ → Log → Type 0
Knows raiser looker raised shown port v = (v.raises ≡ true → (port ≡ raiser) × (v.raised ≡ raised)) × (v.looks ≡ true → (port ≡ looker) × (v.shown ≡ shown))

abbrev pub IsBeacon : List ℕ → List Log → Type 0
IsBeacon words views = (raiser : ℕ) × (looker : ℕ) × (raised : List ℕ) × (shown : List ℕ) × IsHistory (slice_index words 0) raised shown
    × ((port : ℕ) (v : Log) → get_elem? views port ≡ some v → Knows raiser looker raised shown port v)
