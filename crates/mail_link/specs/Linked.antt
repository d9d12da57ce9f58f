-- The rule of a link: what was sent is what was taken, followed by what the queue holds.
-- One view at most may send, and it has the list of what was sent. One at most may take, and it has the list of what was taken. A spent view may do neither.
use Rattle.std.specs.Prelude.{◌≡◌, ℕ, Bool, true, false, List, [], ◌++◌}
use mathlib.Core.Option.{some}
use lib.ListN.{get_elem?}
use Rattle.mail_link.specs.declared.rule.Log.{Log}

module _ {T : Type 0} where
  abbrev pub log : Bool → Bool → List T → List T → Log T
  log sends takes sent taken = record { sends = sends; takes = takes; sent = sent; taken = taken }

  abbrev pub spent : Log T
  spent = log false false [] []

  -- what the view v at the number `port` knows, where the view at `writer` sends and the one at `reader` takes
  abbrev pub Knows : ℕ → ℕ → List T → List T → ℕ → Log T → Type 0
  Knows writer reader sent taken port v = (v.sends ≡ true → (port ≡ writer) × (v.sent ≡ sent)) × (v.takes ≡ true → (port ≡ reader) × (v.taken ≡ taken))

  abbrev pub IsLinked : List T → List (Log T) → Type 0
  IsLinked items views = (writer : ℕ) × (reader : ℕ) × (sent : List T) × (taken : List T) × (sent ≡ taken ++ items)
      × ((port : ℕ) (v : Log T) → get_elem? views port ≡ some v → Knows writer reader sent taken port v)
