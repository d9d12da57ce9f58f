-- A source read to its end within a limit, and a sink given a whole text.
use Rattle.std.specs.Prelude.{◌≡◌, ◌<◌, ◌≤◌, ℕ, List, [], length, take, ⊤, Option, None, Some, Result, Ok, Err}
use Rattle.km_ports.specs.declared.whole.ReadRefusal.{ReadRefusal}
use Rattle.km_ports.specs.declared.whole.ReadRefusal.TheVariants.{Failed, TooLong, Memory}
use Rattle.km_ports.specs.Ports.{SourceState, SinkState, TakesFrom, PutsInto, Rose}

-- where it was told what was left: these bytes are all of it, and nothing is left now
abbrev pub IsAll : Option (List ℕ) → Option (List ℕ) → List ℕ → Type 0
IsAll None now bytes = ⊤
IsAll (Some left) now bytes = (bytes ≡ left) × (now ≡ Some [])

abbrev pub IsWhole : SourceState → SourceState → List ℕ → Type 0
IsWhole before now bytes = IsAll before.left now.left bytes

-- where it was told what was left: that is more bytes than the limit
abbrev pub HasMore : ℕ → Option (List ℕ) → Type 0
HasMore most None = ⊤
HasMore most (Some left) = most < length left

abbrev pub IsLongerThan : ℕ → SourceState → Type 0
IsLongerThan most before = HasMore most before.left

-- so many bytes were taken
abbrev pub TakesExactly : ℕ → SourceState → SourceState → Type 0
TakesExactly count before now = (taken : List ℕ) × (length taken ≡ count) × TakesFrom before now taken

-- at most so many bytes were taken
abbrev pub TakesUpTo : ℕ → SourceState → SourceState → Type 0
TakesUpTo most before now = (taken : List ℕ) × (length taken ≤ most) × TakesFrom before now taken

-- the first of these bytes were put, and not all of them
abbrev pub PutsPrefix : SinkState → SinkState → List ℕ → Type 0
PutsPrefix before now bytes = (count : ℕ) × (count < length bytes) × PutsInto before now (take count bytes)

-- the count of a source's faults rose exactly where the refusal is a fault
abbrev pub CountsRead : {T : Type 0} → SourceState → SourceState → Result T ReadRefusal → Type 0
CountsRead before now (Ok _) = now.faults ≡ before.faults
CountsRead before now (Err Failed) = Rose before.faults now.faults
CountsRead before now (Err TooLong) = now.faults ≡ before.faults
CountsRead before now (Err Memory) = now.faults ≡ before.faults
