-- What a call does to the bytes that a source or a sink tells, and to its count of faults.
use Rattle.std.specs.Prelude.{◌≡◌, ◌<◌, ℕ, List, Result, Ok, Err, Bool, true, false}
use Rattle.std.specs.declared.option.Option.{Option}
use Rattle.std.specs.Io.KnownBytes.{prepend_known, append_known}
use Rattle.km_ports.specs.declared.port.Failed.{Failed as SourceFailed}
use Rattle.km_ports.specs.declared.port.PutFault.{PutFault}
use Rattle.km_ports.specs.declared.port.PutFault.TheVariants.{Failed, Memory}

-- what a source tells: the bytes still to come, if it tells them at all, and how many of its calls failed
pub record SourceState : Type 0 where
  pub left : Option (List ℕ)
  pub faults : ℕ

-- what a sink tells: the bytes that it was given, if it tells them at all, and how many of its calls failed
pub record SinkState : Type 0 where
  pub written : Option (List ℕ)
  pub faults : ℕ

-- what was left begins with these bytes, and what is left now stands behind them
abbrev pub TakesFrom : SourceState → SourceState → List ℕ → Type 0
TakesFrom before now bytes = before.left ≡ prepend_known bytes now.left

-- these bytes stand behind what was written
abbrev pub PutsInto : SinkState → SinkState → List ℕ → Type 0
PutsInto before now bytes = now.written ≡ append_known before.written bytes

-- the count of faults rose
abbrev pub Rose : ℕ → ℕ → Type 0
Rose before now = before < now

-- the count of a source's faults rose exactly where a fault was answered
abbrev pub CountsTake : {T : Type 0} → SourceState → SourceState → Result T SourceFailed → Type 0
CountsTake before now (Ok _) = now.faults ≡ before.faults
CountsTake before now (Err _) = Rose before.faults now.faults

-- the count of a sink's faults rose exactly where a fault was answered, and not for want of memory
abbrev pub CountsPut : {T : Type 0} → SinkState → SinkState → Result T PutFault → Type 0
CountsPut before now (Ok _) = now.faults ≡ before.faults
CountsPut before now (Err Failed) = Rose before.faults now.faults
CountsPut before now (Err Memory) = now.faults ≡ before.faults

-- a sink failed; it was written, or wanted memory
abbrev pub put_failed : {T : Type 0} → Result T PutFault → Bool
put_failed (Ok _) = false
put_failed (Err Failed) = true
put_failed (Err Memory) = false
