-- The calls of a source or a sink in memory.
use Rattle.std.specs.Prelude.{◌<◌, ℕ, ◌+◌, ◌-◌, ◌^◌, min, List, Contains, Bool, if◌then◌else◌, Some}
use Rattle.km_ports.specs.Ports.{SourceState, SinkState}

-- how many bytes a call may move at most, the numbers of the calls that fail, from 1, how many calls were made, and how many of them failed
pub record Calls : Type 0 where
  pub most : ℕ
  pub fails : List ℕ
  pub made : ℕ
  pub failed : ℕ

-- before the first call
abbrev pub no_calls : ℕ → List ℕ → Calls
no_calls most fails = record { most = most; fails = fails; made = 0; failed = 0 }

-- the number of the next call stands among those that fail, and no more than 2^64 - 2 calls were made
abbrev pub FailsNext : Calls → Type 0
FailsNext calls = (calls.made < 2 ^ 64 - 1) × Contains calls.fails (calls.made + 1)

-- After a call that failed, or did not. More than 2^64 - 1 calls are not counted.
abbrev pub after_call : Calls → Bool → Calls
after_call calls failed = record calls { made = min (calls.made + 1) (2 ^ 64 - 1); failed = if failed then calls.failed + 1 else calls.failed }

-- a source: the bytes that are left, and its calls
pub record SourceInMemory : Type 0 where
  pub left : List ℕ
  pub calls : Calls

-- what such a source tells
abbrev pub source_state : SourceInMemory → SourceState
source_state source = record { left = Some source.left; faults = source.calls.failed }

-- a sink: the bytes that it was given, and its calls
pub record SinkInMemory : Type 0 where
  pub written : List ℕ
  pub calls : Calls

-- what such a sink tells
abbrev pub sink_state : SinkInMemory → SinkState
sink_state sink = record { written = Some sink.written; faults = sink.calls.failed }
