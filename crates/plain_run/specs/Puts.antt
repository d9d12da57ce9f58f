-- How far the print of lines has come into a sink.
use Rattle.std.specs.Prelude.{ℕ, ◌<◌, ◌≤◌, List, length, take}
use Rattle.km_ports.specs.Ports.{SinkState, PutsInto}
use Rattle.km_ports.specs.declared.port.PutFault.{PutFault}
use Rattle.km_ports.specs.declared.port.PutFault.TheVariants as put_fault
use Rattle.plain_run.specs.Printed.{PrintsLines}

-- the whole print of these lines was put
abbrev pub PutsLines : ℕ → List (List ℕ) → SinkState → SinkState → Type 0
PutsLines number lines before now = (text : List ℕ) × PrintsLines number lines text × PutsInto before now text

-- so many bytes of a text may have been put where that stopped it: not all of them where the sink refused. Memory may be
-- wanted behind the last of them, by lines that print nothing.
abbrev pub IsPart : PutFault → ℕ → List ℕ → Type 0
IsPart put_fault.Failed count text = count < length text
IsPart put_fault.Memory count text = count ≤ length text

-- a prefix of the print of these lines was put, and that stopped the rest
abbrev pub PutsPrefixOf : PutFault → ℕ → List (List ℕ) → SinkState → SinkState → Type 0
PutsPrefixOf fault number lines before now = (text : List ℕ) × (count : ℕ) × IsPart fault count text × PrintsLines number lines text × PutsInto before now (take count text)
