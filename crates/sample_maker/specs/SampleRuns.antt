-- A run of the command `sample`. docs/PROGRAM.md, "Sample".
use Rattle.std.specs.Prelude.{◌≡◌, ◌≢◌, ℕ, ◌⊎◌, List}
use Rattle.km_ports.specs.Ports.{SinkState, PutsInto, Rose}
use Rattle.km_ports.specs.Whole.{PutsPrefix}
use Rattle.km_ports.specs.declared.status.Status.{Status}
use Rattle.km_ports.specs.declared.status.Status.TheVariants as status
use Rattle.sample_maker.specs.declared.printed.Summary.{Summary}
use Rattle.sample_maker.specs.Summaries.{IsSummaryOf, printed_summary}

-- the text is the printed summary of the number
abbrev pub IsSampleText : ℕ → List ℕ → Type 0
IsSampleText number text = (s : Summary) × IsSummaryOf number s × (text ≡ printed_summary s)

-- all of that text was put
abbrev pub PutsSample : ℕ → SinkState → SinkState → Type 0
PutsSample number before now = (text : List ℕ) × IsSampleText number text × PutsInto before now text

-- a prefix of that text was put, and not all of it
abbrev pub CutsSample : ℕ → SinkState → SinkState → Type 0
CutsSample number before now = (text : List ℕ) × IsSampleText number text × PutsPrefix before now text

-- One run of `sample` on a number.
pub record IsSampleRun (number : ℕ) (before now : SinkState) (s : Status) : Type 0 where
  -- the status is one of these
  pub listed : (s ≡ status.Fine) ⊎ ((s ≡ status.Write) ⊎ (s ≡ status.Memory))
  -- at status 0 the printed summary was put; at 4 and 5 a prefix of it, and not all
  pub done : s ≡ status.Fine → PutsSample number before now
  pub less : s ≢ status.Fine → CutsSample number before now
  -- the sink's count of faults rose exactly where the status is Write
  pub write : s ≡ status.Write → Rose before.faults now.faults
  pub no_write : s ≢ status.Write → now.faults ≡ before.faults
