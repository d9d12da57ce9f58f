-- What one run of a command that reads a text did: what it read, what it wrote, what failed, and the status it answered.
use Rattle.std.specs.Prelude.{◌≡◌, ◌≢◌, ℕ, ◌+◌, ◌⊎◌, true, List, take, Some}
use Rattle.std.specs.Io.KnownBytes.{IsAtEnd}
use Rattle.km_base.specs.Limits.{text_bytes}
use Rattle.km_ports.specs.Ports.{SourceState, SinkState, PutsInto, Rose}
use Rattle.km_ports.specs.Whole.{PutsPrefix, TakesExactly, TakesUpTo}
use Rattle.km_ports.specs.declared.status.Status.{Status}
use Rattle.km_ports.specs.declared.status.Status.TheVariants as status
use Rattle.km_ports.specs.declared.status.Excess.TheVariants as excess
use Rattle.plain_run.specs.Texts.{IsText, IsRefusedAs, says_no_text, says_done, says_read_to_end}

-- what a source and a sink tell before a run and after it
pub record Ports : Type 0 where
  pub source_before : SourceState
  pub source : SourceState
  pub sink_before : SinkState
  pub sink : SinkState

-- what they tell, in the order of the fields
abbrev pub ports : SourceState → SourceState → SinkState → SinkState → Ports
ports source_before source sink_before sink = record {
  source_before = source_before;
  source = source;
  sink_before = sink_before;
  sink = sink;
}

-- these bytes were written
abbrev pub Wrote : Ports → List ℕ → Type 0
Wrote p text = PutsInto p.sink_before p.sink text

-- nothing was written
abbrev pub WroteNothing : Ports → Type 0
WroteNothing p = p.sink.written ≡ p.sink_before.written

-- a prefix of these bytes was written
abbrev pub WrotePrefix : Ports → List ℕ → Type 0
WrotePrefix p text = (count : ℕ) × Wrote p (take count text)

-- a prefix of an answer to the input was written, and not all of it
abbrev pub CutsOff : (List ℕ → Status → List ℕ → Type 0) → Ports → List ℕ → Type 0
CutsOff Answers p input = (t : Status) × (text : List ℕ) × Answers input t text × PutsPrefix p.sink_before p.sink text

-- nothing was read or written, and nothing failed
pub record IsUntouched (p : Ports) : Type 0 where
  pub source_same : p.source ≡ p.source_before
  pub sink_same : p.sink ≡ p.sink_before

-- no count of faults rose
abbrev pub NothingFailed : Ports → Type 0
NothingFailed p = (p.source.faults ≡ p.source_before.faults) × (p.sink.faults ≡ p.sink_before.faults)

-- the source's count of faults rose in the run exactly where the status is Read, and the sink's where it is Write
pub record SaysFaults (p : Ports) (s : Status) : Type 0 where
  pub read : s ≡ status.Read → Rose p.source_before.faults p.source.faults
  pub write : s ≡ status.Write → Rose p.sink_before.faults p.sink.faults
  pub no_read : s ≢ status.Read → p.source.faults ≡ p.source_before.faults
  pub no_write : s ≢ status.Write → p.sink.faults ≡ p.sink_before.faults

-- the source refused, or memory was wanted: what stands before a later cause
abbrev pub IsEarlier : Status → Type 0
IsEarlier s = (s ≡ status.Read) ⊎ (s ≡ status.Memory)

-- how many bytes of a text a run took
pub record TakesText (p : Ports) (s : Status) : Type 0 where
  -- at every status at most the limit and one
  pub taken : TakesUpTo (text_bytes + 1) p.source_before p.source
  -- and exactly these where the status says that there are more than the limit
  pub excess : s ≡ status.TooLong excess.Bytes → TakesExactly (text_bytes + 1) p.source_before p.source
  -- all of them, where the status can only come behind the end of the input
  pub ended : says_read_to_end s ≡ true → IsAtEnd p.source.left

-- One run of a command that reads a text. `Answers input s text` says that for the bytes `input` the command's work
-- ends with the status s and writes this text. The clauses on content hold where the source tells what is left.
pub record IsTextRun (Answers : List ℕ → Status → List ℕ → Type 0) (p : Ports) (s : Status) : Type 0 where
  pub reading : TakesText p s
  pub faults : SaysFaults p s
  -- where the work was done the input was a text, and the whole answer was written
  pub done : says_done s ≡ true → (input : List ℕ) → p.source_before.left ≡ Some input → IsText input × ((text : List ℕ) × Answers input s text × Wrote p text)
  -- at every status nothing was written, or the input is a text and a prefix of that answer was written
  pub prefix : (input : List ℕ) → p.source_before.left ≡ Some input → WroteNothing p ⊎ (IsText input × ((t : Status) × (text : List ℕ) × Answers input t text × WrotePrefix p text))
  -- where the sink refused, not all of that answer
  pub less : s ≡ status.Write → (input : List ℕ) → p.source_before.left ≡ Some input → CutsOff Answers p input
  -- where reading refused, nothing was written
  pub unread : s ≡ status.Read → WroteNothing p
  pub unwritten : says_no_text s ≡ true → WroteNothing p
  -- NotUtf8 and TooLong come exactly where the input is no text, each for its own cause
  pub cause : says_no_text s ≡ true → (input : List ℕ) → p.source_before.left ≡ Some input → IsRefusedAs input s
  pub refused : (input : List ℕ) → p.source_before.left ≡ Some input → (IsText input → ⊥) → IsEarlier s ⊎ (says_no_text s ≡ true)
  -- no other status is answered
  pub listed : s ≢ status.Words
  -- a text, over ports that do not fail, is answered unless memory is wanted
  pub complete : (input : List ℕ) → p.source_before.left ≡ Some input → IsText input → NothingFailed p → (says_done s ≡ true) ⊎ (s ≡ status.Memory)
