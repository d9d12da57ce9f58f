-- A run of `plain` on a script. docs/PROGRAM.md, "plain".
use Rattle.std.specs.Prelude.{◌≡◌, ◌<◌, ◌≤◌, ℕ, ◌+◌, ◌⊎◌, Bool, true, false, List, length, Some}
use Rattle.std.specs.Io.KnownBytes.{IsAtEnd}
use Rattle.km_base.specs.Limits.{script_bytes}
use Rattle.km_ports.specs.Whole.{TakesExactly, TakesUpTo}
use Rattle.km_ports.specs.declared.status.Status.{Status}
use Rattle.km_ports.specs.declared.status.Status.TheVariants as status
use Rattle.km_ports.specs.declared.status.Excess.TheVariants as excess
use Rattle.script_lines.specs.Requests.{requests}
use Rattle.plain_run.specs.Runs.{Ports, NothingFailed, SaysFaults}
use Rattle.plain_run.specs.Plain.{IsPlain, PutsEntries}

-- the statuses that `plain` answers
abbrev pub is_listed : Status → Bool
is_listed status.Fine = true
is_listed status.Faults = false
is_listed status.Words = false
is_listed status.Read = true
is_listed status.Write = true
is_listed status.Memory = true
is_listed (status.NotUtf8 place) = false
is_listed (status.TooLong excess.Bytes) = true
is_listed (status.TooLong excess.Lines) = false
is_listed (status.TooLong (excess.Characters line)) = false

-- One run of `plain` whose runs may take so many steps. The clauses on content hold where the source tells what is left.
pub record IsScriptRun (budget : ℕ) (p : Ports) (s : Status) : Type 0 where
  -- at status 0 the script is within its limit, it was read to its end, and the plain transcript of its requests was written
  pub done : s ≡ status.Fine → (input : List ℕ) → p.source_before.left ≡ Some input → (length input ≤ script_bytes) × PutsEntries (IsPlain budget (requests input)) p.sink_before p.sink
  pub ended : s ≡ status.Fine → IsAtEnd p.source.left
  -- at every status at most the limit and one byte were taken
  pub taken : TakesUpTo (script_bytes + 1) p.source_before p.source
  pub faults : SaysFaults p s
  -- TooLong comes only where the script has more bytes than its limit
  pub long : s ≡ status.TooLong excess.Bytes → (input : List ℕ) → p.source_before.left ≡ Some input → script_bytes < length input
  -- and there exactly the limit and one byte were taken
  pub excess : s ≡ status.TooLong excess.Bytes → TakesExactly (script_bytes + 1) p.source_before p.source
  -- no other status is answered
  pub listed : is_listed s ≡ true
  -- a script within its limit, over ports that do not fail, is carried out unless memory is wanted
  pub complete : (input : List ℕ) → p.source_before.left ≡ Some input → length input ≤ script_bytes → NothingFailed p → (s ≡ status.Fine) ⊎ (s ≡ status.Memory)
