-- Transcripts as they are read: which bytes are one, and which line is the first that no entry prints.
use Rattle.std.specs.Prelude.{ℕ, ◌≡◌, ◌≢◌, ◌+◌, List, [], ◌++◌, length, All}
use Rattle.transcript.specs.declared.entry.Entry.{Entry}
use Rattle.transcript.specs.Print.{IsEntry, IsPrintable, printed_entry, print}

-- an entry that a transcript can show
abbrev pub IsShown : Entry → Type 0
IsShown e = IsEntry e × IsPrintable e

-- the print of no entry is a prefix of the bytes
abbrev pub BeginsNoEntry : List ℕ → Type 0
BeginsNoEntry bytes = (e : Entry) → IsShown e → (after : List ℕ) → bytes ≢ printed_entry e ++ after

-- The line is the first that no entry prints: each line before it is the print of one entry, and the bytes from its
-- begin on, of which there is at least one, begin with the print of none. A last part without a line feed is a line too.
pub record IsFirstBad (bytes : List ℕ) (line : ℕ) : Type 0 where
  pub before : List Entry
  pub rest : List ℕ
  pub shown : All IsShown before
  pub cut : bytes ≡ print before ++ rest
  pub counted : line ≡ length before + 1
  pub more : rest ≢ []
  pub none : BeginsNoEntry rest
