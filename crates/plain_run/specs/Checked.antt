-- What `check` writes, and a run of it.
use Rattle.std.specs.Prelude.{◌≡◌, ◌⊎◌, ℕ, false, List, [], ◌∷◌, Some}
use Rattle.kumir_tree.specs.Lines.{lines_of}
use Rattle.km_ports.specs.declared.status.Status.{Status}
use Rattle.km_ports.specs.declared.status.Status.TheVariants as status
use Rattle.margins.specs.declared.margin.Mark.{Mark}
use Rattle.margins.specs.Printed.{printed_lines}
use Rattle.incr_analysis.specs.Full.{Full}
use Rattle.plain_run.specs.Texts.{says_done}
use Rattle.plain_run.specs.Runs.{Ports, WroteNothing, CutsOff, IsTextRun}

-- Fine where the margin has no mark, else Faults
abbrev pub verdict : List Mark → Status
verdict [] = status.Fine
verdict (m ∷ marks) = status.Faults

-- the answer to these lines: their full analysis, printed, and the status that says whether it has marks
abbrev pub IsChecked : List (List ℕ) → Status → List ℕ → Type 0
IsChecked lines s text = (marks : List Mark) × Full lines marks × (s ≡ verdict marks) × (text ≡ printed_lines marks)

-- the answer of `check` to an input
abbrev pub AnswersCheck : List ℕ → Status → List ℕ → Type 0
AnswersCheck input s text = IsChecked (lines_of input) s text

-- One run of `check`: a run with that answer, where the margin was written to its end only if the work was done.
pub record IsCheckRun (p : Ports) (s : Status) : Type 0 where
  pub run : IsTextRun AnswersCheck p s
  -- where the work was not done nothing was written, or not all of the margin
  pub less : says_done s ≡ false → (input : List ℕ) → p.source_before.left ≡ Some input → WroteNothing p ⊎ CutsOff AnswersCheck p input
