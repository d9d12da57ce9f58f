-- One step of the cutting: what stands at a place.
use Rattle.std.specs.Prelude.{◌≡◌, ℕ, ◌<◌, ◌≤◌, List, length, drop}
use Rattle.kumir_lexer.specs.declared.cutting.Class.{Class}
use Rattle.kumir_lexer.specs.declared.cutting.Reading.{Reading}
use Rattle.kumir_lexer.specs.declared.cutting.Reading.TheVariants as reading
use Rattle.kumir_lexer.specs.declared.cutting.Step.{Step}
use Rattle.kumir_lexer.specs.declared.cutting.Step.TheVariants as step
use Rattle.kumir_lexer.specs.Cutting.{Spells, IsRefused, IsFaulty, IsToken}
use Rattle.std.specs.Prelude.{Bool}

-- what a text of the class says
abbrev pub IsReading : Class → List ℕ → Reading → Type 0
IsReading class text (reading.Token t) = Spells class text t
IsReading class text (reading.Fault code) = IsRefused class text code

-- what stands at a place of a line
abbrev pub IsStep : Bool → List ℕ → ℕ → Step → Type 0
IsStep is_after_name line at (step.Token t) = (t.from ≡ at) × (at < t.to) × (t.to ≤ length line) × IsToken is_after_name line t
IsStep is_after_name line at (step.Fault fault) = (fault.place ≡ at) × IsFaulty is_after_name (drop at line) fault.code
