-- What the laws over plain transcripts ask of the analysis of texts.
use Rattle.std.specs.Prelude.{◌≡◌, ℕ, List}
use Rattle.kumir_tree.specs.Unit.{Known}
use Rattle.margins.specs.declared.margin.Mark.{Mark}
use Rattle.incr_analysis.specs.Full.{AreUnits, Full}

-- each text has exactly one full analysis and exactly one list of units
pub record HaveOneAnalysis : Type 0 where
  pub some : (lines : List (List ℕ)) → (marks : List Mark) × Full lines marks
  pub one : (lines : List (List ℕ)) (a b : List Mark) → Full lines a → Full lines b → a ≡ b
  pub units : (lines : List (List ℕ)) → (units : List (ℕ × Known)) × AreUnits lines units
  pub same : (lines : List (List ℕ)) (a b : List (ℕ × Known)) → AreUnits lines a → AreUnits lines b → a ≡ b
