-- How far the forms of a unit are read: to a state, or to the first fault.
use Rattle.std.specs.Prelude.{ℕ, if◌then◌else◌, List, [], ◌∷◌, Option, Some, None, fold, nat_lt}
use Rattle.kumir_tree.specs.declared.unit.Fault.{Fault}
use Rattle.kumir_tree.specs.declared.fault_codes.TheConstants.{NESTED_TOO_DEEP, MISPLACED, NOT_CLOSED}
use Rattle.kumir_tree.specs.Unit.{Ending, Grown, Faulty}
use Rattle.unit_grammar.specs.Grammar.{Placed}
use Rattle.unit_grammar.specs.Stages.{open_blocks}
use Rattle.unit_grammar.specs.Machine.{State, Empty, Whole, step, stage_of}

pub data Progress : Type 0 where
  -- with the line of the last form
  Going : State → ℕ → Progress
  Stopped : Fault → Progress

abbrev pub fault_at : ℕ → ℕ → Fault
fault_at line code = record { line = line; code = code }

abbrev pub reached : State → ℕ → Progress
reached s line = if nat_lt 100 (open_blocks (stage_of s)) then Stopped (fault_at line NESTED_TOO_DEEP) else Going s line

abbrev pub reached_some : ℕ → Option State → Progress
reached_some line None = Stopped (fault_at line MISPLACED)
reached_some line (Some s) = reached s line

abbrev pub advanced : Progress → Placed → Progress
advanced (Going s last) f = reached_some f.0 (step s f)
advanced (Stopped fault) f = Stopped fault

abbrev pub read_all : List Placed → Progress
read_all = fold advanced (Going Empty 0)

abbrev pub ended_at : State → ℕ → Ending
ended_at (Whole a) last = Grown a
ended_at other last = Faulty (fault_at last NOT_CLOSED ∷ [])

abbrev pub finished : Progress → Ending
finished (Going s last) = ended_at s last
finished (Stopped fault) = Faulty (fault ∷ [])
