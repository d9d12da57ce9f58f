-- The first structure fault of a unit and of a prelude (docs/LANGUAGE.md, "Units").
use Rattle.std.specs.Prelude.{◌≡◌, ℕ, ◌<◌, ◌≤◌, Bool, true, false, List, [], ◌∷◌, ◌++◌, Some, take}
use Rattle.kumir_tree.specs.Piece.{Piece}
use Rattle.kumir_tree.specs.Unit.{Algorithm, Ending, Grown, Prelude, Faulty}
use Rattle.kumir_tree.specs.declared.unit.Fault.{Fault}
use Rattle.kumir_tree.specs.declared.fault_codes.TheConstants.{NESTED_TOO_DEEP, MISPLACED, NOT_CLOSED}
use Rattle.unit_grammar.specs.Grammar.{Placed, IsUnit, IsPrelude}
use Rattle.unit_grammar.specs.Stages.{Stage, Start, stage_from, Begins, open_blocks}

-- no more than 100 blocks are open behind any of the forms
abbrev pub IsShallow : List Placed → Type 0
IsShallow forms = (n : ℕ) (stage : Stage) → stage_from Start (take n forms) ≡ Some stage → open_blocks stage ≤ 100

-- the forms have no structure fault so far
pub record IsFine (forms : List Placed) : Type 0 where
  pub begins : Begins forms
  pub shallow : IsShallow forms

-- what the first form that is misplaced or opens the 101st block, or the end, makes a fault
pub data HasFault : List Placed → Fault → Type 0 where
  misplaced : (before behind : List Placed) (line : ℕ) (f : Piece)
      → IsFine before → (Begins (before ++ (line, f) ∷ []) → ⊥) → HasFault (before ++ (line, f) ∷ behind) (record { line = line; code = MISPLACED })
  too_deep : (before behind : List Placed) (line : ℕ) (f : Piece) (stage : Stage)
      → IsFine before → stage_from Start (before ++ (line, f) ∷ []) ≡ Some stage → 100 < open_blocks stage → HasFault (before ++ (line, f) ∷ behind) (record { line = line; code = NESTED_TOO_DEEP })
  not_closed : (before : List Placed) (line : ℕ) (f : Piece)
      → IsFine (before ++ (line, f) ∷ []) → ((a : Algorithm) → IsUnit (before ++ (line, f) ∷ []) a → ⊥) → HasFault (before ++ (line, f) ∷ []) (record { line = line; code = NOT_CLOSED })

-- how the reading of a unit ends whose pieces are all understood: with its tree, or with its first structure fault
abbrev pub UnitEnds : List Placed → Ending → Type 0
UnitEnds forms (Grown a) = IsFine forms × IsUnit forms a
UnitEnds forms Prelude = ⊥
UnitEnds forms (Faulty faults) = (fault : Fault) × (faults ≡ fault ∷ []) × HasFault forms fault

-- the first form of a prelude that is misplaced
pub data HasOther : List Placed → Fault → Type 0 where
  other : (before behind : List Placed) (line : ℕ) (f : Piece)
      → IsPrelude before → (IsPrelude (before ++ (line, f) ∷ []) → ⊥) → HasOther (before ++ (line, f) ∷ behind) (record { line = line; code = MISPLACED })

-- and of a prelude
abbrev pub PreludeEnds : List Placed → Ending → Type 0
PreludeEnds forms (Grown a) = ⊥
PreludeEnds forms Prelude = IsPrelude forms
PreludeEnds forms (Faulty faults) = (fault : Fault) × (faults ≡ fault ∷ []) × HasOther forms fault

-- for a prelude or for a unit
abbrev pub StructureEnds : Bool → List Placed → Ending → Type 0
StructureEnds true forms ending = PreludeEnds forms ending
StructureEnds false forms ending = UnitEnds forms ending
