-- The marks of a margin.
use Rattle.std.specs.Prelude.{◌≡◌, ◌==◌, ℕ, ◌<◌, ◌^◌, Bool, true, List, [], ◌∷◌, All}
use Rattle.std.specs.List.{AllPairs, list_any, list_all}
use Rattle.margins.specs.declared.margin.Mark.{Mark}

-- each mark stands on a greater line than those before it
abbrev pub IsRising : List Mark → Type 0
IsRising marks = AllPairs (λ m n. m.line < n.line) marks

-- each mark stands on a line before this one
abbrev pub IsBefore : List Mark → ℕ → Type 0
IsBefore marks line = All (λ m. m.line < line) marks

-- line and code are numbers that a mark can have
pub record IsMark (m : Mark) : Type 0 where
  pub line : m.line < 2 ^ 32
  pub code : m.code < 2 ^ 16

-- the marks of some margin
pub record IsMargin (marks : List Mark) : Type 0 where
  pub each : All IsMark marks
  pub rising : IsRising marks

-- the codes of the faults. docs/LANGUAGE.md, "Faults".
abbrev pub fault_codes : List ℕ
fault_codes = 101 ∷ 102 ∷ 103 ∷ 104 ∷ 201 ∷ 202 ∷ 301 ∷ 302 ∷ 401 ∷ 402 ∷ 403 ∷ 404 ∷ 405 ∷ 407 ∷ []

abbrev pub is_fault_code : ℕ → Bool
is_fault_code code = list_any (λ known. known == code) fault_codes

-- each mark has the code of a fault
abbrev pub HasFaultCodes : List Mark → Type 0
HasFaultCodes marks = list_all (λ m. is_fault_code m.code) marks ≡ true
