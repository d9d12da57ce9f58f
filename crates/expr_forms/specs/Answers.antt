-- What is answered for a piece.
use Rattle.kumir_tree.specs.declared.token.Token.{Token}
use Rattle.std.specs.Prelude.{List}
use Rattle.kumir_tree.specs.Piece.{Piece}
use Rattle.expr_forms.specs.Brackets.{IsDeep}
use Rattle.expr_forms.specs.Forms.{IsForm}

-- nowhere are too many brackets open
abbrev pub IsShallow : List Token → Type 0
IsShallow ts = IsDeep ts → ⊥

abbrev pub HasForm : List Token → Type 0
HasForm ts = (p : Piece) × IsForm ts p

abbrev pub HasNoForm : List Token → Type 0
HasNoForm ts = (p : Piece) → IsForm ts p → ⊥
