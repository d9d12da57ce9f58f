-- What is one only: the answer for a piece.
use Rattle.std.specs.Prelude.{◌≡◌, ◌⊎◌, List}
use Rattle.kumir_tree.specs.declared.token.Token.{Token}
use Rattle.kumir_tree.specs.Piece.{Piece}
use Rattle.kumir_tree.specs.Tree.{Tree}
use Rattle.expr_forms.specs.Answers.{IsShallow, HasForm, HasNoForm}
use Rattle.expr_forms.specs.Brackets.{IsDeep}
use Rattle.expr_forms.specs.Forms.{IsForm}
use Rattle.expr_forms.specs.Grammar.{IsExpr}

-- tokens are at most one expression
abbrev pub OneExpression : Type 0
OneExpression = (ts : List Token) (x y : Tree) → IsExpr ts x → IsExpr ts y → x ≡ y

-- tokens have at most one form
abbrev pub OneForm : Type 0
OneForm = (ts : List Token) (p q : Piece) → IsForm ts p → IsForm ts q → p ≡ q

-- tokens have a form, or none
abbrev pub HasFormOrNone : Type 0
HasFormOrNone = (ts : List Token) → HasForm ts ⊎ HasNoForm ts

-- too many brackets are open somewhere, or nowhere
abbrev pub IsDeepOrShallow : Type 0
IsDeepOrShallow = (ts : List Token) → IsDeep ts ⊎ IsShallow ts
