-- Parts of statements and of pieces as plain data.
use Rattle.std.specs.Prelude.{ℕ, List, Option}
use Rattle.kumir_tree.specs.declared.kind.Kind.{Kind}
use Rattle.kumir_tree.specs.declared.kind.Mode.{Mode}
use Rattle.kumir_tree.specs.Tree.{Tree, Trees}

-- the bounds of a table, lower and upper, one pair a direction
abbrev pub Limits : Type 0
Limits = List (Tree × Tree)

-- what a value is given to
pub data Place : Type 0 where
  ToAnswer : Place
  ToScalar : List ℕ → Place
  ToElement : List ℕ → Trees → Place

-- what is printed
pub data Shown : Type 0 where
  ShowValue : Tree → Shown
  ShowText : List ℕ → Shown
  ShowLine : Shown

-- what is declared
pub data Declares : Type 0 where
  Scalars : Kind → List (List ℕ) → Declares
  Tables : Kind → List (List ℕ × Limits) → Declares

-- a parameter
pub record Formal : Type 0 where
  pub mode : Mode
  pub kind : Kind
  pub name : List ℕ
  pub bounds : Option Limits

-- a header
pub record Head : Type 0 where
  pub name : Option (List ℕ)
  pub gives : Option Kind
  pub params : List Formal
  pub line : ℕ
