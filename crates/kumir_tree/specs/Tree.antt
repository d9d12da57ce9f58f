-- Expressions as plain data, without pointers.
use Rattle.std.specs.Prelude.{ℕ, ℤ, ◌+◌, Bool, List}
use Rattle.kumir_tree.specs.declared.kind.Op.{Op}

infixr 50 ◌then◌
mutual
  pub data Tree : Type 0 where
    Number : ℤ → Tree
    Truth : Bool → Tree
    -- what the algorithm gives
    Answer : Tree
    Named : List ℕ → Tree
    Element : List ℕ → Trees → Tree
    Call : List ℕ → Trees → Tree
    Plus : Tree → Tree
    Minus : Tree → Tree
    Not : Tree → Tree
    Binary : Op → Tree → Tree → Tree

  pub data Trees : Type 0 where
    no_trees : Trees
    ◌then◌ : Tree → Trees → Trees

-- how many expressions
abbrev pub count : Trees → ℕ
count no_trees = 0
count (x then xs) = count xs + 1
