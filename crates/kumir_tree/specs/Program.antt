-- Statements as plain data.
use Rattle.std.specs.Prelude.{ℕ, List, Option}
use Rattle.kumir_tree.specs.Tree.{Tree, Trees}
use Rattle.kumir_tree.specs.Part.{Place, Shown, Declares}

infixr 50 ◌next◌
mutual
  pub data Stmt : Type 0 where
    Stands : ℕ → Act → Stmt

  pub data Act : Type 0 where
    Declare : Declares → Act
    Assign : Place → Tree → Act
    Invoke : List ℕ → Trees → Act
    Times : Tree → Block → Act
    While : Tree → Block → Act
    Count : List ℕ → Tree → Tree → Option Tree → Block → Act
    Forever : Block → Act
    Until : Block → ℕ → Tree → Act
    Choose : Tree → Block → Block → Act
    Select : Arms → Block → Act
    Assert : Tree → Act
    Input : List Place → Act
    Output : List Shown → Act
    Leave : Act
    Quit : Act

  pub data Block : Type 0 where
    done : Block
    ◌next◌ : Stmt → Block → Block

  pub data Arms : Type 0 where
    no_arms : Arms
    arm : ℕ → Tree → Block → Arms → Arms
