-- Forms of pieces as plain data.
use Rattle.std.specs.Prelude.{ℕ, List, Option}
use Rattle.kumir_tree.specs.Tree.{Tree, Trees}
use Rattle.kumir_tree.specs.Part.{Place, Shown, Declares, Head}

pub data Piece : Type 0 where
  Header : Head → Piece
  Given : Option Tree → Piece
  Wanted : Option Tree → Piece
  Declare : Declares → Piece
  Assign : Place → Tree → Piece
  Invoke : List ℕ → Trees → Piece
  Times : Tree → Piece
  While : Tree → Piece
  Forever : Piece
  Count : List ℕ → Tree → Tree → Option Tree → Piece
  Close : Piece
  CloseWhen : Tree → Piece
  Choose : Tree → Piece
  Then : Piece
  Otherwise : Piece
  ChoiceEnd : Piece
  Select : Piece
  When : Tree → Piece
  Begin : Piece
  Finish : Piece
  Assert : Tree → Piece
  Leave : Piece
  Quit : Piece
  Uses : List ℕ → Piece
  Input : List Place → Piece
  Output : List Shown → Piece
