-- The grammar of forms: a case for each production, over whole lists of tokens.
use Rattle.std.specs.Prelude.{◌≡◌, ℕ, Bool, true, false, List, [], ◌∷◌, ◌++◌, Option, Some, None}
use Rattle.kumir_tree.specs.declared.kind.Kind.{Kind}
use Rattle.kumir_tree.specs.declared.kind.Kind.TheVariants as kinds
use Rattle.kumir_tree.specs.declared.kind.Mode.{Mode}
use Rattle.kumir_tree.specs.declared.kind.Mode.TheVariants as modes
use Rattle.kumir_tree.specs.declared.token.Token.{Token}
use Rattle.kumir_tree.specs.declared.token.Token.TheVariants as t
use Rattle.kumir_tree.specs.declared.token.Sign.TheVariants as s
use Rattle.kumir_tree.specs.declared.token.Key.{Key}
use Rattle.kumir_tree.specs.declared.token.Key.TheVariants as k
use Rattle.kumir_tree.specs.Tree.{Tree, Trees, no_trees}
use Rattle.kumir_tree.specs.Part.{Limits, Place, ToAnswer, ToScalar, ToElement, Shown, ShowValue, ShowText, ShowLine, Scalars, Tables, Formal}
use Rattle.kumir_tree.specs.Sound.{HasDimensions}
use Rattle.kumir_tree.specs.Piece as piece
use Rattle.kumir_tree.specs.Piece.{Piece}
use Rattle.expr_forms.specs.Lists.{Listed}
use Rattle.expr_forms.specs.Grammar.{IsExpr, ReadsArguments, ReadsIndexes}

-- ---- kinds, modes and names

abbrev pub kind_of : Key → Option Kind
kind_of k.Whole = Some kinds.Whole
kind_of k.Truth = Some kinds.Truth
kind_of _ = None

abbrev pub table_kind_of : Key → Option Kind
table_kind_of k.WholeTable = Some kinds.Whole
table_kind_of k.TruthTable = Some kinds.Truth
table_kind_of _ = None

abbrev pub mode_of : Key → Option Mode
mode_of k.Arg = Some modes.Arg
mode_of k.Res = Some modes.Res
mode_of k.ArgRes = Some modes.ArgRes
mode_of _ = None

pub data IsName : List Token → List ℕ → Type 0 where
  name : {x : List ℕ} → IsName (t.Named x ∷ []) x

-- a kind, and whether tables of it are meant
pub data IsKind : List Token → Kind × Bool → Type 0 where
  scalar : {w : Key} {d : Kind} → kind_of w ≡ Some d → IsKind (t.Key w ∷ []) (d, false)
  table : {w : Key} {d : Kind} → kind_of w ≡ Some d → IsKind (t.Key w ∷ t.Key k.Table ∷ []) (d, true)
  table_word : {w : Key} {d : Kind} → table_kind_of w ≡ Some d → IsKind (t.Key w ∷ []) (d, true)

pub data IsMode : List Token → Mode → Type 0 where
  one_word : {w : Key} {m : Mode} → mode_of w ≡ Some m → IsMode (t.Key w ∷ []) m
  two_words : IsMode (t.Key k.Arg ∷ t.Key k.Res ∷ []) modes.ArgRes

-- ---- bounds, tables and targets

pub data IsBound : List Token → Tree × Tree → Type 0 where
  bound : {ts us : List Token} {x y : Tree} → IsExpr ts x → IsExpr us y → IsBound (ts ++ t.Sign s.Colon ∷ us) (x, y)

-- in square brackets, one for each dimension
pub data IsBounds : List Token → Limits → Type 0 where
  bounds : {ts : List Token} {bs : Limits} → Listed IsBound ts bs → HasDimensions bs → IsBounds (t.Sign s.OpenSquare ∷ (ts ++ t.Sign s.CloseSquare ∷ [])) bs

pub data IsTable : List Token → List ℕ × Limits → Type 0 where
  table_name : {x : List ℕ} {ts : List Token} {bs : Limits} → IsBounds ts bs → IsTable (t.Named x ∷ ts) (x, bs)

pub data IsTarget : List Token → Place → Type 0 where
  scalar_target : {x : List ℕ} → IsTarget (t.Named x ∷ []) (ToScalar x)
  element_target : {x : List ℕ} {ts : List Token} {xs : Trees} → ReadsIndexes ts xs → IsTarget (t.Named x ∷ ts) (ToElement x xs)

pub data IsItem : List Token → Shown → Type 0 where
  value : {ts : List Token} {x : Tree} → IsExpr ts x → IsItem ts (ShowValue x)
  literal : {cs : List ℕ} → IsItem (t.Literal cs ∷ []) (ShowText cs)
  new_line : IsItem (t.Key k.NewLine ∷ []) ShowLine

-- ---- headers

-- what may be missing
pub data Perhaps {A : Type 0} (One : List Token → A → Type 0) : List Token → Option A → Type 0 where
  missing : Perhaps One [] None
  there : {ts : List Token} {x : A} → One ts x → Perhaps One ts (Some x)

-- what is said, or else what holds before
abbrev pub said_or : {A : Type 0} → A → Option A → A
said_or before None = before
said_or before (Some x) = x

-- The kind of a parameter, and whether it is a table: what it says, or else what the one before has. The first one has
-- no other before it.
abbrev pub kind_from : Option (Kind × Bool) → Option (Kind × Bool) → Option (Kind × Bool)
kind_from before None = before
kind_from before (Some d) = Some d

abbrev pub has_bounds : Option Limits → Bool
has_bounds None = false
has_bounds (Some bs) = true

-- A parameter behind others: what it does not say it has from the one before. It is a table exactly where it has bounds.
pub data IsParam (before : Mode) (above : Option (Kind × Bool)) : List Token → Formal → Type 0 where
  param : {ts us vs : List Token} {m : Option Mode} {said : Option (Kind × Bool)} {d : Kind} {x : List ℕ} {bs : Option Limits}
      → Perhaps IsMode ts m → Perhaps IsKind us said → Perhaps IsBounds vs bs
      → kind_from above said ≡ Some (d, has_bounds bs)
      → IsParam before above (ts ++ (us ++ t.Named x ∷ vs)) (record { mode = said_or before m; kind = d; name = x; bounds = bs })

pub data IsParams : Mode → Option (Kind × Bool) → List Token → List Formal → Type 0 where
  last_param : {before : Mode} {above : Option (Kind × Bool)} {ts : List Token} {p : Formal} → IsParam before above ts p → IsParams before above ts (p ∷ [])
  next_param : {before : Mode} {above : Option (Kind × Bool)} {ts us : List Token} {p : Formal} {ps : List Formal}
      → IsParam before above ts p → IsParams p.mode (Some (p.kind, has_bounds p.bounds)) us ps
      → IsParams before above (ts ++ t.Sign s.Comma ∷ us) (p ∷ ps)

-- the parameters of a header, none or more, or no brackets at all
pub data IsSignature : List Token → List Formal → Type 0 where
  no_brackets : IsSignature [] []
  no_params : IsSignature (t.Sign s.Open ∷ t.Sign s.Close ∷ []) []
  params : {ts : List Token} {ps : List Formal} → IsParams modes.Arg None ts ps → IsSignature (t.Sign s.Open ∷ (ts ++ t.Sign s.Close ∷ [])) ps

-- what an algorithm gives is no table
pub data IsGiven : List Token → Kind → Type 0 where
  gives : {w : Key} {d : Kind} → kind_of w ≡ Some d → IsGiven (t.Key w ∷ []) d

-- ---- forms

pub data IsForm : List Token → Piece → Type 0 where
  header : {ts us vs : List Token} {given : Option Kind} {x : Option (List ℕ)} {ps : List Formal}
      → Perhaps IsGiven ts given → Perhaps IsName us x → IsSignature vs ps
      → IsForm (t.Key k.Algorithm ∷ (ts ++ (us ++ vs))) (piece.Header (record { name = x; gives = given; params = ps; line = 0 }))
  given : {ts : List Token} {x : Option Tree} → Perhaps IsExpr ts x → IsForm (t.Key k.Given ∷ ts) (piece.Given x)
  wanted : {ts : List Token} {x : Option Tree} → Perhaps IsExpr ts x → IsForm (t.Key k.Wanted ∷ ts) (piece.Wanted x)
  scalars : {w : Key} {d : Kind} {ts : List Token} {xs : List (List ℕ)} → kind_of w ≡ Some d → Listed IsName ts xs → IsForm (t.Key w ∷ ts) (piece.Declare (Scalars d xs))
  tables : {ts us : List Token} {d : Kind} {xs : List (List ℕ × Limits)} → IsKind ts (d, true) → Listed IsTable us xs → IsForm (ts ++ us) (piece.Declare (Tables d xs))
  assign_result : {ts : List Token} {x : Tree} → IsExpr ts x → IsForm (t.Key k.Result ∷ t.Sign s.Assign ∷ ts) (piece.Assign ToAnswer x)
  assign : {ts us : List Token} {p : Place} {x : Tree} → IsTarget ts p → IsExpr us x → IsForm (ts ++ t.Sign s.Assign ∷ us) (piece.Assign p x)
  call_alone : {x : List ℕ} → IsForm (t.Named x ∷ []) (piece.Invoke x no_trees)
  call : {x : List ℕ} {ts : List Token} {xs : Trees} → ReadsArguments ts xs → IsForm (t.Named x ∷ ts) (piece.Invoke x xs)
  loop_times : {ts : List Token} {x : Tree} → IsExpr ts x → IsForm (t.Key k.Loop ∷ (ts ++ t.Key k.Times ∷ [])) (piece.Times x)
  loop_while : {ts : List Token} {x : Tree} → IsExpr ts x → IsForm (t.Key k.Loop ∷ t.Key k.While ∷ ts) (piece.While x)
  loop_forever : IsForm (t.Key k.Loop ∷ []) piece.Forever
  loop_count : {v : List ℕ} {ts us : List Token} {x y : Tree} → IsExpr ts x → IsExpr us y
      → IsForm (t.Key k.Loop ∷ t.Key k.For ∷ t.Named v ∷ t.Key k.From ∷ (ts ++ t.Key k.To ∷ us)) (piece.Count v x y None)
  loop_count_by : {v : List ℕ} {ts us vs : List Token} {x y z : Tree} → IsExpr ts x → IsExpr us y → IsExpr vs z
      → IsForm (t.Key k.Loop ∷ t.Key k.For ∷ t.Named v ∷ t.Key k.From ∷ (ts ++ t.Key k.To ∷ (us ++ t.Key k.Step ∷ vs))) (piece.Count v x y (Some z))
  close : IsForm (t.Key k.LoopEnd ∷ []) piece.Close
  close_when : {ts : List Token} {x : Tree} → IsExpr ts x → IsForm (t.Key k.LoopEnd ∷ t.Key k.When ∷ ts) (piece.CloseWhen x)
  close_when_word : {ts : List Token} {x : Tree} → IsExpr ts x → IsForm (t.Key k.LoopEndWhen ∷ ts) (piece.CloseWhen x)
  choose : {ts : List Token} {x : Tree} → IsExpr ts x → IsForm (t.Key k.If ∷ ts) (piece.Choose x)
  then_branch : IsForm (t.Key k.Then ∷ []) piece.Then
  otherwise : IsForm (t.Key k.Otherwise ∷ []) piece.Otherwise
  choice_end : IsForm (t.Key k.ChoiceEnd ∷ []) piece.ChoiceEnd
  select : IsForm (t.Key k.Select ∷ []) piece.Select
  when_case : {ts : List Token} {x : Tree} → IsExpr ts x → IsForm (t.Key k.When ∷ (ts ++ t.Sign s.Colon ∷ [])) (piece.When x)
  begin : IsForm (t.Key k.Begin ∷ []) piece.Begin
  finish : IsForm (t.Key k.Finish ∷ []) piece.Finish
  assert : {ts : List Token} {x : Tree} → IsExpr ts x → IsForm (t.Key k.Assert ∷ ts) (piece.Assert x)
  leave : IsForm (t.Key k.Leave ∷ []) piece.Leave
  quit : IsForm (t.Key k.Quit ∷ []) piece.Quit
  uses : {x : List ℕ} → IsForm (t.Key k.Uses ∷ t.Named x ∷ []) (piece.Uses x)
  input : {ts : List Token} {ps : List Place} → Listed IsTarget ts ps → IsForm (t.Key k.Input ∷ ts) (piece.Input ps)
  output : {ts : List Token} {xs : List Shown} → Listed IsItem ts xs → IsForm (t.Key k.Output ∷ ts) (piece.Output xs)
