-- The grammar of expressions: a case for each production, over whole lists of tokens.
use Rattle.std.specs.Prelude.{◌≡◌, ℕ, ℤ, ◌≤◌, true, false, List, [], ◌∷◌, ◌++◌, Option, Some, None}
use Rattle.kumir_tree.specs.declared.kind.Op.{Op}
use Rattle.kumir_tree.specs.declared.kind.Op.TheVariants as op
use Rattle.kumir_tree.specs.declared.token.Token.{Token}
use Rattle.kumir_tree.specs.declared.token.Token.TheVariants as t
use Rattle.kumir_tree.specs.declared.token.Sign.TheVariants as s
use Rattle.kumir_tree.specs.declared.token.Key.TheVariants as k
use Rattle.kumir_tree.specs.Tree as e
use Rattle.kumir_tree.specs.Tree.{Tree, Trees, no_trees, ◌then◌, count}

-- what binds tighter stands higher
pub data Level : Type 0 where
  Disjunction : Level
  Conjunction : Level
  Negation : Level
  Comparison : Level
  Sum : Level
  Product : Level
  Signed : Level
  Power : Level
  Primary : Level

-- the relation that a token stands for
abbrev pub relation_of : Token → Option Op
relation_of (t.Sign s.Equal) = Some op.Equal
relation_of (t.Sign s.NotEqual) = Some op.NotEqual
relation_of (t.Sign s.Less) = Some op.Less
relation_of (t.Sign s.Greater) = Some op.Greater
relation_of (t.Sign s.LessOrEqual) = Some op.LessOrEqual
relation_of (t.Sign s.GreaterOrEqual) = Some op.GreaterOrEqual
relation_of _ = None

-- the number of indexes of an element: one for each pair of bounds of its table
abbrev pub IndexesFit : Trees → Type 0
IndexesFit xs = count xs ≤ 2

mutual
  -- the tokens are an expression of the level
  pub data Reads : Level → List Token → Tree → Type 0 where
    conjunction : {ts : List Token} {x : Tree} → Reads Conjunction ts x → Reads Disjunction ts x
    or : {ts us : List Token} {x y : Tree} → Reads Disjunction ts x → Reads Conjunction us y → Reads Disjunction (ts ++ t.Key k.Or ∷ us) (e.Binary op.Or x y)
    negation : {ts : List Token} {x : Tree} → Reads Negation ts x → Reads Conjunction ts x
    and : {ts us : List Token} {x y : Tree} → Reads Conjunction ts x → Reads Negation us y → Reads Conjunction (ts ++ t.Key k.And ∷ us) (e.Binary op.And x y)
    comparison : {ts : List Token} {x : Tree} → Reads Comparison ts x → Reads Negation ts x
    not : {ts : List Token} {x : Tree} → Reads Negation ts x → Reads Negation (t.Key k.Not ∷ ts) (e.Not x)
    sum : {ts : List Token} {x : Tree} → Reads Sum ts x → Reads Comparison ts x
    relation : {ts us : List Token} {o : Op} {x y : Tree} (r : Token) → relation_of r ≡ Some o → Reads Sum ts x → Reads Sum us y → Reads Comparison (ts ++ r ∷ us) (e.Binary o x y)
    product : {ts : List Token} {x : Tree} → Reads Product ts x → Reads Sum ts x
    plus : {ts us : List Token} {x y : Tree} → Reads Sum ts x → Reads Product us y → Reads Sum (ts ++ t.Sign s.Plus ∷ us) (e.Binary op.Plus x y)
    minus : {ts us : List Token} {x y : Tree} → Reads Sum ts x → Reads Product us y → Reads Sum (ts ++ t.Sign s.Minus ∷ us) (e.Binary op.Minus x y)
    signed : {ts : List Token} {x : Tree} → Reads Signed ts x → Reads Product ts x
    times : {ts us : List Token} {x y : Tree} → Reads Product ts x → Reads Signed us y → Reads Product (ts ++ t.Sign s.Times ∷ us) (e.Binary op.Times x y)
    power : {ts : List Token} {x : Tree} → Reads Power ts x → Reads Signed ts x
    unary_minus : {ts : List Token} {x : Tree} → Reads Signed ts x → Reads Signed (t.Sign s.Minus ∷ ts) (e.Minus x)
    unary_plus : {ts : List Token} {x : Tree} → Reads Signed ts x → Reads Signed (t.Sign s.Plus ∷ ts) (e.Plus x)
    primary : {ts : List Token} {x : Tree} → Reads Primary ts x → Reads Power ts x
    raised : {ts us : List Token} {x y : Tree} → Reads Primary ts x → Reads Signed us y → Reads Power (ts ++ t.Sign s.Power ∷ us) (e.Binary op.Power x y)
    number : {n : ℤ} → Reads Primary (t.Number n ∷ []) (e.Number n)
    yes_word : Reads Primary (t.Key k.Yes ∷ []) (e.Truth true)
    no_word : Reads Primary (t.Key k.No ∷ []) (e.Truth false)
    result : Reads Primary (t.Key k.Result ∷ []) e.Answer
    named : {x : List ℕ} → Reads Primary (t.Named x ∷ []) (e.Named x)
    call : {x : List ℕ} {ts : List Token} {xs : Trees} → ReadsArguments ts xs → Reads Primary (t.Named x ∷ ts) (e.Call x xs)
    element : {x : List ℕ} {ts : List Token} {xs : Trees} → ReadsIndexes ts xs → Reads Primary (t.Named x ∷ ts) (e.Element x xs)
    brackets : {ts : List Token} {x : Tree} → Reads Disjunction ts x → Reads Primary (t.Sign s.Open ∷ (ts ++ t.Sign s.Close ∷ [])) x

  -- none or more in brackets
  pub data ReadsArguments : List Token → Trees → Type 0 where
    no_arguments : ReadsArguments (t.Sign s.Open ∷ t.Sign s.Close ∷ []) no_trees
    arguments : {ts : List Token} {xs : Trees} → ReadsAll ts xs → ReadsArguments (t.Sign s.Open ∷ (ts ++ t.Sign s.Close ∷ [])) xs

  -- one or two in square brackets
  pub data ReadsIndexes : List Token → Trees → Type 0 where
    indexes : {ts : List Token} {xs : Trees} → ReadsAll ts xs → IndexesFit xs → ReadsIndexes (t.Sign s.OpenSquare ∷ (ts ++ t.Sign s.CloseSquare ∷ [])) xs

  -- one or more, with commas between them
  pub data ReadsAll : List Token → Trees → Type 0 where
    last : {ts : List Token} {x : Tree} → Reads Disjunction ts x → ReadsAll ts (x then no_trees)
    next : {ts us : List Token} {x : Tree} {xs : Trees} → Reads Disjunction ts x → ReadsAll us xs → ReadsAll (ts ++ t.Sign s.Comma ∷ us) (x then xs)

-- the tokens are an expression
abbrev pub IsExpr : List Token → Tree → Type 0
IsExpr = Reads Disjunction
