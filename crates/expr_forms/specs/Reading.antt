-- Reading an expression from the left, with one token of look-ahead.
use Rattle.std.specs.Prelude.{ℕ, zero, suc, ◌+◌, nat_le, List, [], ◌∷◌, ◌++◌, length, drop, Option, Some, None, if◌then◌else◌, true, false}
use Rattle.kumir_tree.specs.Tree as e
use Rattle.kumir_tree.specs.Tree.{Tree, Trees, no_trees}
use Rattle.kumir_tree.specs.Seen.{tree, listed}
use Rattle.kumir_tree.specs.declared.kind.Op.{Op}
use Rattle.kumir_tree.specs.declared.kind.Op.TheVariants as op
use Rattle.kumir_tree.specs.declared.token.Token.{Token}
use Rattle.kumir_tree.specs.declared.token.Token.TheVariants as t
use Rattle.kumir_tree.specs.declared.token.Sign.{Sign}
use Rattle.kumir_tree.specs.declared.token.Sign.TheVariants as s
use Rattle.kumir_tree.specs.declared.token.Key.TheVariants as k
use Rattle.expr_forms.specs.Grammar.{relation_of}
use Rattle.expr_forms.specs.Looks.{Outcome, ◌>>=◌, mapped, first, sees, sees_key}
use Rattle.expr_forms.specs.declared.pending.Pending.{Pending}
use Rattle.expr_forms.specs.declared.pending.Pending.TheVariants as p
use Rattle.expr_forms.specs.declared.pending.Step.{Step}
use Rattle.expr_forms.specs.declared.pending.Step.TheVariants as step

-- ---- operators with two sides

abbrev pub disjunctive : Option Token → Option Op
disjunctive (Some (t.Key k.Or)) = Some op.Or
disjunctive _ = None

abbrev pub conjunctive : Option Token → Option Op
conjunctive (Some (t.Key k.And)) = Some op.And
conjunctive _ = None

abbrev pub relational : Option Token → Option Op
relational None = None
relational (Some r) = relation_of r

abbrev pub additive : Option Token → Option Op
additive (Some (t.Sign s.Plus)) = Some op.Plus
additive (Some (t.Sign s.Minus)) = Some op.Minus
additive _ = None

abbrev pub multiplicative : Option Token → Option Op
multiplicative (Some (t.Sign s.Times)) = Some op.Times
multiplicative _ = None

-- ---- what waits for the operand on its right

pub data Waiting : Type 0 where
  WaitsPlus : Waiting
  WaitsMinus : Waiting
  WaitsNot : Waiting
  WaitsPower : Tree → Waiting

abbrev pub waiting_of : Pending → Waiting
waiting_of p.Plus = WaitsPlus
waiting_of p.Minus = WaitsMinus
waiting_of p.Not = WaitsNot
waiting_of (p.Power left) = WaitsPower (tree left)

abbrev pub wrap_one : Waiting → Tree → Tree
wrap_one WaitsPlus x = e.Plus x
wrap_one WaitsMinus x = e.Minus x
wrap_one WaitsNot x = e.Not x
wrap_one (WaitsPower left) x = e.Binary op.Power left x

-- the last of what waits gets the operand first
abbrev pub wrapped : List Pending → Tree → Tree
wrapped [] x = x
wrapped (w ∷ ws) x = wrap_one (waiting_of w) (wrapped ws x)

-- what is read, given to what waits
abbrev pub given : Waiting → Outcome Tree → Outcome Tree
given w None = None
given w (Some r) = Some (wrap_one w r.0, r.1)

-- a part of a chain of signs and powers
pub data Part : Type 0 where
  Waits : Waiting → Part
  Ends : Tree → Part

abbrev pub part_of : Step → Part
part_of (step.Waits w) = Waits (waiting_of w)
part_of (step.Ends x) = Ends (tree x)

-- ---- lists

-- items with commas between them, behind those that are found
unfoldable pub listed_from : {A : Type 0} → (List Token → Outcome A) → ℕ → List A → List Token → Outcome (List A)
listed_from item zero found ts = None
listed_from item (suc n) found ts = do
  x ← item ts
  if sees s.Comma x.1 then listed_from item n (found ++ x.0 ∷ []) (drop 1 x.1) else Some (found ++ x.0 ∷ [], x.1)

abbrev pub listing : {A : Type 0} → (List Token → Outcome A) → List Token → Outcome (List A)
listing item ts = listed_from item (length ts) [] ts

-- what is read, where this sign comes behind it
unfoldable pub closed : {A : Type 0} → Sign → Outcome A → Outcome A
closed w None = None
closed w (Some r) = if sees w r.1 then Some (r.0, drop 1 r.1) else None

-- ---- the levels

module _ (expr : List Token → Outcome Tree) where
  -- behind the opening bracket, with the closing one
  unfoldable pub arguments : List Token → Outcome Trees
  arguments ts = if sees s.Close ts then Some (no_trees, drop 1 ts) else mapped listed (closed s.Close (listing expr ts))

  abbrev pub few_indexes : Outcome (List Tree) → Outcome Trees
  few_indexes None = None
  few_indexes (Some xs) = if nat_le (length xs.0) 2 then Some (listed xs.0, xs.1) else None

  unfoldable pub indexes : List Token → Outcome Trees
  indexes ts = few_indexes (closed s.CloseSquare (listing expr ts))

  unfoldable pub bracketed : List Token → Outcome Tree
  bracketed ts = closed s.Close (expr ts)

  abbrev pub called : List ℕ → List Token → Outcome Tree
  called x ts = do
    xs ← arguments ts
    Some (e.Call x xs.0, xs.1)

  abbrev pub indexed : List ℕ → List Token → Outcome Tree
  indexed x ts = do
    xs ← indexes ts
    Some (e.Element x xs.0, xs.1)

  unfoldable pub named : List ℕ → List Token → Outcome Tree
  named x ts =
      if sees s.Open ts then called x (drop 1 ts) else
      (if sees s.OpenSquare ts then indexed x (drop 1 ts) else Some (e.Named x, ts))

  abbrev pub primary_by : List Token → Option Token → Outcome Tree
  primary_by ts (Some (t.Number n)) = Some (e.Number n, ts)
  primary_by ts (Some (t.Named x)) = named x ts
  primary_by ts (Some (t.Sign s.Open)) = bracketed ts
  primary_by ts (Some (t.Key k.Yes)) = Some (e.Truth true, ts)
  primary_by ts (Some (t.Key k.No)) = Some (e.Truth false, ts)
  primary_by ts (Some (t.Key k.Result)) = Some (e.Answer, ts)
  primary_by ts _ = None

  unfoldable pub primary : List Token → Outcome Tree
  primary ts = primary_by (drop 1 ts) (first ts)

  -- a primary with a power behind it waits, any other one ends the chain
  abbrev pub raised_or_last : Tree × List Token → Outcome Part
  raised_or_last x = if sees s.Power x.1 then Some (Waits (WaitsPower x.0), drop 1 x.1) else Some (Ends x.0, x.1)

  unfoldable pub part : List Token → Outcome Part
  part ts =
      if sees s.Minus ts then Some (Waits WaitsMinus, drop 1 ts) else
      (if sees s.Plus ts then Some (Waits WaitsPlus, drop 1 ts) else
      (primary ts >>= raised_or_last))

  abbrev pub gone_on : (List Token → Outcome Tree) → Part → List Token → Outcome Tree
  gone_on go (Waits w) ts = given w (go ts)
  gone_on go (Ends x) ts = Some (x, ts)

  unfoldable pub signed_in : ℕ → List Token → Outcome Tree
  signed_in zero ts = None
  signed_in (suc n) ts = do
    x ← part ts
    gone_on (signed_in n) x.0 x.1

  unfoldable pub signed : List Token → Outcome Tree
  signed ts = signed_in (length ts) ts

-- operators of one level, grouped to the left
module _ (ops : Option Token → Option Op) (operand : List Token → Outcome Tree) where
  abbrev pub joined : (Tree → List Token → Outcome Tree) → Tree → List Token → Option Op → Outcome Tree
  joined go left ts None = Some (left, ts)
  joined go left ts (Some o) = do
    x ← operand (drop 1 ts)
    go (e.Binary o left x.0) x.1

  unfoldable pub chain_from : ℕ → Tree → List Token → Outcome Tree
  chain_from zero left ts = Some (left, ts)
  chain_from (suc n) left ts = joined (chain_from n) left ts (ops (first ts))

  unfoldable pub chain : List Token → Outcome Tree
  chain ts = do
    x ← operand ts
    chain_from (length x.1) x.0 x.1

abbrev pub product : (List Token → Outcome Tree) → List Token → Outcome Tree
product expr = chain multiplicative (signed expr)

abbrev pub sum : (List Token → Outcome Tree) → List Token → Outcome Tree
sum expr = chain additive (product expr)

module _ (expr : List Token → Outcome Tree) where
  -- one relation at most
  unfoldable pub comparison : List Token → Outcome Tree
  comparison ts = do
    x ← sum expr ts
    joined relational (sum expr) (λ y us. Some (y, us)) x.0 x.1 (relational (first x.1))

  -- a `не`, or the comparison behind all of them
  unfoldable pub negation_part : List Token → Outcome Part
  negation_part ts = if sees_key k.Not ts then Some (Waits WaitsNot, drop 1 ts) else (do
    x ← comparison ts
    Some (Ends x.0, x.1))

  unfoldable pub negation_in : ℕ → List Token → Outcome Tree
  negation_in zero ts = None
  negation_in (suc n) ts = do
    x ← negation_part ts
    gone_on expr (negation_in n) x.0 x.1

  unfoldable pub negation : List Token → Outcome Tree
  negation ts = negation_in (length ts) ts

abbrev pub conjunction : (List Token → Outcome Tree) → List Token → Outcome Tree
conjunction expr = chain conjunctive (negation expr)

abbrev pub disjunction : (List Token → Outcome Tree) → List Token → Outcome Tree
disjunction expr = chain disjunctive (conjunction expr)

-- with brackets inside one another no deeper than the number
unfoldable pub expr_in : ℕ → List Token → Outcome Tree
expr_in zero ts = None
expr_in (suc n) ts = disjunction (expr_in n) ts

-- an expression at the front of the tokens
unfoldable pub expression : List Token → Outcome Tree
expression ts = expr_in (length ts + 1) ts
