-- Reading the parts of forms from the left, with one token of look-ahead.
use Rattle.std.specs.Prelude.{ℕ, ◌+◌, nat_le, List, [], ◌∷◌, length, drop, Option, Some, None, if◌then◌else◌}
use Rattle.kumir_tree.specs.Tree.{Tree, Trees}
use Rattle.kumir_tree.specs.Part.{Limits, Place, ToScalar, ToElement, Shown, ShowValue, ShowText, ShowLine}
use Rattle.kumir_tree.specs.declared.kind.Kind.{Kind}
use Rattle.kumir_tree.specs.declared.token.Token.{Token}
use Rattle.kumir_tree.specs.declared.token.Token.TheVariants as t
use Rattle.kumir_tree.specs.declared.token.Sign.TheVariants as s
use Rattle.kumir_tree.specs.declared.token.Key.TheVariants as k
use Rattle.expr_forms.specs.Forms.{kind_of, table_kind_of}
use Rattle.expr_forms.specs.Looks.{Outcome, ◌>>=◌, mapped, first, sees}
use Rattle.expr_forms.specs.Reading.{listing, closed, arguments, indexes, expr_in, expression}

-- ---- expressions in their places

unfoldable pub top_arguments : List Token → Outcome Trees
top_arguments ts = arguments (expr_in (length ts + 1)) ts

unfoldable pub top_indexes : List Token → Outcome Trees
top_indexes ts = indexes (expr_in (length ts + 1)) ts

-- nothing at all, or an expression
abbrev pub perhaps_expression : List Token → Outcome (Option Tree)
perhaps_expression [] = Some (None, [])
perhaps_expression (w ∷ ts) = mapped (λ x. Some x) (expression (w ∷ ts))

-- ---- names and kinds

abbrev pub name_by : List Token → Option Token → Outcome (List ℕ)
name_by ts (Some (t.Named x)) = Some (x, ts)
name_by ts _ = None

unfoldable pub name : List Token → Outcome (List ℕ)
name ts = name_by (drop 1 ts) (first ts)

-- the kind that a word stands for
abbrev pub kind_at : Option Token → Option Kind
kind_at (Some (t.Key w)) = kind_of w
kind_at _ = None

abbrev pub table_kind_at : Option Token → Option Kind
table_kind_at (Some (t.Key w)) = table_kind_of w
table_kind_at _ = None

-- ---- bounds, tables and targets

unfoldable pub bound : List Token → Outcome (Tree × Tree)
bound ts = do
  x ← expression ts
  if sees s.Colon x.1 then (do
    y ← expression (drop 1 x.1)
    Some ((x.0, y.0), y.1)) else None

abbrev pub few_bounds : Outcome Limits → Outcome Limits
few_bounds None = None
few_bounds (Some bs) = if nat_le (length bs.0) 2 then Some (bs.0, bs.1) else None

-- behind the opening square bracket, with the closing one
unfoldable pub bounds : List Token → Outcome Limits
bounds ts = few_bounds (closed s.CloseSquare (listing bound ts))

unfoldable pub table : List Token → Outcome (List ℕ × Limits)
table ts = do
  x ← name ts
  if sees s.OpenSquare x.1 then mapped (λ bs. (x.0, bs)) (bounds (drop 1 x.1)) else None

-- behind its name
unfoldable pub target_of : List ℕ → List Token → Outcome Place
target_of x ts = if sees s.OpenSquare ts then mapped (ToElement x) (top_indexes (drop 1 ts)) else Some (ToScalar x, ts)

unfoldable pub target : List Token → Outcome Place
target ts = do
  x ← name ts
  target_of x.0 x.1

abbrev pub item_by : List Token → Option Token → Outcome Shown
item_by ts (Some (t.Literal cs)) = Some (ShowText cs, drop 1 ts)
item_by ts (Some (t.Key k.NewLine)) = Some (ShowLine, drop 1 ts)
item_by ts _ = mapped ShowValue (expression ts)

unfoldable pub item : List Token → Outcome Shown
item ts = item_by ts (first ts)
