-- Parts of statements, and headers, as plain data.
use Rattle.std.specs.Prelude.{ℕ, List, Option, Some, None, map}
use Rattle.kumir_tree.specs.Tree.{Tree}
use Rattle.kumir_tree.specs.Part.{Limits, Place, ToAnswer, ToScalar, ToElement, Shown, ShowValue, ShowText, ShowLine, Declares, Scalars, Tables, Formal, Head}
use Rattle.kumir_tree.specs.Seen.{tree, trees}
use Rattle.kumir_tree.specs.declared.expr.BoundExpr.{BoundExpr}
use Rattle.kumir_tree.specs.declared.statement.Target.{Target}
use Rattle.kumir_tree.specs.declared.statement.Target.TheVariants as to
use Rattle.kumir_tree.specs.declared.statement.Item.{Item}
use Rattle.kumir_tree.specs.declared.statement.Item.TheVariants as i
use Rattle.kumir_tree.specs.declared.statement.TableName.{TableName}
use Rattle.kumir_tree.specs.declared.statement.Declared.{Declared}
use Rattle.kumir_tree.specs.declared.statement.Declared.TheVariants as d
use Rattle.kumir_tree.specs.declared.header.Param.{Param}
use Rattle.kumir_tree.specs.declared.header.Header.{Header}

abbrev pub limit_of : BoundExpr → Tree × Tree
limit_of b = (tree b.low, tree b.high)

abbrev pub limits_of : List BoundExpr → Limits
limits_of bs = map limit_of bs

abbrev pub some_limits : Option (List BoundExpr) → Option Limits
some_limits None = None
some_limits (Some bs) = Some (limits_of bs)

abbrev pub place_of : Target → Place
place_of to.Result = ToAnswer
place_of (to.Scalar x) = ToScalar x
place_of (to.Element x xs) = ToElement x (trees xs)

abbrev pub places_of : List Target → List Place
places_of ts = map place_of ts

abbrev pub shown_of : Item → Shown
shown_of (i.Value e) = ShowValue (tree e)
shown_of (i.Literal cs) = ShowText cs
shown_of i.NewLine = ShowLine

abbrev pub all_shown : List Item → List Shown
all_shown xs = map shown_of xs

abbrev pub table_of : TableName → List ℕ × Limits
table_of t = (t.name, limits_of t.bounds)

abbrev pub declares_of : Declared → Declares
declares_of (d.Scalars k xs) = Scalars k xs
declares_of (d.Tables k ts) = Tables k (map table_of ts)

abbrev pub formal_of : Param → Formal
formal_of p = record { mode = p.mode; kind = p.kind; name = p.name; bounds = some_limits p.bounds }

abbrev pub head_of : Header → Head
head_of h = record { name = h.name; gives = h.gives; params = map formal_of h.params; line = h.line }

abbrev pub some_head : Option Header → Option Head
some_head None = None
some_head (Some h) = Some (head_of h)
