-- Reading a form from the left, by its first token.
use Rattle.std.specs.Prelude.{ℕ, List, [], ◌∷◌, drop, Option, Some, None, if◌then◌else◌}
use Rattle.kumir_tree.specs.Tree.{Tree, no_trees}
use Rattle.kumir_tree.specs.Part.{Place, ToAnswer, ToScalar, ToElement, Scalars, Tables}
use Rattle.kumir_tree.specs.Piece as piece
use Rattle.kumir_tree.specs.Piece.{Piece}
use Rattle.kumir_tree.specs.declared.kind.Kind.{Kind}
use Rattle.kumir_tree.specs.declared.token.Token.{Token}
use Rattle.kumir_tree.specs.declared.token.Token.TheVariants as t
use Rattle.kumir_tree.specs.declared.token.Sign.TheVariants as s
use Rattle.kumir_tree.specs.declared.token.Key.{Key}
use Rattle.kumir_tree.specs.declared.token.Key.TheVariants as k
use Rattle.expr_forms.specs.Forms.{kind_of, table_kind_of}
use Rattle.expr_forms.specs.Looks.{Outcome, ◌>>=◌, mapped, first, sees, sees_key}
use Rattle.expr_forms.specs.Reading.{listing, expression}
use Rattle.expr_forms.specs.PartReading.{top_arguments, top_indexes, perhaps_expression, name, table, target, item}
use Rattle.expr_forms.specs.HeaderReading.{header}

-- ---- declarations, assignments and calls

unfoldable pub scalars : Kind → List Token → Outcome Piece
scalars d ts = mapped (λ xs. piece.Declare (Scalars d xs)) (listing name ts)

unfoldable pub tables : Kind → List Token → Outcome Piece
tables d ts = mapped (λ xs. piece.Declare (Tables d xs)) (listing table ts)

unfoldable pub declaration : Kind → List Token → Outcome Piece
declaration d ts = if sees_key k.Table ts then tables d (drop 1 ts) else scalars d ts

-- behind the target
unfoldable pub assignment : Place → List Token → Outcome Piece
assignment p ts = if sees s.Assign ts then mapped (λ x. piece.Assign p x) (expression (drop 1 ts)) else None

-- a name begins a call or an assignment
unfoldable pub named_piece : List ℕ → List Token → Outcome Piece
named_piece x ts =
    if sees s.Open ts then mapped (λ xs. piece.Invoke x xs) (top_arguments (drop 1 ts)) else
    (if sees s.OpenSquare ts then (do
      xs ← top_indexes (drop 1 ts)
      assignment (ToElement x xs.0) xs.1) else
    (if sees s.Assign ts then assignment (ToScalar x) ts else Some (piece.Invoke x no_trees, ts)))

-- ---- loops

unfoldable pub loop_times : List Token → Outcome Piece
loop_times ts = do
  x ← expression ts
  if sees_key k.Times x.1 then Some (piece.Times x.0, drop 1 x.1) else None

-- behind the upper end
unfoldable pub stepped : List ℕ → Tree → Tree → List Token → Outcome Piece
stepped v x y ts = if sees_key k.Step ts then mapped (λ z. piece.Count v x y (Some z)) (expression (drop 1 ts)) else Some (piece.Count v x y None, ts)

-- behind `от`
unfoldable pub counted : List ℕ → List Token → Outcome Piece
counted v ts = do
  x ← expression ts
  if sees_key k.To x.1 then (do
    y ← expression (drop 1 x.1)
    stepped v x.0 y.0 y.1) else None

-- behind `для`
unfoldable pub loop_count : List Token → Outcome Piece
loop_count ts = do
  v ← name ts
  if sees_key k.From v.1 then counted v.0 (drop 1 v.1) else None

abbrev pub loop_bare : List Token → Outcome Piece
loop_bare [] = Some (piece.Forever, [])
loop_bare (w ∷ ts) = loop_times (w ∷ ts)

unfoldable pub loop_head : List Token → Outcome Piece
loop_head ts =
    if sees_key k.While ts then mapped piece.While (expression (drop 1 ts)) else
    (if sees_key k.For ts then loop_count (drop 1 ts) else loop_bare ts)

unfoldable pub loop_end : List Token → Outcome Piece
loop_end ts = if sees_key k.When ts then mapped piece.CloseWhen (expression (drop 1 ts)) else Some (piece.Close, ts)

-- ---- the others

unfoldable pub when_case : List Token → Outcome Piece
when_case ts = do
  x ← expression ts
  if sees s.Colon x.1 then Some (piece.When x.0, drop 1 x.1) else None

-- behind a keyword that is no kind
abbrev pub keyword_form : Key → List Token → Outcome Piece
keyword_form k.Algorithm ts = mapped piece.Header (header ts)
keyword_form k.Given ts = mapped piece.Given (perhaps_expression ts)
keyword_form k.Wanted ts = mapped piece.Wanted (perhaps_expression ts)
keyword_form k.Result ts = assignment ToAnswer ts
keyword_form k.Loop ts = loop_head ts
keyword_form k.LoopEnd ts = loop_end ts
keyword_form k.LoopEndWhen ts = mapped piece.CloseWhen (expression ts)
keyword_form k.If ts = mapped piece.Choose (expression ts)
keyword_form k.Then ts = Some (piece.Then, ts)
keyword_form k.Otherwise ts = Some (piece.Otherwise, ts)
keyword_form k.ChoiceEnd ts = Some (piece.ChoiceEnd, ts)
keyword_form k.Select ts = Some (piece.Select, ts)
keyword_form k.When ts = when_case ts
keyword_form k.Begin ts = Some (piece.Begin, ts)
keyword_form k.Finish ts = Some (piece.Finish, ts)
keyword_form k.Assert ts = mapped piece.Assert (expression ts)
keyword_form k.Leave ts = Some (piece.Leave, ts)
keyword_form k.Quit ts = Some (piece.Quit, ts)
keyword_form k.Uses ts = mapped piece.Uses (name ts)
keyword_form k.Input ts = mapped piece.Input (listing target ts)
keyword_form k.Output ts = mapped piece.Output (listing item ts)
keyword_form _ ts = None

abbrev pub table_or_keyword : Key → List Token → Option Kind → Outcome Piece
table_or_keyword w ts (Some d) = tables d ts
table_or_keyword w ts None = keyword_form w ts

abbrev pub kind_or_keyword : Key → List Token → Option Kind → Outcome Piece
kind_or_keyword w ts (Some d) = declaration d ts
kind_or_keyword w ts None = table_or_keyword w ts (table_kind_of w)

abbrev pub form_by : List Token → Option Token → Outcome Piece
form_by ts (Some (t.Key w)) = kind_or_keyword w ts (kind_of w)
form_by ts (Some (t.Named x)) = named_piece x ts
form_by ts _ = None

unfoldable pub form : List Token → Outcome Piece
form ts = form_by (drop 1 ts) (first ts)

abbrev pub if_over : Piece → List Token → Option Piece
if_over p [] = Some p
if_over p (w ∷ ts) = None

-- the form that all of the tokens are
unfoldable pub whole : List Token → Option Piece
whole ts = do
  p ← form ts
  if_over p.0 p.1
