-- Reading a header from the left, with one token of look-ahead.
use Rattle.std.specs.Prelude.{ℕ, zero, suc, List, [], ◌∷◌, ◌++◌, length, drop, Option, Some, None, is_some, if◌then◌else◌, Bool, true, false}
use Rattle.kumir_tree.specs.Part.{Limits, Formal, Head}
use Rattle.kumir_tree.specs.declared.kind.Kind.{Kind}
use Rattle.kumir_tree.specs.declared.kind.Mode.{Mode}
use Rattle.kumir_tree.specs.declared.kind.Mode.TheVariants as modes
use Rattle.kumir_tree.specs.declared.token.Token.{Token}
use Rattle.kumir_tree.specs.declared.token.Token.TheVariants as t
use Rattle.kumir_tree.specs.declared.token.Sign.TheVariants as s
use Rattle.kumir_tree.specs.declared.token.Key.TheVariants as k
use Rattle.expr_forms.specs.Forms.{mode_of, said_or, kind_from, has_bounds}
use Rattle.expr_forms.specs.Looks.{Outcome, ◌>>=◌, mapped, first, sees, sees_key, behind}
use Rattle.expr_forms.specs.Reading.{closed}
use Rattle.expr_forms.specs.PartReading.{kind_at, table_kind_at, name, bounds}

-- ---- what may be missing, and the tokens behind it

abbrev pub mode_at : Option Token → Option Mode
mode_at (Some (t.Key w)) = mode_of w
mode_at _ = None

-- `арг` with `рез` behind it is both
unfoldable pub said_mode : List Token → Option Mode × List Token
said_mode ts =
    if sees_key k.Arg ts then (if sees_key k.Res (drop 1 ts) then (Some modes.ArgRes, drop 1 (drop 1 ts)) else (Some modes.Arg, drop 1 ts)) else
    (mode_at (first ts), behind (is_some (mode_at (first ts))) ts)

abbrev pub tabled : Kind → Bool → List Token → Option (Kind × Bool) × List Token
tabled d b ts = (Some (d, b), behind b ts)

abbrev pub said_table : List Token → Option Kind → Option (Kind × Bool) × List Token
said_table ts (Some d) = (Some (d, true), drop 1 ts)
said_table ts None = (None, ts)

abbrev pub said_scalar : List Token → Option Kind → Option (Kind × Bool) × List Token
said_scalar ts (Some d) = tabled d (sees_key k.Table (drop 1 ts)) (drop 1 ts)
said_scalar ts None = said_table ts (table_kind_at (first ts))

unfoldable pub said_kind : List Token → Option (Kind × Bool) × List Token
said_kind ts = said_scalar ts (kind_at (first ts))

unfoldable pub perhaps_bounds : List Token → Outcome (Option Limits)
perhaps_bounds ts = if sees s.OpenSquare ts then mapped (λ bs. Some bs) (bounds (drop 1 ts)) else Some (None, ts)

-- ---- parameters

abbrev pub same_bool : Bool → Bool → Bool
same_bool true b = b
same_bool false true = false
same_bool false false = true

-- the parameter, if its kind is known and it has bounds exactly where it is a table
abbrev pub agreed : Mode → List ℕ → Option Limits → Option (Kind × Bool) → Option Formal
agreed m x bs None = None
agreed m x bs (Some d) = if same_bool d.1 (has_bounds bs) then Some (record { mode = m; kind = d.0; name = x; bounds = bs }) else None

abbrev pub with_rest : List Token → Option Formal → Outcome Formal
with_rest ts None = None
with_rest ts (Some p) = Some (p, ts)

-- behind its mode and its kind
unfoldable pub param_of : Mode → Option (Kind × Bool) → List Token → Outcome Formal
param_of m d ts = do
  x ← name ts
  bs ← perhaps_bounds x.1
  with_rest bs.1 (agreed m x.0 bs.0 d)

abbrev pub param_behind : Mode → Option (Kind × Bool) → Option (Kind × Bool) × List Token → Outcome Formal
param_behind m above said = param_of m (kind_from above said.0) said.1

unfoldable pub param : Mode → Option (Kind × Bool) → List Token → Outcome Formal
param before above ts = param_behind (said_or before (said_mode ts).0) above (said_kind (said_mode ts).1)

unfoldable pub params_from : ℕ → Mode → Option (Kind × Bool) → List Formal → List Token → Outcome (List Formal)
params_from zero before above found ts = None
params_from (suc n) before above found ts = do
  p ← param before above ts
  if sees s.Comma p.1 then params_from n p.0.mode (Some (p.0.kind, has_bounds p.0.bounds)) (found ++ p.0 ∷ []) (drop 1 p.1) else Some (found ++ p.0 ∷ [], p.1)

abbrev pub params : List Token → Outcome (List Formal)
params ts = params_from (length ts) modes.Arg None [] ts

-- behind the opening bracket, with the closing one
unfoldable pub bracketed_params : List Token → Outcome (List Formal)
bracketed_params ts = if sees s.Close ts then Some ([], drop 1 ts) else closed s.Close (params ts)

unfoldable pub signature : List Token → Outcome (List Formal)
signature ts = if sees s.Open ts then bracketed_params (drop 1 ts) else Some ([], ts)

-- ---- headers

abbrev pub name_at : Option Token → Option (List ℕ)
name_at (Some (t.Named x)) = Some x
name_at _ = None

-- behind what it gives
unfoldable pub header_of : Option Kind → List Token → Outcome Head
header_of d ts = mapped (λ ps. record { name = name_at (first ts); gives = d; params = ps; line = 0 }) (signature (behind (is_some (name_at (first ts))) ts))

unfoldable pub header : List Token → Outcome Head
header ts = header_of (kind_at (first ts)) (behind (is_some (kind_at (first ts))) ts)
