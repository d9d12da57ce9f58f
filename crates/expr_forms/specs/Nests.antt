-- A function value that reads expressions to a depth.
use Rattle.std.specs.Prelude.{ℕ, List, Result}
use Rattle.std.specs.declared.alloc.Global.{Global}
use denote.Ref.{MutBor}
use Rattle.kumir_tree.specs.declared.expr.Expr.{Expr}
use Rattle.kumir_tree.specs.declared.token.Token.{Token}
use Rattle.kumir_tree.specs.Seen.{tree}
use Rattle.expr_forms.specs.declared.fault.PieceFault.{PieceFault}
use Rattle.expr_forms.specs.Looks.{Gives}
use Rattle.expr_forms.specs.Reading.{expr_in}

pub record Nests (depth : ℕ) (pre : Global → MutBor (List Token) → ℕ → Type 0)
    (post : Global → MutBor (List Token) → ℕ → Result Expr PieceFault → MutBor (List Token) → Type 0) : Type 0 where
  pub callable : (alloc : Global) (old : MutBor (List Token)) → pre alloc old depth
  pub reads : (alloc : Global) (old new : MutBor (List Token)) (r : Result Expr PieceFault) → post alloc old depth r new
      → Gives tree (expr_in depth old.now) r new.now
