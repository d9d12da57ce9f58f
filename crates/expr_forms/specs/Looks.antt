-- What comes next, and what a reading from the left gives.
use Rattle.std.specs.Prelude.{◌≡◌, List, [], ◌∷◌, drop, Option, Some, None, if◌then◌else◌, Bool, false, Result, Ok, Err, ⊤}
use denote.Enum.Bare.{sameb}
use Rattle.kumir_tree.specs.contracts.token.Sign as the_sign
use Rattle.kumir_tree.specs.contracts.token.Key as the_key
use Rattle.kumir_tree.specs.declared.kind.Op.{Op}
use Rattle.kumir_tree.specs.declared.expr.Expr.{Expr}
use Rattle.kumir_tree.specs.Seen.{tree}
use Rattle.kumir_tree.specs.Tree as e
use Rattle.kumir_tree.specs.Tree.{Tree}
use Rattle.kumir_tree.specs.declared.token.Token.{Token}
use Rattle.kumir_tree.specs.declared.token.Token.TheVariants as t
use Rattle.kumir_tree.specs.declared.token.Sign.{Sign}
use Rattle.kumir_tree.specs.declared.token.Key.{Key}
use Rattle.expr_forms.specs.declared.fault.PieceFault.{PieceFault}
use Rattle.expr_forms.specs.declared.fault.PieceFault.TheVariants.{Memory, NotUnderstood, TooDeep}

-- a value and the tokens behind what it is read from, or nothing
abbrev pub Outcome : Type 0 → Type 0
Outcome A = Option (A × List Token)

infixl 10 ◌>>=◌
abbrev pub ◌>>=◌ : {A B : Type 0} → Option A → (A → Option B) → Option B
None >>= f = None
(Some x) >>= f = f x

-- the same tokens, and a value made of what is read
abbrev pub mapped : {A B : Type 0} → (A → B) → Outcome A → Outcome B
mapped f None = None
mapped f (Some r) = Some (f r.0, r.1)

abbrev pub first : List Token → Option Token
first [] = None
first (x ∷ ts) = Some x

-- `==` on signs and on keywords
unfoldable pub same_sign : Sign → Sign → Bool
same_sign = sameb the_sign.the_type

unfoldable pub same_key : Key → Key → Bool
same_key = sameb the_key.the_type

abbrev pub is_sign : Sign → Token → Bool
is_sign w (t.Sign x) = same_sign x w
is_sign w (t.Key x) = false
is_sign w (t.Named x) = false
is_sign w (t.Number x) = false
is_sign w (t.Literal x) = false

abbrev pub is_key : Key → Token → Bool
is_key w (t.Key x) = same_key x w
is_key w (t.Sign x) = false
is_key w (t.Named x) = false
is_key w (t.Number x) = false
is_key w (t.Literal x) = false

-- this sign comes next
abbrev pub sees : Sign → List Token → Bool
sees w [] = false
sees w (x ∷ ts) = is_sign w x

-- this keyword comes next
abbrev pub sees_key : Key → List Token → Bool
sees_key w [] = false
sees_key w (x ∷ ts) = is_key w x

-- the tokens behind what comes next, if it does
abbrev pub behind : Bool → List Token → List Token
behind b ts = if b then drop 1 ts else ts

-- the outcome, unless memory ran out
abbrev pub Gives : {A B : Type 0} → (A → B) → Outcome B → Result A PieceFault → List Token → Type 0
Gives view outcome (Ok a) new = outcome ≡ Some (view a, new)
Gives view outcome (Err Memory) new = ⊤
Gives view outcome (Err NotUnderstood) new = outcome ≡ None
Gives view outcome (Err TooDeep) new = ⊥

-- what is made of an operator with both of its sides, where the right one is read
abbrev pub Joins : Op → Tree → Tree → Result Expr PieceFault → Type 0
Joins op left made (Ok right) = made ≡ e.Binary op left (tree right)
Joins op left made (Err fault) = ⊥
