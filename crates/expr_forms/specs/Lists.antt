-- Lists with commas.
use Rattle.std.specs.Prelude.{List, [], ◌∷◌, ◌++◌}
use Rattle.kumir_tree.specs.declared.token.Token.{Token}
use Rattle.kumir_tree.specs.declared.token.Token.TheVariants as t
use Rattle.kumir_tree.specs.declared.token.Sign.TheVariants as s

-- one or more, with commas between them
pub data Listed {A : Type 0} (One : List Token → A → Type 0) : List Token → List A → Type 0 where
  last : {ts : List Token} {x : A} → One ts x → Listed One ts (x ∷ [])
  next : {ts us : List Token} {x : A} {xs : List A} → One ts x → Listed One us xs → Listed One (ts ++ t.Sign s.Comma ∷ us) (x ∷ xs)
