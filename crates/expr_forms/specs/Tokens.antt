-- The tokens of a piece without their places.
use Rattle.std.specs.Prelude.{List, map}
use Rattle.kumir_tree.specs.declared.token.Token.{Token}
use Rattle.kumir_tree.specs.declared.token.Spanned.{Spanned}

abbrev pub tokens_of : List Spanned → List Token
tokens_of = map (λ s. s.token)
