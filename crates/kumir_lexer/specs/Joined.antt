-- A maximal run of words that are no keywords is one name, its words joined by single blanks.
use Rattle.std.specs.Prelude.{List, [], ◌∷◌, ◌++◌}
use Rattle.kumir_tree.specs.declared.token.Token.{Token}
use Rattle.kumir_tree.specs.declared.token.Token.TheVariants as token
use Rattle.kumir_tree.specs.declared.token.Spanned.{Spanned}

-- two neighbours: where both are names they become one
abbrev pub joined_two : Token → Token → Spanned → Spanned → List Spanned
joined_two (token.Named x) (token.Named y) t u = record { token = token.Named (x ++ 32 ∷ y); from = t.from; to = u.to } ∷ []
joined_two a b t u = t ∷ u ∷ []

abbrev pub joined_before : Spanned → List Spanned → List Spanned
joined_before t [] = t ∷ []
joined_before t (u ∷ us) = joined_two t.token u.token t u ++ us

abbrev pub joined : List Spanned → List Spanned
joined [] = []
joined (t ∷ ts) = joined_before t (joined ts)

-- the same from the left: a token behind others
abbrev pub joined_behind : List Spanned → Spanned → List Spanned
joined_behind [] t = t ∷ []
joined_behind (u ∷ []) t = joined_two u.token t.token u t
joined_behind (u ∷ v ∷ us) t = u ∷ joined_behind (v ∷ us) t
