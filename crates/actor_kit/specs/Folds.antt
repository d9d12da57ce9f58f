-- What is given for a list of items, one after the other: each item leads on from a state, and gives a list there.
use Rattle.std.specs.Prelude.{List, [], ◌∷◌, ◌++◌}

-- the state behind all items
abbrev pub after_all : {S I : Type 0} → (S → I → S) → S → List I → S
after_all leads s [] = s
after_all leads s (x ∷ xs) = after_all leads (leads s x) xs

-- what all items give, in their order
abbrev pub given_by : {S I O : Type 0} → (S → I → S) → (S → I → List O) → S → List I → List O
given_by leads gives s [] = []
given_by leads gives s (x ∷ xs) = gives s x ++ given_by leads gives (leads s x) xs
