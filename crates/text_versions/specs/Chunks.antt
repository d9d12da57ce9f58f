-- The lines of a text in chunks.
use Rattle.std.specs.Prelude.{◌≡◌, ℕ, ◌+◌, ◌<◌, ◌≤◌, ⊤, List, [], ◌∷◌, length, map}
use Rattle.std.specs.List.{flat_map}
use Rattle.std.specs.Arc.{arc_value}
use Rattle.std.specs.declared.sync.Arc.{Arc}
use Rattle.text_versions.specs.Texts.{ended_bytes}

-- what holds of each chunk
pub record IsChunk (lines : List (List ℕ)) (bytes : ℕ) : Type 0 where
  pub some : 1 ≤ length lines
  pub few : length lines ≤ 64
  pub counted : bytes ≡ ended_bytes lines

-- the lines of each chunk
abbrev pub pieces_in : {Z : Type 0} → List (Arc (List (List ℕ)) Z) → List (List (List ℕ))
pieces_in chunks = map arc_value chunks

-- the lines of all pieces, one piece behind the other
abbrev pub joined : List (List (List ℕ)) → List (List ℕ)
joined pieces = flat_map (λ p. p) pieces

abbrev pub lines_in : {Z : Type 0} → List (Arc (List (List ℕ)) Z) → List (List ℕ)
lines_in chunks = joined (pieces_in chunks)

-- how many lines the first piece has; 64 where there is none, so that nothing is asked of the last piece's neighbour
abbrev pub first_count : List (List (List ℕ)) → ℕ
first_count [] = 64
first_count (p ∷ ps) = length p

-- each piece has from 1 to 64 lines, and any two neighbours together have more than 64
abbrev pub AreChunks : List (List (List ℕ)) → Type 0
AreChunks [] = ⊤
AreChunks (p ∷ ps) = (1 ≤ length p) × (length p ≤ 64) × (64 < length p + first_count ps) × AreChunks ps
