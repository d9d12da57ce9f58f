-- Where a line is cut into pieces (docs/LANGUAGE.md, "Pieces"). A place is before the token that is counted so, from 0.
use Rattle.std.specs.Prelude.{◌≡◌, ℕ, ◌-◌, ◌+◌, ◌<◌, ◌≤◌, ◌⊎◌, Bool, true, false, not, ◌||◌, ◌&&◌, ◌==◌, if◌then◌else◌, List, [], ◌∷◌, length, fold, slice_range, Option, Some, None}
use Rattle.std.specs.List.{slice_get}
use Rattle.kumir_tree.specs.declared.token.Token.{Token}
use Rattle.kumir_tree.specs.declared.token.Token.TheVariants as token
use Rattle.kumir_tree.specs.declared.token.Key.{Key}
use Rattle.kumir_tree.specs.declared.token.Key.TheVariants as key
use Rattle.kumir_tree.specs.declared.token.Sign.TheVariants as sign
use Rattle.line_pieces.specs.declared.pieces.Piece.{Piece}

-- ---- which tokens a piece ends between

-- the keywords before which a piece ends, whatever stands before them
abbrev pub stands_first : Key → Bool
stands_first key.Algorithm = true
stands_first key.Given = true
stands_first key.Wanted = true
stands_first key.Begin = true
stands_first key.Finish = true
stands_first key.Loop = true
stands_first key.LoopEnd = true
stands_first key.LoopEndWhen = true
stands_first key.If = true
stands_first key.Then = true
stands_first key.Otherwise = true
stands_first key.ChoiceEnd = true
stands_first key.Select = true
stands_first key.Assert = true
stands_first key.Input = true
stands_first key.Output = true
stands_first key.Leave = true
stands_first key.Quit = true
stands_first key.Uses = true
stands_first _ = false

-- the keywords behind which a piece ends, whatever stands behind them
abbrev pub stands_last : Key → Bool
stands_last key.Begin = true
stands_last key.Finish = true
stands_last key.Times = true
stands_last key.Then = true
stands_last key.Otherwise = true
stands_last key.ChoiceEnd = true
stands_last key.Leave = true
stands_last key.Quit = true
stands_last _ = false

abbrev pub is_when : Token → Bool
is_when (token.Key key.When) = true
is_when _ = false

abbrev pub is_loop_end : Token → Bool
is_loop_end (token.Key key.LoopEnd) = true
is_loop_end _ = false

abbrev pub is_semicolon : Token → Bool
is_semicolon (token.Sign sign.Semicolon) = true
is_semicolon _ = false

-- there is a token, and it is one of these
abbrev pub SomeIs : (Token → Bool) → Option Token → Type 0
SomeIs is None = ⊥
SomeIs is (Some t) = is t ≡ true

abbrev pub is_colon : Token → Bool
is_colon (token.Sign sign.Colon) = true
is_colon _ = false

-- whether a piece ends before the token, by the one on its left
abbrev pub ends_before : Token → Token → Bool
ends_before left (token.Key k) = stands_first k || (is_when (token.Key k) && not (is_loop_end left))
ends_before left t = is_semicolon t

-- whether a piece ends behind the token, by the one on its right
abbrev pub ends_behind : Token → Token → Bool
ends_behind (token.Key k) right = stands_last k || (is_loop_end (token.Key k) && not (is_when right))
ends_behind t right = is_semicolon t

-- whether a piece ends between two neighbours by the tokens themselves. A line ends its last piece.
abbrev pub ends_between : Option Token → Option Token → Bool
ends_between (Some left) (Some right) = ends_before left right || ends_behind left right
ends_between _ _ = true

-- ---- the places

-- the token before a place
abbrev pub token_before : List Token → ℕ → Option Token
token_before tokens place = if place == 0 then None else slice_get tokens (place - 1)

-- a piece ends here by the two neighbours
abbrev pub IsMark : List Token → ℕ → Type 0
IsMark tokens place = ends_between (token_before tokens place) (slice_get tokens place) ≡ true

-- how many square brackets are open behind the tokens: one that closes takes nothing away where none is open
abbrev pub count_square : ℕ → Token → ℕ
count_square open_squares (token.Sign sign.OpenSquare) = open_squares + 1
count_square open_squares (token.Sign sign.CloseSquare) = open_squares - 1
count_square open_squares _ = open_squares

abbrev pub squares : List Token → ℕ
squares = fold count_square 0

-- Behind a colon outside square brackets. These are counted from where the piece begins.
abbrev pub IsFreeColon : List Token → ℕ → ℕ → Type 0
IsFreeColon tokens begin place = (begin < place) × SomeIs is_colon (token_before tokens place) × (squares (slice_range tokens begin place) ≡ 0)

-- a piece that begins with `при` ends here: behind its first colon outside square brackets
pub record EndsCase (tokens : List Token) (place : ℕ) : Type 0 where
  pub begin : ℕ
  pub marked : IsMark tokens begin
  pub when : SomeIs is_when (slice_get tokens begin)
  pub unbroken : (k : ℕ) → begin < k → k < place → IsMark tokens k → ⊥
  pub colon : IsFreeColon tokens begin place
  pub first : (k : ℕ) → k < place → IsFreeColon tokens begin k → ⊥

-- a place where a piece ends
abbrev pub IsEnd : List Token → ℕ → Type 0
IsEnd tokens place = IsMark tokens place ⊎ EndsCase tokens place

-- ---- the pieces

-- the tokens from a place up to another are semicolons, which belong to no piece
abbrev pub OnlySemicolons : List Token → ℕ → ℕ → Type 0
OnlySemicolons tokens from to = (from ≤ to) × ((k : ℕ) → from ≤ k → k < to → SomeIs is_semicolon (slice_get tokens k))

-- from one end to the next
pub record IsPiece (tokens : List Token) (p : Piece) : Type 0 where
  pub some : p.from < p.to
  pub within : p.to ≤ length tokens
  pub begins : IsEnd tokens p.from
  pub ends : IsEnd tokens p.to
  pub whole : (k : ℕ) → p.from < k → k < p.to → IsEnd tokens k → ⊥
  pub counts : SomeIs is_semicolon (slice_get tokens p.from) → ⊥

-- from a place on the line has these pieces
abbrev pub ArePieces : List Token → ℕ → List Piece → Type 0
ArePieces tokens at [] = OnlySemicolons tokens at (length tokens)
ArePieces tokens at (p ∷ ps) = OnlySemicolons tokens at p.from × IsPiece tokens p × ArePieces tokens p.to ps

-- the pieces of a line
abbrev pub Pieces : List Token → List Piece → Type 0
Pieces tokens pieces = ArePieces tokens 0 pieces
