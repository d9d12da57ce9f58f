-- The text of a field, and the first line that is wrong. docs/PROGRAM.md, "Field text".
use Rattle.std.specs.Prelude.{◌≡◌, ℕ, ◌+◌, ◌<◌, Bool, true, ◌&&◌, ◌⊎◌, List, [], ◌∷◌, nat_le, nat_lt, length, take, slice_index_or, encode_utf8_all}
use Rattle.robot_field.specs.declared.text.MarkKind.{MarkKind}
use Rattle.robot_field.specs.declared.text.MarkKind.TheVariants.{Paint, RightWall, BelowWall}
use Rattle.robot_field.specs.declared.text.Mark.{Mark}
use Rattle.robot_field.specs.declared.text.Header.{Header}
use Rattle.robot_field.specs.Text.{mark_text, header_text, IsCountedMark, IsCountedHeader}
use Rattle.robot_field.specs.Board.{Board, no_cells, with_cell}

-- a field of that size with the Robot in that cell, without inner walls and paint
abbrev pub opened : Header → Board
opened h = record {
  width = h.width;
  height = h.height;
  x = h.x;
  y = h.y;
  right_walls = no_cells;
  below_walls = no_cells;
  painted_cells = no_cells;
}

-- the size is at most 128 by 128, and the cell is one of the field
abbrev pub is_placed : Header → Bool
is_placed h = nat_le h.width 128 && nat_le h.height 128 && nat_le h.x h.width && nat_le h.y h.height

-- a mark is for a cell of the field; a wall to the right stands before the last column, one below before the last row
abbrev pub fits_kind : Board → MarkKind → ℕ → ℕ → Bool
fits_kind b Paint x y = nat_le x b.width && nat_le y b.height
fits_kind b RightWall x y = nat_lt x b.width && nat_le y b.height
fits_kind b BelowWall x y = nat_le x b.width && nat_lt y b.height

abbrev pub fits : Board → Mark → Bool
fits b m = fits_kind b m.kind m.x m.y

abbrev pub marked_kind : Board → MarkKind → ℕ → ℕ → Board
marked_kind b Paint x y = record b { painted_cells = with_cell b.painted_cells x y }
marked_kind b RightWall x y = record b { right_walls = with_cell b.right_walls x y }
marked_kind b BelowWall x y = record b { below_walls = with_cell b.below_walls x y }

-- the field with the mark set; repetition is without effect
abbrev pub marked : Board → Mark → Board
marked b m = marked_kind b m.kind m.x m.y

-- the first line of a field text
pub record IsHeaderLine (line : List ℕ) (h : Header) : Type 0 where
  pub counted : IsCountedHeader h
  pub text : encode_utf8_all line ≡ header_text h
  pub placed : is_placed h ≡ true

-- a further line, for a field as the lines before it left it
pub record IsMarkLine (b : Board) (line : List ℕ) (m : Mark) : Type 0 where
  pub counted : IsCountedMark m
  pub text : encode_utf8_all line ≡ mark_text m
  pub fits_it : fits b m ≡ true

-- the line is a mark, and it is set
pub record SetsMark (old : Board) (line : List ℕ) (new : Board) : Type 0 where
  pub mark : Mark
  pub is : IsMarkLine old line mark
  pub set : new ≡ marked old mark

-- the further lines take the one field to the other
abbrev pub Marks : Board → List (List ℕ) → Board → Type 0
Marks b [] c = c ≡ b
Marks b (line ∷ lines) c = (m : Mark) × IsMarkLine b line m × Marks (marked b m) lines c

-- the lines are the text of that field
abbrev pub IsFieldText : List (List ℕ) → Board → Type 0
IsFieldText [] b = ⊥
IsFieldText (line ∷ lines) b = (h : Header) × IsHeaderLine line h × Marks (opened h) lines b

-- the lines before that place, counted from 0, are marks, and the line there is none
pub record IsBadMarkAt (b : Board) (lines : List (List ℕ)) (place : ℕ) : Type 0 where
  pub left : Board
  pub before : Marks b (take place lines) left
  pub within : place < length lines
  pub bad : (m : Mark) → IsMarkLine left (slice_index_or lines place []) m → ⊥

-- that line, counted from 1, is the first that is wrong; where there are no lines it is the first
abbrev pub IsFirstBad : List (List ℕ) → ℕ → Type 0
IsFirstBad [] n = n ≡ 1
IsFirstBad (line ∷ lines) n =
    ((n ≡ 1) × ((h : Header) → IsHeaderLine line h → ⊥))
    ⊎ ((h : Header) × (place : ℕ) × IsHeaderLine line h × IsBadMarkAt (opened h) lines place × (n ≡ place + 2))
