-- Lines cut into chunks, and the chunks of a text that an edit touches.
use Rattle.std.specs.Prelude.{◌≡◌, ℕ, ◌+◌, ◌-◌, ◌%◌, ◌==◌, ◌<◌, ◌≤◌, min, if◌then◌else◌, List, [], ◌∷◌, length, take, slice_index_or}
use Rattle.text_versions.specs.Chunks.{joined}
use Rattle.text_versions.specs.declared.region.Place.{Place}
use Rattle.text_versions.specs.declared.region.Region.{Region}

-- so many lines in pieces of 64 and one rest
abbrev pub AreCut : List (List (List ℕ)) → ℕ → Type 0
AreCut [] count = count ≡ 0
AreCut (p ∷ ps) count = (1 ≤ length p) × (length p ≡ min 64 count) × AreCut ps (count - 64)

-- how many lines the last one of such pieces has
abbrev pub rest_of : ℕ → ℕ
rest_of count = if count == 0 then 0 else (count - 1) % 64 + 1

-- a piece begins at the place, or all pieces end there
pub record IsBegin (pieces : List (List (List ℕ))) (place : Place) : Type 0 where
  pub within : place.chunk ≤ length pieces
  pub start_is : place.start ≡ length (joined (take place.chunk pieces))

-- the place of a line: it stands in the piece that begins there, or behind all pieces
pub record IsPlace (pieces : List (List (List ℕ))) (line : ℕ) (place : Place) : Type 0 where
  pub begins : IsBegin pieces place
  pub before : place.start ≤ line
  pub here : place.chunk < length pieces →
      line < place.start + length (slice_index_or pieces place.chunk [])

-- the first place where a piece begins that does not begin before the line
pub record IsEnd (pieces : List (List (List ℕ))) (line : ℕ) (place : Place) : Type 0 where
  pub begins : IsBegin pieces place
  pub behind : line ≤ place.start
  pub near : place.start ≤ line + 63

-- the pieces from `first` to before `last` have the lines from `start` to before `end`, and among these all lines from
-- `from` to before `to`
pub record IsRegion (pieces : List (List (List ℕ))) (from to : ℕ) (region : Region) : Type 0 where
  pub order : region.first ≤ region.last
  pub within : region.last ≤ length pieces
  pub start_is : region.start ≡ length (joined (take region.first pieces))
  pub end_is : region.end ≡ length (joined (take region.last pieces))
  pub before : region.start ≤ from
  pub after : to ≤ region.end

-- how many lines of the region stand outside of these
abbrev pub kept_count : ℕ → ℕ → Region → ℕ
kept_count from to region = (from - region.start) + (region.end - to)

-- so many lines in place of the region are too many to be joined with the piece before it
abbrev pub FitsLeft : List (List (List ℕ)) → Region → ℕ → Type 0
FitsLeft pieces region count =
    0 < region.first → 64 < length (slice_index_or pieces (region.first - 1) []) + min 64 count

-- what is left of them behind pieces of 64 is too much to be joined with the piece behind the region
abbrev pub FitsRight : List (List (List ℕ)) → Region → ℕ → Type 0
FitsRight pieces region count =
    region.last < length pieces → 64 < rest_of count + length (slice_index_or pieces region.last [])
