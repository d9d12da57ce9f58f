-- What an edit puts in the place of chunks of a text.
use Rattle.std.specs.Prelude.{◌≡◌, ℕ, ◌+◌, ◌-◌, ◌≤◌, List, ◌++◌, length, slice_range}
use Rattle.text_versions.specs.Chunks.{joined}
use Rattle.text_versions.specs.Cuts.{IsRegion, FitsLeft, FitsRight}
use Rattle.text_versions.specs.declared.edit.Edit.{Edit}
use Rattle.text_versions.specs.declared.region.Region.{Region}
use Rattle.text_versions.specs.declared.patch.Patch.{Patch}

-- the lines of the region's pieces
abbrev pub region_lines : List (List (List ℕ)) → Region → List (List ℕ)
region_lines pieces region = joined (slice_range pieces region.first region.last)

-- the lines that the edit leaves of the region, with its own between them
abbrev pub patched_lines : List (List ℕ) → Region → Edit → List (List ℕ)
patched_lines lines region e =
    slice_range lines 0 (e.from - 1 - region.start)
    ++ e.lines
    ++ slice_range lines (e.from - 1 + e.count - region.start) (region.end - region.start)

-- The patch has these lines. Beside those of the edit they are few, and they are too many to be joined with the pieces
-- beside the region.
pub record IsPatch (pieces : List (List (List ℕ))) (e : Edit) (patch : Patch) : Type 0 where
  pub region : IsRegion pieces (e.from - 1) (e.from - 1 + e.count) patch.region
  pub lines : patch.lines.items ≡ patched_lines (region_lines pieces patch.region) patch.region e
  pub few : length patch.lines.items ≤ length e.lines + 254
  pub left : FitsLeft pieces patch.region (length patch.lines.items)
  pub right : FitsRight pieces patch.region (length patch.lines.items)
