-- The field of a run: that of the last field request before it that was accepted, or else the usual one.
-- docs/PROGRAM.md, "plain".
use Rattle.std.specs.Prelude.{◌≡◌, ℕ, ◌⊎◌, List, [], ◌∷◌}
use Rattle.robot_field.specs.Board.{Board, usual}
use Rattle.robot_field.specs.FieldText.{IsFieldText, IsFirstBad}
use Rattle.script_lines.specs.declared.request.Ask.{Ask}
use Rattle.script_lines.specs.declared.request.Ask.TheVariants as ask
use Rattle.script_lines.specs.declared.request.Request.{Request}

-- what a request makes of the field: lines that are one take its place, and a bad field leaves it
abbrev pub LeavesField : Board → Ask → Board → Type 0
LeavesField old (ask.Field lines) new = IsFieldText lines new ⊎ ((bad : ℕ) × IsFirstBad lines bad × (new ≡ old))
LeavesField old _ new = new ≡ old

-- and these requests, one after the other
unfoldable pub LeaveField : Board → List Request → Board → Type 0
LeaveField old [] new = new ≡ old
LeaveField old (r ∷ requests) new = (next : Board) × LeavesField old r.ask next × LeaveField next requests new

-- the field of a run behind these requests
abbrev pub IsFieldBehind : List Request → Board → Type 0
IsFieldBehind requests field = LeaveField usual requests field
