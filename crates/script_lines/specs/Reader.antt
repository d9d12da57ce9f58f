-- What a reader keeps of the bytes that it was fed.
use Rattle.std.specs.Prelude.{◌≡◌, ◌≢◌, ℕ, true, ⊤, List, [], ◌∷◌, Option, Some, None, length, take, map, All}
use Rattle.std.specs.List.{list_all}
use Rattle.std.specs.Str.{chars}
use Rattle.script_lines.specs.declared.request.Request.{Request}
use Rattle.script_lines.specs.declared.gathered.Gathered.{Gathered}
use Rattle.script_lines.specs.declared.state.State.{State}
use Rattle.script_lines.specs.Lines.{ended, unended, ended_lines, is_plain}
use Rattle.script_lines.specs.Words.{request_line}
use Rattle.script_lines.specs.Begun.{Begun, begun_in}

-- the lines so far of that request
pub record IsGathered (b : Begun) (g : Gathered) : Type 0 where
  pub first : g.first ≡ b.first
  pub head : g.head ≡ request_line b.head
  pub taken : g.taken ≡ length b.sofar
  pub plain : g.is_plain ≡ list_all is_plain b.sofar
  pub lines : g.is_plain ≡ true → g.lines ≡ map chars b.sofar

abbrev pub Gathers : Option Begun → Option Gathered → Type 0
Gathers None None = ⊤
Gathers (Some b) (Some g) = IsGathered b g
Gathers _ _ = ⊥

-- a line as it is kept: an overlong one is cut, and reads as before
pub record IsKept (line kept : List ℕ) : Type 0 where
  pub request : request_line kept ≡ request_line line
  pub plain : is_plain kept ≡ is_plain line
  pub same : is_plain kept ≡ true → kept ≡ line

abbrev pub answered : Option Request → List Request
answered None = []
answered (Some r) = r ∷ []

-- the state after these bytes
pub record IsState (s : State) : Type 0 where
  pub line : s.line.items ≡ take 4101 (unended [] s.fed)
  pub ended_here : All (λ b. b ≢ 10) s.line.items
  pub number : s.number ≡ length (ended [] s.fed)
  pub begun : Gathers (begun_in 1 0 (ended_lines s.fed)) s.gathered
