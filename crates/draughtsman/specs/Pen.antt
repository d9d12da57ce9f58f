-- The Draughtsman's pen: what each of a list of commands is answered. docs/LANGUAGE.md, "Performers".
-- Places are mathematical whole numbers.
use Rattle.std.specs.Prelude.{◌≡◌, ◌⊎◌, ℤ, pos, ◌+ℤ◌, Bool, true, false, ◌&&◌, not, List, [], ◌∷◌, Option, Some, None, if◌then◌else◌}
use Rattle.std.specs.Ordering.{int_eq}
use Rattle.performer_kit.specs.declared.commands.PenCommand.{PenCommand}
use Rattle.performer_kit.specs.declared.commands.PenCommand.TheVariants.{Raise, Lower, To, By}
use Rattle.performer_kit.specs.declared.commands.Segment.{Segment}
use Rattle.performer_kit.specs.declared.commands.Reply.{Reply}
use Rattle.performer_kit.specs.declared.commands.Reply.TheVariants.{Done, Drawn}
use Rattle.draughtsman.specs.declared.pen.Pen.{Pen}

-- the place of a pen, and whether it is down
pub record PenState : Type 0 where
  pub x : ℤ
  pub y : ℤ
  pub down : Bool

-- every run starts with a pen at 0, 0 that is up
abbrev pub fresh : PenState
fresh = record { x = pos 0; y = pos 0; down = false }

abbrev pub place_after : PenState → PenCommand → ℤ × ℤ
place_after s Raise = (s.x, s.y)
place_after s Lower = (s.x, s.y)
place_after s (To x y) = (x, y)
place_after s (By dx dy) = (s.x +ℤ dx, s.y +ℤ dy)

abbrev pub is_down_after : PenState → PenCommand → Bool
is_down_after s Raise = false
is_down_after s Lower = true
is_down_after s (To x y) = s.down
is_down_after s (By dx dy) = s.down

abbrev pub state_after : PenState → PenCommand → PenState
state_after s command = record { x = (place_after s command).0; y = (place_after s command).1; down = is_down_after s command }

-- a pen that is down draws on its way to another place
abbrev pub segment_to : PenState → ℤ → ℤ → Option Segment
segment_to s x y =
    if s.down && not (int_eq x s.x && int_eq y s.y) then Some (record { x1 = s.x; y1 = s.y; x2 = x; y2 = y }) else None

-- the segment that a command draws
abbrev pub drawn_by : PenState → PenCommand → Option Segment
drawn_by s command = segment_to s (place_after s command).0 (place_after s command).1

abbrev pub IsNoMove : PenCommand → Type 0
IsNoMove Raise = Unit {0}
IsNoMove Lower = Unit {0}
IsNoMove (To x y) = ⊥
IsNoMove (By dx dy) = ⊥

-- the command is no move, or the pen is up, or it stays where it is
abbrev pub DrawsNothing : PenState → PenCommand → Type 0
DrawsNothing s command =
    IsNoMove command ⊎ (s.down ≡ false) ⊎ (((place_after s command).0 ≡ s.x) × ((place_after s command).1 ≡ s.y))

abbrev pub reply_of : Option Segment → Reply
reply_of (Some segment) = Drawn segment
reply_of None = Done

-- the reply to each command in turn
abbrev pub pen : PenState → List PenCommand → List Reply
pen s [] = []
pen s (command ∷ commands) = reply_of (drawn_by s command) ∷ pen (state_after s command) commands

-- the pen after all of them
abbrev pub pen_end : PenState → List PenCommand → PenState
pen_end s [] = s
pen_end s (command ∷ commands) = pen_end (state_after s command) commands

-- a pen of the program as its place and whether it is down
abbrev pub state_of : Pen → PenState
state_of p = record { x = p.x; y = p.y; down = p.down }
