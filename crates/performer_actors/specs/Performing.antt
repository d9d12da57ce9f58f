-- What a performer tells of the tasks that it takes, for both performers. docs/ARCHITECTURE.md, "Actors".
use Rattle.std.specs.Prelude.{ℕ, ◌+◌, ◌==◌, Bool, true, false, ◌&&◌, List, [], ◌∷◌, Option, Some, None, if◌then◌else◌}
use Rattle.performer_kit.specs.declared.commands.Command.{Command}
use Rattle.performer_kit.specs.declared.commands.Reply.{Reply}
use Rattle.performer_kit.specs.declared.commands.Report.{Report}
use Rattle.actor_kit.specs.declared.messages.Note.{Note}
use Rattle.actor_kit.specs.declared.messages.Note.TheVariants as note
use Rattle.actor_kit.specs.Folds.{given_by}

-- a kind of performer: where a command leads it, what it answers, and how a report names the command
pub record Behaviour (Place C : Type 0) : Type 0 where
  pub next : Place → C → Place
  pub reply : Place → C → Reply
  pub named : C → Command

-- a run begins at a place; a command of a run, with its number in the run; no further task comes
pub data Task (Place C : Type 0) : Type 0 where
  Begins : (run : ℕ) → (place : Place) → Task Place C
  Acts : (run : ℕ) → (number : ℕ) → (command : C) → Task Place C
  Closes : Task Place C

-- the run that began last, how many of its commands were carried out, and the place that they led to
pub record Stand (Place : Type 0) : Type 0 where
  pub run : ℕ
  pub done : ℕ
  pub place : Place

-- a command is carried out where its run is that of the last begin, and its number is the next from 1
abbrev pub is_next : {Place : Type 0} → Stand Place → ℕ → ℕ → Bool
is_next s run number = (run == s.run) && (number == s.done + 1)

abbrev pub onward : {Place C : Type 0} → Behaviour Place C → Stand Place → C → Stand Place
onward p s command = record { run = s.run; done = s.done + 1; place = p.next s.place command }

abbrev pub report_on : {Place C : Type 0} → Behaviour Place C → Stand Place → C → Report
report_on p s command = record { run = s.run; number = s.done + 1; command = p.named command; reply = p.reply s.place command }

-- where a task leads; before the first begin there is no place
abbrev pub leads : {Place C : Type 0} → Behaviour Place C → Option (Stand Place) → Task Place C → Option (Stand Place)
leads p s (Begins run place) = Some (record { run = run; done = 0; place = place })
leads p None (Acts run number command) = None
leads p (Some s) (Acts run number command) = Some (if is_next s run number then onward p s command else s)
leads p s Closes = s

-- the notes that a task gives
abbrev pub gives : {Place C : Type 0} → Behaviour Place C → Option (Stand Place) → Task Place C → List Note
gives p s (Begins run place) = []
gives p None (Acts run number command) = []
gives p (Some s) (Acts run number command) = if is_next s run number then note.Report (report_on p s command) ∷ [] else []
gives p s Closes = note.Gone ∷ []

-- the notes that a list of tasks gives
abbrev pub notes_on : {Place C : Type 0} → Behaviour Place C → List (Task Place C) → List Note
notes_on p tasks = given_by (leads p) (gives p) None tasks

-- the replies in the reports of these notes
abbrev pub replies_in : List Note → List Reply
replies_in [] = []
replies_in (note.Report report ∷ notes) = report.reply ∷ replies_in notes
replies_in (note.Gone ∷ notes) = replies_in notes

abbrev pub is_gone : Note → Bool
is_gone (note.Report report) = false
is_gone note.Gone = true

-- `Gone` is among them
abbrev pub has_gone : List Note → Bool
has_gone [] = false
has_gone (note.Report report ∷ notes) = has_gone notes
has_gone (note.Gone ∷ notes) = true
