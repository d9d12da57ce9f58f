-- What the performers of a run have carried out after some of its acts.
use Rattle.std.proofs.Common.{◌≡◌, ℕ, ◌+◌, List, [], ◌∷◌, ◌++◌, length, refl, ap, arith}
use Rattle.performer_kit.specs.declared.commands.Command.TheVariants.{Robot, Pen}
use Rattle.kumir_meaning.specs.Runs.{Act, Printed, Sent}
use Rattle.kumir_compiler.specs.Laws.{robot_commands_of, pen_commands_of}
use Rattle.robot_field.specs.Board.{robot_end}
use Rattle.transcript.specs.declared.entry.Entry.TheVariants as entry
use Rattle.plain_run.specs.RunEntries.{Performers, with_command, report, act_entries}

abbrev pub performed : Performers → List Act → Performers
performed w [] = w
performed w (Printed text ∷ acts) = performed w acts
performed w (Sent command ∷ acts) = performed (with_command w command) acts

pub performed_then : (w : Performers) (xs ys : List Act) → performed w (xs ++ ys) ≡ performed (performed w xs) ys
performed_then w [] ys = refl
performed_then w (Printed text ∷ xs) ys = performed_then w xs ys
performed_then w (Sent command ∷ xs) ys = performed_then (with_command w command) xs ys

pub entries_then : (r : ℕ) (w : Performers) (xs ys : List Act) → act_entries r w (xs ++ ys) ≡ act_entries r w xs ++ act_entries r (performed w xs) ys
entries_then r w [] ys = refl
entries_then r w (Printed text ∷ xs) ys = ap (λ es. entry.Out r text ∷ es) (entries_then r w xs ys)
entries_then r w (Sent command ∷ xs) ys = ap (λ es. report r w command ∷ es) (entries_then r (with_command w command) xs ys)

pub robot_then : (xs ys : List Act) → robot_commands_of (xs ++ ys) ≡ robot_commands_of xs ++ robot_commands_of ys
robot_then [] ys = refl
robot_then (Printed text ∷ xs) ys = robot_then xs ys
robot_then (Sent (Robot command) ∷ xs) ys = ap (λ l. command ∷ l) (robot_then xs ys)
robot_then (Sent (Pen command) ∷ xs) ys = robot_then xs ys

pub pen_then : (xs ys : List Act) → pen_commands_of (xs ++ ys) ≡ pen_commands_of xs ++ pen_commands_of ys
pen_then [] ys = refl
pen_then (Printed text ∷ xs) ys = pen_then xs ys
pen_then (Sent (Robot command) ∷ xs) ys = pen_then xs ys
pen_then (Sent (Pen command) ∷ xs) ys = ap (λ l. command ∷ l) (pen_then xs ys)

-- how far they have come
pub steps_after : (w : Performers) (xs : List Act) → (performed w xs).steps ≡ w.steps + length (robot_commands_of xs)
steps_after w [] = omega arith
steps_after w (Printed text ∷ xs) = steps_after w xs
steps_after w (Sent (Robot command) ∷ xs) = let e = steps_after (with_command w (Robot command)) xs in omega (arith, e)
steps_after w (Sent (Pen command) ∷ xs) = steps_after (with_command w (Pen command)) xs

pub moves_after : (w : Performers) (xs : List Act) → (performed w xs).moves ≡ w.moves + length (pen_commands_of xs)
moves_after w [] = omega arith
moves_after w (Printed text ∷ xs) = moves_after w xs
moves_after w (Sent (Robot command) ∷ xs) = moves_after (with_command w (Robot command)) xs
moves_after w (Sent (Pen command) ∷ xs) = let e = moves_after (with_command w (Pen command)) xs in omega (arith, e)

pub field_after : (w : Performers) (xs : List Act) → (performed w xs).field ≡ robot_end w.field (robot_commands_of xs)
field_after w [] = refl
field_after w (Printed text ∷ xs) = field_after w xs
field_after w (Sent (Robot command) ∷ xs) = field_after (with_command w (Robot command)) xs
field_after w (Sent (Pen command) ∷ xs) = field_after (with_command w (Pen command)) xs
