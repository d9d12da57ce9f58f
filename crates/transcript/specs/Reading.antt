-- How the words of a line are read as an entry. What matters is that the words of an entry's line give that entry:
-- what is read is printed and compared.
use Rattle.std.specs.Prelude.{ℕ, ℤ, ⊤, Bool, true, false, ◌==◌, if◌then◌else◌, Option, Some, None, List, [], ◌∷◌, map, codes}
use Rattle.std.specs.List.{slice_split}
use Rattle.std.specs.Str.{bytes_eq, chars}
use Rattle.kumir_values.specs.declared.run_end.RunFault.{RunFault}
use Rattle.kumir_values.specs.declared.run_end.RunFault.TheVariants as fault
use Rattle.kumir_values.specs.declared.run_end.EndKind.{EndKind}
use Rattle.kumir_values.specs.declared.run_end.EndKind.TheVariants as end
use Rattle.kumir_values.specs.declared.value.Value.TheVariants.{Truth}
use Rattle.kumir_values.specs.Values.{printed}
use Rattle.performer_kit.specs.declared.commands.Reply.{Reply}
use Rattle.performer_kit.specs.declared.commands.Reply.TheVariants as reply
use Rattle.performer_kit.specs.declared.commands.RobotCommand.{RobotCommand}
use Rattle.performer_kit.specs.declared.commands.PenShape.{PenShape}
use Rattle.performer_kit.specs.declared.commands.PenShape.TheVariants as shape
use Rattle.performer_kit.specs.declared.commands.PenCommand.{PenCommand}
use Rattle.performer_kit.specs.declared.commands.PenCommand.TheVariants as pen
use Rattle.performer_kit.specs.Commands.{robot_command_named, pen_shape_named}
use Rattle.decimals.specs.Numbers.{number_of, whole_of, wide_of}
use Rattle.transcript.specs.declared.entry.Entry.{Entry}
use Rattle.transcript.specs.declared.entry.Entry.TheVariants.{Edit, EditRange, EditLong, EditMany, FieldOk, FieldBad, Run, RunBusy, Stop, StopIdle, Waited, Bad, Margin, Out, RefusedFaults, RefusedMain, Robot, Pen, End, Bye}

-- the words of a line
abbrev pub parts : List ℕ → List (List ℕ)
parts bs = slice_split (λ b. b == 32) bs

abbrev pub edit_of : Option ℕ → Option Entry
edit_of (Some version) = Some (Edit version)
edit_of None = None

abbrev pub edit_refusal : List ℕ → Option Entry
edit_refusal why =
    if bytes_eq why (codes "range") then Some EditRange
    else (if bytes_eq why (codes "long") then Some EditLong
    else (if bytes_eq why (codes "many") then Some EditMany else None))

-- what follows `edit`
abbrev pub edit_entry : List (List ℕ) → Option Entry
edit_entry (version ∷ []) = edit_of (number_of version)
edit_entry (word ∷ why ∷ []) = if bytes_eq word (codes "refused") then edit_refusal why else None
edit_entry _ = None

abbrev pub field_bad_of : Option ℕ → Option Entry
field_bad_of (Some line) = Some (FieldBad line)
field_bad_of None = None

-- what follows `field`
abbrev pub field_entry : List (List ℕ) → Option Entry
field_entry (word ∷ []) = if bytes_eq word (codes "ok") then Some FieldOk else None
field_entry (word ∷ line ∷ []) = if bytes_eq word (codes "bad") then field_bad_of (number_of line) else None
field_entry _ = None

abbrev pub run_of : Option ℕ → Option ℕ → Option Entry
run_of (Some run) (Some version) = Some (Run run version)
run_of _ _ = None

-- what follows `run`
abbrev pub run_entry : List (List ℕ) → Option Entry
run_entry (run ∷ version ∷ []) =
    if bytes_eq run (codes "refused") then (if bytes_eq version (codes "busy") then Some RunBusy else None)
    else run_of (number_of run) (number_of version)
run_entry _ = None

abbrev pub stop_of : Option ℕ → Option Entry
stop_of (Some run) = Some (Stop run)
stop_of None = None

-- what follows `stop`
abbrev pub stop_entry : List (List ℕ) → Option Entry
stop_entry (run ∷ []) = if bytes_eq run (codes "idle") then Some StopIdle else stop_of (number_of run)
stop_entry _ = None

abbrev pub bad_of : Option ℕ → Option Entry
bad_of (Some line) = Some (Bad line)
bad_of None = None

-- what follows `bad`
abbrev pub bad_entry : List (List ℕ) → Option Entry
bad_entry (line ∷ []) = bad_of (number_of line)
bad_entry _ = None

abbrev pub refused_of : Option ℕ → List ℕ → Option Entry
refused_of (Some run) why =
    if bytes_eq why (codes "faults") then Some (RefusedFaults run)
    else (if bytes_eq why (codes "main") then Some (RefusedMain run) else None)
refused_of None why = None

-- what follows `refused`
abbrev pub refused_entry : List (List ℕ) → Option Entry
refused_entry (run ∷ why ∷ []) = refused_of (number_of run) why
refused_entry _ = None

abbrev pub fault_named : List ℕ → Option RunFault
fault_named word =
    if bytes_eq word (codes "unset") then Some fault.Unset
    else (if bytes_eq word (codes "range") then Some fault.Range
    else (if bytes_eq word (codes "divisor") then Some fault.Divisor
    else (if bytes_eq word (codes "exponent") then Some fault.Exponent
    else (if bytes_eq word (codes "step") then Some fault.StepZero
    else (if bytes_eq word (codes "index") then Some fault.Index
    else (if bytes_eq word (codes "bounds") then Some fault.Bounds
    else (if bytes_eq word (codes "elements") then Some fault.Elements
    else (if bytes_eq word (codes "depth") then Some fault.Depth
    else (if bytes_eq word (codes "no-input") then Some fault.NoInput
    else (if bytes_eq word (codes "input-type") then Some fault.InputType
    else (if bytes_eq word (codes "no-value") then Some fault.NoValue else None)))))))))))

abbrev pub plain_end : List ℕ → Option EndKind
plain_end word =
    if bytes_eq word (codes "done") then Some end.Done
    else (if bytes_eq word (codes "quit") then Some end.Quit
    else (if bytes_eq word (codes "steps") then Some end.Steps
    else (if bytes_eq word (codes "stopped") then Some end.Stopped else None)))

abbrev pub line_end : List ℕ → Option ℕ → Option EndKind
line_end word (Some line) =
    if bytes_eq word (codes "assert") then Some (end.Assert line)
    else (if bytes_eq word (codes "wall") then Some (end.Wall line) else None)
line_end word None = None

abbrev pub fault_end : Option ℕ → Option RunFault → Option EndKind
fault_end (Some line) (Some fault) = Some (end.Fault line fault)
fault_end _ _ = None

-- the words of an end
abbrev pub end_of : List (List ℕ) → Option EndKind
end_of (word ∷ []) = plain_end word
end_of (word ∷ line ∷ []) = line_end word (number_of line)
end_of (word ∷ line ∷ fault ∷ []) = if bytes_eq word (codes "fault") then fault_end (number_of line) (fault_named fault) else None
end_of _ = None

abbrev pub ended : Option ℕ → Option EndKind → Option Entry
ended (Some run) (Some kind) = Some (End run kind)
ended _ _ = None

-- what follows `end`
abbrev pub end_entry : List (List ℕ) → Option Entry
end_entry (run ∷ kind) = ended (number_of run) (end_of kind)
end_entry _ = None

-- a blank for each `_`
abbrev pub parted_char : ℕ → ℕ
parted_char c = if c == 95 then 32 else c

abbrev pub parted_words : List ℕ → List ℕ
parted_words text = map parted_char text

-- the Robot's command, the Draughtsman's, that a word names
abbrev pub robot_word : List ℕ → Option RobotCommand
robot_word word = robot_command_named (parted_words (chars word))

abbrev pub pen_word : List ℕ → Option PenShape
pen_word word = pen_shape_named (parted_words (chars word))

abbrev pub robot_reply : List ℕ → Option Reply
robot_reply word =
    if bytes_eq word (codes "done") then Some reply.Done
    else (if bytes_eq word (printed (Truth true)) then Some reply.Yes
    else (if bytes_eq word (printed (Truth false)) then Some reply.No
    else (if bytes_eq word (codes "wall") then Some reply.Wall else None)))

abbrev pub robot_of : Option ℕ → Option ℕ → Option RobotCommand → Option Reply → Option Entry
robot_of (Some run) (Some number) (Some command) (Some reply) = Some (Robot run number command reply)
robot_of _ _ _ _ = None

-- what follows `robot`
abbrev pub robot_entry : List (List ℕ) → Option Entry
robot_entry (run ∷ number ∷ command ∷ reply ∷ []) = robot_of (number_of run) (number_of number) (robot_word command) (robot_reply reply)
robot_entry _ = None

abbrev pub drawn : Option ℤ → Option ℤ → Option ℤ → Option ℤ → Option Reply
drawn (Some x1) (Some y1) (Some x2) (Some y2) = Some (reply.Drawn record { x1 = x1; y1 = y1; x2 = x2; y2 = y2 })
drawn _ _ _ _ = None

-- the words of a reply of the Draughtsman
abbrev pub pen_reply : List (List ℕ) → Option Reply
pen_reply (word ∷ []) = if bytes_eq word (codes "done") then Some reply.Done else None
pen_reply (word ∷ x1 ∷ y1 ∷ x2 ∷ y2 ∷ []) =
    if bytes_eq word (codes "line") then drawn (wide_of x1) (wide_of y1) (wide_of x2) (wide_of y2) else None
pen_reply _ = None

abbrev pub pen_of : ℕ → ℕ → Option PenCommand → Option Reply → Option Entry
pen_of run number (Some command) (Some reply) = Some (Pen run number command reply)
pen_of _ _ _ _ = None

abbrev pub pen_move : PenShape → Option ℤ → Option ℤ → Option PenCommand
pen_move shape.To (Some x) (Some y) = Some (pen.To x y)
pen_move shape.By (Some x) (Some y) = Some (pen.By x y)
pen_move _ _ _ = None

abbrev pub pen_far : ℕ → ℕ → PenShape → List (List ℕ) → Option Entry
pen_far run number s (x ∷ y ∷ rest) = pen_of run number (pen_move s (whole_of x) (whole_of y)) (pen_reply rest)
pen_far run number s _ = None

abbrev pub pen_told : ℕ → ℕ → PenShape → List (List ℕ) → Option Entry
pen_told run number shape.Raise rest = pen_of run number (Some pen.Raise) (pen_reply rest)
pen_told run number shape.Lower rest = pen_of run number (Some pen.Lower) (pen_reply rest)
pen_told run number shape.To rest = pen_far run number shape.To rest
pen_told run number shape.By rest = pen_far run number shape.By rest

abbrev pub pen_tail : Option ℕ → Option ℕ → Option PenShape → List (List ℕ) → Option Entry
pen_tail (Some run) (Some number) (Some s) rest = pen_told run number s rest
pen_tail _ _ _ _ = None

-- what follows `pen`
abbrev pub pen_entry : List (List ℕ) → Option Entry
pen_entry (run ∷ number ∷ command ∷ rest) = pen_tail (number_of run) (number_of number) (pen_word command) rest
pen_entry _ = None

abbrev pub alone_entry : List ℕ → Option Entry
alone_entry word = if bytes_eq word (codes "waited") then Some Waited else (if bytes_eq word (codes "bye") then Some Bye else None)

-- an entry of a run, of its first word and the others
abbrev pub told_of : List ℕ → List (List ℕ) → Option Entry
told_of word words =
    if bytes_eq word (codes "robot") then robot_entry words
    else (if bytes_eq word (codes "pen") then pen_entry words
    else (if bytes_eq word (codes "end") then end_entry words
    else (if bytes_eq word (codes "refused") then refused_entry words else None)))

-- an entry that answers a request
abbrev pub answer_of : List ℕ → List (List ℕ) → Option Entry
answer_of word words =
    if bytes_eq word (codes "edit") then edit_entry words
    else (if bytes_eq word (codes "field") then field_entry words
    else (if bytes_eq word (codes "run") then run_entry words
    else (if bytes_eq word (codes "stop") then stop_entry words
    else (if bytes_eq word (codes "bad") then bad_entry words else told_of word words))))

-- the entry of these words, an output and a margin aside
abbrev pub entry_of : List (List ℕ) → Option Entry
entry_of [] = None
entry_of (word ∷ []) = alone_entry word
entry_of (word ∷ words) = answer_of word words

-- an entry that is neither an output nor a margin
abbrev pub IsPlain : Entry → Type 0
IsPlain (Margin version margin) = ⊥
IsPlain (Out run text) = ⊥
IsPlain e = ⊤

-- The text of an output, of its escapes: a character after a reverse solidus is itself, or a line feed where it is `n`.
abbrev pub unescaped : Bool → List ℕ → List ℕ
unescaped after [] = []
unescaped true (c ∷ cs) = (if c == 110 then 10 else c) ∷ unescaped false cs
unescaped false (c ∷ cs) = if c == 92 then unescaped true cs else c ∷ unescaped false cs
