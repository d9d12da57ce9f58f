-- How a transcript prints, as bytes. docs/PROGRAM.md, "Transcript".
use Rattle.std.specs.Prelude.{ℕ, ◌≡◌, ◌<◌, ◌^◌, ◌≢◌, ◌==◌, if◌then◌else◌, true, false, ⊤, List, [], ◌∷◌, ◌++◌, codes}
use Rattle.std.specs.List.{flat_map}
use Rattle.std.specs.Str.{all_scalars}
use Rattle.std.specs.Int.Signed.{mag}
use Rattle.std.specs.Fmt.{decimal, signed_decimal}
use Rattle.std.specs.Str.{encode_utf8_all}
use Rattle.kumir_values.specs.declared.run_end.RunFault.{RunFault}
use Rattle.kumir_values.specs.declared.run_end.RunFault.TheVariants as fault
use Rattle.kumir_values.specs.declared.run_end.EndKind.{EndKind}
use Rattle.kumir_values.specs.declared.run_end.EndKind.TheVariants as end
use Rattle.kumir_values.specs.declared.value.Value.TheVariants.{Truth}
use Rattle.kumir_values.specs.Values.{printed}
use Rattle.performer_kit.specs.declared.commands.Reply.{Reply}
use Rattle.performer_kit.specs.declared.commands.Reply.TheVariants as reply
use Rattle.performer_kit.specs.declared.commands.Command.TheVariants as told
use Rattle.performer_kit.specs.declared.commands.PenCommand.{PenCommand}
use Rattle.performer_kit.specs.declared.commands.PenCommand.TheVariants as pen
use Rattle.performer_kit.specs.Commands.{printed_command}
use Rattle.margins.specs.Marks.{IsMargin}
use Rattle.margins.specs.Printed.{printed_margin}
use Rattle.transcript.specs.declared.entry.Entry.{Entry}
use Rattle.transcript.specs.declared.entry.Entry.TheVariants.{Edit, EditRange, EditLong, EditMany, FieldOk, FieldBad, Run, RunBusy, Stop, StopIdle, Waited, Bad, Margin, RefusedFaults, RefusedMain, Out, Robot, Pen, End, Bye}

-- a reverse solidus is printed twice, a line feed as a reverse solidus and `n`
abbrev pub escaped_char : ℕ → List ℕ
escaped_char c = if c == 92 then codes "\\\\" else (if c == 10 then codes "\\n" else (c ∷ []))

abbrev pub escaped : List ℕ → List ℕ
escaped text = flat_map escaped_char text

abbrev pub fault_word : RunFault → List ℕ
fault_word fault.Unset = codes "unset"
fault_word fault.Range = codes "range"
fault_word fault.Divisor = codes "divisor"
fault_word fault.Exponent = codes "exponent"
fault_word fault.StepZero = codes "step"
fault_word fault.Index = codes "index"
fault_word fault.Bounds = codes "bounds"
fault_word fault.Elements = codes "elements"
fault_word fault.Depth = codes "depth"
fault_word fault.NoInput = codes "no-input"
fault_word fault.InputType = codes "input-type"
fault_word fault.NoValue = codes "no-value"

-- want of memory is never printed
abbrev pub end_text : EndKind → List ℕ
end_text end.Done = codes "done"
end_text end.Quit = codes "quit"
end_text (end.Assert line) = codes "assert " ++ decimal line
end_text (end.Fault line fault) = codes "fault " ++ (decimal line ++ (codes " " ++ fault_word fault))
end_text (end.Wall line) = codes "wall " ++ decimal line
end_text end.Steps = codes "steps"
end_text end.Stopped = codes "stopped"
end_text end.Memory = []

abbrev pub reply_text : Reply → List ℕ
reply_text reply.Done = codes "done"
reply_text reply.Yes = printed (Truth true)
reply_text reply.No = printed (Truth false)
reply_text reply.Wall = codes "wall"
reply_text (reply.Drawn s) =
    codes "line " ++ (signed_decimal s.x1 ++ (codes " " ++ (signed_decimal s.y1 ++ (codes " " ++ (signed_decimal s.x2 ++ (codes " " ++ signed_decimal s.y2))))))

-- an entry without the end of its line
abbrev pub entry_line : Entry → List ℕ
entry_line (Edit version) = codes "edit " ++ decimal version
entry_line EditRange = codes "edit refused range"
entry_line EditLong = codes "edit refused long"
entry_line EditMany = codes "edit refused many"
entry_line FieldOk = codes "field ok"
entry_line (FieldBad line) = codes "field bad " ++ decimal line
entry_line (Run run version) = codes "run " ++ (decimal run ++ (codes " " ++ decimal version))
entry_line RunBusy = codes "run refused busy"
entry_line (Stop run) = codes "stop " ++ decimal run
entry_line StopIdle = codes "stop idle"
entry_line Waited = codes "waited"
entry_line (Bad line) = codes "bad " ++ decimal line
entry_line (Margin version margin) = codes "margin " ++ (decimal version ++ printed_margin margin)
entry_line (RefusedFaults run) = codes "refused " ++ (decimal run ++ codes " faults")
entry_line (RefusedMain run) = codes "refused " ++ (decimal run ++ codes " main")
entry_line (Out run text) = codes "out " ++ (decimal run ++ (codes " " ++ encode_utf8_all (escaped text)))
entry_line (Robot run number command reply) =
    codes "robot " ++ (decimal run ++ (codes " " ++ (decimal number ++ (codes " " ++ (encode_utf8_all (printed_command (told.Robot command)) ++ (codes " " ++ reply_text reply))))))
entry_line (Pen run number command reply) =
    codes "pen " ++ (decimal run ++ (codes " " ++ (decimal number ++ (codes " " ++ (encode_utf8_all (printed_command (told.Pen command)) ++ (codes " " ++ reply_text reply))))))
entry_line (End run end) = codes "end " ++ (decimal run ++ (codes " " ++ end_text end))
entry_line Bye = codes "bye"

-- the printed entry: its line with a line feed
abbrev pub printed_entry : Entry → List ℕ
printed_entry e = entry_line e ++ codes "\n"

-- the bytes of a transcript
abbrev pub print : List Entry → List ℕ
print entries = flat_map printed_entry entries

-- the replies that a transcript shows of the Robot, and of the Draughtsman
abbrev pub IsRobotReply : Reply → Type 0
IsRobotReply (reply.Drawn s) = ⊥
IsRobotReply r = ⊤

abbrev pub IsPenReply : Reply → Type 0
IsPenReply reply.Done = ⊤
IsPenReply (reply.Drawn s) = ⊤
IsPenReply r = ⊥

-- the entry has another end than want of memory, and a report has a reply of its performer
abbrev pub IsPrintable : Entry → Type 0
IsPrintable (Robot run number command r) = IsRobotReply r
IsPrintable (Pen run number command r) = IsPenReply r
IsPrintable (End run kind) = kind ≢ end.Memory
IsPrintable e = ⊤

-- The parts of an entry are values of their types: numbers of 32 or of 64 bits, characters, the marks of a margin.
abbrev pub IsNumber : ℕ → Type 0
IsNumber n = n < 2 ^ 32

abbrev pub IsPenCommand : PenCommand → Type 0
IsPenCommand (pen.To x y) = (mag x < 2 ^ 31) × (mag y < 2 ^ 31)
IsPenCommand (pen.By x y) = (mag x < 2 ^ 31) × (mag y < 2 ^ 31)
IsPenCommand c = ⊤

abbrev pub IsReply : Reply → Type 0
IsReply (reply.Drawn s) = (mag s.x1 < 2 ^ 63) × (mag s.y1 < 2 ^ 63) × (mag s.x2 < 2 ^ 63) × (mag s.y2 < 2 ^ 63)
IsReply r = ⊤

abbrev pub IsEnd : EndKind → Type 0
IsEnd (end.Assert line) = IsNumber line
IsEnd (end.Fault line fault) = IsNumber line
IsEnd (end.Wall line) = IsNumber line
IsEnd kind = ⊤

abbrev pub IsEntry : Entry → Type 0
IsEntry (Edit version) = IsNumber version
IsEntry (FieldBad line) = IsNumber line
IsEntry (Run run version) = IsNumber run × IsNumber version
IsEntry (Stop run) = IsNumber run
IsEntry (Bad line) = IsNumber line
IsEntry (Margin version margin) = IsNumber version × IsMargin margin
IsEntry (RefusedFaults run) = IsNumber run
IsEntry (RefusedMain run) = IsNumber run
IsEntry (Out run text) = IsNumber run × (all_scalars text ≡ true)
IsEntry (Robot run number command r) = IsNumber run × IsNumber number × IsReply r
IsEntry (Pen run number command r) = IsNumber run × IsNumber number × IsPenCommand command × IsReply r
IsEntry (End run kind) = IsNumber run × IsEnd kind
IsEntry e = ⊤
