-- The words of an entry's line are read as that entry.
use Rattle.std.proofs.Common.{◌≡◌, ◌≢◌, ℕ, ℤ, ◌^◌, ◌<◌, Bool, true, false, List, [], ◌∷◌, ◌++◌, Some, None, eqb, codes, refl, sym, ap, ◌∙◌, append_assoc, encode_utf8_all, arith}
use Rattle.std.specs.Int.Signed.{mag}
use Rattle.std.specs.Fmt.{digits, decimal, signed_decimal}
use Rattle.std.specs.Str.{bytes_eq, chars}
use Rattle.std.proofs.lemmas.Slice.Eq.{bytes_eq-Decides}
use Rattle.std.proofs.lemmas.List.Splits.{slice_split_none, slice_split_at}
use Rattle.kumir_values.specs.declared.run_end.RunFault.{RunFault}
use Rattle.kumir_values.specs.declared.run_end.RunFault.TheVariants as fault
use Rattle.kumir_values.specs.declared.run_end.EndKind.{EndKind}
use Rattle.kumir_values.specs.declared.run_end.EndKind.TheVariants as end
use Rattle.performer_kit.specs.declared.commands.Reply.{Reply}
use Rattle.performer_kit.specs.declared.commands.Reply.TheVariants as reply
use Rattle.performer_kit.specs.declared.commands.Command.TheVariants as told
use Rattle.performer_kit.specs.declared.commands.RobotCommand.{RobotCommand}
use Rattle.performer_kit.specs.declared.commands.RobotCommand.TheVariants.{Up, Down, Left, Right, Paint, AboveFree, BelowFree, LeftFree, RightFree, AboveWall, BelowWall, LeftWall, RightWall, CellPainted, CellClean}
use Rattle.performer_kit.specs.declared.commands.PenShape.{PenShape}
use Rattle.performer_kit.specs.declared.commands.PenShape.TheVariants as shape
use Rattle.performer_kit.specs.declared.commands.PenCommand.{PenCommand}
use Rattle.performer_kit.specs.declared.commands.PenCommand.TheVariants as pen
use Rattle.performer_kit.specs.Commands.{printed_command, printed_numbers, joined_words, command_name, command_numbers, numbers_of, shape_of, robot_name, pen_name, robot_command_named, pen_shape_named}
use Rattle.performer_kit.proofs.Printing.{encodes-printed_two, encodes-printed_command, encodes-printed_bare}
use Rattle.decimals.specs.Numbers.{number_of}
use Rattle.decimals.proofs.Numbers.{number_again, whole_again, wide_again, lower_than_digits, lower_than_minus}
use Rattle.transcript.specs.declared.entry.Entry.{Entry}
use Rattle.transcript.specs.declared.entry.Entry.TheVariants.{Edit, EditRange, EditLong, EditMany, FieldOk, FieldBad, Run, RunBusy, Stop, StopIdle, Waited, Bad, Margin, RefusedFaults, RefusedMain, Out, Robot, Pen, End, Bye}
use Rattle.transcript.specs.Print.{fault_word, end_text, reply_text, entry_line, IsRobotReply, IsPenReply, IsPrintable, IsNumber, IsPenCommand, IsReply, IsEnd, IsEntry}
use Rattle.transcript.specs.Reading.{parts, edit_of, field_bad_of, run_of, stop_of, bad_of, refused_of, fault_named, end_of, line_end, fault_end, ended, robot_word, pen_word, robot_reply, robot_of, drawn, pen_reply, pen_of, pen_move, pen_told, pen_tail, IsPlain, entry_of}

-- a printed number is one word
pub last_number : (n : ℕ) → IsNumber n → parts (decimal n) ≡ decimal n ∷ []
last_number n h = slice_split_none (λ b. eqb b 32) (decimal n) (lower_than_digits 32 n (omega arith) (omega (arith, h)))

pub first_number : (n : ℕ) (rest : List ℕ) → IsNumber n → parts (decimal n ++ 32 ∷ rest) ≡ decimal n ∷ parts rest
first_number n rest h = slice_split_at (λ b. eqb b 32) (decimal n) 32 rest (lower_than_digits 32 n (omega arith) (omega (arith, h))) refl

last_signed : (z : ℤ) → mag z < 2 ^ 63 → parts (signed_decimal z) ≡ signed_decimal z ∷ []
last_signed z h = slice_split_none (λ b. eqb b 32) (signed_decimal z) (lower_than_minus 32 z (omega arith) h)

first_signed : (z : ℤ) (rest : List ℕ) → mag z < 2 ^ 63 → parts (signed_decimal z ++ 32 ∷ rest) ≡ signed_decimal z ∷ parts rest
first_signed z rest h = slice_split_at (λ b. eqb b 32) (signed_decimal z) 32 rest (lower_than_minus 32 z (omega arith) h) refl

-- a word that is no number is no printed number
no_word : (n : ℕ) (w : List ℕ) (b : Bool) → IsNumber n → number_of w ≡ None → bytes_eq (decimal n) w ≡ b → bytes_eq (decimal n) w ≡ false
no_word n w true h none is =
    let some = number_again n h in
    let same : number_of (decimal n) ≡ number_of w = ap number_of ((bytes_eq-Decides (decimal n) w).0 is) in
    absurd (let no_such : ⊥ = cc in no_such)
no_word n w false h none is = is

not_refused : (n : ℕ) → IsNumber n → bytes_eq (decimal n) (codes "refused") ≡ false
unfolding number_of digits
not_refused n h = no_word n (codes "refused") _ h refl refl

not_idle : (n : ℕ) → IsNumber n → bytes_eq (decimal n) (codes "idle") ≡ false
unfolding number_of digits
not_idle n h = no_word n (codes "idle") _ h refl refl

run_again : (run version : ℕ) → IsNumber run → IsNumber version → entry_of (parts (entry_line (Run run version))) ≡ Some (Run run version)
run_again run version h k =
    ap entry_of (ap (λ l. codes "run" ∷ l) (first_number run (decimal version) h ∙ ap (λ l. decimal run ∷ l) (last_number version k)))
    ∙ (rw (not_refused run h) (λ i. run_of (number_again run h i) (number_again version k i)))

pub stop_again : (run : ℕ) → IsNumber run → entry_of (parts (entry_line (Stop run))) ≡ Some (Stop run)
stop_again run h =
    ap entry_of (ap (λ l. codes "stop" ∷ l) (last_number run h))
    ∙ (rw (not_idle run h) (ap stop_of (number_again run h)))

edit_again : (version : ℕ) → IsNumber version → entry_of (parts (entry_line (Edit version))) ≡ Some (Edit version)
edit_again version h = ap entry_of (ap (λ l. codes "edit" ∷ l) (last_number version h)) ∙ ap edit_of (number_again version h)

field_bad_again : (line : ℕ) → IsNumber line → entry_of (parts (entry_line (FieldBad line))) ≡ Some (FieldBad line)
field_bad_again line h = ap entry_of (ap (λ l. codes "field" ∷ codes "bad" ∷ l) (last_number line h)) ∙ ap field_bad_of (number_again line h)

bad_again : (line : ℕ) → IsNumber line → entry_of (parts (entry_line (Bad line))) ≡ Some (Bad line)
bad_again line h = ap entry_of (ap (λ l. codes "bad" ∷ l) (last_number line h)) ∙ ap bad_of (number_again line h)

faults_again : (run : ℕ) → IsNumber run → entry_of (parts (entry_line (RefusedFaults run))) ≡ Some (RefusedFaults run)
faults_again run h = ap entry_of (ap (λ l. codes "refused" ∷ l) (first_number run (codes "faults") h)) ∙ ap (λ n. refused_of n (codes "faults")) (number_again run h)

main_again : (run : ℕ) → IsNumber run → entry_of (parts (entry_line (RefusedMain run))) ≡ Some (RefusedMain run)
main_again run h = ap entry_of (ap (λ l. codes "refused" ∷ l) (first_number run (codes "main") h)) ∙ ap (λ n. refused_of n (codes "main")) (number_again run h)

fault_parts : (f : RunFault) → parts (fault_word f) ≡ fault_word f ∷ []
fault_parts fault.Unset = refl
fault_parts fault.Range = refl
fault_parts fault.Divisor = refl
fault_parts fault.Exponent = refl
fault_parts fault.StepZero = refl
fault_parts fault.Index = refl
fault_parts fault.Bounds = refl
fault_parts fault.Elements = refl
fault_parts fault.Depth = refl
fault_parts fault.NoInput = refl
fault_parts fault.InputType = refl
fault_parts fault.NoValue = refl

fault_again : (f : RunFault) → fault_named (fault_word f) ≡ Some f
fault_again fault.Unset = refl
fault_again fault.Range = refl
fault_again fault.Divisor = refl
fault_again fault.Exponent = refl
fault_again fault.StepZero = refl
fault_again fault.Index = refl
fault_again fault.Bounds = refl
fault_again fault.Elements = refl
fault_again fault.Depth = refl
fault_again fault.NoInput = refl
fault_again fault.InputType = refl
fault_again fault.NoValue = refl

end_kind_again : (kind : EndKind) → IsEnd kind → kind ≢ end.Memory → end_of (parts (end_text kind)) ≡ Some kind
end_kind_again end.Done h some = refl
end_kind_again end.Quit h some = refl
end_kind_again (end.Assert line) h some =
    ap end_of (ap (λ l. codes "assert" ∷ l) (last_number line h)) ∙ ap (line_end (codes "assert")) (number_again line h)
end_kind_again (end.Fault line f) h some =
    ap end_of (ap (λ l. codes "fault" ∷ l) (first_number line (fault_word f) h ∙ ap (λ l. decimal line ∷ l) (fault_parts f)))
    ∙ (λ i. fault_end (number_again line h i) (fault_again f i))
end_kind_again (end.Wall line) h some =
    ap end_of (ap (λ l. codes "wall" ∷ l) (last_number line h)) ∙ ap (line_end (codes "wall")) (number_again line h)
end_kind_again end.Steps h some = refl
end_kind_again end.Stopped h some = refl
end_kind_again end.Memory h some = absurd (some refl)

end_again : (run : ℕ) (kind : EndKind) → IsNumber run → IsEnd kind → kind ≢ end.Memory → entry_of (parts (entry_line (End run kind))) ≡ Some (End run kind)
end_again run kind h k some =
    ap entry_of (ap (λ l. codes "end" ∷ l) (first_number run (end_text kind) h))
    ∙ (λ i. ended (number_again run h i) (end_kind_again kind k some i))

-- the Robot

robot_parts : (c : RobotCommand) (rest : List ℕ) → parts (encode_utf8_all (printed_command (told.Robot c)) ++ 32 ∷ rest) ≡ encode_utf8_all (joined_words (robot_name c)) ∷ parts rest
unfolding printed_command command_name command_numbers joined_words printed_numbers robot_name lib.Utf8.encode
robot_parts Up rest = refl
robot_parts Down rest = refl
robot_parts Left rest = refl
robot_parts Right rest = refl
robot_parts Paint rest = refl
robot_parts AboveFree rest = refl
robot_parts BelowFree rest = refl
robot_parts LeftFree rest = refl
robot_parts RightFree rest = refl
robot_parts AboveWall rest = refl
robot_parts BelowWall rest = refl
robot_parts LeftWall rest = refl
robot_parts RightWall rest = refl
robot_parts CellPainted rest = refl
robot_parts CellClean rest = refl

robot_again : (c : RobotCommand) → robot_word (encode_utf8_all (joined_words (robot_name c))) ≡ Some c
unfolding joined_words robot_name robot_command_named chars lib.Utf8.encode
robot_again Up = refl
robot_again Down = refl
robot_again Left = refl
robot_again Right = refl
robot_again Paint = refl
robot_again AboveFree = refl
robot_again BelowFree = refl
robot_again LeftFree = refl
robot_again RightFree = refl
robot_again AboveWall = refl
robot_again BelowWall = refl
robot_again LeftWall = refl
robot_again RightWall = refl
robot_again CellPainted = refl
robot_again CellClean = refl

robot_reply_parts : (r : Reply) → IsRobotReply r → parts (reply_text r) ≡ reply_text r ∷ []
robot_reply_parts reply.Done h = refl
robot_reply_parts reply.Yes h = refl
robot_reply_parts reply.No h = refl
robot_reply_parts reply.Wall h = refl
robot_reply_parts (reply.Drawn s) h = absurd h

robot_reply_again : (r : Reply) → IsRobotReply r → robot_reply (reply_text r) ≡ Some r
robot_reply_again reply.Done h = refl
robot_reply_again reply.Yes h = refl
robot_reply_again reply.No h = refl
robot_reply_again reply.Wall h = refl
robot_reply_again (reply.Drawn s) h = absurd h

robot_entry_again : (run number : ℕ) (c : RobotCommand) (r : Reply) → IsNumber run → IsNumber number → IsRobotReply r → entry_of (parts (entry_line (Robot run number c r))) ≡ Some (Robot run number c r)
robot_entry_again run number c r h k reply =
    ap entry_of
    (ap (λ l. codes "robot" ∷ l) (first_number run _ h
    ∙ ap (λ l. decimal run ∷ l) (first_number number _ k
    ∙ ap (λ l. decimal number ∷ l) (robot_parts c (reply_text r)
    ∙ ap (λ l. encode_utf8_all (joined_words (robot_name c)) ∷ l) (robot_reply_parts r reply)))))
    ∙ (λ i. robot_of (number_again run h i) (number_again number k i) (robot_again c i) (robot_reply_again r reply i))

-- the Draughtsman
unfoldable pub shape_text : PenShape → List ℕ
shape_text s = encode_utf8_all (joined_words (pen_name s))

pen_again : (s : PenShape) → pen_word (shape_text s) ≡ Some s
unfolding joined_words pen_name pen_shape_named chars lib.Utf8.encode shape_text
pen_again shape.Raise = refl
pen_again shape.Lower = refl
pen_again shape.To = refl
pen_again shape.By = refl

shape_parts : (s : PenShape) (rest : List ℕ) → parts (shape_text s ++ 32 ∷ rest) ≡ shape_text s ∷ parts rest
unfolding joined_words pen_name lib.Utf8.encode shape_text
shape_parts shape.Raise rest = refl
shape_parts shape.Lower rest = refl
shape_parts shape.To rest = refl
shape_parts shape.By rest = refl

pub bare_text : (c : PenCommand) → command_numbers (told.Pen c) ≡ [] → encode_utf8_all (printed_command (told.Pen c)) ≡ shape_text (shape_of c)
unfolding command_name shape_text
bare_text c none = sym (encodes-printed_bare (told.Pen c) none)

pub far_text : (c : PenCommand) (x y : ℤ) → mag x < 2 ^ 31 → mag y < 2 ^ 31 → command_numbers (told.Pen c) ≡ x ∷ y ∷ [] → encode_utf8_all (printed_command (told.Pen c)) ≡ shape_text (shape_of c) ++ 32 ∷ (signed_decimal x ++ 32 ∷ signed_decimal y)
unfolding command_name shape_text
far_text c x y h k numbers =
    sym (encodes-printed_command (told.Pen c) (x ∷ y ∷ []) (shape_text (shape_of c)) refl numbers)
    ∙ ap (λ bs. shape_text (shape_of c) ++ bs) (encodes-printed_two x y (omega (arith, h)) (omega (arith, k)))

-- a shape with two numbers, and what follows
far_parts : (s : PenShape) (x y : ℤ) (rest : List ℕ) → mag x < 2 ^ 31 → mag y < 2 ^ 31 → parts ((shape_text s ++ 32 ∷ (signed_decimal x ++ 32 ∷ signed_decimal y)) ++ 32 ∷ rest) ≡ shape_text s ∷ signed_decimal x ∷ signed_decimal y ∷ parts rest
far_parts s x y rest h k =
    ap parts (append_assoc (shape_text s) (32 ∷ (signed_decimal x ++ 32 ∷ signed_decimal y)) (32 ∷ rest))
    ∙ shape_parts s ((signed_decimal x ++ 32 ∷ signed_decimal y) ++ 32 ∷ rest)
    ∙ ap (λ l. shape_text s ∷ l)
    (ap parts (append_assoc (signed_decimal x) (32 ∷ signed_decimal y) (32 ∷ rest))
    ∙ first_signed x (signed_decimal y ++ 32 ∷ rest) (omega (arith, h))
    ∙ ap (λ l. signed_decimal x ∷ l) (first_signed y rest (omega (arith, k))))

pen_reply_again : (r : Reply) → IsPenReply r → IsReply r → pen_reply (parts (reply_text r)) ≡ Some r
pen_reply_again reply.Done h k = refl
pen_reply_again reply.Yes h k = absurd h
pen_reply_again reply.No h k = absurd h
pen_reply_again reply.Wall h k = absurd h
pen_reply_again (reply.Drawn s) h k =
    ap pen_reply
    (ap (λ l. codes "line" ∷ l) (first_signed s.x1 _ k.0
    ∙ ap (λ l. signed_decimal s.x1 ∷ l) (first_signed s.y1 _ k.1
    ∙ ap (λ l. signed_decimal s.y1 ∷ l) (first_signed s.x2 _ k.2
    ∙ ap (λ l. signed_decimal s.x2 ∷ l) (last_signed s.y2 k.3)))))
    ∙ (λ i. drawn (wide_again s.x1 k.0 i) (wide_again s.y1 k.1 i) (wide_again s.x2 k.2 i) (wide_again s.y2 k.3 i))

-- what a report of the Draughtsman begins with
pen_head : (run number : ℕ) (rest : List ℕ) → IsNumber run → IsNumber number → parts (codes "pen " ++ (decimal run ++ 32 ∷ (decimal number ++ 32 ∷ rest))) ≡ codes "pen" ∷ decimal run ∷ decimal number ∷ parts rest
pen_head run number rest h k =
    ap (λ l. codes "pen" ∷ l) (first_number run _ h ∙ ap (λ l. decimal run ∷ l) (first_number number rest k))

pen_tail_again : (run number : ℕ) (s : PenShape) (rest : List (List ℕ)) → IsNumber run → IsNumber number → entry_of (codes "pen" ∷ decimal run ∷ decimal number ∷ shape_text s ∷ rest) ≡ pen_told run number s rest
pen_tail_again run number s rest h k = λ i. pen_tail (number_again run h i) (number_again number k i) (pen_again s i) rest

bare_again : (run number : ℕ) (c : PenCommand) (r : Reply) → IsNumber run → IsNumber number → IsPenReply r → IsReply r → command_numbers (told.Pen c) ≡ [] → ((rest : List (List ℕ)) → pen_told run number (shape_of c) rest ≡ pen_of run number (Some c) (pen_reply rest)) → entry_of (parts (entry_line (Pen run number c r))) ≡ Some (Pen run number c r)
bare_again run number c r h k printable fits none told =
    ap entry_of (pen_head run number _ h k
    ∙ ap (λ l. codes "pen" ∷ decimal run ∷ decimal number ∷ l) (ap (λ bs. parts (bs ++ 32 ∷ reply_text r)) (bare_text c none) ∙ shape_parts (shape_of c) (reply_text r)))
    ∙ pen_tail_again run number (shape_of c) (parts (reply_text r)) h k
    ∙ told (parts (reply_text r))
    ∙ ap (pen_of run number (Some c)) (pen_reply_again r printable fits)

far_again : (run number : ℕ) (c : PenCommand) (x y : ℤ) (r : Reply) → IsNumber run → IsNumber number → mag x < 2 ^ 31 → mag y < 2 ^ 31 → IsPenReply r → IsReply r → command_numbers (told.Pen c) ≡ x ∷ y ∷ [] → ((rest : List (List ℕ)) → pen_told run number (shape_of c) (signed_decimal x ∷ signed_decimal y ∷ rest) ≡ pen_of run number (Some c) (pen_reply rest)) → entry_of (parts (entry_line (Pen run number c r))) ≡ Some (Pen run number c r)
far_again run number c x y r h k xs ys printable fits numbers told =
    ap entry_of (pen_head run number _ h k
    ∙ ap (λ l. codes "pen" ∷ decimal run ∷ decimal number ∷ l) (ap (λ bs. parts (bs ++ 32 ∷ reply_text r)) (far_text c x y xs ys numbers) ∙ far_parts (shape_of c) x y (reply_text r) xs ys))
    ∙ pen_tail_again run number (shape_of c) (signed_decimal x ∷ signed_decimal y ∷ parts (reply_text r)) h k
    ∙ told (parts (reply_text r))
    ∙ ap (pen_of run number (Some c)) (pen_reply_again r printable fits)

pen_entry_again : (run number : ℕ) (c : PenCommand) (r : Reply) → IsNumber run → IsNumber number → IsPenCommand c → IsReply r → IsPenReply r → entry_of (parts (entry_line (Pen run number c r))) ≡ Some (Pen run number c r)
unfolding command_numbers numbers_of shape_of
pen_entry_again run number pen.Raise r h k fits f p = bare_again run number pen.Raise r h k p f refl (λ rest. refl)
pen_entry_again run number pen.Lower r h k fits f p = bare_again run number pen.Lower r h k p f refl (λ rest. refl)
pen_entry_again run number (pen.To x y) r h k fits f p =
    far_again run number (pen.To x y) x y r h k fits.0 fits.1 p f refl (λ rest i. pen_of run number (pen_move shape.To (whole_again x fits.0 i) (whole_again y fits.1 i)) (pen_reply rest))
pen_entry_again run number (pen.By x y) r h k fits f p =
    far_again run number (pen.By x y) x y r h k fits.0 fits.1 p f refl (λ rest i. pen_of run number (pen_move shape.By (whole_again x fits.0 i) (whole_again y fits.1 i)) (pen_reply rest))

-- every entry but an output and a margin
pub words_again : (e : Entry) → IsEntry e → IsPrintable e → IsPlain e → entry_of (parts (entry_line e)) ≡ Some e
words_again (Edit version) h p plain = edit_again version h
words_again EditRange h p plain = refl
words_again EditLong h p plain = refl
words_again EditMany h p plain = refl
words_again FieldOk h p plain = refl
words_again (FieldBad line) h p plain = field_bad_again line h
words_again (Run run version) h p plain = run_again run version h.0 h.1
words_again RunBusy h p plain = refl
words_again (Stop run) h p plain = stop_again run h
words_again StopIdle h p plain = refl
words_again Waited h p plain = refl
words_again (Bad line) h p plain = bad_again line h
words_again (Margin version margin) h p plain = absurd plain
words_again (RefusedFaults run) h p plain = faults_again run h
words_again (RefusedMain run) h p plain = main_again run h
words_again (Out run text) h p plain = absurd plain
words_again (Robot run number c r) h p plain = robot_entry_again run number c r h.0 h.1 p
words_again (Pen run number c r) h p plain = pen_entry_again run number c r h.0 h.1 h.2 h.3 p
words_again (End run kind) h p plain = end_again run kind h.0 h.1 p
words_again Bye h p plain = refl
