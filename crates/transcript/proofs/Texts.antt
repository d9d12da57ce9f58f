-- The line of an entry is UTF-8 and has no line feed.
use Rattle.std.proofs.Common.{◌≡◌, ℕ, ℤ, suc, ◌^◌, ◌<◌, Bool, true, false, cond, List, [], ◌∷◌, ◌++◌, get_or, eqb, codes, encode_utf8_all, append-nil, refl, sym, subst, ◌∙◌, arith}
use Rattle.std.specs.Prelude.{All}
use lib.Utf8.{encode}
use Rattle.std.specs.Int.Signed.{mag}
use Rattle.std.specs.Fmt.{decimal, signed_decimal}
use Rattle.std.specs.Str.{IsUtf8, all_scalars}
use Rattle.std.proofs.lemmas.Bool.{false≢true}
use Rattle.std.proofs.lemmas.Bool.Decides.{Decides-eqb}
use Rattle.std.proofs.lemmas.List.{get_or_default}
use Rattle.std.proofs.lemmas.List.Elements.{All-append, All-cons}
use Rattle.std.proofs.lemmas.Str.{IsUtf8-append, IsUtf8-from_ascii, encodes-append, inside_one}
use Rattle.std.proofs.lemmas.Fmt.{IsAscii-decimal, IsAscii-signed}
use Rattle.kumir_values.specs.declared.run_end.RunFault.{RunFault}
use Rattle.kumir_values.specs.declared.run_end.RunFault.TheVariants as fault
use Rattle.kumir_values.specs.declared.run_end.EndKind.{EndKind}
use Rattle.kumir_values.specs.declared.run_end.EndKind.TheVariants as end
use Rattle.performer_kit.specs.declared.commands.Reply.{Reply}
use Rattle.performer_kit.specs.declared.commands.Reply.TheVariants as reply
use Rattle.performer_kit.specs.declared.commands.Command.TheVariants as told
use Rattle.performer_kit.specs.declared.commands.RobotCommand.{RobotCommand}
use Rattle.performer_kit.specs.declared.commands.RobotCommand.TheVariants.{Up, Down, Left, Right, Paint, AboveFree, BelowFree, LeftFree, RightFree, AboveWall, BelowWall, LeftWall, RightWall, CellPainted, CellClean}
use Rattle.performer_kit.specs.declared.commands.PenShape.{PenShape}
use Rattle.performer_kit.specs.declared.commands.PenShape.TheVariants as shape
use Rattle.performer_kit.specs.declared.commands.PenCommand.{PenCommand}
use Rattle.performer_kit.specs.declared.commands.PenCommand.TheVariants as pen
use Rattle.performer_kit.specs.Commands.{printed_command, printed_numbers, joined_words, command_name, command_numbers, numbers_of, shape_of, robot_name, pen_name}
use Rattle.margins.specs.declared.margin.Mark.{Mark}
use Rattle.margins.specs.Marks.{IsMark, IsMargin}
use Rattle.margins.specs.Printed.{mark_word, printed_margin}
use Rattle.decimals.proofs.Numbers.{lower_than_digits, lower_than_minus}
use Rattle.transcript.specs.Print.{escaped, escaped_char, fault_word, end_text, reply_text, entry_line, IsNumber, IsPenCommand, IsReply, IsEnd, IsEntry}
use Rattle.transcript.specs.declared.entry.Entry.{Entry}
use Rattle.transcript.specs.declared.entry.Entry.TheVariants.{Edit, EditRange, EditLong, EditMany, FieldOk, FieldBad, Run, RunBusy, Stop, StopIdle, Waited, Bad, Margin, RefusedFaults, RefusedMain, Out, Robot, Pen, End, Bye}
use Rattle.transcript.proofs.Again.{shape_text, bare_text, far_text}
use Rattle.transcript.proofs.Escapes.{scalars_escaped}

-- UTF-8 without a line feed
abbrev pub IsLine : List ℕ → Type 0
IsLine bs = IsUtf8 bs × All (λ c. eqb c 10 ≡ false) bs

pub line_append : (a b : List ℕ) → IsLine a → IsLine b → IsLine (a ++ b)
line_append a b p q = (IsUtf8-append a b p.0 q.0, All-append (λ c. eqb c 10 ≡ false) a b p.1 q.1)

pub number_line : (n : ℕ) → n < 2 ^ 64 → IsLine (decimal n)
number_line n h = (IsUtf8-from_ascii (decimal n) (IsAscii-decimal n h), lower_than_digits 10 n (omega arith) h)

pub small_line : (n : ℕ) → IsNumber n → IsLine (decimal n)
small_line n h = number_line n (omega (arith, h))

pub signed_line : (z : ℤ) → mag z < 2 ^ 63 → IsLine (signed_decimal z)
signed_line z h = (IsUtf8-from_ascii (signed_decimal z) (IsAscii-signed z h), lower_than_minus 10 z (omega arith) h)

abbrev pub has_no_feed : List ℕ → Bool
has_no_feed [] = true
has_no_feed (c ∷ cs) = cond (eqb c 10) false (has_no_feed cs)

no_feed : (bs : List ℕ) → has_no_feed bs ≡ true → All (λ c. eqb c 10 ≡ false) bs
no_feed [] h = λ k d within. absurd (omega (arith, within))
no_feed (c ∷ cs) h =
    elim (eqb c 10) as (λ b. eqb c 10 ≡ b → cond b false (has_no_feed cs) ≡ true → All (λ x. eqb x 10 ≡ false) (c ∷ cs)) [
      | true ↦ λ is bad. absurd (false≢true bad)
      | false ↦ λ not rest. All-cons (λ x. eqb x 10 ≡ false) c cs not (no_feed cs rest)
    ] refl h

-- characters that are written out
pub written : (cs bs : List ℕ) → all_scalars cs ≡ true → encode_utf8_all cs ≡ bs → has_no_feed bs ≡ true → IsLine bs
written cs bs scalar are none = ((cs, (scalar, are)), no_feed bs none)

pub blank_line : IsLine (codes " ")
unfolding lib.Utf8.encode
blank_line = written (codes " ") (codes " ") refl refl refl

colon_line : IsLine (codes ":")
unfolding lib.Utf8.encode
colon_line = written (codes ":") (codes ":") refl refl refl

pub fault_line : (f : RunFault) → IsLine (fault_word f)
unfolding lib.Utf8.encode
fault_line fault.Unset = written (codes "unset") (codes "unset") refl refl refl
fault_line fault.Range = written (codes "range") (codes "range") refl refl refl
fault_line fault.Divisor = written (codes "divisor") (codes "divisor") refl refl refl
fault_line fault.Exponent = written (codes "exponent") (codes "exponent") refl refl refl
fault_line fault.StepZero = written (codes "step") (codes "step") refl refl refl
fault_line fault.Index = written (codes "index") (codes "index") refl refl refl
fault_line fault.Bounds = written (codes "bounds") (codes "bounds") refl refl refl
fault_line fault.Elements = written (codes "elements") (codes "elements") refl refl refl
fault_line fault.Depth = written (codes "depth") (codes "depth") refl refl refl
fault_line fault.NoInput = written (codes "no-input") (codes "no-input") refl refl refl
fault_line fault.InputType = written (codes "input-type") (codes "input-type") refl refl refl
fault_line fault.NoValue = written (codes "no-value") (codes "no-value") refl refl refl

-- a mark, and a margin
mark_line : (m : Mark) → IsMark m → IsLine (mark_word m)
mark_line m h =
    line_append (decimal m.line) (codes ":" ++ decimal m.code) (number_line m.line (omega (arith, h.line)))
    (line_append (codes ":") (decimal m.code) colon_line (number_line m.code (omega (arith, h.code))))

marks_line : (ms : List Mark) → All IsMark ms → IsLine (printed_margin ms)
unfolding lib.Utf8.encode
marks_line [] each = written [] [] refl refl refl
marks_line (m ∷ ms) each =
    line_append (32 ∷ mark_word m) (printed_margin ms)
    (line_append (codes " ") (mark_word m) blank_line (mark_line m (each 0 m (omega arith))))
    (marks_line ms (λ k d h. each (suc k) d (omega arith)))

pub margin_line : (ms : List Mark) → IsMargin ms → IsLine (printed_margin ms)
margin_line ms h = marks_line ms h.each

-- the Robot's commands
pub robot_line : (c : RobotCommand) → IsLine (encode_utf8_all (printed_command (told.Robot c)))
unfolding lib.Utf8.encode printed_command command_name command_numbers joined_words printed_numbers robot_name
robot_line Up = written (printed_command (told.Robot Up)) _ refl refl refl
robot_line Down = written (printed_command (told.Robot Down)) _ refl refl refl
robot_line Left = written (printed_command (told.Robot Left)) _ refl refl refl
robot_line Right = written (printed_command (told.Robot Right)) _ refl refl refl
robot_line Paint = written (printed_command (told.Robot Paint)) _ refl refl refl
robot_line AboveFree = written (printed_command (told.Robot AboveFree)) _ refl refl refl
robot_line BelowFree = written (printed_command (told.Robot BelowFree)) _ refl refl refl
robot_line LeftFree = written (printed_command (told.Robot LeftFree)) _ refl refl refl
robot_line RightFree = written (printed_command (told.Robot RightFree)) _ refl refl refl
robot_line AboveWall = written (printed_command (told.Robot AboveWall)) _ refl refl refl
robot_line BelowWall = written (printed_command (told.Robot BelowWall)) _ refl refl refl
robot_line LeftWall = written (printed_command (told.Robot LeftWall)) _ refl refl refl
robot_line RightWall = written (printed_command (told.Robot RightWall)) _ refl refl refl
robot_line CellPainted = written (printed_command (told.Robot CellPainted)) _ refl refl refl
robot_line CellClean = written (printed_command (told.Robot CellClean)) _ refl refl refl

reply_line : (r : Reply) → IsReply r → IsLine (reply_text r)
unfolding lib.Utf8.encode
reply_line reply.Done h = written (codes "done") _ refl refl refl
reply_line reply.Yes h = written (codes "да") _ refl refl refl
reply_line reply.No h = written (codes "нет") _ refl refl refl
reply_line reply.Wall h = written (codes "wall") _ refl refl refl
reply_line (reply.Drawn s) h =
    line_append (codes "line ") _ (written (codes "line ") (codes "line ") refl refl refl)
    (line_append (signed_decimal s.x1) _ (signed_line s.x1 h.0) (line_append (codes " ") _ blank_line
    (line_append (signed_decimal s.y1) _ (signed_line s.y1 h.1) (line_append (codes " ") _ blank_line
    (line_append (signed_decimal s.x2) _ (signed_line s.x2 h.2) (line_append (codes " ") _ blank_line (signed_line s.y2 h.3)))))))

-- the text of an output
char_line : (c : ℕ) → eqb c 10 ≡ false → All (λ b. eqb b 10 ≡ false) (encode c)
char_line c not k d within =
    elim (eqb (get_or (encode c) k d) 10) as (λ b. eqb (get_or (encode c) k d) 10 ≡ b → b ≡ false) [
      | true ↦ λ is.
          let at : get_or (encode c) k 0 ≡ 10 = sym (get_or_default (encode c) k d 0 within) ∙ (Decides-eqb (get_or (encode c) k d) 10).0 is in
          let same = inside_one c [] (encode c) k (sym (append-nil (encode c))) within (omega (arith, at)) in
          absurd (false≢true (sym not ∙ (Decides-eqb c 10).1 (same ∙ at)))
      | false ↦ λ other. refl
    ] refl

one_line : (c : ℕ) → eqb c 10 ≡ false → All (λ b. eqb b 10 ≡ false) (encode_utf8_all (c ∷ []))
one_line c not = subst (All (λ b. eqb b 10 ≡ false)) (sym (append-nil (encode c))) (char_line c not)

escape_line : (c : ℕ) → All (λ b. eqb b 10 ≡ false) (encode_utf8_all (escaped_char c))
unfolding lib.Utf8.encode
escape_line c =
    elim (eqb c 92) as (λ b. All (λ b. eqb b 10 ≡ false) (encode_utf8_all (cond b (92 ∷ 92 ∷ []) (cond (eqb c 10) (92 ∷ 110 ∷ []) (c ∷ []))))) [
      | true ↦ no_feed (92 ∷ 92 ∷ []) refl
      | false ↦
          elim (eqb c 10) as (λ b. eqb c 10 ≡ b → All (λ b. eqb b 10 ≡ false) (encode_utf8_all (cond b (92 ∷ 110 ∷ []) (c ∷ [])))) [
            | true ↦ λ is. no_feed (92 ∷ 110 ∷ []) refl
            | false ↦ λ not. one_line c not
          ] refl
    ]

escapes_line : (text : List ℕ) → All (λ b. eqb b 10 ≡ false) (encode_utf8_all (escaped text))
unfolding lib.Utf8.encode
escapes_line [] = no_feed [] refl
escapes_line (c ∷ text) =
    subst (All (λ b. eqb b 10 ≡ false)) (sym (encodes-append (escaped_char c) (escaped text)))
    (All-append (λ b. eqb b 10 ≡ false) (encode_utf8_all (escaped_char c)) (encode_utf8_all (escaped text)) (escape_line c) (escapes_line text))

pub text_line : (text : List ℕ) → all_scalars text ≡ true → IsLine (encode_utf8_all (escaped text))
text_line text h = ((escaped text, (scalars_escaped text h, refl)), escapes_line text)

end_line : (kind : EndKind) → IsEnd kind → IsLine (end_text kind)
unfolding lib.Utf8.encode
end_line end.Done h = written (codes "done") _ refl refl refl
end_line end.Quit h = written (codes "quit") _ refl refl refl
end_line (end.Assert line) h = line_append (codes "assert ") (decimal line) (written (codes "assert ") (codes "assert ") refl refl refl) (small_line line h)
end_line (end.Fault line f) h =
    line_append (codes "fault ") _ (written (codes "fault ") (codes "fault ") refl refl refl)
    (line_append (decimal line) _ (small_line line h) (line_append (codes " ") (fault_word f) blank_line (fault_line f)))
end_line (end.Wall line) h = line_append (codes "wall ") (decimal line) (written (codes "wall ") (codes "wall ") refl refl refl) (small_line line h)
end_line end.Steps h = written (codes "steps") _ refl refl refl
end_line end.Stopped h = written (codes "stopped") _ refl refl refl
end_line end.Memory h = written [] _ refl refl refl

-- the Draughtsman's commands
shape_line : (s : PenShape) → IsLine (shape_text s)
unfolding lib.Utf8.encode joined_words pen_name shape_text
shape_line shape.Raise = written (joined_words (pen_name shape.Raise)) _ refl refl refl
shape_line shape.Lower = written (joined_words (pen_name shape.Lower)) _ refl refl refl
shape_line shape.To = written (joined_words (pen_name shape.To)) _ refl refl refl
shape_line shape.By = written (joined_words (pen_name shape.By)) _ refl refl refl

two_line : (c : PenCommand) (x y : ℤ) → mag x < 2 ^ 31 → mag y < 2 ^ 31 → command_numbers (told.Pen c) ≡ x ∷ y ∷ [] → IsLine (encode_utf8_all (printed_command (told.Pen c)))
two_line c x y h k numbers =
    subst IsLine (sym (far_text c x y h k numbers))
    (line_append (shape_text (shape_of c)) _ (shape_line (shape_of c))
    (line_append (codes " ") _ blank_line (line_append (signed_decimal x) _ (signed_line x (omega (arith, h))) (line_append (codes " ") _ blank_line (signed_line y (omega (arith, k)))))))

pen_line : (c : PenCommand) → IsPenCommand c → IsLine (encode_utf8_all (printed_command (told.Pen c)))
unfolding command_numbers numbers_of
pen_line pen.Raise h = subst IsLine (sym (bare_text pen.Raise refl)) (shape_line (shape_of pen.Raise))
pen_line pen.Lower h = subst IsLine (sym (bare_text pen.Lower refl)) (shape_line (shape_of pen.Lower))
pen_line (pen.To x y) h = two_line (pen.To x y) x y h.0 h.1 refl
pen_line (pen.By x y) h = two_line (pen.By x y) x y h.0 h.1 refl

-- a report after its first word
report_line : (run number : ℕ) (command answer : List ℕ) → IsNumber run → IsNumber number → IsLine command → IsLine answer → IsLine (decimal run ++ 32 ∷ (decimal number ++ 32 ∷ (command ++ 32 ∷ answer)))
report_line run number command answer h k p q =
    line_append (decimal run) _ (small_line run h) (line_append (codes " ") _ blank_line
    (line_append (decimal number) _ (small_line number k) (line_append (codes " ") _ blank_line
    (line_append command _ p (line_append (codes " ") answer blank_line q)))))

pub entry_is_line : (e : Entry) → IsEntry e → IsLine (entry_line e)
unfolding lib.Utf8.encode
entry_is_line (Edit version) h = line_append (codes "edit ") _ (written (codes "edit ") (codes "edit ") refl refl refl) (small_line version h)
entry_is_line EditRange h = written (codes "edit refused range") _ refl refl refl
entry_is_line EditLong h = written (codes "edit refused long") _ refl refl refl
entry_is_line EditMany h = written (codes "edit refused many") _ refl refl refl
entry_is_line FieldOk h = written (codes "field ok") _ refl refl refl
entry_is_line (FieldBad line) h = line_append (codes "field bad ") _ (written (codes "field bad ") (codes "field bad ") refl refl refl) (small_line line h)
entry_is_line (Run run version) h =
    line_append (codes "run ") _ (written (codes "run ") (codes "run ") refl refl refl)
    (line_append (decimal run) _ (small_line run h.0) (line_append (codes " ") _ blank_line (small_line version h.1)))
entry_is_line RunBusy h = written (codes "run refused busy") _ refl refl refl
entry_is_line (Stop run) h = line_append (codes "stop ") _ (written (codes "stop ") (codes "stop ") refl refl refl) (small_line run h)
entry_is_line StopIdle h = written (codes "stop idle") _ refl refl refl
entry_is_line Waited h = written (codes "waited") _ refl refl refl
entry_is_line (Bad line) h = line_append (codes "bad ") _ (written (codes "bad ") (codes "bad ") refl refl refl) (small_line line h)
entry_is_line (Margin version margin) h =
    line_append (codes "margin ") _ (written (codes "margin ") (codes "margin ") refl refl refl)
    (line_append (decimal version) _ (small_line version h.0) (margin_line margin h.1))
entry_is_line (RefusedFaults run) h =
    line_append (codes "refused ") _ (written (codes "refused ") (codes "refused ") refl refl refl)
    (line_append (decimal run) _ (small_line run h) (written (codes " faults") (codes " faults") refl refl refl))
entry_is_line (RefusedMain run) h =
    line_append (codes "refused ") _ (written (codes "refused ") (codes "refused ") refl refl refl)
    (line_append (decimal run) _ (small_line run h) (written (codes " main") (codes " main") refl refl refl))
entry_is_line (Out run text) h =
    line_append (codes "out ") _ (written (codes "out ") (codes "out ") refl refl refl)
    (line_append (decimal run) _ (small_line run h.0) (line_append (codes " ") _ blank_line (text_line text h.1)))
entry_is_line (Robot run number c r) h =
    line_append (codes "robot ") _ (written (codes "robot ") (codes "robot ") refl refl refl)
    (report_line run number (encode_utf8_all (printed_command (told.Robot c))) (reply_text r) h.0 h.1 (robot_line c) (reply_line r h.2))
entry_is_line (Pen run number c r) h =
    line_append (codes "pen ") _ (written (codes "pen ") (codes "pen ") refl refl refl)
    (report_line run number (encode_utf8_all (printed_command (told.Pen c))) (reply_text r) h.0 h.1 (pen_line c h.2) (reply_line r h.3))
entry_is_line (End run kind) h =
    line_append (codes "end ") _ (written (codes "end ") (codes "end ") refl refl refl)
    (line_append (decimal run) _ (small_line run h.0) (line_append (codes " ") _ blank_line (end_line kind h.1)))
entry_is_line Bye h = written (codes "bye") _ refl refl refl
