-- A run that goes on: what it did so far was put.
use Rattle.std.proofs.Common.{◌≡◌, ◌≢◌, ℕ, ◌+◌, ◌-◌, ◌<◌, ◌≤◌, List, [], ◌∷◌, ◌++◌, length, Some, None, sym, ap, subst, ◌∙◌, refl, append-nil, length-append, arith}
use Rattle.performer_kit.specs.declared.commands.Command.{Command}
use Rattle.performer_kit.specs.declared.commands.Command.TheVariants.{Robot, Pen}
use Rattle.performer_kit.specs.declared.commands.Reply.{Reply}
use Rattle.robot_field.specs.Board.{Board, reply_to, robot, robot_end}
use Rattle.robot_field.proofs.Replies.{robot_goes_on}
use Rattle.kumir_values.specs.declared.value.Value.{Value}
use Rattle.kumir_values.specs.declared.run_end.EndKind.{EndKind}
use Rattle.kumir_values.specs.declared.run_end.EndKind.TheVariants as end_kind
use Rattle.kumir_meaning.specs.Runs as state
use Rattle.kumir_meaning.specs.Runs.{Act, Printed, Sent, RunState, Trace, end_of, IsPrefix}
use Rattle.kumir_tree.specs.Unit.{Known}
use Rattle.kumir_meaning.specs.Program.{Program, program_of}
use Rattle.kumir_meaning.specs.Algorithms.{run}
use Rattle.stack_code.specs.Validity.{ValidCode}
use Rattle.stack_code.specs.CodeRuns.{CodeRun}
use Rattle.kumir_compiler.specs.Code.{entry_of}
use Rattle.kumir_compiler.specs.Laws.{robot_commands_of, pen_commands_of, RunsAs}
use Rattle.closed_meaning.specs.Play.{IsPlay}
use Rattle.closed_meaning.proofs.Plays.{one_play, play_goes_on}
use Rattle.closed_meaning.proofs.Known.{known_laws}
use Rattle.kumir_machine.specs.declared.answer.Advanced.{Advanced}
use Rattle.kumir_machine.specs.declared.answer.Advanced.TheVariants as answer
use Rattle.kumir_machine.specs.Course.{Condition, Free, Owes, Over, Failed, Course, CanHave, IsOwed, acts_in, RunsTo, so_far, IsPrefixOfRun, IsLawful, advanced, begun, replies_with, replied, Stays}
use Rattle.kumir_machine.proofs.CoursesAreRuns.{acts_joined, quiet, one_course}
use Rattle.km_ports.specs.Ports.{SinkState}
use Rattle.transcript.specs.declared.entry.Entry.{Entry}
use Rattle.transcript.specs.declared.entry.Entry.TheVariants as entry
use Rattle.plain_run.specs.RunEntries.{Performers, ready_on, with_command, reply_by, report, act_entries, end_entries, trace_entries, IsTraceOf}
use Rattle.plain_run.specs.Plain.{Shows, PutsEntries}
use Rattle.plain_run.specs.Courses.{IsAtBegin}
use Rattle.plain_run.specs.Runnable.{IsRunnable}
use Rattle.plain_run.proofs.Mains.{runnable_enters}
use Rattle.plain_run.proofs.Carried.{put_none, put_behind}
use Rattle.plain_run.proofs.Replies.{reply_can}
use Rattle.plain_run.proofs.Performed.{performed, performed_then, entries_then, robot_then, pen_then, steps_after, moves_after, field_after}

-- what is to be run
pub record Job : Type 0 where
  pub program : Program
  pub inputs : List Value
  pub field : Board
  pub budget : ℕ
  pub number : ℕ

-- the run of these units
abbrev pub job_of : List (ℕ × Known) → List Value → Board → ℕ → ℕ → Job
job_of units inputs field budget number = record { program = program_of units; inputs = inputs; field = field; budget = budget; number = number }

-- the entries of these acts
abbrev shown : Job → List Act → List Entry
shown j acts = act_entries j.number (ready_on j.field) acts

-- the performers behind them
abbrev behind : Job → List Act → Performers
behind j acts = performed (ready_on j.field) acts

-- what was done so far was put, the performers stand behind it, and the run goes on within its budget
pub record IsUnderWay (j : Job) (before now : SinkState) (w : Performers) (c : Course) : Type 0 where
  pub entry : c.code.entry ≡ Some 0
  pub means : RunsAs c.code.units j.program
  pub inputs : c.inputs ≡ j.inputs
  pub allowed : c.budget ≡ j.budget
  pub within : c.steps ≤ j.budget
  pub begun : IsPrefixOfRun c
  pub free : c.condition ≡ Free
  pub replies : c.replies ≡ robot j.field (robot_commands_of (acts_in c.answers))
  pub performers : w ≡ behind j (acts_in c.answers)
  pub put : Shows (shown j (acts_in c.answers)) before now
  pub stood : now.faults ≡ before.faults

-- ---- what the run does on the replies so far

abbrev meant : Job → Course → Trace
meant j c = run j.program j.inputs c.replies j.budget

runs_so : (j : Job) (c : Course) → c.code.entry ≡ Some 0 → RunsAs c.code.units j.program → c.inputs ≡ j.inputs → RunsTo c j.budget (meant j c)
runs_so j c e means i = record {
  entry = 0;
  is = e;
  run = subst (λ inputs. CodeRun c.code.units 0 inputs c.replies j.budget (meant j c)) (sym i) (means j.inputs c.replies j.budget);
}

-- commands take steps
few_commands : (j : Job) (c : Course) (acts more : List Act) → (meant j c).acts ≡ acts ++ more → length (robot_commands_of acts) + length (pen_commands_of acts) ≤ j.budget
few_commands j c acts more e =
    let few = known_laws.steps j.program j.inputs c.replies j.budget in
    let r = ap (λ l. length (robot_commands_of l)) e ∙ ap length (robot_then acts more) ∙ length-append (robot_commands_of acts) (robot_commands_of more) in
    let p = ap (λ l. length (pen_commands_of l)) e ∙ ap length (pen_then acts more) ∙ length-append (pen_commands_of acts) (pen_commands_of more) in
    omega (arith, few, r, p)

-- the whole run together with its performers
pub play_of : Job → Trace
play_of j = (one_play known_laws j.program j.inputs j.field j.budget).0

is_play : (j : Job) → IsPlay j.program j.inputs j.field j.budget (play_of j)
unfolding play_of
is_play j = (one_play known_laws j.program j.inputs j.field j.budget).1

few_acts : (j : Job) (before now : SinkState) (w : Performers) (c : Course) → IsUnderWay j before now w c → length (acts_in c.answers) ≤ length (play_of j).acts
few_acts j before now w c u =
    let prefix = u.begun j.budget (meant j c) u.within (runs_so j c u.entry u.means u.inputs) in
    let commands : robot_commands_of (meant j c).acts ≡ robot_commands_of (acts_in c.answers) ++ robot_commands_of prefix.0 = ap robot_commands_of prefix.1 ∙ robot_then (acts_in c.answers) prefix.0 in
    let answers = ap (robot j.field) commands ∙ robot_goes_on.replies j.field (robot_commands_of (acts_in c.answers)) (robot_commands_of prefix.0) in
    let next = robot (robot_end j.field (robot_commands_of (acts_in c.answers))) (robot_commands_of prefix.0) in
    let first : IsPrefix c.replies (robot j.field (robot_commands_of (meant j c).acts)) = (next, answers ∙ ap (λ l. l ++ next) (sym u.replies)) in
    let more = (play_goes_on known_laws j.program j.inputs j.field j.budget c.replies (play_of j) first (is_play j)).acts in
    omega (arith, ap length prefix.1, length-append (acts_in c.answers) prefix.0, ap length more.1, length-append (meant j c).acts more.0)

-- a number that falls as the run goes on: the steps and the acts that are left
abbrev pub left_of : Job → Course → ℕ
left_of j c = j.budget - c.steps + (length (play_of j).acts - length (acts_in c.answers))

-- ---- at the begin

pub at_first : (j : Job) (w : Performers) (c : Course) (sink : SinkState) → IsAtBegin j.program j.inputs j.budget c → w ≡ ready_on j.field → IsUnderWay j sink sink w c
at_first j w c sink h e =
    let at : IsUnderWay j sink sink w (begun c.code j.inputs j.budget) = record {
      entry = h.entry;
      means = h.means;
      inputs = refl;
      allowed = refl;
      within = omega arith;
      begun = λ n t le q. (t.acts, refl);
      free = refl;
      replies = refl;
      performers = e;
      put = put_none sink;
      stood = refl;
    } in
    subst (IsUnderWay j sink sink w) (sym h.begun) at

-- ---- one act more

-- entries of one act more
put_more : (j : Job) (xs ys : List Act) (e : Entry) (before between now : SinkState) → act_entries j.number (behind j xs) ys ≡ e ∷ [] → Shows (shown j xs) before between → Shows (e ∷ []) between now → Shows (shown j (xs ++ ys)) before now
put_more j xs ys e before between now one p q =
    let all : shown j (xs ++ ys) ≡ shown j xs ++ e ∷ [] = entries_then j.number (ready_on j.field) xs ys ∙ ap (λ es. shown j xs ++ es) one in
    subst (λ es. Shows es before now) (sym all) (put_behind (shown j xs) (e ∷ []) before between now p q)

-- ---- an output

no_command : (xs : List Act) (text : List ℕ) → robot_commands_of (xs ++ Printed text ∷ []) ≡ robot_commands_of xs
no_command xs text = robot_then xs (Printed text ∷ []) ∙ append-nil (robot_commands_of xs)

out_now : (j : Job) (before between now : SinkState) (w : Performers) (old : Course) (steps : ℕ) (text : List ℕ) → IsUnderWay j before between w old → IsLawful (advanced old (answer.Out text) steps) → Shows (entry.Out j.number text ∷ []) between now → now.faults ≡ between.faults → IsUnderWay j before now w (advanced old (answer.Out text) steps)
out_now j before between now w old steps text u law p s =
    let acts : acts_in (old.answers ++ answer.Out text ∷ []) ≡ acts_in old.answers ++ Printed text ∷ [] = acts_joined old.answers (answer.Out text ∷ []) in
    record {
      entry = u.entry;
      means = u.means;
      inputs = u.inputs;
      allowed = u.allowed;
      within = omega (arith, law.within, u.allowed);
      begun = law.begun;
      free = refl;
      replies = u.replies ∙ ap (robot j.field) (sym (ap robot_commands_of acts ∙ no_command (acts_in old.answers) text));
      performers = u.performers ∙ sym (ap (behind j) acts ∙ performed_then (ready_on j.field) (acts_in old.answers) (Printed text ∷ []));
      put = subst (λ l. Shows (shown j l) before now) (sym acts) (put_more j (acts_in old.answers) (Printed text ∷ []) (entry.Out j.number text) before between now refl u.put p);
      stood = s ∙ u.stood;
    }

pub put_output : (j : Job) (before between now : SinkState) (w : Performers) (old new : Course) (steps : ℕ) (a : Advanced) (text : List ℕ) → a ≡ answer.Out text → new ≡ advanced old a steps → IsLawful new → IsUnderWay j before between w old → Shows (entry.Out j.number text ∷ []) between now → now.faults ≡ between.faults → IsUnderWay j before now w new
put_output j before between now w old new steps a text is e law u p s =
    let same : new ≡ advanced old (answer.Out text) steps = e ∙ ap (λ x. advanced old x steps) is in
    subst (IsUnderWay j before now w) (sym same) (out_now j before between now w old steps text u (subst IsLawful same law) p s)

one_act : (answers : List Advanced) (a : Advanced) (act : Act) → acts_in (a ∷ []) ≡ act ∷ [] → length (acts_in (answers ++ a ∷ [])) ≡ length (acts_in answers) + 1
one_act answers a act e = ap length (acts_joined answers (a ∷ [])) ∙ length-append (acts_in answers) (acts_in (a ∷ [])) ∙ ap (λ l. length (acts_in answers) + length l) e

less_by_act : (j : Job) (before now : SinkState) (w : Performers) (old new : Course) → length (acts_in new.answers) ≡ length (acts_in old.answers) + 1 → old.steps ≤ new.steps → IsUnderWay j before now w new → left_of j new < left_of j old
less_by_act j before now w old new more rise u = omega (arith, more, rise, u.within, few_acts j before now w new u)

pub output_less : (j : Job) (before now : SinkState) (w : Performers) (old new : Course) (steps : ℕ) (a : Advanced) (text : List ℕ) → a ≡ answer.Out text → new ≡ advanced old a steps → old.steps ≤ new.steps → IsUnderWay j before now w new → left_of j new < left_of j old
output_less j before now w old new steps a text is e rise u =
    let same : new ≡ advanced old (answer.Out text) steps = e ∙ ap (λ x. advanced old x steps) is in
    let more : length (acts_in new.answers) ≡ length (acts_in old.answers) + 1 = ap (λ c. length (acts_in c.answers)) same ∙ one_act old.answers (answer.Out text) (Printed text) refl in
    less_by_act j before now w old new more rise u

-- ---- a command

-- the replies so far with that to the next command
next_replies : (j : Job) (xs : List Act) (w : Performers) (command : Command) (replies : List Reply) → w ≡ behind j xs → replies ≡ robot j.field (robot_commands_of xs)
    → replies_with replies (Owes command) (reply_by w command) ≡ robot j.field (robot_commands_of (xs ++ Sent command ∷ []))
next_replies j xs w (Robot command) replies at so =
    let commands : robot_commands_of (xs ++ Sent (Robot command) ∷ []) ≡ robot_commands_of xs ++ command ∷ [] = robot_then xs (Sent (Robot command) ∷ []) in
    let place : w.field ≡ robot_end j.field (robot_commands_of xs) = ap (λ x. x.field) at ∙ field_after (ready_on j.field) xs in
    ap (λ l. l ++ reply_to w.field command ∷ []) so ∙ ap (λ f. robot j.field (robot_commands_of xs) ++ reply_to f command ∷ []) place
    ∙ sym (ap (robot j.field) commands ∙ robot_goes_on.replies j.field (robot_commands_of xs) (command ∷ []))
next_replies j xs w (Pen command) replies at so =
    let commands : robot_commands_of (xs ++ Sent (Pen command) ∷ []) ≡ robot_commands_of xs = robot_then xs (Sent (Pen command) ∷ []) ∙ append-nil (robot_commands_of xs) in
    so ∙ ap (robot j.field) (sym commands)

-- the machine has answered with a command
abbrev asked : Course → Command → ℕ → Course
asked old command steps = advanced old (answer.Command command) steps

command_acts : (old : Course) (command : Command) → acts_in (old.answers ++ answer.Command command ∷ []) ≡ acts_in old.answers ++ Sent command ∷ []
command_acts old command = acts_joined old.answers (answer.Command command ∷ [])

command_now : (j : Job) (before between now : SinkState) (w : Performers) (old : Course) (steps : ℕ) (command : Command) → IsUnderWay j before between w old
    → IsLawful (replied (asked old command steps) (reply_by w command)) → Shows (report j.number w command ∷ []) between now → now.faults ≡ between.faults
    → IsUnderWay j before now (with_command w command) (replied (asked old command steps) (reply_by w command))
command_now j before between now w old steps command u law p s =
    let xs = acts_in old.answers in
    let acts = command_acts old command in
    let one : act_entries j.number (behind j xs) (Sent command ∷ []) ≡ report j.number w command ∷ [] = ap (λ x. report j.number x command ∷ []) (sym u.performers) in
    record {
      entry = u.entry;
      means = u.means;
      inputs = u.inputs;
      allowed = u.allowed;
      within = omega (arith, law.within, u.allowed);
      begun = law.begun;
      free = refl;
      replies = next_replies j xs w command old.replies u.performers u.replies ∙ ap (λ l. robot j.field (robot_commands_of l)) (sym acts);
      performers = ap (λ x. with_command x command) u.performers ∙ sym (ap (behind j) acts ∙ performed_then (ready_on j.field) xs (Sent command ∷ []));
      put = subst (λ l. Shows (shown j l) before now) (sym acts) (put_more j xs (Sent command ∷ []) (report j.number w command) before between now one u.put p);
      stood = s ∙ u.stood;
    }

pub put_command : (j : Job) (before between now : SinkState) (w after : Performers) (old between_calls new : Course) (steps : ℕ) (a : Advanced) (command : Command) (r : Reply) (e : Entry)
    → a ≡ answer.Command command → between_calls ≡ advanced old a steps → new ≡ replied between_calls r → IsLawful new
    → after ≡ with_command w command → r ≡ reply_by w command → e ≡ report j.number w command
    → IsUnderWay j before between w old → Shows (e ∷ []) between now → now.faults ≡ between.faults → IsUnderWay j before now after new
put_command j before between now w after old between_calls new steps a command r e is first second law performed_so reply_is entry_is u p s =
    let same : new ≡ replied (asked old command steps) (reply_by w command) = second ∙ (λ i. replied ((first ∙ ap (λ x. advanced old x steps) is) i) (reply_is i)) in
    let at = command_now j before between now w old steps command u (subst IsLawful same law) (subst (λ x. Shows (x ∷ []) between now) entry_is p) s in
    subst (λ x. IsUnderWay j before now x new) (sym performed_so) (subst (IsUnderWay j before now (with_command w command)) (sym same) at)

pub command_less : (j : Job) (before now : SinkState) (w : Performers) (old between_calls new : Course) (steps : ℕ) (a : Advanced) (command : Command) (r : Reply)
    → a ≡ answer.Command command → between_calls ≡ advanced old a steps → new ≡ replied between_calls r → old.steps ≤ between_calls.steps → IsUnderWay j before now w new → left_of j new < left_of j old
command_less j before now w old between_calls new steps a command r is first second rise u =
    let same : new ≡ replied (asked old command steps) r = second ∙ ap (λ c. replied c r) (first ∙ ap (λ x. advanced old x steps) is) in
    let more : length (acts_in new.answers) ≡ length (acts_in old.answers) + 1 = ap (λ c. length (acts_in c.answers)) same ∙ one_act old.answers (answer.Command command) (Sent command) refl in
    let kept : new.steps ≡ between_calls.steps = ap (λ c. c.steps) second in
    less_by_act j before now w old new more (omega (arith, rise, kept)) u

-- the numbers of the performers' commands fit
pub asked_few : (j : Job) (before now : SinkState) (w : Performers) (c : Course) → IsUnderWay j before now w c → w.steps + w.moves ≤ j.budget
asked_few j before now w c u =
    let prefix = u.begun j.budget (meant j c) u.within (runs_so j c u.entry u.means u.inputs) in
    let few = few_commands j c (acts_in c.answers) prefix.0 prefix.1 in
    let n1 = ap (λ x. x.steps) u.performers ∙ steps_after (ready_on j.field) (acts_in c.answers) in
    let n2 = ap (λ x. x.moves) u.performers ∙ moves_after (ready_on j.field) (acts_in c.answers) in
    omega (arith, few, n1, n2)

-- the reply is one that the command can have
pub reply_owed : (w : Performers) (old new : Course) (steps : ℕ) (a : Advanced) (command : Command) (r : Reply) → a ≡ answer.Command command → new ≡ advanced old a steps → r ≡ reply_by w command → IsOwed new.condition r
reply_owed w old new steps a command r is e reply_is =
    let owes : new.condition ≡ Owes command = ap (λ c. c.condition) (e ∙ ap (λ x. advanced old x steps) is) in
    subst (λ s. IsOwed s r) (sym owes) (subst (CanHave command) (sym reply_is) (reply_can w command))

-- ---- a pause

paused_now : (j : Job) (before now : SinkState) (w : Performers) (old : Course) (steps : ℕ) → IsUnderWay j before now w old → IsLawful (advanced old answer.Paused steps) → IsUnderWay j before now w (advanced old answer.Paused steps)
paused_now j before now w old steps u law =
    let acts = quiet old.answers answer.Paused refl in
    record {
      entry = u.entry;
      means = u.means;
      inputs = u.inputs;
      allowed = u.allowed;
      within = omega (arith, law.within, u.allowed);
      begun = law.begun;
      free = refl;
      replies = u.replies ∙ ap (λ l. robot j.field (robot_commands_of l)) (sym acts);
      performers = u.performers ∙ ap (behind j) (sym acts);
      put = subst (λ l. Shows (shown j l) before now) (sym acts) u.put;
      stood = u.stood;
    }

pub paused : (j : Job) (before now : SinkState) (w : Performers) (old new : Course) (steps : ℕ) (a : Advanced) → a ≡ answer.Paused → new ≡ advanced old a steps → IsLawful new → IsUnderWay j before now w old → IsUnderWay j before now w new
paused j before now w old new steps a is e law u =
    let same : new ≡ advanced old answer.Paused steps = e ∙ ap (λ x. advanced old x steps) is in
    subst (IsUnderWay j before now w) (sym same) (paused_now j before now w old steps u (subst IsLawful same law))

pub paused_less : (j : Job) (before now : SinkState) (w : Performers) (old new : Course) (steps most : ℕ) (a : Advanced) → a ≡ answer.Paused → new ≡ advanced old a steps → new.steps ≡ old.steps + most → 1 ≤ most → IsUnderWay j before now w new → left_of j new < left_of j old
paused_less j before now w old new steps most a is e taken some u =
    let same : new ≡ advanced old answer.Paused steps = e ∙ ap (λ x. advanced old x steps) is in
    let acts : length (acts_in new.answers) ≡ length (acts_in old.answers) = ap (λ c. length (acts_in c.answers)) same ∙ ap length (quiet old.answers answer.Paused refl) in
    omega (arith, acts, taken, some, u.within)

-- ---- the end

never_memory : (s : RunState) (end : EndKind) → end_of s ≡ Some end → end ≢ end_kind.Memory
never_memory state.Going end e m = cc
never_memory state.Awaiting end e m = cc
never_memory state.Done end e m = cc
never_memory state.Quit end e m = cc
never_memory (state.Assert line) end e m = cc
never_memory (state.Fault line fault) end e m = cc
never_memory (state.Wall line) end e m = cc

pub end_printable : (old new : Course) (steps : ℕ) (a : Advanced) (end : EndKind) → a ≡ answer.Ended end → new ≡ advanced old a steps → IsLawful new → end ≢ end_kind.Memory
end_printable old new steps a end is e law =
    let same : new ≡ advanced old (answer.Ended end) steps = e ∙ ap (λ x. advanced old x steps) is in
    let h = law.over end (ap (λ c. c.condition) same) in
    never_memory h.0 end h.1

ended_now : (j : Job) (before between now : SinkState) (w : Performers) (old : Course) (steps : ℕ) (end : EndKind) → IsUnderWay j before between w old → IsLawful (advanced old (answer.Ended end) steps)
    → Shows (entry.End j.number end ∷ []) between now → PutsEntries (IsTraceOf j.budget j.number j.inputs j.field j.program) before now
ended_now j before between now w old steps end u law p =
    let c = advanced old (answer.Ended end) steps in
    let h = law.over end refl in
    let within : c.steps ≤ j.budget = omega (arith, law.within, u.allowed) in
    let all : j.budget ≤ c.budget = omega (arith, u.allowed) in
    let whole : meant j c ≡ so_far c h.0 = one_course c j.budget (meant j c) (so_far c h.0) (runs_so j c u.entry u.means u.inputs) (h.3 j.budget within all) in
    let acts : acts_in c.answers ≡ acts_in old.answers = quiet old.answers (answer.Ended end) refl in
    let is_play : IsPlay j.program j.inputs j.field j.budget (so_far c h.0) = record {
      replies = old.replies;
      of_program = sym whole;
      of_field = u.replies ∙ ap (λ l. robot j.field (robot_commands_of l)) (sym acts);
    } in
    let did = shown j (acts_in old.answers) in
    let told : trace_entries j.number j.field (so_far c h.0) ≡ did ++ entry.End j.number end ∷ [] = ap (λ l. shown j l ++ end_entries j.number (end_of h.0)) acts ∙ ap (λ o. did ++ end_entries j.number o) h.1 in (
      did ++ entry.End j.number end ∷ [],
      (so_far c h.0, is_play, sym told),
      put_behind did (entry.End j.number end ∷ []) before between now u.put p,
    )

pub put_end : (j : Job) (before between now : SinkState) (w : Performers) (old new : Course) (steps : ℕ) (a : Advanced) (end : EndKind) → a ≡ answer.Ended end → new ≡ advanced old a steps → IsLawful new → IsUnderWay j before between w old → Shows (entry.End j.number end ∷ []) between now → PutsEntries (IsTraceOf j.budget j.number j.inputs j.field j.program) before now
put_end j before between now w old new steps a end is e law u p =
    ended_now j before between now w old steps end u (subst IsLawful (e ∙ ap (λ x. advanced old x steps) is) law) p

-- ---- what never comes

free_goes_on : (code : ValidCode) (inputs : List Value) (budget steps : ℕ) (replies : List Reply) (answers : List Advanced) (condition : Condition) (a : Advanced) (taken : ℕ)
    → condition ≡ Free → Stays (record { code = code; inputs = inputs; budget = budget; steps = steps; replies = replies; answers = answers; condition = condition }) a taken → a ≡ answer.AwaitReply → ⊥
free_goes_on code inputs budget steps replies answers Free a taken e s is = s is
free_goes_on code inputs budget steps replies answers (Owes command) a taken e s is = cc
free_goes_on code inputs budget steps replies answers (Over end) a taken e s is = cc
free_goes_on code inputs budget steps replies answers Failed a taken e s is = cc

pub nothing_owed : (c : Course) (a : Advanced) (taken : ℕ) → c.condition ≡ Free → Stays c a taken → a ≡ answer.AwaitReply → ⊥
nothing_owed c a taken e s is = free_goes_on c.code c.inputs c.budget c.steps c.replies c.answers c.condition a taken e s is

-- ---- how a run begins

some_not_none : (n : ℕ) → Some n ≡ None → ⊥
some_not_none n e = cc

-- the code of such a program has an entry
pub has_entry : (a code : ValidCode) (units : List (ℕ × Known)) → a ≡ code → code.entry ≡ entry_of (program_of units) → IsRunnable units → a.entry ≡ None → ⊥
has_entry a code units same entry r none =
    some_not_none 0 (sym (runnable_enters units r) ∙ sym entry ∙ sym (ap (λ (x : ValidCode). x.entry) same) ∙ none)

-- and runs as the program means
pub at_begin : (units : List (ℕ × Known)) (budget : ℕ) (inputs : List Value) (a code : ValidCode) (m : Course) → a ≡ code → code.entry ≡ entry_of (program_of units) → RunsAs code.units (program_of units) → IsRunnable units → m ≡ begun a inputs budget → IsAtBegin (program_of units) inputs budget m
at_begin units budget inputs a code m same entry means r e =
    subst (IsAtBegin (program_of units) inputs budget) (sym e) (record {
      begun = refl;
      entry = ap (λ (x : ValidCode). x.entry) same ∙ entry ∙ runnable_enters units r;
      means = subst (λ us. RunsAs us (program_of units)) (sym (ap (λ (x : ValidCode). x.units) same)) means;
    })
