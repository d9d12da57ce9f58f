-- What a machine has answered, and the run of its code.
use Rattle.std.proofs.Common.{◌≡◌, ℕ, zero, suc, ◌+◌, ◌-◌, ◌≤◌, List, [], ◌∷◌, ◌++◌, Option, Some, None, refl, sym, ap, ◌∙◌, subst, arith, append_assoc, append-nil}
use Rattle.performer_kit.specs.declared.commands.RobotCommand.{RobotCommand}
use Rattle.performer_kit.specs.declared.commands.PenCommand.{PenCommand}
use Rattle.performer_kit.specs.declared.commands.Command.{Command}
use Rattle.performer_kit.specs.declared.commands.Command.TheVariants.{Robot, Pen}
use Rattle.performer_kit.specs.declared.commands.Reply.{Reply}
use Rattle.kumir_values.specs.declared.value.Value.{Value}
use Rattle.kumir_values.specs.declared.run_end.EndKind.{EndKind}
use Rattle.kumir_values.specs.declared.run_end.EndKind.TheVariants as end_kind
use Rattle.kumir_meaning.specs.Runs.{Act, Printed, Sent, RunState, Trace, only, after_act, end_of, usual, IsPrefix}
use Rattle.kumir_meaning.specs.Runs as state
use Rattle.stack_code.specs.declared.unit.CodeUnit.{CodeUnit}
use Rattle.stack_code.specs.Instructions.{event_at}
use Rattle.stack_code.specs.CodeRuns.{after_some, meet, exec, start, CodeRun}
use Rattle.stack_code.proofs.Traces.{one_trace}
use Rattle.machine_steps.specs.declared.stage.Stage.{Stage}
use Rattle.machine_steps.specs.declared.stage.Question.{Question}
use Rattle.machine_steps.specs.Progress.{FullState, at, StepsTo}
use Rattle.machine_steps.specs.Carried.{EndsIn}
use Rattle.machine_steps.specs.Stages.{full_state_of, NeedsStep, AsksNext}
use Rattle.machine_steps.proofs.NeededSteps.{needs_only}
use Rattle.kumir_machine.specs.declared.answer.Advanced.{Advanced}
use Rattle.kumir_machine.specs.declared.answer.Advanced.TheVariants as answer
use Rattle.kumir_machine.specs.declared.active.Phase.{Phase}
use Rattle.kumir_machine.specs.declared.active.Phase.TheVariants as phase
use Rattle.kumir_machine.specs.Course.{Free, Owes, Over, Failed, Course, acts_in, RunsTo, so_far, IsPrefixOfRun, IsWhole, IsSpent, HasEnded, IsLawful}
use Rattle.kumir_machine.specs.Phases.{condition_of, HasSteppedTo, IsAsking, HasReply, IsPhaseOf}

-- ---- the acts of answers

pub acts_joined : (xs ys : List Advanced) → acts_in (xs ++ ys) ≡ acts_in xs ++ acts_in ys
acts_joined [] ys = refl
acts_joined (answer.Out t ∷ xs) ys = ap (λ l. Printed t ∷ l) (acts_joined xs ys)
acts_joined (answer.Command c ∷ xs) ys = ap (λ l. Sent c ∷ l) (acts_joined xs ys)
acts_joined (answer.AwaitReply ∷ xs) ys = acts_joined xs ys
acts_joined (answer.Paused ∷ xs) ys = acts_joined xs ys
acts_joined (answer.Ended e ∷ xs) ys = acts_joined xs ys
acts_joined (answer.Memory ∷ xs) ys = acts_joined xs ys

-- an answer without an act
pub quiet : (xs : List Advanced) (a : Advanced) → acts_in (a ∷ []) ≡ [] → acts_in (xs ++ a ∷ []) ≡ acts_in xs
quiet xs a e = acts_joined xs (a ∷ []) ∙ ap (λ l. acts_in xs ++ l) e ∙ append-nil (acts_in xs)

-- ---- runs from a state to which a run has stepped

pub steps_left : (taken n : ℕ) → taken ≤ n → taken + (n - taken) ≡ n
steps_left taken n le = omega (arith, le)

pub begins_by : (units : List CodeUnit) (entry taken n : ℕ) (inputs : List Value) (given : List Reply) (acts : List Act) (b : FullState) → StepsTo units (at (start entry) inputs) taken given acts b → taken ≤ n
    → (t : Trace) → CodeRun units entry inputs given n t → IsPrefix acts t.acts
begins_by units entry taken n inputs given acts b p le t r =
    let e = ap (λ k. exec usual units r.instructions (start entry) k inputs (given ++ [])) (steps_left taken n le) ∙ ap (λ l. exec usual units r.instructions (start entry) n inputs l) (append-nil given) ∙ r.ends in
    let v = p.back (n - taken) [] r.instructions t e in
    (v.1.acts, ap (λ x. x.acts) v.3)

pub runs_by : (units : List CodeUnit) (entry taken n j : ℕ) (inputs : List Value) (given : List Reply) (acts more : List Act) (b : FullState) (e : RunState)
    → StepsTo units (at (start entry) inputs) taken given acts b → taken ≤ n → exec usual units j b.state (n - taken) b.inputs [] ≡ Some (record { acts = more; state = e })
    → CodeRun units entry inputs given n (record { acts = acts ++ more; state = e })
runs_by units entry taken n j inputs given acts more b e p le h =
    let v = p.forth (n - taken) [] j _ h in
    record {
      instructions = v.0;
      ends = ap (λ k. exec usual units v.0 (start entry) k inputs given) (sym (steps_left taken n le)) ∙ ap (λ l. exec usual units v.0 (start entry) (taken + (n - taken)) inputs l) (sym (append-nil given)) ∙ v.1;
    }

-- a command of the Robot without its reply
pub asked_only : (units : List CodeUnit) (q : Question) (b : FullState) (k : ℕ) → AsksNext units q b → exec usual units 1 b.state k b.inputs [] ≡ Some (record { acts = Sent (Robot q.command) ∷ []; state = state.Awaiting })
asked_only units q b k h = ap (λ o. meet (event_at usual units o b.state) (exec usual units 0) k b.inputs []) h

-- ---- the course

some_same : (x y : ℕ) → Some x ≡ Some y → x ≡ y
some_same x y e = cc

-- the run of the code of a course, from its entry
pub run_from : (c : Course) (entry n : ℕ) (t : Trace) → c.code.entry ≡ Some entry → RunsTo c n t → CodeRun c.code.units entry c.inputs c.replies n t
run_from c entry n t is r = subst (λ e. CodeRun c.code.units e c.inputs c.replies n t) (some_same r.entry entry (sym r.is ∙ is)) r.run

pub one_course : (c : Course) (n : ℕ) (t u : Trace) → RunsTo c n t → RunsTo c n u → t ≡ u
one_course c n t u r q = one_trace usual c.code.units q.entry c.inputs c.replies n t u (run_from c q.entry n t q.is r) q.run

pub some_begun : (c : Course) (entry : ℕ) (b : FullState) → c.code.entry ≡ Some entry → StepsTo c.code.units (at (start entry) c.inputs) c.steps c.replies (acts_in c.answers) b → IsPrefixOfRun c
some_begun c entry b is p n t le r = begins_by c.code.units entry c.steps n c.inputs c.replies (acts_in c.answers) b p le t (run_from c entry n t is r)

pub come_begun : (c : Course) (s : Stage) → HasSteppedTo c c.replies (acts_in c.answers) s → IsPrefixOfRun c
come_begun c s h = some_begun c h.entry (full_state_of c.code.units s) h.is h.comes

-- a run to which nothing is added
pub runs_only : (c : Course) (entry n j : ℕ) (b : FullState) (e : RunState) → c.code.entry ≡ Some entry → StepsTo c.code.units (at (start entry) c.inputs) c.steps c.replies (acts_in c.answers) b
    → c.steps ≤ n → exec usual c.code.units j b.state (n - c.steps) b.inputs [] ≡ Some (only e) → RunsTo c n (so_far c e)
runs_only c entry n j b e is p le h = record {
  entry = entry;
  is = is;
  run =
      subst (λ acts. CodeRun c.code.units entry c.inputs c.replies n (record { acts = acts; state = e })) (append-nil (acts_in c.answers))
      (runs_by c.code.units entry c.steps n j c.inputs c.replies (acts_in c.answers) [] b e p le h);
}

-- only a run in which a step is needed ends for want of steps
needs_one : (e : RunState) (end : EndKind) → end_of e ≡ Some end → end ≡ end_kind.Steps → e ≡ state.Going
needs_one state.Going end h s = refl
needs_one state.Awaiting end h s = absurd (let wrong : ⊥ = cc in wrong)
needs_one state.Done end h s = absurd (let wrong : ⊥ = cc in wrong)
needs_one state.Quit end h s = absurd (let wrong : ⊥ = cc in wrong)
needs_one (state.Assert line) end h s = absurd (let wrong : ⊥ = cc in wrong)
needs_one (state.Fault line fault) end h s = absurd (let wrong : ⊥ = cc in wrong)
needs_one (state.Wall line) end h s = absurd (let wrong : ⊥ = cc in wrong)

pub other_end : (e : RunState) (c : Course) (end : EndKind) → end_of e ≡ Some end → (e ≡ state.Going → ⊥) → IsSpent end c
other_end e c end h other s = absurd (other (needs_one e end h s))

pub ends_only : (c : Course) (entry : ℕ) (b : FullState) (e : RunState) (end : EndKind) → c.code.entry ≡ Some entry → StepsTo c.code.units (at (start entry) c.inputs) c.steps c.replies (acts_in c.answers) b
    → end_of e ≡ Some end → EndsIn c.code.units b e → HasEnded end c
ends_only c entry b e end is p eo h = (e, eo, other_end e c end eo h.0, λ n le within. let x = h.1 (n - c.steps) [] in runs_only c entry n x.0 b e is p le x.1)

pub nothing_left : (m n : ℕ) → n ≡ m → n - m ≡ 0
nothing_left m n e = omega (arith, e)

pub goes_only : (c : Course) (entry n : ℕ) (b : FullState) → c.code.entry ≡ Some entry → StepsTo c.code.units (at (start entry) c.inputs) c.steps c.replies (acts_in c.answers) b
    → n ≡ c.steps → NeedsStep c.code.units b → RunsTo c n (so_far c state.Going)
goes_only c entry n b is p e h =
    let le : c.steps ≤ n = omega (arith, e) in
    runs_only c entry n 1 b state.Going is p le (ap (λ k. exec usual c.code.units 1 b.state k b.inputs []) (nothing_left c.steps n e) ∙ needs_only c.code.units b h)

budget_spent : (steps budget n : ℕ) → steps ≡ budget → steps ≤ n → n ≤ budget → n ≡ steps
budget_spent steps budget n e a b = omega (arith, e, a, b)

pub spent_only : (c : Course) (entry : ℕ) (b : FullState) → c.code.entry ≡ Some entry → StepsTo c.code.units (at (start entry) c.inputs) c.steps c.replies (acts_in c.answers) b
    → c.steps ≡ c.budget → NeedsStep c.code.units b → HasEnded end_kind.Steps c
spent_only c entry b is p spent h = (state.Going, refl, λ s. spent, λ n le within. goes_only c entry n b is p (budget_spent c.steps c.budget n spent le within) h)

-- where the Robot's reply is owed, the acts answered are all of those of the run, within any more steps
pub asking_runs : (c : Course) (q : Question) (s : Stage) → IsAsking c q c.replies s → (n : ℕ) → c.steps ≤ n → RunsTo c n (so_far c state.Awaiting)
asking_runs c q s h n le = record {
  entry = h.come.entry;
  is = h.come.is;
  run =
      subst (λ acts. CodeRun c.code.units h.come.entry c.inputs c.replies n (record { acts = acts; state = state.Awaiting })) (sym h.acts)
      (runs_by c.code.units h.come.entry c.steps n 1 c.inputs c.replies h.before (Sent (Robot q.command) ∷ []) (full_state_of c.code.units s) state.Awaiting h.come.comes le (asked_only c.code.units q (full_state_of c.code.units s) (n - c.steps) h.asks));
}

pub all_begun : (c : Course) (n : ℕ) (e : RunState) (t : Trace) → RunsTo c n (so_far c e) → RunsTo c n t → IsPrefix (acts_in c.answers) t.acts
all_begun c n e t q r = ([], ap (λ x. x.acts) (one_course c n t (so_far c e) r q) ∙ sym (append-nil (acts_in c.answers)))

-- ---- where the last reply is not carried out

no_trace : {P : Type 0} (u : Trace) → None ≡ Some u → P
no_trace u e = cc

first_of : (a : Act) (o : Option Trace) (u : Trace) → after_some a o ≡ Some u → IsPrefix (a ∷ []) u.acts
first_of a None u e = no_trace u e
first_of a (Some w) u e = (w.acts, let same : after_act a w ≡ u = cc in ap (λ x. x.acts) (sym same))

sent_first : (units : List CodeUnit) (q : Question) (b : FullState) (r : Reply) (j k : ℕ) (u : Trace) → AsksNext units q b → exec usual units j b.state k b.inputs (r ∷ []) ≡ Some u → IsPrefix (Sent (Robot q.command) ∷ []) u.acts
sent_first units q b r zero k u h e = no_trace u e
sent_first units q b r (suc j) k u h e = first_of (Sent (Robot q.command)) _ u (ap (λ o. meet (event_at usual units o b.state) (exec usual units j) k b.inputs (r ∷ [])) (sym h) ∙ e)

begins_both : (x y z : List Act) → IsPrefix y z → IsPrefix (x ++ y) (x ++ z)
begins_both x y z h = (h.0, ap (λ l. x ++ l) h.1 ∙ sym (append_assoc x y h.0))

pub replied_begun : (c : Course) (q : Question) (r : Reply) (s : Stage) → HasReply c q r s → IsPrefixOfRun c
replied_begun c q r s h n t le run =
    let a = h.asking in
    let there = run_from c a.come.entry n t a.come.is run in
    let e = ap (λ k. exec usual c.code.units there.instructions (start a.come.entry) k c.inputs (h.given ++ r ∷ [])) (steps_left c.steps n le) ∙ ap (λ l. exec usual c.code.units there.instructions (start a.come.entry) n c.inputs l) (sym h.replies) ∙ there.ends in
    let v = a.come.comes.back (n - c.steps) (r ∷ []) there.instructions t e in
    let first = sent_first c.code.units q (full_state_of c.code.units s) r v.0 (n - c.steps) v.1 a.asks v.2 in
    let both = begins_both a.before (Sent (Robot q.command) ∷ []) v.1.acts first in
    (both.0, ap (λ x. x.acts) v.3 ∙ both.1 ∙ ap (λ l. l ++ both.0) (sym a.acts))

-- ---- what holds of each course

no_command : (p : Phase) (c : Course) (command : RobotCommand) → c.condition ≡ condition_of p → (condition_of p ≡ Owes (Robot command) → ⊥) → c.condition ≡ Owes (Robot command) → IsWhole state.Awaiting c
no_command p c command is other e = absurd (other (sym is ∙ e))

no_end : (p : Phase) (c : Course) (end : EndKind) → c.condition ≡ condition_of p → (condition_of p ≡ Over end → ⊥) → c.condition ≡ Over end → HasEnded end c
no_end p c end is other e = absurd (other (sym is ∙ e))

free_owes : (command : Command) → Free ≡ Owes command → ⊥
free_owes command e = let wrong : ⊥ = cc in wrong

free_over : (end : EndKind) → Free ≡ Over end → ⊥
free_over end e = let wrong : ⊥ = cc in wrong

owes_over : (command : Command) (end : EndKind) → Owes command ≡ Over end → ⊥
owes_over command end e = let wrong : ⊥ = cc in wrong

over_owes : (end : EndKind) (command : Command) → Over end ≡ Owes command → ⊥
over_owes end command e = let wrong : ⊥ = cc in wrong

failed_owes : (command : Command) → Failed ≡ Owes command → ⊥
failed_owes command e = let wrong : ⊥ = cc in wrong

failed_over : (end : EndKind) → Failed ≡ Over end → ⊥
failed_over end e = let wrong : ⊥ = cc in wrong

-- a command to the Draughtsman is none to the Robot
other_performer : (p : PenCommand) (command : RobotCommand) → Owes (Pen p) ≡ Owes (Robot command) → ⊥
other_performer p command e = let wrong : ⊥ = cc in wrong

same_end : (a b : EndKind) → Over a ≡ Over b → a ≡ b
same_end a b e = cc

pub lawful : (c : Course) (p : Phase) (s : Stage) → c.condition ≡ condition_of p → c.steps ≤ c.budget → IsPhaseOf c p s → IsLawful c
lawful c phase.Ready s is within h = record {
  within = within;
  begun = come_begun c s h;
  awaits = λ command. no_command phase.Ready c command is (free_owes (Robot command));
  over = λ end. no_end phase.Ready c end is (free_over end);
}
lawful c (phase.OwesRobot q) s is within h = record {
  within = within;
  begun = λ n t le r. all_begun c n state.Awaiting t (asking_runs c q s h n le) r;
  awaits = λ command e. asking_runs c q s h c.steps (let le : c.steps ≤ c.steps = omega arith in le);
  over = λ end. no_end (phase.OwesRobot q) c end is (owes_over (Robot q.command) end);
}
lawful c (phase.Replied q r) s is within h = record {
  within = within;
  begun = replied_begun c q r s h;
  awaits = λ command. no_command (phase.Replied q r) c command is (free_owes (Robot command));
  over = λ end. no_end (phase.Replied q r) c end is (free_over end);
}
lawful c (phase.OwesPen p) s is within h = record {
  within = within;
  begun = come_begun c s h;
  awaits = λ command. no_command (phase.OwesPen p) c command is (other_performer p command);
  over = λ end. no_end (phase.OwesPen p) c end is (owes_over (Pen p) end);
}
lawful c (phase.Over a) s is within h = record {
  within = within;
  begun = h.0;
  awaits = λ command. no_command (phase.Over a) c command is (over_owes a (Robot command));
  over = λ end e. subst (λ x. HasEnded x c) (same_end a end (sym is ∙ e)) h.1;
}
lawful c phase.Failed s is within h = record {
  within = within;
  begun = h;
  awaits = λ command. no_command phase.Failed c command is (failed_owes (Robot command));
  over = λ end. no_end phase.Failed c end is (failed_over end);
}
