-- One call of a machine.
use Rattle.std.proofs.Common.{◌≡◌, ℕ, ◌+◌, ◌-◌, ◌≤◌, List, [], ◌∷◌, ◌++◌, Some, refl, sym, ap, ◌∙◌, subst, arith}
use Rattle.performer_kit.specs.declared.commands.PenCommand.{PenCommand}
use Rattle.performer_kit.specs.declared.commands.Command.{Command}
use Rattle.performer_kit.specs.declared.commands.Command.TheVariants.{Robot, Pen}
use Rattle.performer_kit.specs.declared.commands.Reply.{Reply}
use Rattle.kumir_values.specs.declared.run_end.EndKind.{EndKind}
use Rattle.kumir_values.specs.declared.run_end.EndKind.TheVariants as end_kind
use Rattle.kumir_meaning.specs.Runs.{Act, Trace, end_of, usual, IsPrefix}
use Rattle.kumir_meaning.specs.Runs as state
use Rattle.stack_code.specs.CodeRuns.{exec, start, CodeRun}
use Rattle.stack_code.specs.declared.unit.CodeUnit.{CodeUnit}
use Rattle.stack_code.specs.Validity.{ValidCode}
use Rattle.machine_steps.specs.declared.stage.Stage.{Stage}
use Rattle.machine_steps.specs.declared.stage.Question.{Question}
use Rattle.machine_steps.specs.Progress.{FullState, at, StepsTo}
use Rattle.machine_steps.specs.Stages.{full_state_of}
use Rattle.machine_steps.specs.Replying.{Answers}
use Rattle.kumir_machine.specs.declared.answer.Advanced.{Advanced}
use Rattle.kumir_machine.specs.declared.answer.Advanced.TheVariants as answer
use Rattle.kumir_machine.specs.declared.active.Phase.{Phase}
use Rattle.kumir_machine.specs.declared.active.Phase.TheVariants as phase
use Rattle.kumir_machine.specs.declared.active.ActiveRun.{ActiveRun}
use Rattle.kumir_machine.specs.Course.{Condition, Free, Owes, Over, Failed, Course, acts_in, RunsTo, so_far, IsPrefixOfRun, IsWhole, HasEnded, IsLawful, after, advanced, Stays, most_within, FollowsWithin, AnswersNext, NeedsAll}
use Rattle.kumir_machine.specs.ActiveRuns.{phase_after, answer_after, Goes, AfterReply, Behind, AtWall, Wanted, Moves}
use Rattle.kumir_machine.specs.Phases.{condition_of, course_of, HasSteppedTo, IsAsking, HasReply, IsPhaseOf, IsMachine}
use Rattle.kumir_machine.proofs.CoursesAreRuns.{steps_left, quiet, one_course, other_end, replied_begun, lawful}
use Rattle.kumir_machine.proofs.StepsThenAnswer.{From, from_come, from_reply, Came, holds_after, stands_after, no_await, within_most, most_few, follows_within, needs_all, paused_whole}

-- ---- the whole call

pub record Called (c : Course) (most : ℕ) (result : Advanced) (new : ActiveRun) : Type 0 where
  pub holds : IsPhaseOf (advanced c result new.steps) new.phase new.stage
  pub condition : condition_of new.phase ≡ after result c.condition
  pub stays : Stays c result new.steps
  pub next : AnswersNext c most result
  pub needed : NeedsAll c new.steps
  pub rise : c.steps ≤ new.steps
  pub few : new.steps ≤ c.steps + most
  pub within : new.steps ≤ c.budget
  pub paused : result ≡ answer.Paused → (new.steps ≡ c.steps + most) × IsWhole state.Going (advanced c result new.steps)

-- how it stays, by how it stands; told of the stand alone, so that cases can be made of it
stays_by : (c : Course) (st : Condition) (r : Advanced) (n : ℕ) → c.condition ≡ st → Stays (record c { condition = st }) r n → Stays c r n
stays_by c st r n e h = subst (λ x. Stays (record c { condition = x }) r n) (sym e) h

-- it stood free, and what it came to is told
goes_so : (c : Course) (a : FullState) (most : ℕ) (result : Advanced) (new : ActiveRun) → c.condition ≡ Free → From c a → Goes c.code.units c.budget most a c.steps result new → Called c most result new
goes_so c a most result new free f g =
    let units = c.code.units in
    let came : Came c a new.stage new.steps most g.came = record { reaches = g.reaches; stage = g.stage; taken = g.taken; refused = g.refused; rise = g.rise } in
    let answered = sym g.answer in
    record {
      holds = subst (λ p. IsPhaseOf (advanced c result new.steps) p new.stage) (sym g.phase) (subst (λ r. IsPhaseOf (advanced c r new.steps) (phase_after g.came) new.stage) answered (holds_after c a new.stage new.steps most g.came f came));
      condition = ap condition_of g.phase ∙ stands_after g.came ∙ ap (after (answer_after g.came)) (sym free) ∙ ap (λ r. after r c.condition) answered;
      stays = subst (λ r. Stays c r new.steps) answered (stays_by c Free (answer_after g.came) new.steps free (no_await g.came));
      next = λ is t r. subst (FollowsWithin c (most_within c most) t) answered (follows_within c a new.stage new.steps most g.came f came t r);
      needed = needs_all c a new.steps f g.needed;
      rise = g.rise;
      few = g.few;
      within = g.within;
      paused = λ e. subst (λ r. (new.steps ≡ c.steps + most) × IsWhole state.Going (advanced c r new.steps)) answered (paused_whole c a new.stage new.steps most g.came f came (answered ∙ e));
    }

-- ---- nothing but the answer

no_acts : (c : Course) (r : Advanced) → acts_in (r ∷ []) ≡ [] → acts_in (c.answers ++ r ∷ []) ≡ acts_in c.answers
no_acts c r e = quiet c.answers r e

quiet_come : (c : Course) (r : Advanced) (given : List Reply) (x y : List Act) (s : Stage) → y ≡ x → HasSteppedTo c given x s → HasSteppedTo (advanced c r c.steps) given y s
quiet_come c r given x y s e h = record {
  entry = h.entry;
  is = h.is;
  comes = subst (λ l. StepsTo c.code.units (at (start h.entry) c.inputs) c.steps given l (full_state_of c.code.units s)) (sym e) h.comes;
  stage = h.stage;
}

quiet_asking : (c : Course) (r : Advanced) (q : Question) (given : List Reply) (s : Stage) → acts_in (r ∷ []) ≡ [] → IsAsking c q given s → IsAsking (advanced c r c.steps) q given s
quiet_asking c r q given s e h = record { before = h.before; acts = no_acts c r e ∙ h.acts; come = quiet_come c r given h.before h.before s refl h.come; asks = h.asks }

same_run : (c : Course) (r : Advanced) (n : ℕ) (t : Trace) → RunsTo (advanced c r c.steps) n t → RunsTo c n t
same_run c r n t h = record { entry = h.entry; is = h.is; run = h.run }

run_too : (c : Course) (r : Advanced) (n : ℕ) (t : Trace) → RunsTo c n t → RunsTo (advanced c r c.steps) n t
run_too c r n t h = record { entry = h.entry; is = h.is; run = h.run }

quiet_begun : (c : Course) (r : Advanced) → acts_in (r ∷ []) ≡ [] → IsPrefixOfRun c → IsPrefixOfRun (advanced c r c.steps)
quiet_begun c r e h n t le run = subst (λ l. IsPrefix l t.acts) (sym (no_acts c r e)) (h n t le (same_run c r n t run))

quiet_ended : (c : Course) (r : Advanced) (end : EndKind) → acts_in (r ∷ []) ≡ [] → HasEnded end c → HasEnded end (advanced c r c.steps)
quiet_ended c r end e h = (
  h.0,
  h.1,
  h.2,
  λ n le within. run_too c r n (so_far (advanced c r c.steps) h.0) (subst (λ l. RunsTo c n (record { acts = l; state = h.0 })) (sym (no_acts c r e)) (h.3 n le within)),
)

none_above : (n most : ℕ) → n ≤ n + most
none_above n most = omega arith

same_steps : (n : ℕ) → n ≤ n
same_steps n = omega arith

-- no step was taken
none_taken : (c : Course) (m : ℕ) → m ≡ c.steps → NeedsAll c m
none_taken c m e n le lt = absurd (let wrong : ⊥ = omega (arith, e, le, lt) in wrong)

-- where it does not go on
still : (c : Course) (most : ℕ) (r : Advanced) (old new : ActiveRun) → new ≡ old → old.steps ≡ c.steps → c.steps ≤ c.budget → (c.condition ≡ Free → ⊥) → (r ≡ answer.Paused → ⊥)
    → IsPhaseOf (advanced c r c.steps) old.phase old.stage → condition_of old.phase ≡ after r c.condition → Stays c r c.steps → Called c most r new
still c most r old new same steps within busy other holds stands stays = subst (Called c most r) (sym same) (record {
  holds = subst (λ n. IsPhaseOf (advanced c r n) old.phase old.stage) (sym steps) holds;
  condition = stands;
  stays = subst (Stays c r) (sym steps) stays;
  next = λ free. absurd (busy free);
  needed = none_taken c old.steps steps;
  rise = subst (λ n. c.steps ≤ n) (sym steps) (same_steps c.steps);
  few = subst (λ n. n ≤ c.steps + most) (sym steps) (none_above c.steps most);
  within = subst (λ n. n ≤ c.budget) (sym steps) within;
  paused = λ e. absurd (other e);
})

owes_free : (c : Course) (command : Command) → c.condition ≡ Owes command → c.condition ≡ Free → ⊥
owes_free c command e f = let wrong : ⊥ = cc in wrong

over_free : (c : Course) (end : EndKind) → c.condition ≡ Over end → c.condition ≡ Free → ⊥
over_free c end e f = let wrong : ⊥ = cc in wrong

failed_free : (c : Course) → c.condition ≡ Failed → c.condition ≡ Free → ⊥
failed_free c e f = let wrong : ⊥ = cc in wrong

no_pause_await : answer.AwaitReply ≡ answer.Paused → ⊥
no_pause_await e = let wrong : ⊥ = cc in wrong

no_pause_ended : (end : EndKind) → answer.Ended end ≡ answer.Paused → ⊥
no_pause_ended end e = let wrong : ⊥ = cc in wrong

no_pause_memory : answer.Memory ≡ answer.Paused → ⊥
no_pause_memory e = let wrong : ⊥ = cc in wrong

no_await_ended : (end : EndKind) → answer.Ended end ≡ answer.AwaitReply → ⊥
no_await_ended end e = let wrong : ⊥ = cc in wrong

no_await_memory : answer.Memory ≡ answer.AwaitReply → ⊥
no_await_memory e = let wrong : ⊥ = cc in wrong

-- at a wall
abbrev wall_ended : (c : Course) (q : Question) (reply : Reply) (s : Stage) (b : FullState) (end : EndKind) → HasReply c q reply s → Answers c.code.units (full_state_of c.code.units s) q reply (Some end) b → HasEnded end c
wall_ended c q reply s b end h a =
    let come = h.asking.come in (
      a.0,
      a.1,
      other_end a.0 c end a.1 a.2.0,
      λ n le within.
          let x = a.2.1 (n - c.steps) [] in
          let v = come.comes.forth (n - c.steps) (reply ∷ []) x.0 _ x.1 in
          record {
            entry = come.entry;
            is = come.is;
            run =
                subst (λ l. CodeRun c.code.units come.entry c.inputs c.replies n (record { acts = l; state = a.0 })) (sym h.asking.acts)
                (record {
                  instructions = v.0;
                  ends =
                      ap (λ k. exec usual c.code.units v.0 (start come.entry) k c.inputs c.replies) (sym (steps_left c.steps n le))
                      ∙ ap (λ l. exec usual c.code.units v.0 (start come.entry) (c.steps + (n - c.steps)) c.inputs l) h.replies
                      ∙ v.1;
                });
          },
    )

-- the acts are all of those of the run, which is over
ended_next : (c : Course) (most : ℕ) (end : EndKind) → c.steps ≤ c.budget → (h : HasEnded end c) → (h.0 ≡ state.Going → ⊥) → (t : Trace) → RunsTo c (most_within c most) t → FollowsWithin c (most_within c most) t (answer.Ended end)
ended_next c most end within h other t r =
    let few = most_few c most in
    let le = within_most c c.steps most (none_above c.steps most) within in
    let same = one_course c (most_within c most) t (so_far c h.0) r (h.3 (most_within c most) le few.1) in
    (ap (λ x. x.acts) same, ap (λ x. end_of x.state) same ∙ h.1, λ run. absurd (other (sym (ap (λ x. x.state) same) ∙ run)))

-- a call that ends without a step
over_so : (c : Course) (most : ℕ) (end : EndKind) (result : Advanced) (new : ActiveRun) → c.condition ≡ Free → c.steps ≤ c.budget → IsPrefixOfRun c → (h : HasEnded end c) → (h.0 ≡ state.Going → ⊥)
    → result ≡ answer.Ended end → new.phase ≡ phase.Over end → new.steps ≡ c.steps → Called c most result new
over_so c most end result new free within begun h other answered at steps =
    subst (λ r. Called c most r new) (sym answered) (record {
      holds = subst (λ p. IsPhaseOf (advanced c (answer.Ended end) new.steps) p new.stage) (sym at) (subst (λ n. IsPrefixOfRun (advanced c (answer.Ended end) n) × HasEnded end (advanced c (answer.Ended end) n)) (sym steps) (quiet_begun c (answer.Ended end) refl begun, quiet_ended c (answer.Ended end) end refl h));
      condition = ap condition_of at;
      stays = stays_by c Free (answer.Ended end) new.steps free (no_await_ended end);
      next = λ is t r. ended_next c most end within h other t r;
      needed = none_taken c new.steps steps;
      rise = subst (λ n. c.steps ≤ n) (sym steps) (same_steps c.steps);
      few = subst (λ n. n ≤ c.steps + most) (sym steps) (none_above c.steps most);
      within = subst (λ n. n ≤ c.budget) (sym steps) within;
      paused = λ e. absurd (no_pause_ended end e);
    })

-- a call that wants memory before a step
failed_so : (c : Course) (most : ℕ) (result : Advanced) (new : ActiveRun) → c.condition ≡ Free → c.steps ≤ c.budget → IsPrefixOfRun c → result ≡ answer.Memory → new.phase ≡ phase.Failed → new.steps ≡ c.steps → Called c most result new
failed_so c most result new free within begun answered at steps =
    subst (λ r. Called c most r new) (sym answered) (record {
      holds = subst (λ p. IsPhaseOf (advanced c answer.Memory new.steps) p new.stage) (sym at) (subst (λ n. IsPrefixOfRun (advanced c answer.Memory n)) (sym steps) (quiet_begun c answer.Memory refl begun));
      condition = ap condition_of at;
      stays = stays_by c Free answer.Memory new.steps free no_await_memory;
      next = λ is t r. tt;
      needed = none_taken c new.steps steps;
      rise = subst (λ n. c.steps ≤ n) (sym steps) (same_steps c.steps);
      few = subst (λ n. n ≤ c.steps + most) (sym steps) (none_above c.steps most);
      within = subst (λ n. n ≤ c.budget) (sym steps) within;
      paused = λ e. absurd (no_pause_memory e);
    })

after_reply : (c : Course) (most : ℕ) (q : Question) (reply : Reply) (result : Advanced) (old new : ActiveRun) → c.condition ≡ Free → c.steps ≤ c.budget → old.steps ≡ c.steps → HasReply c q reply old.stage
    → AfterReply c.code.units c.budget most old q reply result new → Called c most result new
after_reply c most q reply result old new free within steps h (Behind a on g) =
    goes_so c a most result new free (from_reply c q reply old.stage a h on) (subst (λ n. Goes c.code.units c.budget most a n result new) steps g)
after_reply c most q reply result old new free within steps h (AtWall end a answered at same) =
    over_so c most end result new free within (replied_begun c q reply old.stage h) (wall_ended c q reply old.stage (full_state_of c.code.units new.stage) end h a) a.2.0 answered at (same ∙ steps)
after_reply c most q reply result old new free within steps h (Wanted answered at same) = failed_so c most result new free within (replied_begun c q reply old.stage h) answered at (same ∙ steps)

by_phase : (c : Course) (most : ℕ) (p : Phase) (result : Advanced) (old new : ActiveRun) → old.phase ≡ p → c.condition ≡ condition_of p → c.steps ≤ c.budget → old.steps ≡ c.steps → IsPhaseOf c p old.stage
    → Moves c.code.units c.budget most p old result new → Called c most result new
by_phase c most phase.Ready result old new at is within steps h m =
    goes_so c (full_state_of c.code.units old.stage) most result new is (from_come c old.stage h) (subst (λ n. Goes c.code.units c.budget most (full_state_of c.code.units old.stage) n result new) steps m)
by_phase c most (phase.Replied q reply) result old new at is within steps h m = after_reply c most q reply result old new is within steps h m
by_phase c most (phase.OwesRobot q) result old new at is within steps h m =
    subst (λ r. Called c most r new) (sym m.0)
    (still c most answer.AwaitReply old new m.1 steps within (owes_free c (Robot q.command) is) no_pause_await
    (subst (λ p. IsPhaseOf (advanced c answer.AwaitReply c.steps) p old.stage) (sym at) (quiet_asking c answer.AwaitReply q c.replies old.stage refl h))
    (ap condition_of at ∙ sym is) (stays_by c (Owes (Robot q.command)) answer.AwaitReply c.steps is (refl, refl)))
by_phase c most (phase.OwesPen p) result old new at is within steps h m =
    subst (λ r. Called c most r new) (sym m.0)
    (still c most answer.AwaitReply old new m.1 steps within (owes_free c (Pen p) is) no_pause_await
    (subst (λ q. IsPhaseOf (advanced c answer.AwaitReply c.steps) q old.stage) (sym at) (quiet_come c answer.AwaitReply c.replies (acts_in c.answers) (acts_in (c.answers ++ answer.AwaitReply ∷ [])) old.stage (no_acts c answer.AwaitReply refl) h))
    (ap condition_of at ∙ sym is) (stays_by c (Owes (Pen p)) answer.AwaitReply c.steps is (refl, refl)))
by_phase c most (phase.Over end) result old new at is within steps h m =
    subst (λ r. Called c most r new) (sym m.0)
    (still c most (answer.Ended end) old new m.1 steps within (over_free c end is) (no_pause_ended end)
    (subst (λ p. IsPhaseOf (advanced c (answer.Ended end) c.steps) p old.stage) (sym at) (quiet_begun c (answer.Ended end) refl h.0, quiet_ended c (answer.Ended end) end refl h.1))
    (ap condition_of at) (stays_by c (Over end) (answer.Ended end) c.steps is (refl, refl)))
by_phase c most phase.Failed result old new at is within steps h m =
    subst (λ r. Called c most r new) (sym m.0)
    (still c most answer.Memory old new m.1 steps within (failed_free c is) no_pause_memory
    (subst (λ p. IsPhaseOf (advanced c answer.Memory c.steps) p old.stage) (sym at) (quiet_begun c answer.Memory refl h))
    (ap condition_of at) (stays_by c Failed answer.Memory c.steps is (refl, refl)))

-- ---- a machine's call

pub called : (code : ValidCode) (units : List CodeUnit) (budget most : ℕ) (old new : ActiveRun) (replies : List Reply) (answers : List Advanced) (result : Advanced) → units ≡ code.units → IsMachine (course_of code budget old replies answers) old
    → Moves units budget most old.phase old result new → Called (course_of code budget old replies answers) most result new
called code units budget most old new replies answers result same h m =
    by_phase (course_of code budget old replies answers) most old.phase result old new refl refl h.0 refl h.1 (subst (λ u. Moves u budget most old.phase old result new) same m)

-- the new course
course_new : (code : ValidCode) (budget most : ℕ) (old new : ActiveRun) (replies : List Reply) (answers later : List Advanced) (result : Advanced) → Called (course_of code budget old replies answers) most result new
    → new.stage.inputs ≡ old.stage.inputs → later ≡ answers ++ result ∷ [] → course_of code budget new replies later ≡ advanced (course_of code budget old replies answers) result new.steps
course_new code budget most old new replies answers later result h e noted =
    ap (λ l. course_of code budget new replies l) noted
    ∙ ap (λ s. record { code = code; inputs = new.stage.inputs; budget = budget; steps = new.steps; replies = replies; answers = answers ++ result ∷ []; condition = s }) h.condition
    ∙ ap (λ i. record { code = code; inputs = i; budget = budget; steps = new.steps; replies = replies; answers = answers ++ result ∷ []; condition = after result (condition_of old.phase) }) e

pub machine_new : (code : ValidCode) (budget most : ℕ) (old new : ActiveRun) (replies : List Reply) (answers later : List Advanced) (result : Advanced) → Called (course_of code budget old replies answers) most result new
    → new.stage.inputs ≡ old.stage.inputs → later ≡ answers ++ result ∷ [] → IsMachine (course_of code budget new replies later) new
machine_new code budget most old new replies answers later result h e noted =
    subst (λ c. IsMachine c new) (sym (course_new code budget most old new replies answers later result h e noted)) (h.within, h.holds)

-- what a call promises
pub record Promised (c : Course) (most : ℕ) (result : Advanced) (new : Course) : Type 0 where
  pub advanced : new ≡ advanced c result new.steps
  pub stays : Stays c result new.steps
  pub next : AnswersNext c most result
  pub exact : NeedsAll c new.steps
  pub lawful : IsLawful new
  pub rise : c.steps ≤ new.steps
  pub few : new.steps ≤ c.steps + most
  pub paused : result ≡ answer.Paused → (new.steps ≡ c.steps + most) × IsWhole state.Going new

-- an answer of that end is lawful at the budget alone
pub ended_spent : (c new : Course) (result : Advanced) → new ≡ advanced c result new.steps → IsLawful new → result ≡ answer.Ended end_kind.Steps → new.steps ≡ new.budget
ended_spent c new result same lawful e = (lawful.over end_kind.Steps (ap (λ x. x.condition) same ∙ ap (λ r. after r c.condition) e)).2 refl

pub promised : (code : ValidCode) (budget most : ℕ) (old new : ActiveRun) (replies : List Reply) (answers later : List Advanced) (result : Advanced) → Called (course_of code budget old replies answers) most result new
    → new.stage.inputs ≡ old.stage.inputs → later ≡ answers ++ result ∷ [] → (c : Course) → course_of code budget old replies answers ≡ c → Promised c most result (course_of code budget new replies later)
promised code budget most old new replies answers later result h e noted c is =
    let same = course_new code budget most old new replies answers later result h e noted in
    let holds = machine_new code budget most old new replies answers later result h e noted in
    let law = lawful (course_of code budget new replies later) new.phase new.stage refl holds.0 holds.1 in
    subst (λ x. Promised x most result (course_of code budget new replies later)) is (record {
      advanced = same;
      stays = h.stays;
      next = h.next;
      exact = h.needed;
      lawful = law;
      rise = h.rise;
      few = h.few;
      paused = λ p. let whole = h.paused p in (whole.0, subst (IsWhole state.Going) (sym same) whole.1);
    })

-- ---- a reply is given

pub robot_replied : (code : ValidCode) (budget : ℕ) (run : ActiveRun) (replies later : List Reply) (answers : List Advanced) (q : Question) (reply : Reply) → IsMachine (course_of code budget run replies answers) run
    → run.phase ≡ phase.OwesRobot q → later ≡ replies ++ reply ∷ [] → IsMachine (course_of code budget (record run { phase = phase.Replied q reply }) later answers) (record run { phase = phase.Replied q reply })
robot_replied code budget run replies later answers q reply h at noted =
    let asking = subst (λ p. IsPhaseOf (course_of code budget run replies answers) p run.stage) at h.1 in (
      h.0,
      record {
        given = replies;
        replies = noted;
        asking = record {
          before = asking.before;
          acts = asking.acts;
          come = record { entry = asking.come.entry; is = asking.come.is; comes = asking.come.comes; stage = asking.come.stage };
          asks = asking.asks;
        };
      },
    )

pub pen_replied : (code : ValidCode) (budget : ℕ) (run : ActiveRun) (replies : List Reply) (answers : List Advanced) (p : PenCommand) → IsMachine (course_of code budget run replies answers) run
    → run.phase ≡ phase.OwesPen p → IsMachine (course_of code budget (record run { phase = phase.Ready }) replies answers) (record run { phase = phase.Ready })
pen_replied code budget run replies answers p h at =
    let come = subst (λ x. IsPhaseOf (course_of code budget run replies answers) x run.stage) at h.1 in
    (h.0, record { entry = come.entry; is = come.is; comes = come.comes; stage = come.stage })

pub machine_lawful : (code : ValidCode) (budget : ℕ) (run : ActiveRun) (replies : List Reply) (answers : List Advanced) → IsMachine (course_of code budget run replies answers) run → IsLawful (course_of code budget run replies answers)
machine_lawful code budget run replies answers h = lawful (course_of code budget run replies answers) run.phase run.stage refl h.0 h.1
