-- Where a call of a machine goes on, and what comes next.
use Rattle.std.proofs.Common.{◌≡◌, ℕ, ◌+◌, ◌-◌, ◌≤◌, ◌<◌, Bool, true, false, List, [], ◌∷◌, ◌++◌, Some, None, Result, Ok, Err, refl, sym, ap, ◌∙◌, subst, arith, append_assoc, append-nil}
use Rattle.std.specs.Prelude.{IfOk, IfErr, nat_le, if◌then◌else◌}
use Rattle.std.proofs.lemmas.Bool.Decides.{nat_tests}
use Rattle.km_base.specs.declared.Memory.{Memory}
use Rattle.performer_kit.specs.declared.commands.Command.TheVariants.{Robot, Pen}
use Rattle.performer_kit.specs.declared.commands.Reply.{Reply}
use Rattle.kumir_values.specs.declared.run_end.EndKind.TheVariants as end_kind
use Rattle.kumir_meaning.specs.Runs.{Act, Printed, Sent, RunState, Trace, end_of, usual}
use Rattle.kumir_meaning.specs.Runs as state
use Rattle.stack_code.specs.CodeRuns.{exec, start}
use Rattle.machine_steps.specs.declared.stage.Stage.{Stage}
use Rattle.machine_steps.specs.declared.stage.Question.{Question}
use Rattle.machine_steps.specs.declared.steps.Reached.{Reached}
use Rattle.machine_steps.specs.declared.steps.Reached.TheVariants as reached
use Rattle.machine_steps.specs.Progress.{FullState, at, StepsTo}
use Rattle.machine_steps.specs.Stages.{full_state_of, IsStage, NeedsStep}
use Rattle.machine_steps.specs.Reaching.{Reaches, StepsToSome, NeedsEach, IsStageAt, StepsIn}
use Rattle.machine_steps.specs.Replying.{Answers}
use Rattle.machine_steps.proofs.EventSteps.{steps_to_both}
use Rattle.machine_steps.proofs.NeededSteps.{needs_only}
use Rattle.kumir_machine.specs.declared.answer.Advanced.{Advanced}
use Rattle.kumir_machine.specs.declared.answer.Advanced.TheVariants as answer
use Rattle.kumir_machine.specs.Course.{Free, Course, acts_in, RunsTo, so_far, IsWhole, after, advanced, most_within, FollowsWithin, NeedsAll}
use Rattle.kumir_machine.specs.ActiveRuns.{phase_after, answer_after}
use Rattle.kumir_machine.specs.Phases.{condition_of, HasSteppedTo, HasReply, IsPhaseOf}
use Rattle.kumir_machine.proofs.CoursesAreRuns.{steps_left, nothing_left, acts_joined, begins_by, runs_by, asked_only, one_course, some_begun, run_from, runs_only, ends_only, goes_only, spent_only}

-- ---- where a call goes on

-- the run stepped to this state
pub record From (c : Course) (a : FullState) : Type 0 where
  pub entry : ℕ
  pub is : c.code.entry ≡ Some entry
  pub comes : StepsTo c.code.units (at (start entry) c.inputs) c.steps c.replies (acts_in c.answers) a

pub from_come : (c : Course) (s : Stage) → HasSteppedTo c c.replies (acts_in c.answers) s → From c (full_state_of c.code.units s)
from_come c s h = record { entry = h.entry; is = h.is; comes = h.comes }

no_more : (n : ℕ) → n + 0 ≡ n
no_more n = omega arith

pub from_reply : (c : Course) (q : Question) (r : Reply) (s : Stage) (a : FullState) → HasReply c q r s → Answers c.code.units (full_state_of c.code.units s) q r None a → From c a
from_reply c q r s a h on =
    let come = h.asking.come in
    let origin = at (start come.entry) c.inputs in
    record {
      entry = come.entry;
      is = come.is;
      comes =
          subst (λ k. StepsTo c.code.units origin k c.replies (acts_in c.answers) a) (no_more c.steps)
          (subst (λ l. StepsTo c.code.units origin (c.steps + 0) l (acts_in c.answers) a) (sym h.replies)
          (subst (λ l. StepsTo c.code.units origin (c.steps + 0) (h.given ++ r ∷ []) l a) (sym h.asking.acts)
          (steps_to_both c.code.units origin (full_state_of c.code.units s) a c.steps 0 h.given (r ∷ []) h.asking.before (Sent (Robot q.command) ∷ []) come.comes on)));
    }

onward : (c : Course) (a b : FullState) (n : ℕ) (x : List Act) (f : From c a) → c.steps ≤ n → StepsTo c.code.units a (n - c.steps) [] x b
    → StepsTo c.code.units (at (start f.entry) c.inputs) n c.replies (acts_in c.answers ++ x) b
onward c a b n x f le h =
    let origin = at (start f.entry) c.inputs in
    subst (λ k. StepsTo c.code.units origin k c.replies (acts_in c.answers ++ x) b) (steps_left c.steps n le)
    (subst (λ l. StepsTo c.code.units origin (c.steps + (n - c.steps)) l (acts_in c.answers ++ x) b) (append-nil c.replies)
    (steps_to_both c.code.units origin a b c.steps (n - c.steps) c.replies [] (acts_in c.answers) x f.comes h))

-- the same, for the course with the answer
reached_so : (c : Course) (a b : FullState) (n : ℕ) (r : Advanced) (x : List Act) (f : From c a) → acts_in (r ∷ []) ≡ x → c.steps ≤ n → StepsTo c.code.units a (n - c.steps) [] x b
    → StepsTo c.code.units (at (start f.entry) c.inputs) n c.replies (acts_in (c.answers ++ r ∷ [])) b
reached_so c a b n r x f e le h =
    subst (λ acts. StepsTo c.code.units (at (start f.entry) c.inputs) n c.replies acts b) (sym (acts_joined c.answers (r ∷ []) ∙ ap (λ l. acts_in c.answers ++ l) e)) (onward c a b n x f le h)

come_so : (c : Course) (a : FullState) (s : Stage) (n : ℕ) (r : Advanced) (x : List Act) (f : From c a) → acts_in (r ∷ []) ≡ x → c.steps ≤ n → StepsTo c.code.units a (n - c.steps) [] x (full_state_of c.code.units s)
    → IsStage c.code.units s → HasSteppedTo (advanced c r n) c.replies (acts_in (advanced c r n).answers) s
come_so c a s n r x f e le h stage = record { entry = f.entry; is = f.is; comes = reached_so c a (full_state_of c.code.units s) n r x f e le h; stage = stage }

-- what a call reached
pub record Came (c : Course) (a : FullState) (s : Stage) (n most : ℕ) (came : Result Reached Memory) : Type 0 where
  pub reaches : IfOk came (λ r. Reaches c.code.units a (n - c.steps) r (full_state_of c.code.units s))
  pub stage : IfOk came (λ r. IsStageAt c.code.units r s)
  pub taken : IfOk came (λ r. StepsIn c.steps n c.budget most r)
  pub refused : IfErr came (λ m. StepsToSome c.code.units a (n - c.steps))
  pub rise : c.steps ≤ n

pub holds_after : (c : Course) (a : FullState) (s : Stage) (n most : ℕ) (came : Result Reached Memory) → From c a → Came c a s n most came → IsPhaseOf (advanced c (answer_after came) n) (phase_after came) s
holds_after c a s n most (Ok (reached.Printed t)) f h = come_so c a s n (answer.Out t) (Printed t ∷ []) f refl h.rise h.reaches h.stage
holds_after c a s n most (Ok (reached.Told p)) f h = come_so c a s n (answer.Command (Pen p)) (Sent (Pen p) ∷ []) f refl h.rise h.reaches h.stage
holds_after c a s n most (Ok (reached.Asks q)) f h = record {
  before = acts_in c.answers;
  acts = acts_joined c.answers (answer.Command (Robot q.command) ∷ []);
  come = record {
    entry = f.entry;
    is = f.is;
    comes = subst (λ acts. StepsTo c.code.units (at (start f.entry) c.inputs) n c.replies acts (full_state_of c.code.units s)) (append-nil (acts_in c.answers)) (onward c a (full_state_of c.code.units s) n [] f h.rise h.reaches.0);
    stage = h.stage;
  };
  asks = h.reaches.1;
}
holds_after c a s n most (Ok (reached.Over e)) f h =
    let m = h.reaches.0 in
    let p = reached_so c a m n (answer.Ended e) [] f refl h.rise h.reaches.2 in
    (some_begun (advanced c (answer.Ended e) n) f.entry m f.is p, ends_only (advanced c (answer.Ended e) n) f.entry m h.reaches.1 e f.is p h.reaches.3 h.reaches.4)
holds_after c a s n most (Ok reached.Paused) f h = come_so c a s n answer.Paused [] f refl h.rise h.reaches.0 h.stage
holds_after c a s n most (Ok reached.Spent) f h =
    let m = full_state_of c.code.units s in
    let p = reached_so c a m n (answer.Ended end_kind.Steps) [] f refl h.rise h.reaches.0 in
    (some_begun (advanced c (answer.Ended end_kind.Steps) n) f.entry m f.is p, spent_only (advanced c (answer.Ended end_kind.Steps) n) f.entry m f.is p (h.taken.spent refl) h.reaches.1)
holds_after c a s n most (Err w) f h = some_begun (advanced c answer.Memory n) f.entry h.refused.0 f.is (reached_so c a h.refused.0 n answer.Memory [] f refl h.rise h.refused.1)

pub stands_after : (came : Result Reached Memory) → condition_of (phase_after came) ≡ after (answer_after came) Free
stands_after (Ok (reached.Printed t)) = refl
stands_after (Ok (reached.Told p)) = refl
stands_after (Ok (reached.Asks q)) = refl
stands_after (Ok (reached.Over e)) = refl
stands_after (Ok reached.Paused) = refl
stands_after (Ok reached.Spent) = refl
stands_after (Err w) = refl

pub no_await : (came : Result Reached Memory) → answer_after came ≡ answer.AwaitReply → ⊥
no_await (Ok (reached.Printed t)) e = let wrong : ⊥ = cc in wrong
no_await (Ok (reached.Told p)) e = let wrong : ⊥ = cc in wrong
no_await (Ok (reached.Asks q)) e = let wrong : ⊥ = cc in wrong
no_await (Ok (reached.Over e1)) e = let wrong : ⊥ = cc in wrong
no_await (Ok reached.Paused) e = let wrong : ⊥ = cc in wrong
no_await (Ok reached.Spent) e = let wrong : ⊥ = cc in wrong
no_await (Err w) e = let wrong : ⊥ = cc in wrong

-- ---- each step is needed

left_below : (n m k : ℕ) → k ≤ n → n < m → n - k < m - k
left_below n m k le lt = omega (arith, le, lt)

pub needs_all : (c : Course) (a : FullState) (m : ℕ) → From c a → NeedsEach c.code.units a (m - c.steps) → NeedsAll c m
needs_all c a m f h n le lt =
    let x = h (n - c.steps) (left_below n m c.steps le lt) in
    runs_only c f.entry n x.0 a state.Going f.is f.comes le x.1

-- ---- what comes next

below_both : (b : Bool) (x y n : ℕ) → n ≤ x → n ≤ y → n ≤ (if b then x else y)
below_both true x y n p q = p
below_both false x y n p q = q

pub within_most : (c : Course) (n most : ℕ) → n ≤ c.steps + most → n ≤ c.budget → n ≤ most_within c most
within_most c n most few within = below_both (nat_le (c.steps + most) c.budget) (c.steps + most) c.budget n few within

least : (b : Bool) (x y : ℕ) → nat_le x y ≡ b → ((if b then x else y) ≤ x) × ((if b then x else y) ≤ y)
least true x y e = (let le : x ≤ x = omega arith in le, grind (arith, nat_tests, e))
least false x y e = (grind (arith, nat_tests, e), let le : y ≤ y = omega arith in le)

pub most_few : (c : Course) (most : ℕ) → (most_within c most ≤ c.steps + most) × (most_within c most ≤ c.budget)
most_few c most = least (nat_le (c.steps + most) c.budget) (c.steps + most) c.budget refl

first_act : (acts more : List Act) (a : Act) (t : Trace) → t.acts ≡ (acts ++ a ∷ []) ++ more → t.acts ≡ acts ++ a ∷ more
first_act acts more a t e = e ∙ append_assoc acts (a ∷ []) more

act_next : (c : Course) (a b : FullState) (n k : ℕ) (x : Act) (f : From c a) → c.steps ≤ n → n ≤ k → StepsTo c.code.units a (n - c.steps) [] (x ∷ []) b → (t : Trace) → RunsTo c k t → (more : List Act) × (t.acts ≡ acts_in c.answers ++ x ∷ more)
act_next c a b n k x f rise le h t r =
    let begun = begins_by c.code.units f.entry n k c.inputs c.replies (acts_in c.answers ++ x ∷ []) b (onward c a b n (x ∷ []) f rise h) le t (run_from c f.entry k t f.is r) in
    (begun.0, first_act (acts_in c.answers) begun.0 x t begun.1)

-- the run without the answer, from a later state on
quiet_run : (c : Course) (a b : FullState) (n k j : ℕ) (x : List Act) (e : RunState) (f : From c a) → c.steps ≤ n → n ≤ k → StepsTo c.code.units a (n - c.steps) [] [] b
    → exec usual c.code.units j b.state (k - n) b.inputs [] ≡ Some (record { acts = x; state = e }) → RunsTo c k (record { acts = acts_in c.answers ++ x; state = e })
quiet_run c a b n k j x e f rise le h ends = record {
  entry = f.entry;
  is = f.is;
  run =
      runs_by c.code.units f.entry n k j c.inputs c.replies (acts_in c.answers) x b e
      (subst (λ acts. StepsTo c.code.units (at (start f.entry) c.inputs) n c.replies acts b) (append-nil (acts_in c.answers)) (onward c a b n [] f rise h)) le ends;
}

same_acts : (c : Course) (k : ℕ) (e : RunState) (t : Trace) → RunsTo c k (record { acts = acts_in c.answers ++ []; state = e }) → RunsTo c k t → t ≡ so_far c e
same_acts c k e t q r = one_course c k t _ r q ∙ ap (λ acts. record { acts = acts; state = e }) (append-nil (acts_in c.answers))

going_next : (c : Course) (a b : FullState) (n k : ℕ) (f : From c a) → c.steps ≤ n → k ≡ n → StepsTo c.code.units a (n - c.steps) [] [] b → NeedsStep c.code.units b → (t : Trace) → RunsTo c k t → t ≡ so_far c state.Going
going_next c a b n k f rise e h needs t r =
    let le : n ≤ k = omega (arith, e) in
    same_acts c k state.Going t (quiet_run c a b n k 1 [] state.Going f rise le h (ap (λ l. exec usual c.code.units 1 b.state l b.inputs []) (nothing_left n k e) ∙ needs_only c.code.units b needs)) r

paused_there : (c : Course) (n most : ℕ) → n ≡ c.steps + most → n < c.budget → most_within c most ≡ n
paused_there c n most e lt =
    let few = (most_few c most).0 in
    let there = within_most c n most (let le : n ≤ c.steps + most = omega (arith, e) in le) (let le : n ≤ c.budget = omega (arith, lt) in le) in
    omega (arith, e, few, there)

spent_there : (c : Course) (n most : ℕ) → n ≡ c.budget → n ≤ c.steps + most → most_within c most ≡ n
spent_there c n most e few =
    let all = (most_few c most).1 in
    let there = within_most c n most few (let le : n ≤ c.budget = omega (arith, e) in le) in
    omega (arith, e, all, there)

pub follows_within : (c : Course) (a : FullState) (s : Stage) (n most : ℕ) (came : Result Reached Memory) → From c a → Came c a s n most came
    → (t : Trace) → RunsTo c (most_within c most) t → FollowsWithin c (most_within c most) t (answer_after came)
follows_within c a s n most (Ok (reached.Printed text)) f h t r = act_next c a (full_state_of c.code.units s) n (most_within c most) (Printed text) f h.rise (within_most c n most h.taken.few h.taken.within) h.reaches t r
follows_within c a s n most (Ok (reached.Told p)) f h t r = act_next c a (full_state_of c.code.units s) n (most_within c most) (Sent (Pen p)) f h.rise (within_most c n most h.taken.few h.taken.within) h.reaches t r
follows_within c a s n most (Ok (reached.Asks q)) f h t r =
    let b = full_state_of c.code.units s in
    let k = most_within c most in
    let run = quiet_run c a b n k 1 (Sent (Robot q.command) ∷ []) state.Awaiting f h.rise (within_most c n most h.taken.few h.taken.within) h.reaches.0 (asked_only c.code.units q b (k - n) h.reaches.1) in
    ([], ap (λ x. x.acts) (one_course c k t _ r run))
follows_within c a s n most (Ok (reached.Over e)) f h t r =
    let m = h.reaches.0 in
    let k = most_within c most in
    let ends = h.reaches.4.1 (k - n) [] in
    let same = same_acts c k h.reaches.1 t (quiet_run c a m n k ends.0 [] h.reaches.1 f h.rise (within_most c n most h.taken.few h.taken.within) h.reaches.2 ends.1) r in
    (ap (λ x. x.acts) same, ap (λ x. end_of x.state) same ∙ h.reaches.3, λ going. absurd (h.reaches.4.0 (sym (ap (λ x. x.state) same) ∙ going)))
follows_within c a s n most (Ok reached.Paused) f h t r =
    let at_most = h.taken.paused refl in
    let there = paused_there c n most at_most.0 at_most.1 in
    let lt = at_most.1 in
    (going_next c a (full_state_of c.code.units s) n (most_within c most) f h.rise there h.reaches.0 h.reaches.1 t r, let below : most_within c most < c.budget = omega (arith, there, lt) in below)
follows_within c a s n most (Ok reached.Spent) f h t r =
    let there = spent_there c n most (h.taken.spent refl) h.taken.few in
    let same = going_next c a (full_state_of c.code.units s) n (most_within c most) f h.rise there h.reaches.0 h.reaches.1 t r in
    (ap (λ x. x.acts) same, ap (λ x. end_of x.state) same, λ going. there ∙ h.taken.spent refl)
follows_within c a s n most (Err w) f h t r = tt

pub paused_whole : (c : Course) (a : FullState) (s : Stage) (n most : ℕ) (came : Result Reached Memory) → From c a → Came c a s n most came → answer_after came ≡ answer.Paused
    → (n ≡ c.steps + most) × IsWhole state.Going (advanced c (answer_after came) n)
paused_whole c a s n most (Ok (reached.Printed t)) f h e = absurd (let wrong : ⊥ = cc in wrong)
paused_whole c a s n most (Ok (reached.Told p)) f h e = absurd (let wrong : ⊥ = cc in wrong)
paused_whole c a s n most (Ok (reached.Asks q)) f h e = absurd (let wrong : ⊥ = cc in wrong)
paused_whole c a s n most (Ok (reached.Over e1)) f h e = absurd (let wrong : ⊥ = cc in wrong)
paused_whole c a s n most (Ok reached.Paused) f h e =
    ((h.taken.paused refl).0, goes_only (advanced c answer.Paused n) f.entry n (full_state_of c.code.units s) f.is (reached_so c a (full_state_of c.code.units s) n answer.Paused [] f refl h.rise h.reaches.0) refl h.reaches.1)
paused_whole c a s n most (Ok reached.Spent) f h e = absurd (let wrong : ⊥ = cc in wrong)
paused_whole c a s n most (Err w) f h e = absurd (let wrong : ⊥ = cc in wrong)
