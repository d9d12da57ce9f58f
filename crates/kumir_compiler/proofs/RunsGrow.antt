-- A run on less steps and less replies begins the run on more.
use Rattle.std.proofs.Common.{◌≡◌, ℕ, zero, suc, ◌≤◌, List, [], ◌∷◌, ◌++◌, Result, Ok, Err, refl, sym, ap, ◌∙◌, subst, arith, append-nil}
use Rattle.performer_kit.specs.declared.commands.Command.{Command}
use Rattle.performer_kit.specs.declared.commands.Command.TheVariants.{Robot, Pen}
use Rattle.performer_kit.specs.declared.commands.Reply.{Reply}
use Rattle.kumir_tree.specs.declared.kind.Kind.{Kind}
use Rattle.kumir_values.specs.declared.value.Value.{Value}
use Rattle.kumir_values.specs.declared.run_end.RunFault.{RunFault}
use Rattle.kumir_meaning.specs.Store.{Store}
use Rattle.kumir_meaning.specs.Runs.{Act, Printed, Sent, Trace, Rest, IsPrefix, usual, unless_fault, tick, does, asks, takes, input_as}
use Rattle.kumir_meaning.specs.Expressions.{Then, ThenValue}
use Rattle.kumir_meaning.specs.Algorithms.{run, run_within}
use Rattle.kumir_meaning.proofs.Counters.{counter_is_enough}
use Rattle.kumir_compiler.specs.Laws.{outputs_of, robot_commands_of, pen_commands_of, Begins, MeaningOnlyGrows}
use Rattle.kumir_compiler.proofs.EachRun.{IsKept, each_run}

abbrev OnlyGrows : Rest → Type 0
OnlyGrows a = (m n : ℕ) (inputs : List Value) (r q : List Reply) → m ≤ n → IsPrefix r q → IsPrefix (a m inputs r).acts (a n inputs q).acts

same : (acts : List Act) → IsPrefix acts acts
same acts = ([], sym (append-nil acts))

behind : (a : Act) (xs ys : List Act) → IsPrefix xs ys → IsPrefix (a ∷ xs) (a ∷ ys)
behind a xs ys b = (b.0, ap (λ l. a ∷ l) b.1)

tick_grows : (k : Then) (s : Store) → OnlyGrows (k s) → OnlyGrows (tick k s)
tick_grows k s h zero n inputs r q le b = ((tick k s n inputs q).acts, refl)
tick_grows k s h (suc m) zero inputs r q le b = absurd (omega arith)
tick_grows k s h (suc m) (suc n) inputs r q le b = h m n inputs r q (omega arith) b

asks_grows : (c : Command) (k : Reply → Then) (s : Store) → ((x : Reply) → OnlyGrows (k x s)) → OnlyGrows (asks c k s)
asks_grows c k s h m n inputs [] [] le b = same (Sent c ∷ [])
asks_grows c k s h m n inputs [] (y ∷ q) le b = ((k y s n inputs q).acts, refl)
asks_grows c k s h m n inputs (x ∷ r) [] le b = absurd (let z = b.1 in cc)
asks_grows c k s h m n inputs (x ∷ r) (y ∷ q) le b =
    let i : x ≡ y = let z = b.1 in cc in
    let w : q ≡ r ++ b.0 = let z = b.1 in cc in
    subst (λ z. IsPrefix (Sent c ∷ (k x s m inputs r).acts) (Sent c ∷ (k z s n inputs q).acts)) i
    (behind (Sent c) (k x s m inputs r).acts (k x s n inputs q).acts (h x m n inputs r q le (b.0, w)))

result_grows : (o : Result Value RunFault) (line : ℕ) (k : ThenValue) (s : Store) → ((v : Value) → OnlyGrows (k v s)) → OnlyGrows (unless_fault o line (λ w. k w s))
result_grows (Ok v) line k s h = h v
result_grows (Err fault) line k s h = λ m n inputs r q le b. same []

takes_grows : (kind : Kind) (line : ℕ) (k : ThenValue) (s : Store) → ((v : Value) → OnlyGrows (k v s)) → OnlyGrows (takes kind line k s)
takes_grows kind line k s h m n [] r q le b = same []
takes_grows kind line k s h m n (v ∷ inputs) r q le b = result_grows (input_as kind v) line k s h m n inputs r q le b

grows : IsKept OnlyGrows
grows = record {
  ends = λ end other m n inputs r q le b. same [];
  ticks = λ k h s. tick_grows k s (h s);
  prints = λ text k h s m n inputs r q le b. behind (Printed text) _ _ (h s m n inputs r q le b);
  draws = λ command k h s. tick_grows (λ s1. does (Sent (Pen command)) k s1) s (λ m n inputs r q le b. behind (Sent (Pen command)) _ _ (h s m n inputs r q le b));
  asks = λ command k h s. tick_grows (λ s1. asks (Robot command) k s1) s (asks_grows (Robot command) k s (λ x. h x s));
  takes = λ kind line k h s. takes_grows kind line k s (λ v. h v s);
}

-- ---- what a run shows

outputs_both : (xs ys : List Act) → outputs_of (xs ++ ys) ≡ outputs_of xs ++ outputs_of ys
outputs_both [] ys = refl
outputs_both (Printed text ∷ xs) ys = ap (λ l. text ∷ l) (outputs_both xs ys)
outputs_both (Sent command ∷ xs) ys = outputs_both xs ys

robot_both : (xs ys : List Act) → robot_commands_of (xs ++ ys) ≡ robot_commands_of xs ++ robot_commands_of ys
robot_both [] ys = refl
robot_both (Printed text ∷ xs) ys = robot_both xs ys
robot_both (Sent (Robot command) ∷ xs) ys = ap (λ l. command ∷ l) (robot_both xs ys)
robot_both (Sent (Pen command) ∷ xs) ys = robot_both xs ys

pen_both : (xs ys : List Act) → pen_commands_of (xs ++ ys) ≡ pen_commands_of xs ++ pen_commands_of ys
pen_both [] ys = refl
pen_both (Printed text ∷ xs) ys = pen_both xs ys
pen_both (Sent (Robot command) ∷ xs) ys = pen_both xs ys
pen_both (Sent (Pen command) ∷ xs) ys = ap (λ l. command ∷ l) (pen_both xs ys)

begins : (t u : Trace) → IsPrefix t.acts u.acts → Begins t u
begins t u b = record {
  acts = b;
  outputs = (outputs_of b.0, ap outputs_of b.1 ∙ outputs_both t.acts b.0);
  robot = (robot_commands_of b.0, ap robot_commands_of b.1 ∙ robot_both t.acts b.0);
  pen = (pen_commands_of b.0, ap pen_commands_of b.1 ∙ pen_both t.acts b.0);
}

pub runs_grow : MeaningOnlyGrows
unfolding run run_within
runs_grow p inputs r q m n le b =
    begins (run p inputs r m) (run p inputs q n)
    (subst (λ t. IsPrefix t.acts (run p inputs q n).acts) (counter_is_enough usual p inputs r n m le) (each_run OnlyGrows grows p.algorithms p usual n m n inputs r q le b))
