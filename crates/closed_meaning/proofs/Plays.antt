-- A run together with its Robot: there is exactly one, and on less steps it begins that on more.
use Rattle.std.proofs.Common.{◌≡◌, ◌≢◌, ◌⊎◌, inl, inr, ℕ, zero, suc, ◌+◌, ◌≤◌, List, [], ◌∷◌, ◌++◌, length, refl, sym, ap, subst, ◌∙◌, arith, append-nil}
use Rattle.std.proofs.lemmas.List.{length-append, append_assoc}
use Rattle.performer_kit.specs.declared.commands.RobotCommand.{RobotCommand}
use Rattle.performer_kit.specs.declared.commands.Reply.{Reply}
use Rattle.kumir_values.specs.declared.value.Value.{Value}
use Rattle.kumir_meaning.specs.Program.{Program}
use Rattle.kumir_meaning.specs.Algorithms.{run}
use Rattle.kumir_meaning.specs.Runs as state
use Rattle.kumir_meaning.specs.Runs.{RunState, Awaiting, Trace, IsPrefix}
use Rattle.robot_field.specs.Board.{Board, board_after, robot, robot_end}
use Rattle.kumir_compiler.specs.Laws.{robot_commands_of, Begins}
use Rattle.closed_meaning.specs.Play.{IsPlay}
use Rattle.closed_meaning.specs.Laws.{OnePlay, PlayIsAnswered, PlayOnlyGrows, PlayGoesOn, KnownLaws}
use Rattle.closed_meaning.proofs.Prefixes.{itself, longer, whole, one_more}

awaits_or_not : (s : RunState) → (s ≡ Awaiting) ⊎ (s ≢ Awaiting)
awaits_or_not Awaiting = inl refl
awaits_or_not state.Going = inr (λ e. cc)
awaits_or_not state.Done = inr (λ e. cc)
awaits_or_not state.Quit = inr (λ e. cc)
awaits_or_not (state.Assert line) = inr (λ e. cc)
awaits_or_not (state.Fault line fault) = inr (λ e. cc)
awaits_or_not (state.Wall line) = inr (λ e. cc)

robot-length : (b : Board) (cs : List RobotCommand) → length (robot b cs) ≡ length cs
robot-length b [] = refl
robot-length b (c ∷ cs) = ap suc (robot-length (board_after b c) cs)

module _ (laws : KnownLaws) (p : Program) (inputs : List Value) (field : Board) where
  abbrev commands : ℕ → List Reply → List RobotCommand
  commands n r = robot_commands_of (run p inputs r n).acts

  -- the field's replies to what the program commands on these
  abbrev answers : ℕ → List Reply → List Reply
  answers n r = robot field (commands n r)

  answers-length : (n : ℕ) (r : List Reply) → length (answers n r) ≡ length (commands n r)
  answers-length n r = robot-length field (commands n r)

  answers_grow : (m n : ℕ) (r q : List Reply) → m ≤ n → IsPrefix r q → IsPrefix (answers m r) (answers n q)
  answers_grow m n r q le b =
      let more = (laws.grows p inputs r q m n le b).robot in
      (robot (robot_end field (commands m r)) more.0, ap (robot field) more.1 ∙ laws.goes_on.replies field (commands m r) more.0)

  -- ---- there is one

  settles : (n : ℕ) (r : List Reply) → IsPrefix r (answers n r) → (run p inputs r n).state ≢ Awaiting → r ≡ answers n r
  settles n r b other =
      let le = laws.answered p inputs r n other in
      let same = answers-length n r in
      whole r (answers n r) b (omega (arith, le, same))

  -- these replies go on to such as are the field's to all that the program commands on them
  abbrev EndsAt : ℕ → List Reply → Type 0
  EndsAt n r = (q : List Reply) × (q ≡ answers n q) × IsPrefix r q

  adds : (k n : ℕ) (r : List Reply) → n ≤ length r + k → IsPrefix r (answers n r) → EndsAt n r
  adds zero n r le b =
      let over : (run p inputs r n).state ≢ Awaiting = λ e. (let one = laws.awaits p inputs r n e in let few = laws.steps p inputs r n in omega (arith, one, few, le)) in
      (r, settles n r b over, itself r)
  adds (suc k) n r le b = adds_where (λ q le1 b1. adds k n q le1 b1) (awaits_or_not (run p inputs r n).state) where
    adds_where : ((q : List Reply) → n ≤ length q + k → IsPrefix q (answers n q) → EndsAt n q)
        → ((run p inputs r n).state ≡ Awaiting) ⊎ ((run p inputs r n).state ≢ Awaiting) → EndsAt n r
    adds_where more (inr other) = (r, settles n r b other, itself r)
    adds_where more (inl e) =
        let one = laws.awaits p inputs r n e in
        let same = answers-length n r in
        let end = more (answers n r) (omega (arith, le, one, same)) (answers_grow n n r (answers n r) (omega arith) b) in
        (end.0, end.1, longer r (answers n r) end.0 b end.2)

  ends : (n : ℕ) (r : List Reply) → IsPrefix r (answers n r) → EndsAt n r
  ends n r b = adds n n r (omega arith) b

  there_is_one : (n : ℕ) → (q : List Reply) × (q ≡ answers n q)
  there_is_one n = let end = ends n [] (answers n [], refl) in (end.0, end.1)

  -- ---- one on less steps begins one on more

  awaits_on : (m : ℕ) (c more : List Reply) → c ++ more ≡ answers m (c ++ more) → 1 ≤ length more → (run p inputs c m).state ≡ Awaiting
  awaits_on m c more e some = awaits_where (awaits_or_not (run p inputs c m).state) where
    awaits_where : ((run p inputs c m).state ≡ Awaiting) ⊎ ((run p inputs c m).state ≢ Awaiting) → (run p inputs c m).state ≡ Awaiting
    awaits_where (inl is) = is
    awaits_where (inr other) =
        let same : commands m (c ++ more) ≡ commands m c = ap (λ t. robot_commands_of t.acts) (laws.settled p inputs c more m other) in
        let few = laws.answered p inputs c m other in
        let n1 : length (c ++ more) ≡ length (commands m c) = ap length e ∙ answers-length m (c ++ more) ∙ ap length same in
        let n2 : length (c ++ more) ≡ length c + length more = length-append c more in
        absurd (omega (arith, few, n1, n2, some))

  begins_on : (m n : ℕ) (c more q : List Reply) → m ≤ n → c ++ more ≡ answers m (c ++ more) → q ≡ answers n q → IsPrefix c q → IsPrefix (c ++ more) q
  begins_on m n c [] q le e e1 b = subst (λ l. IsPrefix l q) (sym (append-nil c)) b
  begins_on m n c (x ∷ more) q le e e1 b =
      let is = awaits_on m c (x ∷ more) e (omega arith) in
      let next = answers m c in
      let long : length next ≡ length c + 1 = answers-length m c ∙ laws.awaits p inputs c m is in
      let within : IsPrefix next (c ++ x ∷ more) = subst (λ l. IsPrefix next l) (sym e) (answers_grow m m c (c ++ x ∷ more) (omega arith) (x ∷ more, refl)) in
      let is_next : next ≡ c ++ x ∷ [] = one_more c more next x within long in
      let in_q : IsPrefix next q = subst (λ l. IsPrefix next l) (sym e1) (answers_grow m n c q le b) in
      let parts : (c ++ x ∷ []) ++ more ≡ c ++ x ∷ more = append_assoc c (x ∷ []) more in
      let e2 : (c ++ x ∷ []) ++ more ≡ answers m ((c ++ x ∷ []) ++ more) = parts ∙ e ∙ ap (answers m) (sym parts) in
      subst (λ l. IsPrefix l q) parts (begins_on m n (c ++ x ∷ []) more q le e2 e1 (subst (λ l. IsPrefix l q) is_next in_q))

  replies_begin : (m n : ℕ) (r q : List Reply) → m ≤ n → r ≡ answers m r → q ≡ answers n q → IsPrefix r q
  replies_begin m n r q le e e1 = begins_on m n [] r q le e e1 (q, refl)

  -- ---- plays

  of_both : (n : ℕ) (play : Trace) (w : IsPlay p inputs field n play) → w.replies ≡ answers n w.replies
  of_both n play w = w.of_field ∙ ap (λ t. robot field (robot_commands_of t.acts)) w.of_program

  of_replies : (n : ℕ) → (q : List Reply) × (q ≡ answers n q) → (play : Trace) × IsPlay p inputs field n play
  of_replies n (q, e) = (run p inputs q n, record { replies = q; of_program = refl; of_field = e })

  same_play : (n : ℕ) (one other : Trace) → IsPlay p inputs field n one → IsPlay p inputs field n other → other ≡ one
  same_play n one other w v =
      let e = of_both n one w in
      let f = of_both n other v in
      let b = replies_begin n n w.replies v.replies (omega arith) e f in
      let d = replies_begin n n v.replies w.replies (omega arith) f e in
      let n1 : length v.replies ≡ length w.replies + length b.0 = ap length b.1 ∙ length-append w.replies b.0 in
      let n2 : length w.replies ≡ length v.replies + length d.0 = ap length d.1 ∙ length-append v.replies d.0 in
      let same : w.replies ≡ v.replies = whole w.replies v.replies b (omega (arith, n1, n2)) in
      v.of_program ∙ ap (λ r. run p inputs r n) (sym same) ∙ sym w.of_program

  goes_on : (n : ℕ) (r : List Reply) (play : Trace) → IsPrefix r (answers n r) → IsPlay p inputs field n play → Begins (run p inputs r n) play
  unfolding of_replies
  goes_on n r play b w =
      let end = ends n r b in
      let one = of_replies n (end.0, end.1) in
      subst (λ t. Begins (run p inputs r n) t) (sym (same_play n one.0 play one.1 w)) (laws.grows p inputs r end.0 n n (omega arith) end.2)

  is_answered : (n : ℕ) (play : Trace) → IsPlay p inputs field n play → play.state ≢ Awaiting
  is_answered n play w is =
      let e = of_both n play w in
      let z : (run p inputs w.replies n).state ≡ Awaiting = ap (λ t. t.state) (sym w.of_program) ∙ is in
      let one = laws.awaits p inputs w.replies n z in
      let n1 : length w.replies ≡ length (commands n w.replies) = ap length e ∙ answers-length n w.replies in
      absurd (omega (arith, one, n1))

pub one_play : KnownLaws → OnePlay
one_play laws p inputs field n =
    let there = of_replies laws p inputs field n (there_is_one laws p inputs field n) in
    (there.0, there.1, λ other v. same_play laws p inputs field n there.0 other there.1 v)

pub play_is_answered : KnownLaws → PlayIsAnswered
play_is_answered laws p inputs field n play w = is_answered laws p inputs field n play w

pub play_only_grows : KnownLaws → PlayOnlyGrows
play_only_grows laws p inputs field m n short long le w v =
    let b = replies_begin laws p inputs field m n w.replies v.replies le (of_both laws p inputs field m short w) (of_both laws p inputs field n long v) in
    subst (λ t. Begins t long) (sym w.of_program) (subst (λ t. Begins (run p inputs w.replies m) t) (sym v.of_program) (laws.grows p inputs w.replies v.replies m n le b))

pub play_goes_on : KnownLaws → PlayGoesOn
play_goes_on laws p inputs field n replies play b w = goes_on laws p inputs field n replies play b w
