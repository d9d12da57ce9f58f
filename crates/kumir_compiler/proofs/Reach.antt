-- Backward over one instruction: what a moment reaches, from what the next one reaches.
use Rattle.std.proofs.Common.{◌≡◌, ℕ, zero, suc, ◌≤◌, Bool, true, false, cond, List, [], ◌∷◌, Some, Result, Ok, Err, refl, sym, ap, ◌∙◌, subst, arith}
use Rattle.std.specs.Prelude.{slice_get}
use Rattle.kumir_tree.specs.declared.kind.Kind.{Kind}
use Rattle.performer_kit.specs.declared.commands.Command.{Command}
use Rattle.performer_kit.specs.declared.commands.Reply.{Reply}
use Rattle.kumir_values.specs.declared.value.Value.{Value}
use Rattle.kumir_values.specs.declared.run_end.RunFault.{RunFault}
use Rattle.kumir_meaning.specs.Store.{Store}
use Rattle.kumir_meaning.specs.Runs.{Act, Sent, RunState, Going, Fault, Rest, stops, unless_fault, tick, does, asks, takes, choose, input_as, Allowed}
use Rattle.stack_code.specs.declared.instruction.CodeLine.{CodeLine}
use Rattle.stack_code.specs.declared.unit.CodeUnit.{CodeUnit}
use Rattle.stack_code.specs.CodeState.{State, Frame, Slots, next}
use Rattle.stack_code.specs.Instructions.{After, On, Over, Go, Tick, Does, Asks, Takes, Halt, pushes_result, if_fine, unit_at, event_of, event_at, step}
use Rattle.stack_code.specs.CodeRuns.{meet, after_some, after_reply, after_input, exec}

abbrev pub here : ℕ → List Frame → ℕ → List Value → Slots → ℕ → State
here unit frames pc stack slots used = record { unit = unit; pc = pc; stack = stack; slots = slots; used = used; frames = frames }

-- whichever steps up to N, inputs and replies are left, the run from this moment is this rest
pub record Reaches (al : Allowed) (cs : List CodeUnit) (N : ℕ) (s : State) (a : Rest) : Type 0 where
  pub by : (n : ℕ) → n ≤ N → (ins : List Value) (reps : List Reply) → (j : ℕ) × (exec al cs j s n ins reps ≡ Some (a n ins reps))

-- the same behind a reply
pub record Follows (al : Allowed) (cs : List CodeUnit) (N : ℕ) (after : After) (a : Rest) : Type 0 where
  pub by : (n : ℕ) → n ≤ N → (ins : List Value) (reps : List Reply) → (j : ℕ) × (after_reply after (exec al cs j) n ins reps ≡ Some (a n ins reps))

module _ (al : Allowed) (cs : List CodeUnit) where
  pub fewer : (N M : ℕ) (s : State) (a : Rest) → N ≤ M → Reaches al cs M s a → Reaches al cs N s a
  fewer N M s a le r = record { by = λ n h ins reps. r.by n (omega arith) ins reps }

  pub on_go : (N : ℕ) (s s1 : State) (a : Rest) → step al cs s ≡ Go s1 → Reaches al cs N s1 a → Reaches al cs N s a
  on_go N s s1 a e r = record { by = λ n h ins reps. let x = r.by n h ins reps in (suc x.0, ap (λ v. meet v (exec al cs x.0) n ins reps) e ∙ x.1) }

  pub on_halt : (N : ℕ) (s : State) (end : RunState) → step al cs s ≡ Halt end → Reaches al cs N s (stops end)
  on_halt N s end e = record { by = λ n h ins reps. (1, ap (λ v. meet v (exec al cs 0) n ins reps) e) }

  pub on_does : (N : ℕ) (s s1 : State) (act : Act) (k : Store → Rest) (g : Store) → step al cs s ≡ Does act s1 → Reaches al cs N s1 (k g) → Reaches al cs N s (does act k g)
  on_does N s s1 act k g e r = record { by = λ n h ins reps. let x = r.by n h ins reps in (suc x.0, ap (λ v. meet v (exec al cs x.0) n ins reps) e ∙ ap (after_some act) x.1) }

  pub on_tick : (N : ℕ) (s s1 : State) (k : Store → Rest) (g : Store) → step al cs s ≡ Tick s1 → Reaches al cs N s1 (k g) → Reaches al cs (suc N) s (tick k g)
  on_tick N s s1 k g e r = record { by = go }
    where
      go : (n : ℕ) → n ≤ suc N → (ins : List Value) (reps : List Reply) → (j : ℕ) × (exec al cs j s n ins reps ≡ Some (tick k g n ins reps))
      go zero h ins reps = (1, ap (λ v. meet v (exec al cs 0) zero ins reps) e)
      go (suc n) h ins reps = let x = r.by n (omega arith) ins reps in (suc x.0, ap (λ v. meet v (exec al cs x.0) (suc n) ins reps) e ∙ x.1)

  -- with no step left it does not matter what would follow
  pub on_last : (s s1 : State) (k : Store → Rest) (g : Store) → step al cs s ≡ Tick s1 → Reaches al cs 0 s (tick k g)
  on_last s s1 k g e = record { by = go }
    where
      go : (n : ℕ) → n ≤ 0 → (ins : List Value) (reps : List Reply) → (j : ℕ) × (exec al cs j s n ins reps ≡ Some (tick k g n ins reps))
      go zero h ins reps = (1, ap (λ v. meet v (exec al cs 0) zero ins reps) e)
      go (suc n) h ins reps = absurd (omega arith)

  pub on_none : (s s1 : State) → step al cs s ≡ Tick s1 → Reaches al cs 0 s (stops Going)
  on_none s s1 e = record { by = go }
    where
      go : (n : ℕ) → n ≤ 0 → (ins : List Value) (reps : List Reply) → (j : ℕ) × (exec al cs j s n ins reps ≡ Some (stops Going n ins reps))
      go zero h ins reps = (1, ap (λ v. meet v (exec al cs 0) zero ins reps) e)
      go (suc n) h ins reps = absurd (omega arith)

  -- a step that is not a loop's
  pub on_step : (N : ℕ) (s s1 : State) (k : Store → Rest) (g : Store) → step al cs s ≡ Tick s1 → Reaches al cs N s1 (k g) → Reaches al cs N s (tick k g)
  on_step zero s s1 k g e r = on_last s s1 k g e
  on_step (suc N) s s1 k g e r = on_tick N s s1 k g e (fewer N (suc N) s1 (k g) (omega arith) r)

  pub after_on : (N : ℕ) (s : State) (a : Rest) → Reaches al cs N s a → Follows al cs N (On s) a
  after_on N s a r = record { by = r.by }

  pub after_over : (N : ℕ) (end : RunState) → Follows al cs N (Over end) (stops end)
  after_over N end = record { by = λ n h ins reps. (0, refl) }

  pub on_asks : (N : ℕ) (s : State) (c : Command) (after : Reply → After) (k : Reply → Store → Rest) (g : Store) → step al cs s ≡ Asks c after → ((r : Reply) → Follows al cs N (after r) (k r g)) → Reaches al cs N s (asks c k g)
  on_asks N s c after k g e f = record { by = go }
    where
      go : (n : ℕ) → n ≤ N → (ins : List Value) (reps : List Reply) → (j : ℕ) × (exec al cs j s n ins reps ≡ Some (asks c k g n ins reps))
      go n h ins [] = (1, ap (λ v. meet v (exec al cs 0) n ins []) e)
      go n h ins (r ∷ reps) = let x = (f r).by n h ins reps in (suc x.0, ap (λ v. meet v (exec al cs x.0) n ins (r ∷ reps)) e ∙ ap (after_some (Sent c)) x.1)

  pub on_takes : (N : ℕ) (s : State) (kind : Kind) (line : ℕ) (to : Value → State) (k : Value → Store → Rest) (g : Store) → step al cs s ≡ Takes kind line to → ((v : Value) → Reaches al cs N (to v) (k v g)) → Reaches al cs N s (takes kind line k g)
  on_takes N s kind line to k g e f = record { by = go }
    where
      taken : (x : Result Value RunFault) (n : ℕ) → n ≤ N → (ins : List Value) (reps : List Reply) → (j : ℕ) × (after_input x line to (exec al cs j) n ins reps ≡ Some (unless_fault x line (λ w. k w g) n ins reps))
      taken (Ok v) n h ins reps = (f v).by n h ins reps
      taken (Err fault) n h ins reps = (0, refl)

      go : (n : ℕ) → n ≤ N → (ins : List Value) (reps : List Reply) → (j : ℕ) × (exec al cs j s n ins reps ≡ Some (takes kind line k g n ins reps))
      go n h [] reps = (1, ap (λ v. meet v (exec al cs 0) n [] reps) e)
      go n h (v ∷ ins) reps = let x = taken (input_as kind v) n h ins reps in (suc x.0, ap (λ w. meet w (exec al cs x.0) n (v ∷ ins) reps) e ∙ x.1)

  pub on_fine : {T : Type 0} (g : Result T RunFault) (N line : ℕ) (to : T → State) (s : State) (k : T → Rest) → step al cs s ≡ if_fine g line to → ((x : T) → g ≡ Ok x → Reaches al cs N (to x) (k x)) → Reaches al cs N s (unless_fault g line k)
  on_fine (Ok x) N line to s k e f = on_go N s (to x) (k x) e (f x refl)
  on_fine (Err fault) N line to s k e f = on_halt N s (Fault line fault) e

  pub on_gives : (g : Result Value RunFault) (N line : ℕ) (m : State) (stack : List Value) (s : State) (k : Value → Rest) → step al cs s ≡ pushes_result g line m stack → ((v : Value) → Reaches al cs N (next m (v ∷ stack)) (k v)) → Reaches al cs N s (unless_fault g line k)
  on_gives (Ok v) N line m stack s k e f = on_go N s (next m (v ∷ stack)) (k v) e (f v)
  on_gives (Err fault) N line m stack s k e f = on_halt N s (Fault line fault) e

  pub line_at : (u : ℕ) (fr : List Frame) (pc : ℕ) (stack : List Value) (slots : Slots) (used : ℕ) (l : CodeLine) → slice_get (unit_at cs u).body pc ≡ Some l → step al cs (here u fr pc stack slots used) ≡ event_of al cs l.what l.line (here u fr pc stack slots used)
  line_at u fr pc stack slots used l h = ap (λ o. event_at al cs o (here u fr pc stack slots used)) h

  -- the place under another name
  pub moved : (u : ℕ) (fr : List Frame) (N pc q : ℕ) (stack : List Value) (slots : Slots) (used : ℕ) (a : Rest) → pc ≡ q → Reaches al cs N (here u fr q stack slots used) a → Reaches al cs N (here u fr pc stack slots used) a
  moved u fr N pc q stack slots used a e r = subst (λ p. Reaches al cs N (here u fr p stack slots used) a) (sym e) r

  -- one of two ways
  pub on_branch : (b : Bool) (u : ℕ) (fr : List Frame) (N p q : ℕ) (stack : List Value) (slots : Slots) (used : ℕ) (x y : Store → Rest) (g : Store) → Reaches al cs N (here u fr p stack slots used) (x g) → Reaches al cs N (here u fr q stack slots used) (y g) → Reaches al cs N (here u fr (cond b p q) stack slots used) (choose b x y g)
  on_branch true u fr N p q stack slots used x y g r1 r2 = r1
  on_branch false u fr N p q stack slots used x y g r1 r2 = r2
