-- Where an instruction leads that enters and leaves no algorithm.
use Rattle.std.proofs.Common.{◌≡◌, ℕ, zero, suc, ◌+◌, ◌-◌, ◌*◌, Bool, true, false, List, ◌∷◌, drop, Option, Some, None, Result, Ok, Err, refl, subst, inl, inr}
use Rattle.std.specs.Prelude.{ℤ, pos, ◌+ℤ◌, ◌⊎◌, nat_le, if◌then◌else◌}
use Rattle.std.specs.Ordering.{int_eq}
use Rattle.kumir_tree.specs.declared.kind.Kind.{Kind}
use Rattle.kumir_tree.specs.declared.kind.Op.{Op}
use Rattle.kumir_tree.specs.declared.kind.Op.TheVariants as op
use Rattle.performer_kit.specs.declared.commands.Command.{Command}
use Rattle.performer_kit.specs.declared.commands.Command.TheVariants as told
use Rattle.performer_kit.specs.declared.commands.Reply.{Reply}
use Rattle.kumir_values.specs.declared.value.Value.{Value}
use Rattle.kumir_values.specs.declared.bounds.Bound.{Bound}
use Rattle.kumir_values.specs.declared.run_end.RunFault.{RunFault}
use Rattle.kumir_values.specs.Bounds.{all_ordered, elements}
use Rattle.kumir_meaning.specs.Operators.{number_of, is_yes, combined}
use Rattle.kumir_meaning.specs.Store.{elements_in}
use Rattle.kumir_meaning.specs.Runs.{Act, RunState, usual, reply_value, is_wall}
use Rattle.kumir_meaning.specs.Runs as state
use Rattle.kumir_meaning.specs.Loops.{past}
use Rattle.stack_code.specs.declared.instruction.CommandShape.TheVariants.{Robot, Pen}
use Rattle.stack_code.specs.declared.instruction.Instruction.{Instruction}
use Rattle.stack_code.specs.declared.instruction.Instruction.TheVariants.{Push, Drop, Load, Store, Clear, Elem, PutElem, Probe, Make, Fit, Add, Sub, Mul, Pow, Neg, Div, Mod, Abs, Min, Max, Eq, Ne, Lt, Le, Gt, Ge, EqTruth, NeTruth, Not, Jump, JumpNo, Step, Times, Turns, Next, Out, OutText, OutLine, Input, Assert, Quit, Ask, Call, Return}
use Rattle.stack_code.specs.declared.unit.CodeUnit.{CodeUnit}
use Rattle.stack_code.specs.CodeState.{Slot, Plain, Left, Numbers, State, top, rest, numbers, paired, cell_in, with_slot, goes_to, next}
use Rattle.performer_kit.specs.Commands.{is_test}
use Rattle.stack_code.specs.Instructions.{After, On, Over, Event, Go, Tick, Does, Asks, Takes, Halt, pushes_result, operates, if_fine, makes_table, set_variable, next_turn, begins_turns, event_of}
use Rattle.stack_code.specs.Operands.{target_of}

-- it neither enters nor leaves an algorithm
abbrev pub is_alone : Instruction → Bool
is_alone (Call u places) = false
is_alone Return = false
is_alone i = true

-- the next place or the target, in the same unit, with the same calls that wait
pub record Stays (s : State) (t : Option ℕ) (m : State) : Type 0 where
  pub place : (m.pc ≡ s.pc + 1) ⊎ (t ≡ Some m.pc)
  pub unit : m.unit ≡ s.unit
  pub frames : m.frames ≡ s.frames

-- each state to which an event leads
unfoldable pub Moves : State → Option ℕ → Event → Type 0
Moves s t (Go m) = Stays s t m
Moves s t (Tick m) = Stays s None m
Moves s t (Does a m) = Stays s t m
Moves s t (Asks c after) = (r : Reply) (m : State) → after r ≡ On m → Stays s None m
Moves s t (Takes kind line k) = (v : Value) → Stays s None (k v)
Moves s t (Halt end) = Unit {0}

of_tick : (s m : State) (t : Option ℕ) → m.pc ≡ s.pc + 1 → m.unit ≡ s.unit → m.frames ≡ s.frames → Moves s t (Tick m)
unfolding Moves
of_tick s m t e u f = record { place = inl e; unit = u; frames = f }

of_takes : (kind : Kind) (line : ℕ) (s : State) (k : Value → State) → ((v : Value) → (k v).pc ≡ s.pc + 1) → ((v : Value) → (k v).unit ≡ s.unit) → ((v : Value) → (k v).frames ≡ s.frames) → Moves s None (Takes kind line k)
unfolding Moves
of_takes kind line s k e u f = λ v. record { place = inl (e v); unit = u v; frames = f v }

of_asks : (c : Command) (s : State) (after : Reply → After) → ((r : Reply) (m : State) → after r ≡ On m → Stays s None m) → Moves s None (Asks c after)
unfolding Moves
of_asks c s after h = h

on_same : (x m : State) → On x ≡ On m → x ≡ m
on_same x m e = cc

next_stays : (s x : State) → x.pc ≡ s.pc + 1 → x.unit ≡ s.unit → x.frames ≡ s.frames → (m : State) → On x ≡ On m → Stays s None m
next_stays s x e u f m h = subst (Stays s None) (on_same x m h) (record { place = inl e; unit = u; frames = f })

of_after : (b w : Bool) (s : State) (xs ys : List Value) (end : RunState) (m : State) → (if b then On (next s xs) else if w then Over end else On (next s ys)) ≡ On m → Stays s None m
of_after true w s xs ys end m h = next_stays s (next s xs) refl refl refl m h
of_after false true s xs ys end m h = absurd (let wrong : ⊥ = cc in wrong)
of_after false false s xs ys end m h = next_stays s (next s ys) refl refl refl m h

of_go : (s m : State) (t : Option ℕ) → m.pc ≡ s.pc + 1 → m.unit ≡ s.unit → m.frames ≡ s.frames → Moves s t (Go m)
unfolding Moves
of_go s m t e u f = record { place = inl e; unit = u; frames = f }

of_jump : (s m : State) (t : Option ℕ) → t ≡ Some m.pc → m.unit ≡ s.unit → m.frames ≡ s.frames → Moves s t (Go m)
unfolding Moves
of_jump s m t e u f = record { place = inr e; unit = u; frames = f }

of_does : (a : Act) (s m : State) (t : Option ℕ) → m.pc ≡ s.pc + 1 → m.unit ≡ s.unit → m.frames ≡ s.frames → Moves s t (Does a m)
unfolding Moves
of_does a s m t e u f = record { place = inl e; unit = u; frames = f }

of_halt : (e : RunState) (s : State) (t : Option ℕ) → Moves s t (Halt e)
unfolding Moves
of_halt e s t = tt

of_gives : (got : Result Value RunFault) (line : ℕ) (s : State) (stack : List Value) → Moves s None (pushes_result got line s stack)
of_gives (Ok v) line s stack = of_go s _ None refl refl refl
of_gives (Err f) line s stack = of_halt _ s None

of_operator : (o : Op) (line : ℕ) (s : State) → Moves s None (operates o line s)
of_operator o line s = of_gives (combined o (top (rest s.stack)) (top s.stack)) line s (rest (rest s.stack))

of_fine : {T : Type 0} (found : Result T RunFault) (line : ℕ) (s : State) (k : T → State) → ((x : T) → (k x).pc ≡ s.pc + 1) → ((x : T) → (k x).unit ≡ s.unit) → ((x : T) → (k x).frames ≡ s.frames) → Moves s None (if_fine found line k)
of_fine (Ok x) line s k h u f = of_go s (k x) None (h x) (u x) (f x)
of_fine (Err e) line s k h u f = of_halt _ s None

of_choice : (b : Bool) (s : State) (t : Option ℕ) (v w : Event) → Moves s t v → Moves s t w → Moves s t (if b then v else w)
of_choice true s t v w p q = p
of_choice false s t v w p q = q

of_makes : (room x : ℕ) (kind : Kind) (bounds : List Bound) (line : ℕ) (s : State) (stack : List Value) → Moves s None (makes_table room x kind bounds line s stack)
of_makes room x kind bounds line s stack =
    of_choice (all_ordered bounds) s None _ _ (of_choice (nat_le (s.used - elements_in (cell_in (s.slots x)) + elements bounds) room) s None _ _ (of_go s _ None refl refl refl) (of_halt _ s None)) (of_halt _ s None)

of_turns : (x : ℕ) (first last step : ℤ) (line : ℕ) (s : State) → Moves s None (begins_turns x first last step line s)
of_turns x first last step line s = of_choice (int_eq step (pos 0)) s None _ _ (of_halt _ s None) (of_go s _ None refl refl refl)

of_number : (b : Bool) (a : ℕ) (s m : State) → m.pc ≡ s.pc + 1 → m.unit ≡ s.unit → m.frames ≡ s.frames → Moves s (Some a) (Go (if b then goes_to s a s.stack else m))
of_number true a s m e u f = of_jump s _ (Some a) refl refl refl
of_number false a s m e u f = of_go s m (Some a) e u f

of_next : (k : Slot) (x : ℕ) (v : Option ℕ) (a : ℕ) (s : State) → Moves s (Some a) (Go (next_turn k x v a s))
of_next (Plain c) x v a s = of_jump s _ (Some a) refl refl refl
of_next (Left zero) x v a s = of_jump s _ (Some a) refl refl refl
of_next (Left (suc n)) x v a s = of_go s _ (Some a) refl refl refl
of_next (Numbers z last step) x v a s =
    of_number (past z last step) a s (record s { pc = s.pc + 1; slots = set_variable v z (with_slot s.slots x (Numbers (z +ℤ step) last step)) }) refl refl refl

of_answer : (b : Bool) (s : State) (a : ℕ) (stack : List Value) → Moves s (Some a) (Go (goes_to s (if b then s.pc + 1 else a) stack))
of_answer true s a stack = of_go s _ (Some a) refl refl refl
of_answer false s a stack = of_jump s _ (Some a) refl refl refl

pub moves : (units : List CodeUnit) (i : Instruction) (line : ℕ) (s : State) → is_alone i ≡ true → Moves s (target_of i) (event_of usual units i line s)
moves units (Push v) line s h = of_go s _ None refl refl refl
moves units Drop line s h = of_go s _ None refl refl refl
moves units (Load x) line s h = of_gives _ line s _
moves units (Store x) line s h = of_go s _ None refl refl refl
moves units (Clear x) line s h = of_go s _ None refl refl refl
moves units (Elem x d) line s h = of_gives _ line s _
moves units (PutElem x d) line s h = of_fine _ line s _ (λ at. refl) (λ at. refl) (λ at. refl)
moves units (Probe x d) line s h = of_fine _ line s _ (λ at. refl) (λ at. refl) (λ at. refl)
moves units (Make x k d) line s h = of_makes usual.room x k (paired (numbers (2 * d) s.stack)) line s (drop (2 * d) s.stack)
moves units (Fit x d) line s h = of_fine _ line s _ (λ c. refl) (λ c. refl) (λ c. refl)
moves units Add line s h = of_operator op.Plus line s
moves units Sub line s h = of_operator op.Minus line s
moves units Mul line s h = of_operator op.Times line s
moves units Pow line s h = of_operator op.Power line s
moves units Neg line s h = of_gives _ line s _
moves units Div line s h = of_gives _ line s _
moves units Mod line s h = of_gives _ line s _
moves units Abs line s h = of_gives _ line s _
moves units Min line s h = of_gives _ line s _
moves units Max line s h = of_gives _ line s _
moves units Eq line s h = of_operator op.Equal line s
moves units Ne line s h = of_operator op.NotEqual line s
moves units Lt line s h = of_operator op.Less line s
moves units Le line s h = of_operator op.LessOrEqual line s
moves units Gt line s h = of_operator op.Greater line s
moves units Ge line s h = of_operator op.GreaterOrEqual line s
moves units EqTruth line s h = of_operator op.Equal line s
moves units NeTruth line s h = of_operator op.NotEqual line s
moves units Not line s h = of_go s _ None refl refl refl
moves units (Jump a) line s h = of_jump s _ (Some a) refl refl refl
moves units (JumpNo a) line s h = of_answer (is_yes (top s.stack)) s a (rest s.stack)
moves units Step line s h = of_tick s _ None refl refl refl
moves units (Times x) line s h = of_go s _ None refl refl refl
moves units (Turns x) line s h = of_turns x (number_of (top (rest (rest s.stack)))) (number_of (top (rest s.stack))) (number_of (top s.stack)) line s
moves units (Next x v a) line s h = of_next (s.slots x) x v a s
moves units Out line s h = of_does _ s _ None refl refl refl
moves units (OutText text) line s h = of_does _ s _ None refl refl refl
moves units OutLine line s h = of_does _ s _ None refl refl refl
moves units (Input k) line s h = of_takes k line s _ (λ v. refl) (λ v. refl) (λ v. refl)
moves units Assert line s h = of_choice (is_yes (top s.stack)) s None _ _ (of_go s _ None refl refl refl) (of_halt _ s None)
moves units Quit line s h = of_halt _ s None
moves units (Ask (Robot c)) line s h = of_asks (told.Robot c) s _ (λ r m. of_after (is_test c) (is_wall r) s (reply_value r ∷ s.stack) s.stack (state.Wall line) m)
moves units (Ask (Pen c)) line s h = of_does _ s _ None refl refl refl
moves units (Call u places) line s h = absurd (let wrong : ⊥ = cc in wrong)
moves units Return line s h = absurd (let wrong : ⊥ = cc in wrong)
