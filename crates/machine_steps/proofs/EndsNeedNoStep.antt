-- No instruction ends a run as one in which a step is needed.
use Rattle.std.proofs.Common.{◌≡◌, ℕ, ◌+◌, ◌-◌, ◌*◌, Bool, true, false, List, [], ◌∷◌, drop, length, Option, Some, None, Result, Ok, Err, subst}
use Rattle.std.specs.Prelude.{ℤ, pos, nat_lt, nat_le, slice_get, if◌then◌else◌}
use Rattle.std.specs.Ordering.{int_eq}
use Rattle.kumir_tree.specs.declared.kind.Kind.{Kind}
use Rattle.performer_kit.specs.declared.commands.Command.{Command}
use Rattle.performer_kit.specs.declared.commands.Reply.{Reply}
use Rattle.kumir_tree.specs.declared.kind.Op.{Op}
use Rattle.kumir_tree.specs.declared.kind.Op.TheVariants as op
use Rattle.kumir_values.specs.declared.value.Value.{Value}
use Rattle.kumir_values.specs.declared.bounds.Bound.{Bound}
use Rattle.kumir_values.specs.declared.run_end.RunFault.{RunFault}
use Rattle.kumir_values.specs.Bounds.{all_ordered, elements}
use Rattle.kumir_meaning.specs.Operators.{number_of, is_yes, combined}
use Rattle.kumir_meaning.specs.Store.{elements_in, given_back}
use Rattle.kumir_meaning.specs.Runs.{Act, RunState, usual, Allowed}
use Rattle.kumir_meaning.specs.Runs as state
use Rattle.stack_code.specs.declared.instruction.CallPlace.{CallPlace}
use Rattle.stack_code.specs.declared.instruction.CodeLine.{CodeLine}
use Rattle.stack_code.specs.declared.instruction.CommandShape.TheVariants.{Robot, Pen}
use Rattle.stack_code.specs.declared.instruction.Instruction.{Instruction}
use Rattle.stack_code.specs.declared.instruction.Instruction.TheVariants.{Push, Drop, Load, Store, Clear, Elem, PutElem, Probe, Make, Fit, Add, Sub, Mul, Pow, Neg, Div, Mod, Abs, Min, Max, Eq, Ne, Lt, Le, Gt, Ge, EqTruth, NeTruth, Not, Jump, JumpNo, Step, Times, Turns, Next, Out, OutText, OutLine, Input, Assert, Quit, Ask, Call, Return}
use Rattle.stack_code.specs.declared.unit.CodeUnit.{CodeUnit}
use Rattle.stack_code.specs.declared.unit.ParamSlot.{ParamSlot}
use Rattle.stack_code.specs.CodeState.{Slots, Frame, State, top, rest, numbers, paired, cell_in}
use Rattle.stack_code.specs.Instructions.{After, Event, Go, Tick, Does, Asks, Takes, Halt, pushes_result, operates, if_fine, makes_table, begins_turns, enters_unit, returns_to, with_answer, leaves_unit, unit_at, event_of, event_at, step}

-- an end is not one in which a step is needed
IsFinal : Event → Type 0
IsFinal (Go m) = Unit {0}
IsFinal (Tick m) = Unit {0}
IsFinal (Does a m) = Unit {0}
IsFinal (Asks c after) = Unit {0}
IsFinal (Takes kind line s) = Unit {0}
IsFinal (Halt e) = e ≡ state.Going → ⊥

of_go : (m : State) → IsFinal (Go m)
unfolding IsFinal
of_go m = tt

of_does : (a : Act) (m : State) → IsFinal (Does a m)
unfolding IsFinal
of_does a m = tt

of_tick : (m : State) → IsFinal (Tick m)
unfolding IsFinal
of_tick m = tt

of_takes : (kind : Kind) (line : ℕ) (k : Value → State) → IsFinal (Takes kind line k)
unfolding IsFinal
of_takes kind line k = tt

of_asks : (c : Command) (after : Reply → After) → IsFinal (Asks c after)
unfolding IsFinal
of_asks c after = tt

pub no_going_fault : (line : ℕ) (f : RunFault) → state.Fault line f ≡ state.Going → ⊥
no_going_fault line f e = let wrong : ⊥ = cc in wrong

of_fault : (line : ℕ) (f : RunFault) → IsFinal (Halt (state.Fault line f))
unfolding IsFinal
of_fault line f = no_going_fault line f

of_done : IsFinal (Halt state.Done)
unfolding IsFinal
of_done = λ e. let wrong : ⊥ = cc in wrong

of_quit : IsFinal (Halt state.Quit)
unfolding IsFinal
of_quit = λ e. let wrong : ⊥ = cc in wrong

of_assert : (line : ℕ) → IsFinal (Halt (state.Assert line))
unfolding IsFinal
of_assert line = λ e. let wrong : ⊥ = cc in wrong

of_gives : (got : Result Value RunFault) (line : ℕ) (s : State) (stack : List Value) → IsFinal (pushes_result got line s stack)
of_gives (Ok v) line s stack = of_go _
of_gives (Err f) line s stack = of_fault line f

of_operator : (o : Op) (line : ℕ) (s : State) → IsFinal (operates o line s)
of_operator o line s = of_gives (combined o (top (rest s.stack)) (top s.stack)) line s (rest (rest s.stack))

of_fine : {T : Type 0} (found : Result T RunFault) (line : ℕ) (k : T → State) → IsFinal (if_fine found line k)
of_fine (Ok x) line k = of_go (k x)
of_fine (Err f) line k = of_fault line f

of_choice : (b : Bool) (v w : Event) → IsFinal v → IsFinal w → IsFinal (if b then v else w)
of_choice true v w p q = p
of_choice false v w p q = q

of_makes : (room x : ℕ) (kind : Kind) (bounds : List Bound) (line : ℕ) (s : State) (stack : List Value) → IsFinal (makes_table room x kind bounds line s stack)
of_makes room x kind bounds line s stack =
    of_choice (all_ordered bounds) _ _ (of_choice (nat_le (s.used - elements_in (cell_in (s.slots x)) + elements bounds) room) _ _ (of_go _) (of_fault line _)) (of_fault line _)

of_turns : (x : ℕ) (first last step : ℤ) (line : ℕ) (s : State) → IsFinal (begins_turns x first last step line s)
of_turns x first last step line s = of_choice (int_eq step (pos 0)) _ _ (of_fault line _) (of_go _)

of_call : (allowed : Allowed) (callee : CodeUnit) (u : ℕ) (places : List CallPlace) (line : ℕ) (s : State) → IsFinal (enters_unit allowed callee u places line s)
of_call allowed callee u places line s = of_choice (nat_lt (length s.frames + 1) allowed.depth) _ _ (of_fine _ line _) (of_fault line _)

of_back : (frames : List Frame) (params : List ParamSlot) (g : Slots) (value : List Value) → IsFinal (returns_to frames params g value)
of_back [] params g value = of_done
of_back (f ∷ frames) params g value = of_go _

of_answer : (found : Result Value RunFault) (line : ℕ) (k : List Value → Event) → ((vs : List Value) → IsFinal (k vs)) → IsFinal (with_answer found line k)
of_answer (Ok v) line k h = h (v ∷ [])
of_answer (Err f) line k h = of_fault line f

of_return : (gives : Option ℕ) (params : List ParamSlot) (line : ℕ) (s : State) → IsFinal (leaves_unit gives params line s)
of_return None params line s = of_back s.frames params s.slots []
of_return (Some x) params line s = of_answer (given_back (cell_in (s.slots x))) line _ (λ value. of_back s.frames params s.slots value)

final : (units : List CodeUnit) (i : Instruction) (line : ℕ) (s : State) → IsFinal (event_of usual units i line s)
final units (Push v) line s = of_go _
final units Drop line s = of_go _
final units (Load x) line s = of_gives _ line s _
final units (Store x) line s = of_go _
final units (Clear x) line s = of_go _
final units (Elem x d) line s = of_gives _ line s _
final units (PutElem x d) line s = of_fine _ line _
final units (Probe x d) line s = of_fine _ line _
final units (Make x k d) line s = of_makes usual.room x k (paired (numbers (2 * d) s.stack)) line s (drop (2 * d) s.stack)
final units (Fit x d) line s = of_fine _ line _
final units Add line s = of_operator op.Plus line s
final units Sub line s = of_operator op.Minus line s
final units Mul line s = of_operator op.Times line s
final units Pow line s = of_operator op.Power line s
final units Neg line s = of_gives _ line s _
final units Div line s = of_gives _ line s _
final units Mod line s = of_gives _ line s _
final units Abs line s = of_gives _ line s _
final units Min line s = of_gives _ line s _
final units Max line s = of_gives _ line s _
final units Eq line s = of_operator op.Equal line s
final units Ne line s = of_operator op.NotEqual line s
final units Lt line s = of_operator op.Less line s
final units Le line s = of_operator op.LessOrEqual line s
final units Gt line s = of_operator op.Greater line s
final units Ge line s = of_operator op.GreaterOrEqual line s
final units EqTruth line s = of_operator op.Equal line s
final units NeTruth line s = of_operator op.NotEqual line s
final units Not line s = of_go _
final units (Jump a) line s = of_go _
final units (JumpNo a) line s = of_go _
final units Step line s = of_tick _
final units (Times x) line s = of_go _
final units (Turns x) line s = of_turns x (number_of (top (rest (rest s.stack)))) (number_of (top (rest s.stack))) (number_of (top s.stack)) line s
final units (Next x v a) line s = of_go _
final units Out line s = of_does _ _
final units (OutText text) line s = of_does _ _
final units OutLine line s = of_does _ _
final units (Input k) line s = of_takes k line _
final units Assert line s = of_choice (is_yes (top s.stack)) _ _ (of_go _) (of_assert line)
final units Quit line s = of_quit
final units (Ask (Robot c)) line s = of_asks _ _
final units (Ask (Pen c)) line s = of_does _ _
final units (Call u places) line s = of_call usual (unit_at units u) u places line s
final units Return line s = of_return (unit_at units s.unit).gives (unit_at units s.unit).params line s

final_at : (units : List CodeUnit) (o : Option CodeLine) (s : State) → IsFinal (event_at usual units o s)
final_at units None s = of_done
final_at units (Some l) s = final units l.what l.line s

as_end : (v : Event) (e : RunState) → v ≡ Halt e → IsFinal v → e ≡ state.Going → ⊥
unfolding IsFinal
as_end v e h f = subst IsFinal h f

pub halts_for_good : (units : List CodeUnit) (s : State) (e : RunState) → step usual units s ≡ Halt e → e ≡ state.Going → ⊥
halts_for_good units s e h = as_end (step usual units s) e h (final_at units (slice_get (unit_at units s.unit).body s.pc) s)
