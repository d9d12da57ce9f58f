-- What one instruction does: the state after it, or what it asks of the outside. It sees no steps, inputs or replies.
use Rattle.std.specs.Prelude.{ℕ, zero, suc, ◌+◌, ◌-◌, ◌*◌, Bool, true, false, not, List, [], ◌∷◌, ◌++◌, map, reverse, take, drop, length, slice_get, ℤ, pos, ◌+ℤ◌, nat_le, nat_lt, Option, Some, None, Result, Ok, Err, if◌then◌else◌}
use Rattle.std.specs.Ordering.{int_eq}
use Rattle.kumir_tree.specs.declared.kind.Kind.{Kind}
use Rattle.kumir_tree.specs.declared.kind.Mode.{Mode}
use Rattle.kumir_tree.specs.declared.kind.Mode.TheVariants.{Arg, Res, ArgRes}
use Rattle.kumir_tree.specs.declared.kind.Op.{Op}
use Rattle.kumir_tree.specs.declared.kind.Op.TheVariants as op
use Rattle.performer_kit.specs.declared.commands.Command.{Command}
use Rattle.performer_kit.specs.declared.commands.Command.TheVariants.{Robot, Pen}
use Rattle.performer_kit.specs.declared.commands.Reply.{Reply}
use Rattle.performer_kit.specs.Commands.{is_test, pen_arity}
use Rattle.kumir_values.specs.declared.value.Value.{Value}
use Rattle.kumir_values.specs.declared.value.Value.TheVariants.{Whole, Truth}
use Rattle.kumir_values.specs.declared.bounds.Bound.{Bound}
use Rattle.kumir_values.specs.declared.run_end.RunFault.{RunFault}
use Rattle.kumir_values.specs.declared.run_end.RunFault.TheVariants.{Unset, StepZero, Bounds, Elements, Depth}
use Rattle.kumir_values.specs.Bounds.{all_ordered, elements}
use Rattle.kumir_meaning.specs.Runs.{Act, Printed, Sent, RunState, reply_value, is_wall, pen_command, Allowed}
use Rattle.kumir_meaning.specs.Runs as state
use Rattle.kumir_names.specs.declared.built_in.BuiltIn.{BuiltIn}
use Rattle.kumir_names.specs.declared.built_in.BuiltIn.TheVariants.{Div as DivCall, Mod as ModCall, Iabs as AbsCall, Imin as MinCall, Imax as MaxCall}
use Rattle.kumir_meaning.specs.Operators.{number_of, is_yes, turns_of, text_of, combined, negated, applied}
use Rattle.kumir_meaning.specs.Store.{Cell, Empty, Has, Holds, cell_of, value_in, read, element, checked, given_back, with_element, elements_in, without_values, fitted, has_room}
use Rattle.kumir_meaning.specs.Loops.{past}
use Rattle.kumir_meaning.specs.Algorithms.{table_for}
use Rattle.stack_code.specs.declared.instruction.CallPlace.{CallPlace}
use Rattle.stack_code.specs.declared.instruction.CallPlace.TheVariants as place
use Rattle.stack_code.specs.declared.instruction.CommandShape.{CommandShape}
use Rattle.stack_code.specs.declared.instruction.CommandShape.TheVariants as command
use Rattle.stack_code.specs.declared.instruction.Instruction.{Instruction}
use Rattle.stack_code.specs.declared.instruction.Instruction.TheVariants.{Push, Drop, Load, Store, Clear, Elem, PutElem, Probe, Make, Fit, Add, Sub, Mul, Pow, Neg, Div, Mod, Abs, Min, Max, Eq, Ne, Lt, Le, Gt, Ge, EqTruth, NeTruth, Not, Jump, JumpNo, Step, Times, Turns, Next, Out, OutText, OutLine, Input, Assert, Quit, Ask, Call, Return}
use Rattle.stack_code.specs.declared.instruction.CodeLine.{CodeLine}
use Rattle.stack_code.specs.declared.unit.ParamSlot.{ParamSlot}
use Rattle.stack_code.specs.declared.unit.CodeUnit.{CodeUnit}
use Rattle.stack_code.specs.CodeState.{Slot, Plain, Left, Numbers, Slots, no_slots, with_slot, cell_in, Frame, State, top, rest, numbers, paired, goes_to, next, next_with}

-- what a reply leads to
pub data After : Type 0 where
  On : State → After
  Over : RunState → After

-- what an instruction does or asks
pub data Event : Type 0 where
  Go : State → Event
  -- one step
  Tick : State → Event
  -- an act without a reply
  Does : Act → State → Event
  -- a command whose reply is awaited
  Asks : Command → (Reply → After) → Event
  -- the next input, of this kind, with the line of its faults
  Takes : Kind → ℕ → (Value → State) → Event
  Halt : RunState → Event

-- pushes what was got onto these operands, or ends with its fault
abbrev pub pushes_result : Result Value RunFault → ℕ → State → List Value → Event
pushes_result (Ok v) line s stack = Go (next s (v ∷ stack))
pushes_result (Err fault) line s stack = Halt (state.Fault line fault)

-- goes on with these operands where a check passed
abbrev pub if_fine : {T : Type 0} → Result T RunFault → ℕ → (T → State) → Event
if_fine (Ok t) line s = Go (s t)
if_fine (Err fault) line s = Halt (state.Fault line fault)

-- an operator over the two operands on top, a built-in over one or two
abbrev pub operates : Op → ℕ → State → Event
operates o line s = pushes_result (combined o (top (rest s.stack)) (top s.stack)) line s (rest (rest s.stack))

abbrev pub applies : BuiltIn → ℕ → ℕ → State → Event
applies b n line s = pushes_result (applied b (reverse (take n s.stack))) line s (drop n s.stack)

-- a table made anew: `bounds` first, then its former elements no longer count, then `elements`
abbrev pub makes_table : ℕ → ℕ → Kind → List Bound → ℕ → State → List Value → Event
makes_table room x kind bounds line s stack =
    if all_ordered bounds
    then makes_within room (s.used - elements_in (cell_in (s.slots x)))
    else Halt (state.Fault line Bounds)
  where
    makes_within : ℕ → ℕ → Event
    makes_within room used =
        if has_room room used (elements bounds)
        then Go (record s { pc = s.pc + 1; stack = stack; slots = with_slot s.slots x (Plain (without_values kind bounds)); used = used + elements bounds })
        else Halt (state.Fault line Elements)

-- ---- loops
abbrev pub set_variable : Option ℕ → ℤ → Slots → Slots
set_variable None z slots = slots
set_variable (Some v) z slots = with_slot slots v (Plain (Has (Whole z)))

-- the next turn: with none left it goes to the place, else there is one less, and the variable gets its number
abbrev pub next_turn : Slot → ℕ → Option ℕ → ℕ → State → State
next_turn (Plain c) x v away s = goes_to s away s.stack
next_turn (Left zero) x v away s = goes_to s away s.stack
next_turn (Left (suc n)) x v away s = next_with s s.stack x (Left n)
next_turn (Numbers z last step) x v away s =
    if past z last step
    then goes_to s away s.stack
    else record s { pc = s.pc + 1; slots = set_variable v z (with_slot s.slots x (Numbers (z +ℤ step) last step)) }

abbrev pub begins_turns : ℕ → ℤ → ℤ → ℤ → ℕ → State → Event
begins_turns x first last step line s =
    if int_eq step (pos 0)
    then Halt (state.Fault line StepZero)
    else Go (next_with s (drop 3 s.stack) x (Numbers first last step))

-- ---- commands
-- a test pushes its reply; another command of the Robot ends the run at a wall
abbrev pub sends : CommandShape → ℕ → State → Event
sends (command.Robot c) line s =
    Asks (Robot c) (λ r. if is_test c then On (next s (reply_value r ∷ s.stack)) else if is_wall r then Over (state.Wall line) else On (next s s.stack))
sends (command.Pen c) line s =
    Does (Sent (Pen (pen_command c (numbers (pen_arity c) s.stack)))) (next s (drop (pen_arity c) s.stack))

-- ---- calls

-- whether a parameter takes an operand
abbrev pub takes_value : Mode → CallPlace → Bool
takes_value mode place.Value = true
takes_value Arg (place.Slot x) = true
takes_value Res (place.Slot x) = false
takes_value ArgRes (place.Slot x) = true
takes_value Arg (place.Element x at) = true
takes_value Res (place.Element x at) = false
takes_value ArgRes (place.Element x at) = true
takes_value mode (place.Table x) = false

abbrev pub values_taken : List ParamSlot → List CallPlace → ℕ
values_taken [] places = 0
values_taken (p ∷ params) [] = 0
values_taken (p ∷ params) (place ∷ places) = (if takes_value p.mode place then 1 else 0) + values_taken params places

-- the slots of a unit that begins, and the elements in use
abbrev pub Begun : Type 0
Begun = Slots × ℕ

-- a table for a parameter: `unset` first, then `elements`
abbrev pub fills_with_table : ℕ → ParamSlot → Cell → Begun → Result Begun RunFault
fills_with_table room p Empty g = Err Unset
fills_with_table room p (Has v) g = Err Unset
fills_with_table room p (Holds t) g =
    if has_room room g.1 (elements t.bounds)
    then Ok (with_slot g.0 p.slot (Plain (table_for p.mode t)), g.1 + elements t.bounds)
    else Err Elements

abbrev pub table_of : CallPlace → Option ℕ
table_of place.Value = None
table_of (place.Slot x) = None
table_of (place.Element x at) = None
table_of (place.Table x) = Some x

-- one parameter: a table of the caller, the next of the values, or no value
abbrev pub fills_slot : ℕ → ParamSlot → Option ℕ → Bool → List Value → Slots → Begun → Result Begun RunFault
fills_slot room p (Some x) taken values slots g = fills_with_table room p (cell_in (slots x)) g
fills_slot room p None true values slots g = Ok (with_slot g.0 p.slot (Plain (Has (top values))), g.1)
fills_slot room p None false values slots g = Ok (with_slot g.0 p.slot (Plain Empty), g.1)

abbrev pub and_then : Result Begun RunFault → (Begun → Result Begun RunFault) → Result Begun RunFault
and_then (Ok g) more = more g
and_then (Err fault) more = Err fault

-- the parameters in order, with the caller's slots
abbrev pub fills_slots : ℕ → List ParamSlot → List CallPlace → List Value → Slots → Begun → Result Begun RunFault
fills_slots room [] places values slots g = Ok g
fills_slots room (p ∷ params) [] values slots g = Ok g
fills_slots room (p ∷ params) (place ∷ places) values slots g =
    and_then (fills_slot room p (table_of place) (takes_value p.mode place) values slots g)
    (λ g1. fills_slots room params places (if takes_value p.mode place then rest values else values) slots g1)

-- a call: the depth, the tables, and the unit begins
abbrev pub enters_unit : Allowed → CodeUnit → ℕ → List CallPlace → ℕ → State → Event
enters_unit allowed callee u places line s =
    if nat_lt (length s.frames + 1) allowed.depth
    then if_fine (fills_slots allowed.room callee.params places (reverse (take (values_taken callee.params places) s.stack)) s.slots (no_slots, s.used)) line
    (λ g. record {
      unit = u;
      pc = 0;
      stack = [];
      slots = g.0;
      used = g.1;
      frames = record { unit = s.unit; pc = s.pc + 1; stack = drop (values_taken callee.params places) s.stack; slots = s.slots; used = s.used; places = places } ∷ s.frames;
    })
    else Halt (state.Fault line Depth)

-- the index that a hidden slot holds
abbrev pub index_in : Cell → ℤ
index_in Empty = pos 0
index_in (Has v) = number_of v
index_in (Holds t) = pos 0

-- a cell copied out to the place of the call
abbrev pub copied : CallPlace → Cell → Slots → Slots
copied place.Value c slots = slots
copied (place.Slot x) c slots = with_slot slots x (Plain (cell_of (value_in c)))
copied (place.Element x at) c slots =
    with_slot slots x (Plain (with_element (cell_in (slots x)) (map (λ h. index_in (cell_in (slots h))) at) (value_in c)))
copied (place.Table x) c slots = with_slot slots x (Plain c)

-- `рез` and `аргрез` are copied out
abbrev pub copied_to : Mode → CallPlace → Cell → Slots → Slots
copied_to Arg place c slots = slots
copied_to Res place c slots = copied place c slots
copied_to ArgRes place c slots = copied place c slots

abbrev pub copied_to_places : List ParamSlot → List CallPlace → Slots → Slots → Slots
copied_to_places [] places g slots = slots
copied_to_places (p ∷ params) [] g slots = slots
copied_to_places (p ∷ params) (place ∷ places) g slots = copied_to_places params places g (copied_to p.mode place (cell_in (g p.slot)) slots)

-- where a call goes on, with the value of a unit with a kind
abbrev pub back_in : Frame → List Frame → List ParamSlot → Slots → List Value → State
back_in f frames params g value = record {
  unit = f.unit;
  pc = f.pc;
  stack = value ++ f.stack;
  slots = copied_to_places params f.places g f.slots;
  used = f.used;
  frames = frames;
}

abbrev pub returns_to : List Frame → List ParamSlot → Slots → List Value → Event
returns_to [] params g value = Halt state.Done
returns_to (f ∷ frames) params g value = Go (back_in f frames params g value)

abbrev pub with_answer : Result Value RunFault → ℕ → (List Value → Event) → Event
with_answer (Ok v) line goes_on = goes_on (v ∷ [])
with_answer (Err fault) line goes_on = Halt (state.Fault line fault)

abbrev pub leaves_unit : Option ℕ → List ParamSlot → ℕ → State → Event
leaves_unit None params line s = returns_to s.frames params s.slots []
leaves_unit (Some x) params line s = with_answer (given_back (cell_in (s.slots x))) line (λ value. returns_to s.frames params s.slots value)

-- ---- the instruction table
abbrev pub no_unit : CodeUnit
no_unit = record { slots = []; params = []; gives = None; depth = 0; body = [] }

abbrev pub unit_or : Option CodeUnit → CodeUnit
unit_or None = no_unit
unit_or (Some u) = u

abbrev pub unit_at : List CodeUnit → ℕ → CodeUnit
unit_at units u = unit_or (slice_get units u)

abbrev pub event_of : Allowed → List CodeUnit → Instruction → ℕ → State → Event
event_of allowed units (Push v) line s = Go (next s (v ∷ s.stack))
event_of allowed units Drop line s = Go (next s (rest s.stack))
event_of allowed units (Load x) line s = pushes_result (read (cell_in (s.slots x))) line s s.stack
event_of allowed units (Store x) line s = Go (next_with s (rest s.stack) x (Plain (Has (top s.stack))))
event_of allowed units (Clear x) line s = Go (next_with s s.stack x (Plain Empty))
event_of allowed units (Elem x d) line s = pushes_result (element (cell_in (s.slots x)) (numbers d s.stack)) line s (drop d s.stack)
event_of allowed units (PutElem x d) line s =
    if_fine (checked (cell_in (s.slots x)) (numbers d (rest s.stack))) line
    (λ at. next_with s (drop d (rest s.stack)) x (Plain (with_element (cell_in (s.slots x)) at (Some (top s.stack)))))
event_of allowed units (Probe x d) line s = if_fine (checked (cell_in (s.slots x)) (numbers d s.stack)) line (λ at. next s s.stack)
event_of allowed units (Make x kind d) line s = makes_table allowed.room x kind (paired (numbers (2 * d) s.stack)) line s (drop (2 * d) s.stack)
event_of allowed units (Fit x d) line s =
    if_fine (fitted (cell_in (s.slots x)) (paired (numbers (2 * d) s.stack))) line (λ c. next s (drop (2 * d) s.stack))
event_of allowed units Add line s = operates op.Plus line s
event_of allowed units Sub line s = operates op.Minus line s
event_of allowed units Mul line s = operates op.Times line s
event_of allowed units Pow line s = operates op.Power line s
event_of allowed units Neg line s = pushes_result (negated (top s.stack)) line s (rest s.stack)
event_of allowed units Div line s = applies DivCall 2 line s
event_of allowed units Mod line s = applies ModCall 2 line s
event_of allowed units Abs line s = applies AbsCall 1 line s
event_of allowed units Min line s = applies MinCall 2 line s
event_of allowed units Max line s = applies MaxCall 2 line s
event_of allowed units Eq line s = operates op.Equal line s
event_of allowed units Ne line s = operates op.NotEqual line s
event_of allowed units Lt line s = operates op.Less line s
event_of allowed units Le line s = operates op.LessOrEqual line s
event_of allowed units Gt line s = operates op.Greater line s
event_of allowed units Ge line s = operates op.GreaterOrEqual line s
event_of allowed units EqTruth line s = operates op.Equal line s
event_of allowed units NeTruth line s = operates op.NotEqual line s
event_of allowed units Not line s = Go (next s (Truth (not (is_yes (top s.stack))) ∷ rest s.stack))
event_of allowed units (Jump a) line s = Go (goes_to s a s.stack)
event_of allowed units (JumpNo a) line s = Go (goes_to s (if is_yes (top s.stack) then s.pc + 1 else a) (rest s.stack))
event_of allowed units Step line s = Tick (next s s.stack)
event_of allowed units (Times x) line s = Go (next_with s (rest s.stack) x (Left (turns_of (top s.stack))))
event_of allowed units (Turns x) line s =
    begins_turns x (number_of (top (rest (rest s.stack)))) (number_of (top (rest s.stack))) (number_of (top s.stack)) line s
event_of allowed units (Next x v a) line s = Go (next_turn (s.slots x) x v a s)
event_of allowed units Out line s = Does (Printed (text_of (top s.stack))) (next s (rest s.stack))
event_of allowed units (OutText text) line s = Does (Printed text) (next s s.stack)
event_of allowed units OutLine line s = Does (Printed (10 ∷ [])) (next s s.stack)
event_of allowed units (Input kind) line s = Takes kind line (λ v. next s (v ∷ s.stack))
event_of allowed units Assert line s = if is_yes (top s.stack) then Go (next s (rest s.stack)) else Halt (state.Assert line)
event_of allowed units Quit line s = Halt state.Quit
event_of allowed units (Ask c) line s = sends c line s
event_of allowed units (Call u places) line s = enters_unit allowed (unit_at units u) u places line s
event_of allowed units Return line s = leaves_unit (unit_at units s.unit).gives (unit_at units s.unit).params line s

-- past the end of a body there is nothing; valid code does not come there
abbrev pub event_at : Allowed → List CodeUnit → Option CodeLine → State → Event
event_at allowed units None s = Halt state.Done
event_at allowed units (Some l) s = event_of allowed units l.what l.line s

abbrev pub step : Allowed → List CodeUnit → State → Event
step allowed units s = event_at allowed units (slice_get (unit_at units s.unit).body s.pc) s
