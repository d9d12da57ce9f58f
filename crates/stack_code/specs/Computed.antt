-- Runs of code that are computed from the definition. Beside each body stand the places of its instructions.
use Rattle.std.specs.Prelude.{◌≡◌, ℕ, List, [], ◌∷◌, pos, true, Option, Some, None}
use Rattle.std.specs.Fmt.{signed_decimal}
use Rattle.kumir_tree.specs.declared.kind.Kind.TheVariants as kind
use Rattle.kumir_tree.specs.declared.kind.Mode.TheVariants.{ArgRes}
use Rattle.performer_kit.specs.declared.commands.RobotCommand.TheVariants.{Right, RightFree}
use Rattle.performer_kit.specs.declared.commands.Command.TheVariants.{Robot}
use Rattle.performer_kit.specs.declared.commands.Reply.{Reply}
use Rattle.performer_kit.specs.declared.commands.Reply.TheVariants as reply
use Rattle.kumir_values.specs.declared.value.Value.{Value}
use Rattle.kumir_values.specs.declared.value.Value.TheVariants.{Whole, Truth}
use Rattle.kumir_values.specs.declared.run_end.RunFault.TheVariants as fault
use Rattle.kumir_meaning.specs.Runs.{Act, Printed, Sent, RunState, usual}
use Rattle.kumir_meaning.specs.Runs as state
use Rattle.stack_code.specs.declared.instruction.CallPlace.TheVariants as place
use Rattle.stack_code.specs.declared.instruction.CommandShape.TheVariants as command
use Rattle.stack_code.specs.declared.instruction.Instruction.{Instruction}
use Rattle.stack_code.specs.declared.instruction.Instruction.TheVariants.{Push, Load, Store, Clear, Elem, PutElem, Probe, Make, Div, Jump, JumpNo, Step, Turns, Next, Out, OutLine, Input, Ask, Call, Return}
use Rattle.stack_code.specs.declared.instruction.CodeLine.{CodeLine}
use Rattle.stack_code.specs.declared.unit.ParamSlot.{ParamSlot}
use Rattle.stack_code.specs.declared.unit.CodeUnit.{CodeUnit}
use Rattle.stack_code.specs.CodeRuns.{exec, start}

abbrev pub on : ℕ → List Instruction → List CodeLine → List CodeLine
on line [] more = more
on line (i ∷ what) more = record { line = line; what = i } ∷ on line what more

abbrev pub unit : List ParamSlot → Option ℕ → List CodeLine → CodeUnit
unit params gives body = record { slots = []; params = params; gives = gives; depth = 9; body = body }

abbrev pub both_ways : ℕ → ParamSlot
both_ways slot = record { mode = ArgRes; slot = slot }

abbrev pub number : ℕ → Act
number n = Printed (signed_decimal (pos n))

abbrev pub num : ℕ → Instruction
num n = Push (Whole (pos n))

-- the run of these units on replies and inputs, with at most 4000 instructions
abbrev pub Runs : List CodeUnit → List Value → List Reply → ℕ → List Act → RunState → Type 0
Runs units inputs replies steps acts state = exec usual units 4000 (start 0) steps inputs replies ≡ Some (record { acts = acts; state = state })

-- `цел i`, `нц для i от 2147483646 до 2147483647`, `вывод i, нс`, `кц`
abbrev pub counting : List CodeUnit
counting = unit [] None (
    on 3 (Step ∷ Clear 0 ∷ []) (
    -- from place 2: the numbers of the loop
    on 4 (Step ∷ num 2147483646 ∷ num 2147483647 ∷ num 1 ∷ Turns 1 ∷ Step ∷ Next 1 (Some 0) 14 ∷ []) (
    -- from place 9: one turn
    on 5 (Step ∷ Load 0 ∷ Out ∷ OutLine ∷ []) (on 4 (Jump 7 ∷ []) (on 7 (Return ∷ []) []))))
    ) ∷ []

-- `цел таб a[1:2]`, `цел i`, `i := 1`, `a[1] := 7`, `a[2] := 9`, `смена(i, a[i], a[i])`, `вывод a[1], a[2], i`,
-- and `смена` with three `аргрез` parameters, which become 2, 5 and 6
abbrev pub swapping : List CodeUnit
swapping =
    unit [] None (
    on 3 (Step ∷ num 1 ∷ num 2 ∷ Make 0 kind.Whole 1 ∷ []) (
    on 4 (Step ∷ Clear 1 ∷ []) (
    on 5 (Step ∷ num 1 ∷ Store 1 ∷ Step ∷ num 1 ∷ num 7 ∷ PutElem 0 1 ∷ Step ∷ num 2 ∷ num 9 ∷ PutElem 0 1 ∷ []) (
    -- each index is checked, kept in a hidden slot, and the element is read
    on 6 (Step ∷ Load 1 ∷ Load 1 ∷ Probe 0 1 ∷ Store 2 ∷ Load 2 ∷ Elem 0 1 ∷ Load 1 ∷ Probe 0 1 ∷ Store 3 ∷ Load 3 ∷ Elem 0 1 ∷ Step
    ∷ Call 1 (place.Slot 1 ∷ place.Element 0 (2 ∷ []) ∷ place.Element 0 (3 ∷ []) ∷ []) ∷ []) (
    on 7 (Step ∷ num 1 ∷ Elem 0 1 ∷ Out ∷ num 2 ∷ Elem 0 1 ∷ Out ∷ Load 1 ∷ Out ∷ []) (on 8 (Return ∷ []) [])))))
    )
    ∷ unit (both_ways 0 ∷ both_ways 1 ∷ both_ways 2 ∷ []) None (
    on 11 (Step ∷ num 2 ∷ Store 0 ∷ Step ∷ num 5 ∷ Store 1 ∷ Step ∷ num 6 ∷ Store 2 ∷ []) (on 12 (Return ∷ []) [])
    )
    ∷ []

-- `алг а`, `нач`, `а`, `кон`
abbrev pub descending : List CodeUnit
descending = unit [] None (on 3 (Step ∷ Step ∷ Call 0 [] ∷ []) (on 4 (Return ∷ []) [])) ∷ []

-- `нц пока справа свободно`, `вправо`, `кц`, `вправо`
abbrev pub walking : List CodeUnit
walking = unit [] None (
    on 4 (Step ∷ Step ∷ Step ∷ Ask (command.Robot RightFree) ∷ JumpNo 9 ∷ []) (
    on 5 (Step ∷ Step ∷ Ask (command.Robot Right) ∷ []) (on 4 (Jump 1 ∷ []) (on 7 (Step ∷ Step ∷ Ask (command.Robot Right) ∷ []) (on 8 (Return ∷ []) []))))
    ) ∷ []

-- `цел x`, `ввод x`, `вывод div(x, 0)`, and a value for `знач` that is not there
abbrev pub dividing : List CodeUnit
dividing = unit [] None (on 4 (Step ∷ Input kind.Whole ∷ Store 0 ∷ []) (on 5 (Step ∷ Load 0 ∷ num 0 ∷ Div ∷ Out ∷ []) (on 6 (Return ∷ []) []))) ∷ []

abbrev pub valueless : List CodeUnit
valueless = unit [] (Some 0) (on 4 (Return ∷ []) []) ∷ []

pub record CodeRunsAsShown : Type 0 where
  -- seven steps, and six
  pub counts : Runs counting [] [] 7 (number 2147483646 ∷ Printed (10 ∷ []) ∷ number 2147483647 ∷ Printed (10 ∷ []) ∷ []) state.Done
  pub one_step_less : Runs counting [] [] 6 (number 2147483646 ∷ Printed (10 ∷ []) ∷ number 2147483647 ∷ Printed (10 ∷ []) ∷ []) state.Going
  -- the indexes are those of the call, and the last copy stays
  pub swaps : Runs swapping [] [] 100 (number 6 ∷ number 9 ∷ number 2 ∷ []) state.Done
  pub depth : Runs descending [] [] 2000 [] (state.Fault 3 fault.Depth)
  pub wall : Runs walking [] (reply.Yes ∷ reply.Done ∷ reply.No ∷ reply.Wall ∷ []) 100
      (Sent (Robot RightFree) ∷ Sent (Robot Right) ∷ Sent (Robot RightFree) ∷ Sent (Robot Right) ∷ []) (state.Wall 7)
  pub awaits : Runs walking [] (reply.Yes ∷ []) 100 (Sent (Robot RightFree) ∷ Sent (Robot Right) ∷ []) state.Awaiting
  pub divisor : Runs dividing (Whole (pos 5) ∷ []) [] 100 [] (state.Fault 5 fault.Divisor)
  pub other_kind : Runs dividing (Truth true ∷ []) [] 100 [] (state.Fault 4 fault.InputType)
  pub no_value : Runs valueless [] [] 0 [] (state.Fault 4 fault.NoValue)
