-- What instructions do to the kinds of the operands, and where they lead. docs/LANGUAGE.md, "Stack code".
use Rattle.std.specs.Prelude.{ℕ, zero, suc, ◌*◌, Bool, true, false, List, [], ◌∷◌, slice_get, Option, Some, None, if◌then◌else◌}
use Rattle.kumir_tree.specs.declared.kind.Kind.{Kind}
use Rattle.kumir_tree.specs.declared.kind.Kind.TheVariants as kind
use Rattle.kumir_tree.specs.Kinds.{same_kind}
use Rattle.kumir_values.specs.Values.{kind_of}
use Rattle.stack_code.specs.declared.instruction.CallPlace.{CallPlace}
use Rattle.stack_code.specs.declared.instruction.CommandShape.{CommandShape}
use Rattle.stack_code.specs.declared.instruction.CommandShape.TheVariants as command
use Rattle.stack_code.specs.declared.instruction.Instruction.{Instruction}
use Rattle.stack_code.specs.declared.instruction.Instruction.TheVariants.{Push, Drop, Load, Store, Clear, Elem, PutElem, Probe, Make, Fit, Add, Sub, Mul, Pow, Neg, Div, Mod, Abs, Min, Max, Eq, Ne, Lt, Le, Gt, Ge, EqTruth, NeTruth, Not, Jump, JumpNo, Step, Times, Turns, Next, Out, OutText, OutLine, Input, Assert, Quit, Ask, Call, Return}
use Rattle.stack_code.specs.declared.unit.Shape.{Shape}
use Rattle.stack_code.specs.declared.unit.Shape.TheVariants.{Scalar, Table, Hidden}
use Rattle.stack_code.specs.declared.unit.ParamSlot.{ParamSlot}
use Rattle.stack_code.specs.declared.unit.CodeUnit.{CodeUnit}
use Rattle.performer_kit.specs.Commands.{is_test, pen_arity}
use Rattle.stack_code.specs.Instructions.{takes_value, unit_at}

-- ---- kinds of operands, from the top; none where an operand is missing or of another kind
abbrev pub Kinds : Type 0
Kinds = List Kind

abbrev pub then_pop : Option Kinds → (Kinds → Option Kinds) → Option Kinds
then_pop None more = None
then_pop (Some kinds) more = more kinds

abbrev pub pop : Kind → Kinds → Option Kinds
pop k [] = None
pop k (j ∷ kinds) = if same_kind k j then Some kinds else None

abbrev pub pop_any : Kinds → Option Kinds
pop_any [] = None
pop_any (j ∷ kinds) = Some kinds

abbrev pub pop_numbers : ℕ → Kinds → Option Kinds
pop_numbers zero kinds = Some kinds
pop_numbers (suc n) kinds = then_pop (pop kind.Whole kinds) (pop_numbers n)

-- pushes a kind onto what is left
abbrev pub pushing : Kind → Option Kinds → Option Kinds
pushing k None = None
pushing k (Some kinds) = Some (k ∷ kinds)

-- the kinds as they were, where so many numbers are on top
abbrev pub leaving : Kinds → Option Kinds → Option Kinds
leaving kinds None = None
leaving kinds (Some other) = Some kinds

-- the kind of the value that a slot holds; an index is a number
abbrev pub value_kind : Option Shape → Option Kind
value_kind None = None
value_kind (Some (Scalar k)) = Some k
value_kind (Some (Table k d)) = None
value_kind (Some Hidden) = Some kind.Whole

-- the kind of the elements of a table
abbrev pub element_kind : Option Shape → Option Kind
element_kind None = None
element_kind (Some (Scalar k)) = None
element_kind (Some (Table k d)) = Some k
element_kind (Some Hidden) = None

abbrev pub push_some : Option Kind → Option Kinds → Option Kinds
push_some None left = None
push_some (Some k) left = pushing k left

abbrev pub pop_some : Option Kind → Kinds → Option Kinds
pop_some None kinds = None
pop_some (Some k) kinds = pop k kinds

-- the values of a call, the last one on top
abbrev pub pop_values : CodeUnit → List ParamSlot → List CallPlace → Kinds → Option Kinds
pop_values callee [] places kinds = Some kinds
pop_values callee (p ∷ params) [] kinds = Some kinds
pop_values callee (p ∷ params) (place ∷ places) kinds =
    then_pop (pop_values callee params places kinds)
    (λ left. if takes_value p.mode place then pop_some (value_kind (slice_get callee.slots p.slot)) left else Some left)

-- a unit with a kind pushes a value
abbrev pub push_answer : CodeUnit → Option ℕ → Option Kinds → Option Kinds
push_answer callee None left = left
push_answer callee (Some x) left = push_some (value_kind (slice_get callee.slots x)) left

abbrev pub after_ask : CommandShape → Kinds → Option Kinds
after_ask (command.Robot c) kinds = if is_test c then Some (kind.Truth ∷ kinds) else Some kinds
after_ask (command.Pen c) kinds = pop_numbers (pen_arity c) kinds

-- the kinds after an instruction of a unit
abbrev pub kinds_after : List CodeUnit → CodeUnit → Instruction → Kinds → Option Kinds
kinds_after units u (Push v) kinds = Some (kind_of v ∷ kinds)
kinds_after units u Drop kinds = pop_any kinds
kinds_after units u (Load x) kinds = push_some (value_kind (slice_get u.slots x)) (Some kinds)
kinds_after units u (Store x) kinds = pop_some (value_kind (slice_get u.slots x)) kinds
kinds_after units u (Clear x) kinds = Some kinds
kinds_after units u (Elem x d) kinds = push_some (element_kind (slice_get u.slots x)) (pop_numbers d kinds)
kinds_after units u (PutElem x d) kinds = then_pop (pop_some (element_kind (slice_get u.slots x)) kinds) (pop_numbers d)
kinds_after units u (Probe x d) kinds = leaving kinds (pop_numbers d kinds)
kinds_after units u (Make x k d) kinds = pop_numbers (2 * d) kinds
kinds_after units u (Fit x d) kinds = pop_numbers (2 * d) kinds
kinds_after units u Add kinds = pushing kind.Whole (pop_numbers 2 kinds)
kinds_after units u Sub kinds = pushing kind.Whole (pop_numbers 2 kinds)
kinds_after units u Mul kinds = pushing kind.Whole (pop_numbers 2 kinds)
kinds_after units u Pow kinds = pushing kind.Whole (pop_numbers 2 kinds)
kinds_after units u Neg kinds = pushing kind.Whole (pop_numbers 1 kinds)
kinds_after units u Div kinds = pushing kind.Whole (pop_numbers 2 kinds)
kinds_after units u Mod kinds = pushing kind.Whole (pop_numbers 2 kinds)
kinds_after units u Abs kinds = pushing kind.Whole (pop_numbers 1 kinds)
kinds_after units u Min kinds = pushing kind.Whole (pop_numbers 2 kinds)
kinds_after units u Max kinds = pushing kind.Whole (pop_numbers 2 kinds)
kinds_after units u Eq kinds = pushing kind.Truth (pop_numbers 2 kinds)
kinds_after units u Ne kinds = pushing kind.Truth (pop_numbers 2 kinds)
kinds_after units u Lt kinds = pushing kind.Truth (pop_numbers 2 kinds)
kinds_after units u Le kinds = pushing kind.Truth (pop_numbers 2 kinds)
kinds_after units u Gt kinds = pushing kind.Truth (pop_numbers 2 kinds)
kinds_after units u Ge kinds = pushing kind.Truth (pop_numbers 2 kinds)
kinds_after units u EqTruth kinds = pushing kind.Truth (then_pop (pop kind.Truth kinds) (pop kind.Truth))
kinds_after units u NeTruth kinds = pushing kind.Truth (then_pop (pop kind.Truth kinds) (pop kind.Truth))
kinds_after units u Not kinds = pushing kind.Truth (pop kind.Truth kinds)
kinds_after units u (Jump a) kinds = Some kinds
kinds_after units u (JumpNo a) kinds = pop kind.Truth kinds
kinds_after units u Step kinds = Some kinds
kinds_after units u (Times x) kinds = pop_numbers 1 kinds
kinds_after units u (Turns x) kinds = pop_numbers 3 kinds
kinds_after units u (Next x v a) kinds = Some kinds
kinds_after units u Out kinds = pop_any kinds
kinds_after units u (OutText text) kinds = Some kinds
kinds_after units u OutLine kinds = Some kinds
kinds_after units u (Input k) kinds = Some (k ∷ kinds)
kinds_after units u Assert kinds = pop kind.Truth kinds
kinds_after units u Quit kinds = Some kinds
kinds_after units u (Ask c) kinds = after_ask c kinds
kinds_after units u (Call callee places) kinds =
    push_answer (unit_at units callee) (unit_at units callee).gives (pop_values (unit_at units callee) (unit_at units callee).params places kinds)
kinds_after units u Return kinds = Some kinds

-- ---- where an instruction leads

-- the place of a jump
abbrev pub target_of : Instruction → Option ℕ
target_of (Jump a) = Some a
target_of (JumpNo a) = Some a
target_of (Next x v a) = Some a
target_of i = None

-- whether the next instruction may follow
abbrev pub falls_through : Instruction → Bool
falls_through (Jump a) = false
falls_through Quit = false
falls_through Return = false
falls_through i = true
