-- Which code is valid. docs/LANGUAGE.md, "Stack code".
use Rattle.std.specs.Prelude.{◌≡◌, ℕ, zero, suc, ◌+◌, ◌<◌, ◌≤◌, Bool, true, false, ◌&&◌, ◌||◌, not, IsTrue, List, [], ◌∷◌, length, slice_get, nat_eq, nat_lt, Option, Some, None, if◌then◌else◌, ⊤}
use Rattle.std.specs.List.{list_all}
use Rattle.kumir_tree.specs.declared.kind.Kind.{Kind}
use Rattle.kumir_tree.specs.declared.kind.Kind.TheVariants as kind
use Rattle.kumir_tree.specs.declared.kind.Mode.{Mode}
use Rattle.kumir_tree.specs.declared.kind.Mode.TheVariants.{Arg, Res, ArgRes}
use Rattle.stack_code.specs.declared.instruction.CallPlace.{CallPlace}
use Rattle.stack_code.specs.declared.instruction.CallPlace.TheVariants as place
use Rattle.stack_code.specs.declared.instruction.Instruction.{Instruction}
use Rattle.stack_code.specs.declared.instruction.Instruction.TheVariants.{Load, Store, Clear, Elem, PutElem, Probe, Make, Fit, Step, Times, Turns, Next, Call}
use Rattle.stack_code.specs.declared.instruction.CodeLine.{CodeLine}
use Rattle.stack_code.specs.declared.unit.Shape.{Shape}
use Rattle.stack_code.specs.declared.unit.Shape.TheVariants.{Scalar, Table, Hidden}
use Rattle.stack_code.specs.declared.unit.ParamSlot.{ParamSlot}
use Rattle.stack_code.specs.declared.unit.CodeUnit.{CodeUnit}
use Rattle.kumir_tree.specs.Kinds.{same_kind}
use Rattle.stack_code.specs.Operands.{Kinds, kinds_after, target_of, falls_through}

-- ---- slots and their shapes
abbrev pub is_scalar : Option Shape → Bool
is_scalar None = false
is_scalar (Some (Scalar k)) = true
is_scalar (Some (Table k d)) = false
is_scalar (Some Hidden) = false

abbrev pub is_scalar_of : Kind → Option Shape → Bool
is_scalar_of kind None = false
is_scalar_of kind (Some (Scalar k)) = same_kind kind k
is_scalar_of kind (Some (Table k d)) = false
is_scalar_of kind (Some Hidden) = false

abbrev pub is_hidden : Option Shape → Bool
is_hidden None = false
is_hidden (Some (Scalar k)) = false
is_hidden (Some (Table k d)) = false
is_hidden (Some Hidden) = true

-- a table with this number of bounds
abbrev pub is_table : ℕ → Option Shape → Bool
is_table d None = false
is_table d (Some (Scalar k)) = false
is_table d (Some (Table k e)) = nat_eq d e
is_table d (Some Hidden) = false

abbrev pub is_table_of : Kind → ℕ → Option Shape → Bool
is_table_of kind d None = false
is_table_of kind d (Some (Scalar k)) = false
is_table_of kind d (Some (Table k e)) = same_kind kind k && nat_eq d e
is_table_of kind d (Some Hidden) = false

-- a variable of `для` is a number
abbrev pub is_counter : List Shape → Option ℕ → Bool
is_counter slots None = true
is_counter slots (Some v) = is_scalar_of kind.Whole (slice_get slots v)

-- the place of a `рез` or `аргрез` scalar: a slot or an element of its kind, with an index in a hidden slot for each bound
abbrev pub is_place_of : Kind → List Shape → CallPlace → Bool
is_place_of kind slots place.Value = false
is_place_of kind slots (place.Slot x) = is_scalar_of kind (slice_get slots x)
is_place_of kind slots (place.Element x at) =
    is_table_of kind (length at) (slice_get slots x) && list_all (λ h. is_hidden (slice_get slots h)) at
is_place_of kind slots (place.Table x) = false

abbrev pub is_value_place : CallPlace → Bool
is_value_place place.Value = true
is_value_place (place.Slot x) = false
is_value_place (place.Element x at) = false
is_value_place (place.Table x) = false

-- the place of a table: a table with as many bounds and of its kind
abbrev pub is_table_place : Kind → ℕ → List Shape → CallPlace → Bool
is_table_place kind d slots place.Value = false
is_table_place kind d slots (place.Slot x) = false
is_table_place kind d slots (place.Element x at) = false
is_table_place kind d slots (place.Table x) = is_table_of kind d (slice_get slots x)

abbrev pub fits_scalar : Mode → Kind → List Shape → CallPlace → Bool
fits_scalar Arg kind slots p = is_value_place p
fits_scalar Res kind slots p = is_place_of kind slots p
fits_scalar ArgRes kind slots p = is_place_of kind slots p

-- the place of a parameter by its mode and shape, in a unit with these slots
abbrev pub place_fits : Mode → Option Shape → List Shape → CallPlace → Bool
place_fits mode None slots p = false
place_fits mode (Some (Scalar k)) slots p = fits_scalar mode k slots p
place_fits mode (Some (Table k d)) slots p = is_table_place k d slots p
place_fits mode (Some Hidden) slots p = false

-- one place for each parameter
abbrev pub places_fit : List Shape → List ParamSlot → List Shape → List CallPlace → Bool
places_fit formal [] slots [] = true
places_fit formal [] slots (place ∷ places) = false
places_fit formal (p ∷ params) slots [] = false
places_fit formal (p ∷ params) slots (place ∷ places) =
    place_fits p.mode (slice_get formal p.slot) slots place && places_fit formal params slots places

abbrev pub call_fits : Option CodeUnit → List Shape → List CallPlace → Bool
call_fits None slots places = false
call_fits (Some callee) slots places = places_fit callee.slots callee.params slots places

-- what an instruction names is there and has the shape that it needs
abbrev pub names_fit : List CodeUnit → CodeUnit → Instruction → Bool
names_fit units u (Load x) = is_scalar (slice_get u.slots x) || is_hidden (slice_get u.slots x)
names_fit units u (Store x) = is_scalar (slice_get u.slots x) || is_hidden (slice_get u.slots x)
names_fit units u (Clear x) = is_scalar (slice_get u.slots x)
names_fit units u (Elem x d) = is_table d (slice_get u.slots x)
names_fit units u (PutElem x d) = is_table d (slice_get u.slots x)
names_fit units u (Probe x d) = is_table d (slice_get u.slots x)
names_fit units u (Make x kind d) = is_table_of kind d (slice_get u.slots x)
names_fit units u (Fit x d) = is_table d (slice_get u.slots x)
names_fit units u (Times x) = is_hidden (slice_get u.slots x)
names_fit units u (Turns x) = is_hidden (slice_get u.slots x)
names_fit units u (Next x v a) = is_hidden (slice_get u.slots x) && is_counter u.slots v
names_fit units u (Call callee places) = call_fits (slice_get units callee) u.slots places
names_fit units u i = true

-- ---- jumps and calls
abbrev pub is_step : Option CodeLine → Bool
is_step None = false
is_step (Some l) = is_step_instruction l.what
  where
    is_step_instruction : Instruction → Bool
    is_step_instruction Step = true
    is_step_instruction i = false

abbrev pub is_call : Option CodeLine → Bool
is_call None = false
is_call (Some l) = is_call_instruction l.what
  where
    is_call_instruction : Instruction → Bool
    is_call_instruction (Call u places) = true
    is_call_instruction i = false

-- a jump goes forward to a place of its unit, or back to a step, and never to a call
abbrev pub leads_on : List CodeLine → ℕ → ℕ → Bool
leads_on body pc a = (if nat_lt pc a then nat_lt a (length body) else is_step (slice_get body a)) && not (is_call (slice_get body a))

abbrev pub jump_fits : List CodeLine → ℕ → Option ℕ → Bool
jump_fits body pc None = true
jump_fits body pc (Some a) = leads_on body pc a

-- a call stands directly after a step
abbrev pub after_step : List CodeLine → ℕ → Bool
after_step body zero = false
after_step body (suc pc) = is_step (slice_get body pc)

abbrev pub call_stands : List CodeLine → ℕ → CodeLine → Bool
call_stands body pc l = not (is_call (Some l)) || after_step body pc

abbrev pub line_fits : List CodeUnit → CodeUnit → ℕ → CodeLine → Bool
line_fits units u pc l = names_fit units u l.what && jump_fits u.body pc (target_of l.what) && call_stands u.body pc l

-- ---- operands

-- where an instruction leads, these kinds of operands stand
abbrev pub OnTarget : Option ℕ → (ℕ → Type 0) → Type 0
OnTarget None P = ⊤
OnTarget (Some a) P = P a

-- the place of the next instruction, where it may follow
abbrev pub next_of : ℕ → Instruction → Option ℕ
next_of pc i = if falls_through i then Some (pc + 1) else None

-- the operands that an instruction needs are there, and behind it, on each way, stand those that it leaves
abbrev pub Leads : (ℕ → Option Kinds) → ℕ → Instruction → Option Kinds → Type 0
Leads kinds pc i None = ⊥
Leads kinds pc i (Some left) =
    OnTarget (next_of pc i) (λ a. kinds a ≡ Some left) × OnTarget (target_of i) (λ a. kinds a ≡ Some left)

abbrev pub OnLine : List CodeUnit → CodeUnit → (ℕ → Option Kinds) → ℕ → Kinds → Option CodeLine → Type 0
OnLine units u kinds pc found None = ⊥
OnLine units u kinds pc found (Some l) = (length found ≤ u.depth) × Leads kinds pc l.what (kinds_after units u l.what found)

-- each place to which a way leads has one list of kinds: the first place has none at all, and from each place
-- the ways go on to places of the body
pub record HasKinds (units : List CodeUnit) (u : CodeUnit) (kinds : ℕ → Option Kinds) : Type 0 where
  pub begins : kinds 0 ≡ Some []
  pub goes_on : (pc : ℕ) (found : Kinds) → kinds pc ≡ Some found → OnLine units u kinds pc found (slice_get u.body pc)

-- ---- units
abbrev pub is_param : Option Shape → Bool
is_param None = false
is_param (Some (Scalar k)) = true
is_param (Some (Table k d)) = true
is_param (Some Hidden) = false

abbrev pub is_answer : List Shape → Option ℕ → Bool
is_answer slots None = true
is_answer slots (Some x) = is_scalar (slice_get slots x)

pub record IsUnit (units : List CodeUnit) (u : CodeUnit) : Type 0 where
  -- the slots of the parameters and of `знач` are there
  pub params : IsTrue (list_all (λ p. is_param (slice_get u.slots p.slot)) u.params)
  pub answer : IsTrue (is_answer u.slots u.gives)
  pub not_empty : 0 < length u.body
  -- slots, units and places that are named; jumps; calls
  pub lines : (pc : ℕ) (l : CodeLine) → slice_get u.body pc ≡ Some l → IsTrue (line_fits units u pc l)
  -- operands
  pub kinds : ℕ → Option Kinds
  pub operands : HasKinds units u kinds

-- the entry, if there is one, names a unit without parameters
abbrev pub has_no_params : Option CodeUnit → Bool
has_no_params None = false
has_no_params (Some u) = nat_eq (length u.params) 0

abbrev pub entry_fits : List CodeUnit → Option ℕ → Bool
entry_fits units None = true
entry_fits units (Some u) = has_no_params (slice_get units u)

pub record IsValid (units : List CodeUnit) (entry : Option ℕ) : Type 0 where
  pub each : (k : ℕ) (u : CodeUnit) → slice_get units k ≡ Some u → IsUnit units u
  pub begin : IsTrue (entry_fits units entry)

-- code as contracts see it
pub record ValidCode : Type 0 where
  pub units : List CodeUnit
  pub entry : Option ℕ
