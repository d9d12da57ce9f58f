-- The operators and built-in algorithms on values. Where the types do not fit the answer means nothing. docs/LANGUAGE.md, "Values".
use Rattle.std.specs.Prelude.{ℕ, Bool, true, false, not, List, [], ◌∷◌, codes, ℤ, pos, negsuc, ◌+ℤ◌, ◌-ℤ◌, ◌*ℤ◌, neg_ℤ, unsigned_abs, int_lt, Option, Some, None, Result, Ok, Err, if◌then◌else◌}
use Rattle.std.specs.Int.{int_min, int_max}
use Rattle.std.specs.Ordering.{int_eq}
use Rattle.std.specs.Fmt.{signed_decimal}
use Rattle.kumir_tree.specs.declared.kind.Op.{Op}
use Rattle.kumir_tree.specs.declared.kind.Op.TheVariants.{Or, And, Equal, NotEqual, Less, Greater, LessOrEqual, GreaterOrEqual, Plus, Minus, Times, Power}
use Rattle.kumir_names.specs.declared.built_in.BuiltIn.{BuiltIn}
use Rattle.kumir_names.specs.declared.built_in.BuiltIn.TheVariants.{Div, Mod, Iabs, Imin, Imax}
use Rattle.kumir_values.specs.declared.value.Value.{Value}
use Rattle.kumir_values.specs.declared.value.Value.TheVariants.{Whole, Truth}
use Rattle.kumir_values.specs.declared.run_end.RunFault.{RunFault}
use Rattle.kumir_values.specs.Arithmetic.{ranged, divided, remaindered, raised}

-- the number of a `цел`, the truth of a `лог`, the turns that a count asks for
abbrev pub number_of : Value → ℤ
number_of (Whole z) = z
number_of (Truth b) = pos 0

abbrev pub is_yes : Value → Bool
is_yes (Whole z) = false
is_yes (Truth b) = b

abbrev pub turns_of : Value → ℕ
turns_of (Whole (pos n)) = n
turns_of (Whole (negsuc n)) = 0
turns_of (Truth b) = 0

-- the characters that a value prints as
abbrev pub text_of : Value → List ℕ
text_of (Whole z) = signed_decimal z
text_of (Truth true) = codes "да"
text_of (Truth false) = codes "нет"

-- a number as a value
abbrev pub as_value : Result ℤ RunFault → Result Value RunFault
as_value (Ok z) = Ok (Whole z)
as_value (Err fault) = Err fault

abbrev pub same_truth : Bool → Bool → Bool
same_truth true b = b
same_truth false b = not b

abbrev pub same_value : Value → Value → Bool
same_value (Whole a) (Whole b) = int_eq a b
same_value (Whole a) (Truth b) = false
same_value (Truth a) (Whole b) = false
same_value (Truth a) (Truth b) = same_truth a b

abbrev pub below : Value → Value → Bool
below a b = int_lt (number_of a) (number_of b)

-- an operator between two values; `и` and `или` come here only where their left side did not decide
abbrev pub combined : Op → Value → Value → Result Value RunFault
combined Or a b = Ok b
combined And a b = Ok b
combined Equal a b = Ok (Truth (same_value a b))
combined NotEqual a b = Ok (Truth (not (same_value a b)))
combined Less a b = Ok (Truth (below a b))
combined Greater a b = Ok (Truth (below b a))
combined LessOrEqual a b = Ok (Truth (not (below b a)))
combined GreaterOrEqual a b = Ok (Truth (not (below a b)))
combined Plus a b = as_value (ranged (number_of a +ℤ number_of b))
combined Minus a b = as_value (ranged (number_of a -ℤ number_of b))
combined Times a b = as_value (ranged (number_of a *ℤ number_of b))
combined Power a b = as_value (raised (number_of a) (number_of b))

-- the value where the left side decides: `да` for `или`, `нет` for `и`; the right side is not evaluated then
abbrev pub decided : Op → Value → Option Value
decided Or a = if is_yes a then Some (Truth true) else None
decided And a = if is_yes a then None else Some (Truth false)
decided Equal a = None
decided NotEqual a = None
decided Less a = None
decided Greater a = None
decided LessOrEqual a = None
decided GreaterOrEqual a = None
decided Plus a = None
decided Minus a = None
decided Times a = None
decided Power a = None

abbrev pub negated : Value → Result Value RunFault
negated v = as_value (ranged (neg_ℤ (number_of v)))

-- ---- built-in algorithms

-- the n-th of the arguments as a number
abbrev pub first_number : List Value → ℤ
first_number [] = pos 0
first_number (v ∷ vs) = number_of v

abbrev pub second_number : List Value → ℤ
second_number [] = pos 0
second_number (v ∷ vs) = first_number vs

abbrev pub applied : BuiltIn → List Value → Result Value RunFault
applied Div vs = as_value (divided (first_number vs) (second_number vs))
applied Mod vs = as_value (remaindered (first_number vs) (second_number vs))
applied Iabs vs = as_value (ranged (pos (unsigned_abs (first_number vs))))
applied Imin vs = as_value (ranged (int_min (first_number vs) (second_number vs)))
applied Imax vs = as_value (ranged (int_max (first_number vs) (second_number vs)))
