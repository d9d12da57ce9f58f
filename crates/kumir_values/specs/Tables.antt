-- Tables as finite maps from lists of indexes to values, beside their bounds.
use Rattle.std.specs.Prelude.{◌≡◌, ℕ, ◌<◌, ◌^◌, Bool, true, false, ◌&&◌, IsTrue, List, [], ◌∷◌, length, get_or, ℤ, int_le, Option, Some, None, Result, Ok, Err, if◌then◌else◌}
use Rattle.kumir_tree.specs.declared.kind.Kind.{Kind}
use Rattle.kumir_tree.specs.declared.kind.Kind.TheVariants as kind
use Rattle.kumir_values.specs.declared.value.Value.{Value}
use Rattle.kumir_values.specs.declared.value.Value.TheVariants.{Whole, Truth}
use Rattle.kumir_values.specs.declared.bounds.Bound.{Bound}
use Rattle.kumir_values.specs.declared.run_end.RunFault.{RunFault}
use Rattle.kumir_values.specs.declared.run_end.RunFault.TheVariants.{Index, Unset}
use Rattle.kumir_values.specs.Values.{kind_of}
use Rattle.kumir_values.specs.Bounds.{all_ordered, elements, inside, place}

-- a table: the kind of its values, its bounds, and its elements with or without a value, in the order of their places
pub record Grid : Type 0 where
  pub kind : Kind
  pub bounds : List Bound
  pub held : List (Option Value)

-- the value at a list of indexes; there is none outside the bounds
abbrev pub value_at : Grid → List ℤ → Option Value
value_at t index = if inside t.bounds index then get_or t.held (place t.bounds index) None else None

-- the map of a table in which no element has a value
abbrev pub no_value : List ℤ → Option Value
no_value index = None

-- two lists of indexes are the same
abbrev pub same_index : List ℤ → List ℤ → Bool
same_index [] [] = true
same_index [] (j ∷ js) = false
same_index (i ∷ is) [] = false
same_index (i ∷ is) (j ∷ js) = int_le i j && int_le j i && same_index is js

-- a map with a value, or without one, at this one list of indexes
abbrev pub changed : (List ℤ → Option Value) → List ℤ → Option Value → List ℤ → Option Value
changed map index value j = if same_index index j then value else map j

-- the answer to a read of an element
abbrev pub found_value : Option Value → Result Value RunFault
found_value None = Err Unset
found_value (Some v) = Ok v

abbrev pub read_at : Grid → List ℤ → Result Value RunFault
read_at t index = if inside t.bounds index then found_value (value_at t index) else Err Index

-- an element that has a value has one of the table's kind
abbrev pub IsOfKind : Kind → Option Value → Type 0
IsOfKind kind None = Unit {0}
IsOfKind kind (Some v) = kind_of v ≡ kind

-- whether a table of that kind can take it: no value, or one of the kind
abbrev pub is_of_kind : Kind → Option Value → Bool
is_of_kind k None = true
is_of_kind kind.Whole (Some (Whole z)) = true
is_of_kind kind.Whole (Some (Truth b)) = false
is_of_kind kind.Truth (Some (Whole z)) = false
is_of_kind kind.Truth (Some (Truth b)) = true

-- what holds of every table
pub record IsTable (kind : Kind) (bounds : List Bound) (held : List (Option Value)) : Type 0 where
  pub ordered : IsTrue (all_ordered bounds)
  pub room : elements bounds < 2 ^ 32
  pub full : length held ≡ elements bounds
  pub kinds : (k : ℕ) → IsOfKind kind (get_or held k None)
