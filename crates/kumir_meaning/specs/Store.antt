-- What an algorithm holds while it runs: its variables, and the table elements in use. docs/LANGUAGE.md, "Meaning", "Names".
use Rattle.std.specs.Prelude.{ℕ, ◌+◌, ◌-◌, Bool, true, false, ◌&&◌, List, [], ◌∷◌, bytes_eq, ℤ, nat_le, Option, Some, None, Result, Ok, Err, if◌then◌else◌}
use Rattle.std.specs.Ordering.{int_eq}
use Rattle.kumir_tree.specs.declared.kind.Kind.{Kind}
use Rattle.kumir_values.specs.declared.value.Value.{Value}
use Rattle.kumir_values.specs.declared.bounds.Bound.{Bound}
use Rattle.kumir_values.specs.declared.run_end.RunFault.{RunFault}
use Rattle.kumir_values.specs.declared.run_end.RunFault.TheVariants.{Unset, Index, Bounds, Elements, NoValue}
use Rattle.kumir_values.specs.Bounds.{all_ordered, elements, inside}
use Rattle.kumir_values.specs.Tables.{no_value, changed, found_value, is_of_kind}

-- what an algorithm holds has a name: `знач`, or that of a local one
pub data CellName : Type 0 where
  TheAnswer : CellName
  Local : List ℕ → CellName

abbrev pub same_cell_name : CellName → CellName → Bool
same_cell_name TheAnswer TheAnswer = true
same_cell_name TheAnswer (Local y) = false
same_cell_name (Local x) TheAnswer = false
same_cell_name (Local x) (Local y) = bytes_eq x y

-- a table: a finite map from lists of indexes to values, beside its kind and bounds
pub record TableMap : Type 0 where
  pub kind : Kind
  pub bounds : List Bound
  pub values : List ℤ → Option Value

-- what a variable holds: nothing yet, a value, or a table
pub data Cell : Type 0 where
  Empty : Cell
  Has : Value → Cell
  Holds : TableMap → Cell

-- the variables, and how many table elements there are in all algorithms that are entered
pub record Store : Type 0 where
  pub cells : CellName → Cell
  pub used : ℕ

abbrev pub with_cell : Store → CellName → Cell → Store
with_cell s x c = record { cells = λ y. if same_cell_name x y then c else s.cells y; used = s.used }

abbrev pub cell_of : Option Value → Cell
cell_of None = Empty
cell_of (Some v) = Has v

abbrev pub value_in : Cell → Option Value
value_in Empty = None
value_in (Has v) = Some v
value_in (Holds t) = None

-- ---- reading
abbrev pub read : Cell → Result Value RunFault
read Empty = Err Unset
read (Has v) = Ok v
read (Holds t) = Err Unset

-- the element of a table; a table that was not made is `unset`
abbrev pub element : Cell → List ℤ → Result Value RunFault
element Empty index = Err Unset
element (Has v) index = Err Unset
element (Holds t) index = if inside t.bounds index then found_value (t.values index) else Err Index

-- the indexes of an element that is there
abbrev pub checked : Cell → List ℤ → Result (List ℤ) RunFault
checked Empty index = Err Unset
checked (Has v) index = Err Unset
checked (Holds t) index = if inside t.bounds index then Ok index else Err Index

-- the value that an algorithm with a kind gives back
abbrev pub given_back : Cell → Result Value RunFault
given_back Empty = Err NoValue
given_back (Has v) = Ok v
given_back (Holds t) = Err NoValue

-- ---- places: a variable, or an element of a table with its indexes
pub data Spot : Type 0 where
  AtVariable : CellName → Spot
  AtElement : List ℕ → List ℤ → Spot

-- a place at which something can stand
abbrev pub settled : Spot → Store → Result Spot RunFault
settled (AtVariable x) s = Ok (AtVariable x)
settled (AtElement x index) s = settled_element (checked (s.cells (Local x)) index)
  where
    settled_element : Result (List ℤ) RunFault → Result Spot RunFault
    settled_element (Ok at) = Ok (AtElement x at)
    settled_element (Err fault) = Err fault

abbrev pub read_at : Spot → Store → Result Value RunFault
read_at (AtVariable x) s = read (s.cells x)
read_at (AtElement x index) s = element (s.cells (Local x)) index

-- A table with another element, with or without a value. An element outside the bounds, or a value of another kind, leaves it as it
-- is: a program without faults stores neither.
abbrev pub with_element : Cell → List ℤ → Option Value → Cell
with_element Empty index v = Empty
with_element (Has w) index v = Has w
with_element (Holds t) index v =
    if inside t.bounds index && is_of_kind t.kind v
    then Holds (record { kind = t.kind; bounds = t.bounds; values = changed t.values index v })
    else Holds t

abbrev pub put : Spot → Option Value → Store → Store
put (AtVariable x) v s = with_cell s x (cell_of v)
put (AtElement x index) v s = with_cell s (Local x) (with_element (s.cells (Local x)) index v)

-- ---- tables
abbrev pub elements_in : Cell → ℕ
elements_in Empty = 0
elements_in (Has v) = 0
elements_in (Holds t) = elements t.bounds

abbrev pub without_values : Kind → List Bound → Cell
without_values kind bounds = Holds (record { kind = kind; bounds = bounds; values = no_value })

-- the rule of room: how many elements there may be, how many are in use, and how many are to come
abbrev pub has_room : ℕ → ℕ → ℕ → Bool
has_room room used more = nat_le (used + more) room

-- a store in which more elements are in use, where there is room for them
abbrev pub in_room : ℕ → ℕ → ℕ → Store → Result Store RunFault
in_room room used more s = if has_room room used more then Ok (record { cells = s.cells; used = used + more }) else Err Elements

-- a table made anew: `bounds` first, then its former elements no longer count, then `elements`
abbrev pub made : ℕ → Kind → List Bound → CellName → Store → Result Store RunFault
made room kind bounds x s =
    if all_ordered bounds
    then in_room room (s.used - elements_in (s.cells x)) (elements bounds) (with_cell s x (without_values kind bounds))
    else Err Bounds

abbrev pub same_bounds : List Bound → List Bound → Bool
same_bounds [] [] = true
same_bounds [] (b ∷ bs) = false
same_bounds (a ∷ more) [] = false
same_bounds (a ∷ more) (b ∷ bs) = int_eq a.low b.low && int_eq a.high b.high && same_bounds more bs

-- the formal bounds of a table equal those that it has
abbrev pub fitted : Cell → List Bound → Result Cell RunFault
fitted Empty bounds = Err Unset
fitted (Has v) bounds = Err Unset
fitted (Holds t) bounds = if same_bounds t.bounds bounds then Ok (Holds t) else Err Bounds
