-- Computed runs for docs/LANGUAGE.md, "Meaning", "Order".
use Rattle.std.specs.Prelude.{ℕ, [], ◌∷◌, codes, pos, true, false, Some, None}
use Rattle.kumir_tree.specs.declared.kind.Kind.TheVariants as kind
use Rattle.kumir_tree.specs.declared.kind.Mode.{Mode}
use Rattle.kumir_tree.specs.declared.kind.Mode.TheVariants.{Arg, Res, ArgRes}
use Rattle.kumir_tree.specs.declared.kind.Op.TheVariants as op
use Rattle.kumir_tree.specs.Tree.{Tree, Truth, Binary}
use Rattle.kumir_tree.specs.Part.{ShowValue, Tables}
use Rattle.kumir_tree.specs.Program.{Declare, Choose, Input, Output, done}
use Rattle.kumir_values.specs.declared.value.Value.TheVariants as value
use Rattle.kumir_values.specs.declared.run_end.RunFault.TheVariants as fault
use Rattle.kumir_meaning.specs.Program.{Program}
use Rattle.kumir_meaning.specs.Runs as state
use Rattle.kumir_meaning.specs.Written.{num, var, at, at_both, to, to_at, to_both, call, body, whole, table, assign, answer, invoke, print, scalar, main, algorithm, shown, show, faulty, faulty_claim, program, count, text, Gives, GivesOn}

-- `алг`, `нач`, `вывод ф(1) + ф(2)`, `кон`, and `ф`
abbrev pub adding : Program
adding = program (main ((2, print (Binary op.Plus (show (num 1)) (show (num 2)))) ∷ []) 3 ∷ shown 5 ∷ [])

-- `алг`, `нач`, `цел x`, `x := 1`, `вывод x + g(x)`, `вывод h(x, g(x))`, `кон`,
-- `алг цел g(аргрез цел x)`, `нач`, `x := x + 1`, `знач := x * 10`, `кон`,
-- `алг цел h(аргрез цел x, арг цел y)`, `нач`, `знач := x * 100 + y`, `кон`
abbrev pub ordered : Program
ordered = program (
    main (
    (2, whole (codes "x"))
    ∷ (3, assign (to (codes "x")) (num 1))
    ∷ (4, print (Binary op.Plus (var (codes "x")) (call (codes "g") (var (codes "x") ∷ []))))
    ∷ (5, print (call (codes "h") (var (codes "x") ∷ call (codes "g") (var (codes "x") ∷ []) ∷ [])))
    ∷ []
    ) 6
    ∷ algorithm 8 (codes "g") (Some kind.Whole) (scalar ArgRes (codes "x") ∷ []) (
    (2, assign (to (codes "x")) (Binary op.Plus (var (codes "x")) (num 1)))
    ∷ (3, answer (Binary op.Times (var (codes "x")) (num 10)))
    ∷ []
    ) 4
    ∷ algorithm 13 (codes "h") (Some kind.Whole) (scalar ArgRes (codes "x") ∷ scalar Arg (codes "y") ∷ [])
    ((2, answer (Binary op.Plus (Binary op.Times (var (codes "x")) (num 100)) (var (codes "y")))) ∷ []) 3
    ∷ []
    )

-- `алг`, `нач`, `вывод E1, E2`, `вывод E3`, `кон`, and `ф`
abbrev pub deciding : Tree → Tree → Tree → Program
deciding a b c = program (main ((2, Output (ShowValue a ∷ ShowValue b ∷ [])) ∷ (3, print c) ∷ []) 4 ∷ shown 6 ∷ [])

-- `алг`, `нач`, `цел таб a[1:2, 1:3]`, `a[ф(1), ф(I)] := ф(7)`, `вывод a[1, I]`, `кон`, and `ф`
abbrev pub storing : ℕ → Program
storing i = program (
    main (
    (2, Declare (Tables kind.Whole ((codes "a", (num 1, num 2) ∷ (num 1, num 3) ∷ []) ∷ [])))
    ∷ (3, assign (to_both (codes "a") (show (num 1)) (show (num i))) (show (num 7)))
    ∷ (4, print (at_both (codes "a") (num 1) (num i)))
    ∷ []
    ) 5
    ∷ shown 7
    ∷ []
    )

-- `алг`, `нач`, `если нет`, `то`, `цел таб a[1:3]`, `все`, `a[ф(1)] := ф(2)`, `кон`, and `ф`
abbrev pub storing_nowhere : Program
storing_nowhere = program (
    main (
    (2, Choose (Truth false) (body ((4, table (codes "a") (num 1) (num 3)) ∷ [])) done)
    ∷ (6, assign (to_at (codes "a") (show (num 1))) (show (num 2)))
    ∷ []
    ) 7
    ∷ shown 9
    ∷ []
    )

-- `алг`, `нач`, `цел таб a[1:3]`, `вывод a[ф(I)]`, `кон`, and `ф`
abbrev pub reading : ℕ → Program
reading i = program (main ((2, table (codes "a") (num 1) (num 3)) ∷ (3, print (at (codes "a") (show (num i)))) ∷ []) 4 ∷ shown 6 ∷ [])

-- `алг`, `нач`, `цел таб a[1:3]`, `g(a[4], ф(1))`, `кон`, `алг g(MODE цел x, арг цел y)`, `нач`, `кон`, and `ф`
abbrev pub fixing : Mode → Program
fixing mode = program (
    main (
    (2, table (codes "a") (num 1) (num 3))
    ∷ (3, invoke (codes "g") (at (codes "a") (num 4) ∷ show (num 1) ∷ []))
    ∷ []
    ) 4
    ∷ algorithm 6 (codes "g") None (scalar mode (codes "x") ∷ scalar Arg (codes "y") ∷ []) [] 2
    ∷ shown 9
    ∷ []
    )

-- `алг`, `нач`, `цел i`, `цел таб a[1:3]`, `ввод i, a[ф(i)]`, `вывод a[i]`, `кон`, and `ф`
abbrev pub taking : Program
taking = program (
    main (
    (2, whole (codes "i"))
    ∷ (3, table (codes "a") (num 1) (num 3))
    ∷ (4, Input (to (codes "i") ∷ to_at (codes "a") (show (var (codes "i"))) ∷ []))
    ∷ (5, print (at (codes "a") (var (codes "i"))))
    ∷ []
    ) 6
    ∷ shown 8
    ∷ []
    )

pub record OrderRun : Type 0 where
  -- operands, indexes and arguments go from left to right: 1 + 20, and then 2 * 100 + 30; the steps may end between two operands
  pub operands : Gives adding 7 (count 1 ∷ count 2 ∷ count 3 ∷ []) state.Done
  pub between_operands : Gives adding 4 (count 1 ∷ []) state.Going
  pub from_left_to_right : Gives ordered 100 (count 21 ∷ count 230 ∷ []) state.Done
  -- `и` leaves out its right side after `нет`, `или` after `да`
  pub leaves_out : Gives (deciding (Binary op.Or (Truth true) faulty_claim) (Binary op.And (Truth false) faulty_claim) (Binary op.And (Truth true) faulty_claim)) 2
      (text (codes "да") ∷ text (codes "нет") ∷ []) (state.Fault 4 fault.Divisor)
  pub takes_the_right_side : Gives (deciding (Binary op.Or (Truth false) (Truth true)) (Binary op.And (Truth true) (Truth false)) (Binary op.Or (Truth false) faulty_claim)) 2
      (text (codes "да") ∷ text (codes "нет") ∷ []) (state.Fault 4 fault.Divisor)
  -- an assignment: the indexes, the right side, the store, where an index outside is found
  pub stored : Gives (storing 3) 100 (count 1 ∷ count 3 ∷ count 7 ∷ count 7 ∷ []) state.Done
  pub index_at_the_store : Gives (storing 4) 100 (count 1 ∷ count 4 ∷ count 7 ∷ []) (state.Fault 4 fault.Index)
  pub index_below : Gives (storing 0) 100 (count 1 ∷ count 0 ∷ count 7 ∷ []) (state.Fault 4 fault.Index)
  pub not_made_at_the_store : Gives storing_nowhere 100 (count 1 ∷ count 2 ∷ []) (state.Fault 7 fault.Unset)
  -- an element that is read: the index, whether it is outside, whether it has a value
  pub index_of_a_reading : Gives (reading 4) 100 (count 4 ∷ []) (state.Fault 4 fault.Index)
  pub no_element_value : Gives (reading 1) 100 (count 1 ∷ []) (state.Fault 4 fault.Unset)
  -- for a `рез` or `аргрез` argument it is found at the call, before the next argument; `аргрез` reads its value then
  pub index_of_a_place : Gives (fixing Res) 100 [] (state.Fault 4 fault.Index)
  pub index_of_a_read_place : Gives (fixing ArgRes) 100 [] (state.Fault 4 fault.Index)
  -- `ввод`: the indexes, the next input, the store, target by target
  pub inputs : GivesOn (value.Whole (pos 2) ∷ value.Whole (pos 8) ∷ []) taking 100 (count 2 ∷ count 8 ∷ []) state.Done
  pub no_first_input : GivesOn [] taking 100 [] (state.Fault 5 fault.NoInput)
  pub no_input : GivesOn (value.Whole (pos 4) ∷ []) taking 100 (count 4 ∷ []) (state.Fault 5 fault.NoInput)
  pub input_before_the_store : GivesOn (value.Whole (pos 4) ∷ value.Whole (pos 8) ∷ []) taking 100 (count 4 ∷ []) (state.Fault 5 fault.Index)
  pub other_kind : GivesOn (value.Truth true ∷ []) taking 100 [] (state.Fault 5 fault.InputType)
  -- `вывод` goes item by item
  pub item_by_item : Gives (deciding (num 1) faulty (num 2)) 2 (count 1 ∷ []) (state.Fault 3 fault.Divisor)
