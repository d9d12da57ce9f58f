-- Computed runs for docs/LANGUAGE.md, "Meaning", "Calls".
use Rattle.std.specs.Prelude.{ℕ, List, [], ◌∷◌, codes, Some, None, true, false}
use Rattle.kumir_tree.specs.declared.kind.Kind.TheVariants as kind
use Rattle.kumir_tree.specs.declared.kind.Mode.{Mode}
use Rattle.kumir_tree.specs.declared.kind.Mode.TheVariants.{Arg, Res, ArgRes}
use Rattle.kumir_tree.specs.declared.kind.Op.TheVariants as op
use Rattle.kumir_tree.specs.Tree.{Tree, Truth, Answer, Binary}
use Rattle.kumir_tree.specs.Part.{ShowValue, ShowText, ShowLine}
use Rattle.kumir_tree.specs.Program.{Act, Times, Choose, Output, done}
use Rattle.kumir_values.specs.declared.run_end.RunFault.TheVariants as fault
use Rattle.kumir_meaning.specs.Program.{Program}
use Rattle.kumir_meaning.specs.Runs as state
use Rattle.kumir_meaning.specs.Written.{num, var, at, to, to_at, body, whole, table, assign, answer, invoke, print, say, scalar, array, claiming, main, algorithm, shown, show, faulty, program, count, text, line_feed, Gives, GivesWithin}

-- ---- arguments and their places

-- `алг`, `нач`, `цел таб a[1:2]`, `цел i`, `i := 1; a[1] := 7; a[2] := 9`, `смена(i, a[i], a[i])`, `вывод a[1], ",", a[2], ",", i`, `кон`,
-- `алг смена(аргрез цел k, x, y)`, `нач`, `k := 2; x := 5; y := 6`, `кон`
abbrev pub swapping : Program
swapping = program (
    main (
    (2, table (codes "a") (num 1) (num 2))
    ∷ (3, whole (codes "i"))
    ∷ (4, assign (to (codes "i")) (num 1))
    ∷ (4, assign (to_at (codes "a") (num 1)) (num 7))
    ∷ (4, assign (to_at (codes "a") (num 2)) (num 9))
    ∷ (5, invoke (codes "смена") (var (codes "i") ∷ at (codes "a") (var (codes "i")) ∷ at (codes "a") (var (codes "i")) ∷ []))
    ∷ (6, Output (ShowValue (at (codes "a") (num 1)) ∷ ShowText (codes ",") ∷ ShowValue (at (codes "a") (num 2)) ∷ ShowText (codes ",") ∷ ShowValue (var (codes "i")) ∷ []))
    ∷ []
    ) 7
    ∷ algorithm 9 (codes "смена") None (scalar ArgRes (codes "k") ∷ scalar ArgRes (codes "x") ∷ scalar ArgRes (codes "y") ∷ []) (
    (2, assign (to (codes "k")) (num 2))
    ∷ (2, assign (to (codes "x")) (num 5))
    ∷ (2, assign (to (codes "y")) (num 6))
    ∷ []
    ) 3
    ∷ []
    )

-- `алг`, `нач`, `цел x`, `x := 5`, `f(x)`, `вывод x`, `кон`, `алг f(MODE цел y)`, `нач`, the statement, `кон`
abbrev pub with_scalar : Mode → List Act → Program
with_scalar mode acts = program (
    main (
    (2, whole (codes "x"))
    ∷ (3, assign (to (codes "x")) (num 5))
    ∷ (4, invoke (codes "f") (var (codes "x") ∷ []))
    ∷ (5, print (var (codes "x")))
    ∷ []
    ) 6
    ∷ algorithm 8 (codes "f") None (scalar mode (codes "y") ∷ []) (on_two acts) 3
    ∷ []
    )
  where
    on_two : List Act → List (ℕ × Act)
    on_two [] = []
    on_two (a ∷ more) = (2, a) ∷ on_two more

abbrev pub fill : Act
fill = assign (to (codes "y")) (num 6)

-- `алг`, `нач`, `цел таб a[1:3]`, `a[2] := 8`, `f(a)`, `вывод a[2]`, `кон`, `алг f(MODE цел таб t[LOW:HIGH])`, `нач`, the statements, `кон`, and `ф`
abbrev pub with_table : Mode → Tree → Tree → List Act → Program
with_table mode low high acts = program (
    main (
    (2, table (codes "a") (num 1) (num 3))
    ∷ (3, assign (to_at (codes "a") (num 2)) (num 8))
    ∷ (4, invoke (codes "f") (var (codes "a") ∷ []))
    ∷ (5, print (at (codes "a") (num 2)))
    ∷ []
    ) 6
    ∷ algorithm 8 (codes "f") None (array mode (codes "t") low high ∷ []) (on_two acts) 3
    ∷ shown 12
    ∷ []
    )
  where
    on_two : List Act → List (ℕ × Act)
    on_two [] = []
    on_two (a ∷ more) = (2, a) ∷ on_two more

abbrev pub fill_second : Act
fill_second = assign (to_at (codes "t") (num 2)) (num 6)

abbrev pub print_second : Act
print_second = print (at (codes "t") (num 2))

-- ---- the order of a call

-- `алг а`, `нач`, `а`, `кон`
abbrev pub descending : Program
descending = program (algorithm 1 (codes "а") None [] ((2, invoke (codes "а") []) ∷ []) 3 ∷ [])

-- `алг`, `нач`, `цел таб a[1:3]`, `если нет`, `то цел таб b[1:3]`, `все`, `f(X, Y)`, `кон`, `алг f(MODE цел таб s[1:4], MODE цел таб t[1:4])`, `нач`, `кон`
abbrev pub with_two_tables : Mode → List ℕ → List ℕ → Program
with_two_tables mode x y = program (
    main (
    (2, table (codes "a") (num 1) (num 3))
    ∷ (3, Choose (Truth false) (body ((4, table (codes "b") (num 1) (num 3)) ∷ [])) done)
    ∷ (6, invoke (codes "f") (var x ∷ var y ∷ []))
    ∷ []
    ) 7
    ∷ algorithm 9 (codes "f") None (array mode (codes "s") (num 1) (num 4) ∷ array mode (codes "t") (num 1) (num 4) ∷ []) [] 2
    ∷ []
    )

-- `алг`, `нач`, `цел таб a[1:3]`, `f(ф(N), a)`, `вывод "ok"`, `кон`, `алг f(арг цел n, арг цел таб t[1:ф(n)])`, `дано n > 2`, `нач`, `вывод "in"`, `кон`, and `ф`
abbrev pub giving : ℕ → ℕ → Program
giving high n = program (
    main (
    (2, table (codes "a") (num 1) (num high))
    ∷ (3, invoke (codes "f") (show (num n) ∷ var (codes "a") ∷ []))
    ∷ (4, say (codes "ok"))
    ∷ []
    ) 5
    ∷ claiming 7 (Some (codes "f")) None (scalar Arg (codes "n") ∷ array Arg (codes "t") (num 1) (show (var (codes "n"))) ∷ [])
    (Some (1, Binary op.Greater (var (codes "n")) (num 2))) None ((3, say (codes "in")) ∷ []) 4
    ∷ shown 12
    ∷ []
    )

-- `алг`, `дано нет`, `нач`, `вывод "in"`, `кон`
abbrev pub giving_nothing : Program
giving_nothing = program (claiming 1 None None [] (Some (1, Truth false)) None ((3, say (codes "in")) ∷ []) 4 ∷ [])

-- ---- the order of a return

-- `алг`, `нач`, `вывод f`, `кон`, `алг цел f`, `надо E`, `нач`, the statements, `кон`
abbrev pub returning : Tree → List (ℕ × Act) → Program
returning e statements = program (
    main ((2, print (var (codes "f"))) ∷ []) 3
    ∷ claiming 5 (Some (codes "f")) (Some kind.Whole) [] None (Some (1, e)) statements 4
    ∷ []
    )

-- `алг цел`, `нач`, `вывод 1`, `кон`, with `знач := 2` or without
abbrev pub main_with_kind : List (ℕ × Act) → Program
main_with_kind more = program (claiming 1 None (Some kind.Whole) [] None None ((2, print (num 1)) ∷ more) 4 ∷ [])

-- `алг`, `нач`, `цел таб a[1:3]`, `нц 2 раз`, `f(a)`, `кц`, `вывод "ok"`, `кон`, `алг f(арг цел таб t[1:3])`, `нач`, `цел таб u[1:N]`, `кон`
abbrev pub repeating : ℕ → Program
repeating n = program (
    main (
    (2, table (codes "a") (num 1) (num 3))
    ∷ (3, Times (num 2) (body ((4, invoke (codes "f") (var (codes "a") ∷ [])) ∷ [])))
    ∷ (6, say (codes "ok"))
    ∷ []
    ) 7
    ∷ algorithm 9 (codes "f") None (array Arg (codes "t") (num 1) (num 3) ∷ []) ((2, table (codes "u") (num 1) (num n)) ∷ []) 3
    ∷ []
    )

-- `алг`, `нач`, `вывод ф(12), нс, ф(13)`, `кон`, `алг цел ф(арг цел n)`, `нач`,
-- `если n = 0 то знач := 1 иначе знач := n * ф(n - 1) все`, `кон`
abbrev pub factorials : Program
factorials = program (
    main ((2, Output (ShowValue (show (num 12)) ∷ ShowLine ∷ ShowValue (show (num 13)) ∷ [])) ∷ []) 3
    ∷ algorithm 5 (codes "ф") (Some kind.Whole) (scalar Arg (codes "n") ∷ []) ((
      2,
      Choose (Binary op.Equal (var (codes "n")) (num 0))
          (body ((2, answer (num 1)) ∷ []))
          (body ((2, answer (Binary op.Times (var (codes "n")) (show (Binary op.Minus (var (codes "n")) (num 1))))) ∷ [])),
    )
    ∷ []
    ) 3
    ∷ []
    )

pub record CallsRun : Type 0 where
  -- the indexes of a place are evaluated once, at the call; copied out in the order of the parameters, the last copy stays
  pub fixed_places : Gives swapping 100 (count 6 ∷ text (codes ",") ∷ count 9 ∷ text (codes ",") ∷ count 2 ∷ []) state.Done
  -- `арг`: what is done to it is not copied out
  pub arg_scalar : Gives (with_scalar Arg (fill ∷ [])) 100 (count 5 ∷ []) state.Done
  pub arg_table : Gives (with_table Arg (num 1) (num 3) (print_second ∷ fill_second ∷ [])) 100 (count 8 ∷ count 8 ∷ []) state.Done
  -- `рез`: it begins without values, and is copied out with or without them
  pub res_scalar : Gives (with_scalar Res (fill ∷ [])) 100 (count 6 ∷ []) state.Done
  pub res_scalar_begins : Gives (with_scalar Res (print (var (codes "y")) ∷ [])) 100 [] (state.Fault 10 fault.Unset)
  pub res_scalar_without_value : Gives (with_scalar Res (say (codes "in") ∷ [])) 100 (text (codes "in") ∷ []) (state.Fault 6 fault.Unset)
  pub res_table : Gives (with_table Res (num 1) (num 3) (fill_second ∷ [])) 100 (count 6 ∷ []) state.Done
  pub res_table_begins : Gives (with_table Res (num 1) (num 3) (print_second ∷ [])) 100 [] (state.Fault 10 fault.Unset)
  pub res_table_without_value : Gives (with_table Res (num 1) (num 3) (say (codes "in") ∷ [])) 100 (text (codes "in") ∷ []) (state.Fault 6 fault.Unset)
  -- `аргрез`: it begins with the values and is copied out
  pub argres_scalar : Gives (with_scalar ArgRes (print (var (codes "y")) ∷ fill ∷ [])) 100 (count 5 ∷ count 6 ∷ []) state.Done
  pub argres_table : Gives (with_table ArgRes (num 1) (num 3) (print_second ∷ fill_second ∷ [])) 100 (count 8 ∷ count 6 ∷ []) state.Done
  -- then the step, and the depth: four steps enter two more, the call of a fourth faults after its step
  pub depth : GivesWithin 3 0 descending 6 [] (state.Fault 3 fault.Depth)
  pub depth_after_its_step : GivesWithin 3 0 descending 5 [] state.Going
  pub usual_depth : Gives descending 2000 [] (state.Fault 3 fault.Depth)
  pub depth_before_the_tables : GivesWithin 1 3 (with_two_tables Arg (codes "b") (codes "a")) 100 [] (state.Fault 7 fault.Depth)
  -- then the tables in the order of the parameters: `unset`, then `elements`; the copy counts beside the table, a `рез` table too
  pub unset_first : GivesWithin 2 3 (with_two_tables Arg (codes "b") (codes "a")) 100 [] (state.Fault 7 fault.Unset)
  pub elements_of_the_first : GivesWithin 2 5 (with_two_tables Arg (codes "a") (codes "b")) 100 [] (state.Fault 7 fault.Elements)
  pub unset_of_the_second : GivesWithin 2 6 (with_two_tables Arg (codes "a") (codes "b")) 100 [] (state.Fault 7 fault.Unset)
  pub elements_of_the_second : GivesWithin 2 8 (with_two_tables Arg (codes "a") (codes "a")) 100 [] (state.Fault 7 fault.Elements)
  pub elements_of_a_result : GivesWithin 2 8 (with_two_tables Res (codes "a") (codes "a")) 100 [] (state.Fault 7 fault.Elements)
  pub room_for_the_copy : GivesWithin 2 6 (with_table Arg (num 1) (num 3) []) 100 (count 8 ∷ []) state.Done
  -- then the formal bounds, at the line of the header, with their own calls and faults
  pub bounds_after_all_tables : GivesWithin 2 9 (with_two_tables Arg (codes "a") (codes "a")) 100 [] (state.Fault 9 fault.Bounds)
  pub other_bounds : Gives (with_table Arg (num 1) (num 2) []) 100 [] (state.Fault 8 fault.Bounds)
  pub bounds_of_a_result : Gives (with_table Res (num 0) (num 2) []) 100 [] (state.Fault 8 fault.Bounds)
  pub call_within_bounds : Gives (with_table Arg (show (num 1)) (show (num 3)) []) 100 (count 1 ∷ count 3 ∷ count 8 ∷ []) state.Done
  pub steps_within_bounds : Gives (with_table Arg (show (num 1)) (show (num 3)) []) 6 (count 1 ∷ []) state.Going
  pub fault_within_bounds : Gives (with_table Arg (num 1) faulty []) 100 [] (state.Fault 8 fault.Divisor)
  -- then `дано`, then the body
  pub given : Gives (giving 3 3) 100 (count 3 ∷ count 3 ∷ text (codes "in") ∷ text (codes "ok") ∷ []) state.Done
  pub not_given : Gives (giving 2 2) 100 (count 2 ∷ count 2 ∷ []) (state.Assert 8)
  pub bounds_before_given : Gives (giving 3 2) 100 (count 2 ∷ count 2 ∷ []) (state.Fault 7 fault.Bounds)
  pub not_given_to_the_main_one : Gives giving_nothing 0 [] (state.Assert 2)
  -- at the return `надо`, then `no-value` at the line of `кон`
  pub wanted : Gives (returning (Binary op.Equal Answer (num 2)) ((3, answer (num 2)) ∷ [])) 100 (count 2 ∷ []) state.Done
  pub not_wanted : Gives (returning (Binary op.Equal Answer (num 3)) ((3, answer (num 2)) ∷ [])) 100 [] (state.Assert 6)
  pub wanted_first : Gives (returning (Truth false) []) 100 [] (state.Assert 6)
  pub no_value : Gives (returning (Truth true) []) 100 [] (state.Fault 9 fault.NoValue)
  pub no_value_of_the_main_one : Gives (main_with_kind []) 1 (count 1 ∷ []) (state.Fault 5 fault.NoValue)
  pub value_of_the_main_one : Gives (main_with_kind ((3, answer (num 2)) ∷ [])) 2 (count 1 ∷ []) state.Done
  -- the elements in use are the caller's again
  pub elements_again : GivesWithin 2 8 (repeating 2) 100 (text (codes "ok") ∷ []) state.Done
  pub elements_while_it_runs : GivesWithin 2 8 (repeating 3) 100 [] (state.Fault 11 fault.Elements)
  -- a call of itself
  pub factorial : Gives factorials 100 (count 479001600 ∷ line_feed ∷ []) (state.Fault 7 fault.Range)
