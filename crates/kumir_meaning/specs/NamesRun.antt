-- Computed runs for docs/LANGUAGE.md, "Meaning", "Names".
use Rattle.std.specs.Prelude.{ℕ, [], ◌∷◌, codes, Some, None, false}
use Rattle.kumir_tree.specs.declared.kind.Kind.TheVariants as kind
use Rattle.kumir_tree.specs.declared.kind.Op.TheVariants as op
use Rattle.kumir_tree.specs.Tree.{Truth, Binary}
use Rattle.kumir_tree.specs.Part.{Tables}
use Rattle.kumir_tree.specs.Program.{Declare, Times, Count, Choose, done}
use Rattle.kumir_values.specs.declared.run_end.RunFault.TheVariants as fault
use Rattle.kumir_meaning.specs.Program.{Program}
use Rattle.kumir_meaning.specs.Runs as state
use Rattle.kumir_meaning.specs.Written.{num, var, at, to, to_at, body, whole, table, assign, answer, print, say, main, algorithm, shown, show, program, count, text, Gives, GivesWithin}

-- `алг`, `нач`, `вывод g`, `цел g`, `g := 5`, `вывод g`, `кон`, `алг цел g`, `нач`, `знач := 4`, `кон`
abbrev pub hiding : Program
hiding = program (
    main (
    (2, print (var (codes "g")))
    ∷ (3, whole (codes "g"))
    ∷ (4, assign (to (codes "g")) (num 5))
    ∷ (5, print (var (codes "g")))
    ∷ []
    ) 6
    ∷ algorithm 8 (codes "g") (Some kind.Whole) [] ((2, answer (num 4)) ∷ []) 3
    ∷ []
    )

-- `алг`, `нач`, `если нет то`, `цел g`, `все`, `вывод g`, `кон`, `алг цел g`, `нач`, `знач := 4`, `кон`
abbrev pub hiding_in_a_block : Program
hiding_in_a_block = program (
    main (
    (2, Choose (Truth false) (body ((3, whole (codes "g")) ∷ [])) done)
    ∷ (5, print (var (codes "g")))
    ∷ []
    ) 6
    ∷ algorithm 8 (codes "g") (Some kind.Whole) [] ((2, answer (num 4)) ∷ []) 3
    ∷ []
    )

-- `алг`, `нач`, `нц для i от 1 до 2`, `цел x`, `если i = 2`, `то вывод x`, `все`, `x := 5`, `кц`, `кон`, where `цел i` stands before
abbrev pub redeclaring : Program
redeclaring = program (main (
    (2, whole (codes "i"))
    ∷ (
      3,
      Count (codes "i") (num 1) (num 2) None (body (
          (4, whole (codes "x"))
          ∷ (5, Choose (Binary op.Equal (var (codes "i")) (num 2)) (body ((6, print (var (codes "x"))) ∷ [])) done)
          ∷ (8, assign (to (codes "x")) (num 5))
          ∷ []
          )),
    )
    ∷ []
    ) 10 ∷ [])

-- `алг`, `нач`, `цел таб a[1:2], b[1:ф(N)]`, `b[N] := 4`, `вывод b[N]`, `кон`, and `ф`
abbrev pub declaring_both : ℕ → Program
declaring_both n = program (
    main (
    (2, Declare (Tables kind.Whole ((codes "a", (num 1, num 2) ∷ []) ∷ (codes "b", (num 1, show (num n)) ∷ []) ∷ [])))
    ∷ (3, assign (to_at (codes "b") (num n)) (num 4))
    ∷ (4, print (at (codes "b") (num n)))
    ∷ []
    ) 5
    ∷ shown 7
    ∷ []
    )

-- `алг`, `нач`, `цел таб a[1:2, LOW:3]`, `вывод "ok"`, `кон`
abbrev pub two_dimensions : ℕ → Program
two_dimensions low = program (main (
    (2, Declare (Tables kind.Whole ((codes "a", (num 1, num 2) ∷ (num low, num 3) ∷ []) ∷ [])))
    ∷ (3, say (codes "ok"))
    ∷ []
    ) 4 ∷ [])

-- `алг`, `нач`, `нц 2 раз`, `цел таб a[1:N]`, `кц`, `вывод "ok"`, `кон`
abbrev pub remaking : ℕ → Program
remaking n = program (main (
    (2, Times (num 2) (body ((3, table (codes "a") (num 1) (num n)) ∷ [])))
    ∷ (5, say (codes "ok"))
    ∷ []
    ) 6 ∷ [])

-- `алг`, `нач`, `нц для i от 1 до 2`, `цел таб a[1:3]`, `если i = 2`, `то вывод a[1]`, `все`, `a[1] := 5`, `кц`, `кон`, where `цел i` stands before
abbrev pub remaking_values : Program
remaking_values = program (main (
    (2, whole (codes "i"))
    ∷ (
      3,
      Count (codes "i") (num 1) (num 2) None (body (
          (4, table (codes "a") (num 1) (num 3))
          ∷ (5, Choose (Binary op.Equal (var (codes "i")) (num 2)) (body ((6, print (at (codes "a") (num 1))) ∷ [])) done)
          ∷ (8, assign (to_at (codes "a") (num 1)) (num 5))
          ∷ []
          )),
    )
    ∷ []
    ) 10 ∷ [])

pub record NamesRun : Type 0 where
  -- an algorithm before the declaration of the name, the variable behind it, whatever the blocks
  pub hidden : Gives hiding 100 (count 4 ∷ count 5 ∷ []) state.Done
  pub hidden_whatever_the_blocks : Gives hiding_in_a_block 100 [] (state.Fault 6 fault.Unset)
  -- a declaration takes the values of its scalars away
  pub values_taken_away : Gives redeclaring 100 [] (state.Fault 7 fault.Unset)
  -- the tables of a declaration are made one after the other, each after its own bounds
  pub both_made : GivesWithin 3 5 (declaring_both 3) 100 (count 3 ∷ count 4 ∷ []) state.Done
  pub no_room_for_the_second : GivesWithin 3 4 (declaring_both 3) 100 (count 3 ∷ []) (state.Fault 3 fault.Elements)
  pub no_room_for_the_first : GivesWithin 3 1 (declaring_both 3) 100 [] (state.Fault 3 fault.Elements)
  pub bounds_of_the_second : GivesWithin 3 5 (declaring_both 0) 100 (count 0 ∷ []) (state.Fault 3 fault.Bounds)
  -- two dimensions: the elements of both count, and each has its bounds
  pub six_elements : GivesWithin 3 6 (two_dimensions 1) 2 (text (codes "ok") ∷ []) state.Done
  pub room_for_five : GivesWithin 3 5 (two_dimensions 1) 2 [] (state.Fault 3 fault.Elements)
  pub one_of_each : GivesWithin 3 2 (two_dimensions 3) 2 (text (codes "ok") ∷ []) state.Done
  -- first `bounds`, then its former elements no longer count, then `elements`
  pub bounds_first : GivesWithin 3 0 (two_dimensions 4) 2 [] (state.Fault 3 fault.Bounds)
  pub no_bounds : Gives (remaking 0) 7 [] (state.Fault 4 fault.Bounds)
  pub made_anew : GivesWithin 3 5 (remaking 5) 7 (text (codes "ok") ∷ []) state.Done
  pub no_room : GivesWithin 3 5 (remaking 6) 7 [] (state.Fault 4 fault.Elements)
  pub made_without_values : Gives remaking_values 100 [] (state.Fault 7 fault.Unset)
