-- Computed runs for docs/LANGUAGE.md, "Meaning", "Loops".
use Rattle.std.specs.Prelude.{[], ◌∷◌, codes, ℤ, pos, negsuc, Option, Some, None, false}
use Rattle.kumir_tree.specs.declared.kind.Op.TheVariants as op
use Rattle.kumir_tree.specs.Tree.{Tree, Number, Truth, Binary}
use Rattle.kumir_tree.specs.Part.{ShowValue, ShowLine}
use Rattle.kumir_tree.specs.Program.{Act, Times, While, Count, Forever, Output, Leave, Block}
use Rattle.kumir_values.specs.declared.run_end.RunFault.TheVariants as fault
use Rattle.kumir_meaning.specs.Program.{Program}
use Rattle.kumir_meaning.specs.Runs as state
use Rattle.kumir_meaning.specs.Written.{num, minus, var, to, body, whole, assign, print, say, claiming, main, shown, show, program, number, count, text, line_feed, Gives}

-- `алг`, `нач`, `цел i`, `нц для i от FROM до TO шаг BY`, `вывод i, нс`, `кц`, `кон`
abbrev pub counting : ℤ → ℤ → Option Tree → Program
counting from upto by = program (main (
    (2, whole (codes "i"))
    ∷ (3, Count (codes "i") (Number from) (Number upto) by (body ((4, Output (ShowValue (var (codes "i")) ∷ ShowLine ∷ [])) ∷ [])))
    ∷ []
    ) 6 ∷ [])

-- `алг`, `нач`, `цел i`, a loop on line 4 around `вывод "-"` on line 5, `вывод i`, `кон`, and `ф`
abbrev pub idle : (Block → Act) → Program
idle loop = program (
    main (
    (2, whole (codes "i"))
    ∷ (3, loop (body ((4, say (codes "-")) ∷ [])))
    ∷ (6, print (var (codes "i")))
    ∷ []
    ) 7
    ∷ shown 9
    ∷ []
    )

-- `алг`, `нач`, `цел n`, `n := 2`, `нц n раз`, `вывод n`, `n := 5`, `кц`, `кон`
abbrev pub changing_the_count : Program
changing_the_count = program (main (
    (2, whole (codes "n"))
    ∷ (3, assign (to (codes "n")) (num 2))
    ∷ (4, Times (var (codes "n")) (body ((5, print (var (codes "n"))) ∷ (6, assign (to (codes "n")) (num 5)) ∷ [])))
    ∷ []
    ) 8 ∷ [])

-- `алг`, `нач`, `цел i`, `нц для i от 1 до 3`, `вывод i`, `i := 7`, `кц`, `вывод i`, `кон`
abbrev pub changing_the_variable : Program
changing_the_variable = program (main (
    (2, whole (codes "i"))
    ∷ (3, Count (codes "i") (num 1) (num 3) None (body ((4, print (var (codes "i"))) ∷ (5, assign (to (codes "i")) (num 7)) ∷ [])))
    ∷ (7, print (var (codes "i")))
    ∷ []
    ) 8 ∷ [])

-- `алг`, `нач`, `нц 2 раз`, `нц`, `вывод "a"`, `выход`, `кц`, `вывод "b"`, `кц`, `кон`
abbrev pub leaving : Program
leaving = program (main ((
  2,
  Times (num 2) (body ((3, Forever (body ((4, say (codes "a")) ∷ (5, Leave) ∷ []))) ∷ (7, say (codes "b")) ∷ [])),
) ∷ []) 9 ∷ [])

-- `алг`, `надо 1 = 2`, `нач`, `вывод "а"`, `выход`, `вывод "б"`, `кон`
abbrev pub wanting : Program
wanting = program (
    claiming 1 None None [] None (Some (1, Binary op.Equal (num 1) (num 2))) ((3, say (codes "а")) ∷ (4, Leave) ∷ (5, say (codes "б")) ∷ []) 6 ∷ []
    )

pub record LoopsRun : Type 0 where
  -- `раз` counts its turns before the first; none where the count is below 1
  pub counted_before : Gives changing_the_count 100 (count 2 ∷ count 5 ∷ []) state.Done
  pub two_turns : Gives (idle (Times (num 2))) 8 (text (codes "-") ∷ text (codes "-") ∷ []) (state.Fault 7 fault.Unset)
  pub no_turn_of_none : Gives (idle (Times (num 0))) 4 [] (state.Fault 7 fault.Unset)
  pub no_turn_below_none : Gives (idle (Times (minus 3))) 4 [] (state.Fault 7 fault.Unset)
  pub no_turn_of_while : Gives (idle (While (Truth false))) 4 [] (state.Fault 7 fault.Unset)
  -- `для` evaluates its first number, its last one and the step, once and in this order; without a step it is 1
  pub evaluated_once : Gives (idle (Count (codes "i") (show (num 1)) (show (num 5)) (Some (show (num 2))))) 100
      (count 1 ∷ count 5 ∷ count 2 ∷ text (codes "-") ∷ text (codes "-") ∷ text (codes "-") ∷ count 5 ∷ []) state.Done
  pub without_step : Gives (counting (pos 4) (pos 6) None) 9 (count 4 ∷ line_feed ∷ count 5 ∷ line_feed ∷ count 6 ∷ line_feed ∷ []) state.Done
  pub step_zero : Gives (counting (pos 1) (pos 2) (Some (num 0))) 7 [] (state.Fault 4 fault.StepZero)
  -- a number past the last one, in the direction of the step, ends it
  pub step_up : Gives (counting (pos 1) (pos 6) (Some (num 3))) 7 (count 1 ∷ line_feed ∷ count 4 ∷ line_feed ∷ []) state.Done
  pub step_down : Gives (counting (pos 3) (negsuc 0) (Some (minus 2))) 9
      (count 3 ∷ line_feed ∷ count 1 ∷ line_feed ∷ number (negsuc 0) ∷ line_feed ∷ []) state.Done
  pub no_turn_upwards : Gives (idle (Count (codes "i") (num 2) (num 1) None)) 4 [] (state.Fault 7 fault.Unset)
  pub no_turn_downwards : Gives (idle (Count (codes "i") (num 1) (num 2) (Some (minus 1)))) 4 [] (state.Fault 7 fault.Unset)
  -- bounds at the ends of the range: seven steps, and with six the last test is not made
  pub to_the_end : Gives (counting (pos 2147483646) (pos 2147483647) None) 7
      (count 2147483646 ∷ line_feed ∷ count 2147483647 ∷ line_feed ∷ []) state.Done
  pub one_step_less : Gives (counting (pos 2147483646) (pos 2147483647) None) 6
      (count 2147483646 ∷ line_feed ∷ count 2147483647 ∷ line_feed ∷ []) state.Going
  pub down_to_the_end : Gives (counting (negsuc 2147483646) (negsuc 2147483647) (Some (minus 1))) 7
      (number (negsuc 2147483646) ∷ line_feed ∷ number (negsuc 2147483647) ∷ line_feed ∷ []) state.Done
  pub over_the_end : Gives (counting (pos 2147483640) (pos 2147483647) (Some (num 5))) 7
      (count 2147483640 ∷ line_feed ∷ count 2147483645 ∷ line_feed ∷ []) state.Done
  -- the variable gets its number at the begin of the turn and keeps the last one
  pub last_number : Gives (idle (Count (codes "i") (num 1) (num 6) (Some (num 3)))) 8
      (text (codes "-") ∷ text (codes "-") ∷ count 4 ∷ []) state.Done
  pub number_of_each_turn : Gives changing_the_variable 100 (count 1 ∷ count 2 ∷ count 3 ∷ count 7 ∷ []) state.Done
  -- `выход` leaves the innermost loop, else it returns with all that belongs to a return
  pub innermost : Gives leaving 100 (text (codes "a") ∷ text (codes "b") ∷ text (codes "a") ∷ text (codes "b") ∷ []) state.Done
  pub leaves_the_algorithm : Gives wanting 2 (text (codes "а") ∷ []) (state.Assert 2)
