-- Computed runs for docs/LANGUAGE.md, "Meaning": acts and states, and "Steps".
use Rattle.std.specs.Prelude.{◌≡◌, [], ◌∷◌, codes, pos, negsuc, true, false, Some, None}
use Rattle.kumir_tree.specs.declared.kind.Mode.TheVariants.{Arg}
use Rattle.kumir_tree.specs.declared.kind.Op.TheVariants as op
use Rattle.kumir_tree.specs.Tree.{Tree, Truth, Named, Binary}
use Rattle.kumir_tree.specs.Program.{While, Forever, Until, Select, Quit, Assert, done, no_arms, arm}
use Rattle.performer_kit.specs.declared.commands.RobotCommand.{RobotCommand}
use Rattle.performer_kit.specs.declared.commands.RobotCommand.TheVariants.{Down, Right, Paint, RightFree}
use Rattle.performer_kit.specs.declared.commands.PenCommand.TheVariants.{Lower, By}
use Rattle.performer_kit.specs.declared.commands.Command.TheVariants.{Robot, Pen}
use Rattle.performer_kit.specs.declared.commands.Reply.TheVariants as reply
use Rattle.kumir_values.specs.declared.run_end.RunFault.TheVariants as fault
use Rattle.kumir_meaning.specs.Program.{Program}
use Rattle.kumir_meaning.specs.Runs as state
use Rattle.kumir_meaning.specs.Runs.{Sent}
use Rattle.kumir_meaning.specs.Algorithms.{run}
use Rattle.kumir_meaning.specs.Written.{num, minus, faulty, show, shown, body, whole, invoke, print, say, scalar, claiming, main, algorithm, program, text, count, Gives}

-- ---- acts and states

-- `алг`, `нач`, `нц пока справа свободно`, `закрасить`, `вправо`, `кц`, `вправо`, `кон`, where the text has one line before it
abbrev pub painting : Program
painting = program (claiming 2 None None [] None None (
    (2, While (Named (codes "справа свободно")) (body ((3, invoke (codes "закрасить") []) ∷ (4, invoke (codes "вправо") []) ∷ [])))
    ∷ (6, invoke (codes "вправо") [])
    ∷ []
    ) 7 ∷ [])

-- `алг`, `нач`, `опустить перо`, `вниз`, `сместиться на вектор(1, E)`, `кон`
abbrev pub drawing : Tree → Program
drawing e = program (main (
    (2, invoke (codes "опустить перо") [])
    ∷ (3, invoke (codes "вниз") [])
    ∷ (4, invoke (codes "сместиться на вектор") (num 1 ∷ e ∷ []))
    ∷ []
    ) 5 ∷ [])

-- `алг`, `нач`, `g`, `вывод 1`, `кон`, `алг g`, `надо нет`, `нач`, `стоп`, `кон`
abbrev pub quitting : Program
quitting = program (
    main ((2, invoke (codes "g") []) ∷ (3, print (num 1)) ∷ []) 4
    ∷ claiming 6 (Some (codes "g")) None [] None (Some (1, Truth false)) ((3, Quit) ∷ []) 4
    ∷ []
    )

-- `алг`, `нач`, `утв E`, `кон`
abbrev pub asserting : Tree → Program
asserting e = program (main ((2, Assert e) ∷ []) 3 ∷ [])

abbrev robot : RobotCommand → state.Act
robot c = Sent (Robot c)

pub record StatesRun : Type 0 where
  -- a step of the Robot against a wall ends the run, and the last reply is that of the wall
  pub to_the_wall : run painting []
      (reply.Yes ∷ reply.Done ∷ reply.Done ∷ reply.Yes ∷ reply.Done ∷ reply.Done ∷ reply.No ∷ reply.Wall ∷ []) 100
      ≡ record {
        acts = robot RightFree ∷ robot Paint ∷ robot Right ∷ robot RightFree ∷ robot Paint ∷ robot Right ∷ robot RightFree ∷ robot Right ∷ [];
        state = state.Wall 8;
      }
  -- the reply to the third command is awaited
  pub awaits : run painting [] (reply.Yes ∷ reply.Done ∷ []) 100
      ≡ record { acts = robot RightFree ∷ robot Paint ∷ robot Right ∷ []; state = state.Awaiting }
  -- the Draughtsman's commands await nothing
  pub draws : run (drawing (minus 2)) [] (reply.Done ∷ []) 6
      ≡ record { acts = Sent (Pen Lower) ∷ robot Down ∷ Sent (Pen (By (pos 1) (negsuc 1))) ∷ []; state = state.Done }
  pub one_awaits : run (drawing (minus 2)) [] [] 6 ≡ record { acts = Sent (Pen Lower) ∷ robot Down ∷ []; state = state.Awaiting }
  -- `утв` ends the run where its condition is `нет`; `стоп` in a call ends it, and nothing of the return is done
  pub asserts : Gives (asserting (Truth false)) 1 [] (state.Assert 3)
  pub holds : Gives (asserting (Truth true)) 1 [] state.Done
  pub quits : Gives quitting 3 [] state.Quit

-- ---- steps

-- `алг`, `нач`, `цел x`, `вывод "a"`, `кон`
abbrev pub declaring : Program
declaring = program (main ((2, whole (codes "x")) ∷ (3, say (codes "a")) ∷ []) 4 ∷ [])

-- `алг`, `нач`, `нц пока E`, `кц`, `кон`, and `ф`
abbrev pub testing : Tree → Program
testing e = program (main ((2, While e done) ∷ []) 4 ∷ shown 6 ∷ [])

-- `алг`, `нач`, `нц`, `вывод "a"`, `кц`, `кон`, and the same with `кц при E`
abbrev pub endless : Program
endless = program (main ((2, Forever (body ((3, say (codes "a")) ∷ []))) ∷ []) 5 ∷ [])

abbrev pub repeating : Tree → Program
repeating e = program (main ((2, Until (body ((3, say (codes "a")) ∷ [])) 4 e) ∷ []) 5 ∷ [])

-- `алг`, `дано да`, `надо да`, `нач`, `кон`
abbrev pub claiming_only : Program
claiming_only = program (claiming 1 None None [] (Some (1, Truth true)) (Some (2, Truth true)) [] 4 ∷ [])

-- `алг`, `нач`, `выбор`, `при нет: вывод 1`, `при E: вывод 2`, `иначе вывод 3`, `все`, `кон`
abbrev pub choosing : Tree → Program
choosing e = program (main ((
  2,
  Select
      (arm 3 (Truth false) (body ((3, print (num 1)) ∷ []))
      (arm 4 e (body ((4, print (num 2)) ∷ []))
      no_arms))
      (body ((5, print (num 3)) ∷ [])),
) ∷ []) 7 ∷ [])

-- `алг`, `нач`, `g(E)`, `кон`, `алг g(арг цел n)`, `нач`, `кон`
abbrev pub calling : Tree → Program
calling e = program (main ((2, invoke (codes "g") (e ∷ [])) ∷ []) 3 ∷ algorithm 5 (codes "g") None (scalar Arg (codes "n") ∷ []) [] 2 ∷ [])

pub record StepsRun : Type 0 where
  -- each statement takes one, a declaration too
  pub one_for_each : Gives declaring 2 (text (codes "a") ∷ []) state.Done
  pub a_declaration_too : Gives declaring 1 [] state.Going
  -- each test of a loop, the last one too
  pub last_test : Gives (testing (Truth false)) 2 [] state.Done
  pub test_takes_its_step : Gives (testing (Truth false)) 1 [] state.Going
  pub before_it_is_evaluated : Gives (testing (Binary op.Equal (show (num 1)) (num 1))) 1 [] state.Going
  pub spins : Gives (testing (Truth true)) 100 [] state.Going
  -- each turn of a `нц` without a head; once more at the end of each turn of `кц при`
  pub each_turn : Gives endless 6 (text (codes "a") ∷ text (codes "a") ∷ []) state.Going
  pub at_the_end_of_a_turn : Gives (repeating (Truth true)) 4 (text (codes "a") ∷ []) state.Done
  pub no_step_for_the_end : Gives (repeating (Truth true)) 3 (text (codes "a") ∷ []) state.Going
  pub at_the_end_of_each_turn : Gives (repeating (Truth false)) 6 (text (codes "a") ∷ text (codes "a") ∷ []) state.Going
  -- each call after its arguments, each command after its numbers; a command as a statement takes two
  pub after_its_arguments : Gives (calling faulty) 1 [] (state.Fault 3 fault.Divisor)
  pub call_takes_its_step : Gives (calling (num 1)) 1 [] state.Going
  pub call_takes_one : Gives (calling (num 1)) 2 [] state.Done
  pub after_its_numbers : run (drawing faulty) [] (reply.Done ∷ []) 5
      ≡ record { acts = Sent (Pen Lower) ∷ robot Down ∷ []; state = state.Fault 5 fault.Divisor }
  pub command_takes_two : run (drawing (minus 2)) [] (reply.Done ∷ []) 5
      ≡ record { acts = Sent (Pen Lower) ∷ robot Down ∷ []; state = state.Going }
  pub test_takes_one : run painting [] (reply.Yes ∷ reply.Done ∷ []) 4 ≡ record { acts = robot RightFree ∷ []; state = state.Going }
  -- the begin of the main algorithm, `дано`, `надо` and `при` take none; a run stops only where a step is needed
  pub none_for_claims : Gives claiming_only 0 [] state.Done
  pub none_for_conditions : Gives (choosing (Truth true)) 2 (count 2 ∷ []) state.Done
