-- Computed runs for docs/LANGUAGE.md, "Values".
use Rattle.std.specs.Prelude.{List, [], ◌∷◌, codes, negsuc, true, false}
use Rattle.kumir_tree.specs.declared.kind.Op.TheVariants as op
use Rattle.kumir_tree.specs.Tree.{Tree, Truth, Binary}
use Rattle.kumir_tree.specs.Part.{Shown, ShowValue, ShowLine}
use Rattle.kumir_tree.specs.Program.{Output}
use Rattle.kumir_values.specs.declared.run_end.RunFault.TheVariants as fault
use Rattle.kumir_meaning.specs.Program.{Program}
use Rattle.kumir_meaning.specs.Runs as state
use Rattle.kumir_meaning.specs.Written.{num, minus, call, print, main, program, number, count, text, line_feed, Gives}

-- `алг`, `нач`, `вывод E1, ..`, `вывод E2`, `кон`
abbrev pub printing : List Shown → Tree → Program
printing items e = program (main ((2, Output items) ∷ (3, print e) ∷ []) 4 ∷ [])

-- `алг`, `нач`, `вывод E`, `кон`
abbrev pub evaluating : Tree → Program
evaluating e = program (main ((2, print e) ∷ []) 3 ∷ [])

abbrev pub lowest : Tree
lowest = Binary op.Minus (minus 2147483647) (num 1)

abbrev quotient : Tree → Tree → Shown
quotient a b = ShowValue (call (codes "div") (a ∷ b ∷ []))

abbrev remainder : Tree → Tree → Shown
remainder a b = ShowValue (call (codes "mod") (a ∷ b ∷ []))

pub record ValuesRun : Type 0 where
  -- each result outside of the range is a fault, also one in between
  pub lowest_number : Gives (evaluating lowest) 1 (number (negsuc 2147483647) ∷ []) state.Done
  pub below_the_lowest : Gives (evaluating (Binary op.Minus lowest (num 1))) 1 [] (state.Fault 3 fault.Range)
  pub passes_the_range : Gives (evaluating (Binary op.Minus (Binary op.Plus (num 2147483647) (num 1)) (num 1))) 1 [] (state.Fault 3 fault.Range)
  pub product : Gives (evaluating (Binary op.Times (num 65536) (num 32768))) 1 [] (state.Fault 3 fault.Range)
  -- `mod` is at least 0 and below the absolute value of the divisor
  pub euclid : Gives (printing
      (quotient (minus 7) (num 3) ∷ ShowLine ∷ remainder (minus 7) (num 3) ∷ ShowLine ∷ quotient (num 7) (minus 3) ∷ ShowLine ∷ remainder (num 7) (minus 3) ∷ [])
      (call (codes "div") (minus 7 ∷ minus 3 ∷ []))) 2
      (number (negsuc 2) ∷ line_feed ∷ count 2 ∷ line_feed ∷ number (negsuc 1) ∷ line_feed ∷ count 1 ∷ count 3 ∷ []) state.Done
  pub no_divisor : Gives (printing (remainder (num 7) (num 1) ∷ []) (call (codes "mod") (num 7 ∷ num 0 ∷ []))) 2 (count 0 ∷ []) (state.Fault 4 fault.Divisor)
  pub quotient_out_of_range : Gives (evaluating (call (codes "div") (lowest ∷ minus 1 ∷ []))) 1 [] (state.Fault 3 fault.Range)
  -- powers
  pub zero_to_zero : Gives (evaluating (Binary op.Power (num 0) (num 0))) 1 (count 1 ∷ []) state.Done
  pub power : Gives (printing (ShowValue (Binary op.Power (minus 2) (num 31)) ∷ []) (Binary op.Power (num 2) (num 31))) 2
      (number (negsuc 2147483647) ∷ []) (state.Fault 4 fault.Range)
  pub negative_exponent : Gives (evaluating (Binary op.Power (num 2) (minus 1))) 1 [] (state.Fault 3 fault.Exponent)
  pub one_to_a_negative_exponent : Gives (evaluating (Binary op.Power (num 1) (minus 1))) 1 [] (state.Fault 3 fault.Exponent)
  -- `imin`, `imax`, `iabs`
  pub lesser : Gives (printing (ShowValue (call (codes "imin") (num 3 ∷ minus 5 ∷ [])) ∷ []) (call (codes "imin") (minus 5 ∷ num 3 ∷ []))) 2
      (number (negsuc 4) ∷ number (negsuc 4) ∷ []) state.Done
  pub greater : Gives (printing (ShowValue (call (codes "imax") (num 3 ∷ minus 5 ∷ [])) ∷ []) (call (codes "imax") (minus 5 ∷ num 3 ∷ []))) 2
      (count 3 ∷ count 3 ∷ []) state.Done
  pub absolute : Gives (printing (ShowValue (call (codes "iabs") (minus 7 ∷ [])) ∷ []) (call (codes "iabs") (lowest ∷ []))) 2
      (count 7 ∷ []) (state.Fault 4 fault.Range)
  -- how values print
  pub prints : Gives (printing (ShowValue (Truth true) ∷ ShowLine ∷ ShowValue (Truth false) ∷ ShowLine ∷ ShowValue (num 0) ∷ []) (minus 10)) 2
      (text (codes "да") ∷ line_feed ∷ text (codes "нет") ∷ line_feed ∷ count 0 ∷ number (negsuc 9) ∷ []) state.Done
