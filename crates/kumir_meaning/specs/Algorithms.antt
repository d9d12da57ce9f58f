-- Algorithms: calls, returns, and the run of a program. docs/LANGUAGE.md, "Meaning", "Calls".
use Rattle.std.specs.Prelude.{ℕ, zero, suc, ◌+◌, false, List, [], ◌∷◌, nat_lt, Option, Some, None, Result, Ok, Err}
use Rattle.kumir_tree.specs.declared.kind.Kind.{Kind}
use Rattle.kumir_tree.specs.declared.kind.Mode.{Mode}
use Rattle.kumir_tree.specs.declared.kind.Mode.TheVariants.{Arg, Res, ArgRes}
use Rattle.kumir_tree.specs.Tree.{Tree}
use Rattle.kumir_tree.specs.Part.{Limits, Formal}
use Rattle.performer_kit.specs.declared.commands.Reply.{Reply}
use Rattle.kumir_values.specs.declared.value.Value.{Value}
use Rattle.kumir_values.specs.declared.value.Value.TheVariants.{Truth}
use Rattle.kumir_values.specs.declared.run_end.RunFault.{RunFault}
use Rattle.kumir_values.specs.declared.run_end.RunFault.TheVariants.{Unset, Depth}
use Rattle.kumir_values.specs.Bounds.{elements}
use Rattle.kumir_names.specs.Variables.{parameters}
use Rattle.kumir_meaning.specs.Program.{Placed, Program}
use Rattle.kumir_meaning.specs.Store.{TheAnswer, Local, Cell, Empty, Has, Holds, TableMap, Store, with_cell, cell_of, value_in, given_back, put, without_values, in_room, fitted}
use Rattle.kumir_meaning.specs.Runs as state
use Rattle.kumir_meaning.specs.Runs.{Trace, Rest, Allowed, usual, stops, unless_fault, choose}
use Rattle.kumir_meaning.specs.Expressions.{Then, ThenValue, Passed, ByValue, ByPlace, ByTable, Enter, Here, on_line, bounds}
use Rattle.kumir_meaning.specs.Statements.{claims, runs}

-- ---- algorithms

-- `дано` and `надо`, each at its line
abbrev pub some_claim : Option (ℕ × Tree) → Here → Then → Then
some_claim None h k s = k s
some_claim (Some c) h k s = claims c.1 (on_line h c.0) k s

-- the formal bounds of each table equal those that it has
abbrev pub fits : List Formal → Here → Then → Then
fits [] h k s = k s
fits (p ∷ params) h k s = fits_one p.bounds (λ s1. fits params h k s1) s
  where
    fits_one : Option Limits → Then → Then
    fits_one None k s = k s
    fits_one (Some limits) k s = bounds limits h (λ bs s1. unless_fault (fitted (s1.cells (Local p.name)) bs) h.line (λ c. k s1)) s

-- the value of `знач` in an algorithm with a kind; another one gives nothing
abbrev pub gives : Option Kind → Store → Result Value RunFault
gives None s = Ok (Truth false)
gives (Some kind) s = given_back (s.cells TheAnswer)

-- the return: `надо`, then the value, with the line of `кон`
abbrev pub returns : Placed → Here → ThenValue → Then
returns a h k s = some_claim a.algorithm.wanted h (λ s1. unless_fault (gives a.algorithm.head.gives s1) (a.first + a.algorithm.close) (λ v. k v s1)) s

-- an algorithm whose store is ready: formal bounds, `дано`, body, return; `выход` outside of loops returns too
abbrev pub proceeds : Placed → Here → ℕ → ThenValue → Then
proceeds a h n k =
    fits a.algorithm.head.params h (some_claim a.algorithm.given h (runs a.algorithm.body h n (returns a h k) (returns a h k)))

-- where the header of an algorithm stands: its parameters are the local names
abbrev pub at_header : Program → ℕ → Enter → Placed → Here
at_header p room enter a =
    record {
      program = p;
      first = a.first;
      line = a.first + a.algorithm.head.line;
      locals = parameters a.algorithm.head.params;
      room = room;
      enter = enter;
    }

-- ---- calls

-- what a parameter begins with, where these elements are in use: a copy of a table, or for `рез` one without values
abbrev pub table_for : Mode → TableMap → Cell
table_for Arg t = Holds t
table_for ArgRes t = Holds t
table_for Res t = without_values t.kind t.bounds

-- a table for a parameter: `unset` first, then `elements`
abbrev pub receives_table : ℕ → Formal → Cell → Store → Result Store RunFault
receives_table room p Empty g = Err Unset
receives_table room p (Has v) g = Err Unset
receives_table room p (Holds t) g = in_room room g.used (elements t.bounds) (with_cell g (Local p.name) (table_for p.mode t))

abbrev pub receives : ℕ → Formal → Passed → Store → Store → Result Store RunFault
receives room p (ByValue v) s g = Ok (with_cell g (Local p.name) (Has v))
receives room p (ByPlace spot v) s g = Ok (with_cell g (Local p.name) (cell_of v))
receives room p (ByTable x) s g = receives_table room p (s.cells (Local x)) g

-- the parameters in order: s is the caller's store, and what goes on takes that of the algorithm
abbrev pub receives_all : ℕ → List Formal → List Passed → ℕ → Store → Then → Then
receives_all room [] passed line s k g = k g
receives_all room (p ∷ params) [] line s k g = k g
receives_all room (p ∷ params) (a ∷ passed) line s k g =
    unless_fault (receives room p a s g) line (λ g1. receives_all room params passed line s k g1)

-- the store of an algorithm that begins, where so many elements are in use
abbrev pub fresh : ℕ → Store
fresh used = record { cells = λ x. Empty; used = used }

-- `рез` and `аргрез` are copied out to the places fixed at the call, with or without a value
abbrev pub back_to : Passed → Cell → Store → Store
back_to (ByValue v) c s = s
back_to (ByPlace spot v) c s = put spot (value_in c) s
back_to (ByTable x) c s = with_cell s (Local x) c

abbrev pub by_mode : Mode → Store → Store → Store
by_mode Arg kept changed = kept
by_mode Res kept changed = changed
by_mode ArgRes kept changed = changed

-- in the order of the parameters; the elements in use are the caller's again
abbrev pub copied_out : List Formal → List Passed → Store → Store → Store
copied_out [] passed g s = s
copied_out (p ∷ params) [] g s = s
copied_out (p ∷ params) (a ∷ passed) g s =
    copied_out params passed g (by_mode p.mode s (back_to a (g.cells (Local p.name)) s))

-- calls where `depth` algorithms are entered, at most n of them inside one another, since each takes a step:
-- the depth, the tables, and then the algorithm itself; at its return the copying out
abbrev pub enters : Program → Allowed → ℕ → ℕ → Enter
enters p allowed zero depth line a passed s k = stops state.Going
enters p allowed (suc n) depth line a passed s k =
    choose (nat_lt depth allowed.depth)
    (λ s1. receives_all allowed.room a.algorithm.head.params passed line s1
    (proceeds a (at_header p allowed.room (enters p allowed n (suc depth)) a) n (λ v g. k v (copied_out a.algorithm.head.params passed g s1)))
    (fresh s1.used))
    (λ s1. stops (state.Fault line Depth)) s

-- the first algorithm, which is entered without a step; its value is dropped
abbrev pub starts : List Placed → Program → Allowed → ℕ → Rest
starts [] p allowed n = stops state.Done
starts (a ∷ more) p allowed n = proceeds a (at_header p allowed.room (enters p allowed n 1) a) n (λ v g. stops state.Done) (fresh 0)

-- The acts and the state of a program within n steps, on these inputs and the Robot's replies. The steps count the turns of each loop
-- and the calls inside one another too: each takes a step, so that this counter never runs out before the steps (`AnyCounter` in Laws).
unfoldable pub run_within : Allowed → Program → List Value → List Reply → ℕ → Trace
run_within allowed p inputs replies n = starts p.algorithms p allowed n n inputs replies

unfoldable pub run : Program → List Value → List Reply → ℕ → Trace
run p inputs replies n = run_within usual p inputs replies n
