-- Arguments of a call: their places, and the hidden slots that keep the indexes of an element.
use Rattle.std.specs.Prelude.{ℕ, zero, suc, ◌+◌, List, [], ◌∷◌, ◌++◌, map, Option, Some, None, if◌then◌else◌}
use Rattle.kumir_tree.specs.declared.kind.Mode.{Mode}
use Rattle.kumir_tree.specs.declared.kind.Mode.TheVariants.{Arg, Res, ArgRes}
use Rattle.kumir_tree.specs.Tree.{Tree, Element, Trees, no_trees, ◌then◌, count}
use Rattle.kumir_tree.specs.Part.{Limits, Formal}
use Rattle.kumir_meaning.specs.Store.{Local}
use Rattle.kumir_meaning.specs.Expressions.{name_of}
use Rattle.stack_code.specs.declared.instruction.CallPlace.{CallPlace}
use Rattle.stack_code.specs.declared.instruction.CallPlace.TheVariants as place
use Rattle.stack_code.specs.declared.instruction.Instruction.TheVariants as instruction
use Rattle.kumir_compiler.specs.Sites.{Code, Site, slot, hidden, on}

-- so many values are popped into the slots from this one on, the last value first
abbrev pub keep_code : ℕ → ℕ → Site → Code
keep_code zero x t = []
keep_code (suc m) x t = on t (instruction.Store x) ∷ keep_code m (suc x) t

-- the slots of the indexes that are kept so, in the order of the indexes; `at` are those of the indexes behind them
abbrev pub kept_at : ℕ → ℕ → List ℕ → List ℕ
kept_at zero x at = at
kept_at (suc m) x at = kept_at m (suc x) (x ∷ at)

-- how many hidden slots the place of an argument keeps
abbrev pub tree_keeps : Tree → ℕ
tree_keeps (Element x es) = count es
tree_keeps e = 0

abbrev pub keeps : Option Limits → Mode → Tree → ℕ
keeps (Some limits) mode e = 0
keeps None Arg e = 0
keeps None Res e = tree_keeps e
keeps None ArgRes e = tree_keeps e

abbrev pub tree_place : Tree → Site → ℕ → CallPlace
tree_place (Element x es) t d = place.Element (slot t (Local x)) (kept_at (count es) (hidden t d) [])
tree_place e t d = place.Slot (slot t (Local (name_of e)))

abbrev pub call_place : Option Limits → Mode → Tree → Site → ℕ → CallPlace
call_place (Some limits) mode e t d = place.Table (slot t (Local (name_of e)))
call_place None Arg e t d = place.Value
call_place None Res e t d = tree_place e t d
call_place None ArgRes e t d = tree_place e t d

abbrev pub call_places : Trees → List Formal → Site → ℕ → List CallPlace
call_places no_trees params t d = []
call_places (e then es) [] t d = []
call_places (e then es) (p ∷ params) t d = call_place p.bounds p.mode e t d ∷ call_places es params t (d + keeps p.bounds p.mode e)

-- the value at a place that is fixed
abbrev pub read_code : Tree → Site → ℕ → Code
read_code (Element x es) t d =
    map (λ x. on t (instruction.Load x)) (kept_at (count es) (hidden t d) []) ++ (on t (instruction.Elem (slot t (Local x)) (count es)) ∷ [])
read_code e t d = on t (instruction.Load (slot t (Local (name_of e)))) ∷ []

-- an argument: its value, its place, or both
abbrev pub argument_code : Option Limits → Mode → Code → Code → Code → Code
argument_code (Some limits) mode value place reads = []
argument_code None Arg value place reads = value
argument_code None Res value place reads = place
argument_code None ArgRes value place reads = place ++ reads
