-- Lines of code, and the sites of the pieces that they come from. docs/LANGUAGE.md, "The code of a program".
-- A piece of code is a list of lines by the place at which each stands. Jumps are counted from their own place, so that code can be joined.
use Rattle.std.specs.Prelude.{ℕ, suc, ◌+◌, ◌-◌, List, [], ◌∷◌, ◌++◌, length, Option, Some, None, if◌then◌else◌}
use Rattle.kumir_tree.specs.declared.kind.Kind.{Kind}
use Rattle.kumir_tree.specs.Part.{Head}
use Rattle.kumir_names.specs.Callees.{BuiltInCall, Called, Callee, PenCall, RobotCall}
use Rattle.kumir_names.specs.Variables.{Names}
use Rattle.kumir_meaning.specs.Program.{Placed, Program, callee_in}
use Rattle.kumir_meaning.specs.Store.{CellName, same_cell_name}
use Rattle.type_check.specs.Kinds.{Among}
use Rattle.stack_code.specs.declared.instruction.Instruction.{Instruction}
use Rattle.stack_code.specs.declared.instruction.Instruction.TheVariants as instruction
use Rattle.stack_code.specs.declared.instruction.CodeLine.{CodeLine}

-- a line by its place
abbrev pub Line : Type 0
Line = ℕ → CodeLine

abbrev pub Code : Type 0
Code = List Line

-- the lines of code that begins at a place
abbrev pub placed : ℕ → Code → List CodeLine
placed at [] = []
placed at (l ∷ ls) = l at ∷ placed (at + 1) ls

-- where a piece stands: the program, the variables that have slots, the kind that the algorithm gives,
-- the first line of its unit, its own line in the text, and the local names there
pub record Site : Type 0 where
  pub program : Program
  pub variables : List CellName
  pub gives : Option Kind
  pub first : ℕ
  pub line : ℕ
  pub locals : Names

-- what is called, as the checks see it: an algorithm by its header
abbrev pub in_checks : Option (Callee Placed) → Option (Callee Head)
in_checks None = None
in_checks (Some (Called a)) = Some (Called a.algorithm.head)
in_checks (Some (BuiltInCall b)) = Some (BuiltInCall b)
in_checks (Some (RobotCall c)) = Some (RobotCall c)
in_checks (Some (PenCall c)) = Some (PenCall c)

-- what an expression there stands among, as the checks see it
abbrev pub among : Site → Among
among t = record { find = λ x. in_checks (callee_in t.program x); gives = t.gives; names = t.locals }

abbrev pub on_line : Site → ℕ → Site
on_line t line = record t { line = t.first + line }

abbrev pub behind : Site → Names → Site
behind t names = record t { locals = t.locals ++ names }

-- ---- slots
abbrev pub position : List CellName → CellName → ℕ
position [] x = 0
position (y ∷ variables) x = if same_cell_name y x then 0 else suc (position variables x)

abbrev pub slot : Site → CellName → ℕ
slot t x = position t.variables x

-- the hidden slots stand behind those of the variables
abbrev pub hidden : Site → ℕ → ℕ
hidden t d = length t.variables + d

-- ---- lines
abbrev pub on : Site → Instruction → Line
on t i at = record { line = t.line; what = i }

-- jumps over so many places, from the next one on, or back over so many, its own not among them
abbrev pub jump : Site → ℕ → Line
jump t n at = on t (instruction.Jump (at + 1 + n)) at

abbrev pub jump_no : Site → ℕ → Line
jump_no t n at = on t (instruction.JumpNo (at + 1 + n)) at

abbrev pub jump_back : Site → ℕ → Line
jump_back t n at = on t (instruction.Jump (at - n)) at

abbrev pub jump_no_back : Site → ℕ → Line
jump_no_back t n at = on t (instruction.JumpNo (at - n)) at

abbrev pub next_turn : Site → ℕ → Option ℕ → ℕ → Line
next_turn t x v n at = on t (instruction.Next x v (at + 1 + n)) at
