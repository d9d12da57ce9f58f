-- Lines whose places are not known yet, as the lines of the definition.
use Rattle.std.specs.Prelude.{◌≡◌, ℕ, ◌+◌, ◌-◌, List, [], ◌∷◌, ◌++◌, length, true, false, Option}
use Rattle.stack_code.specs.declared.instruction.Instruction.{Instruction}
use Rattle.stack_code.specs.declared.instruction.Instruction.TheVariants as instruction
use Rattle.kumir_tree.specs.declared.kind.Kind.{Kind}
use Rattle.kumir_tree.specs.declared.kind.Op.{Op}
use Rattle.kumir_tree.specs.declared.kind.Op.TheVariants as op
use Rattle.kumir_values.specs.declared.value.Value.TheVariants.{Truth}
use Rattle.kumir_compiler.specs.Sites.{Line, Code, Site, on, jump, jump_no}
use Rattle.kumir_compiler.specs.ExpressionCode.{by_kind}
use Rattle.kumir_compiler.specs.declared.pending.Pending.{Pending}
use Rattle.kumir_compiler.specs.declared.pending.Pending.TheVariants as pending
use Rattle.kumir_compiler.specs.declared.pending.PendingLine.{PendingLine}

abbrev pub at_place : Pending → ℕ → Instruction
at_place (pending.Known i) at = i
at_place (pending.Jump n) at = instruction.Jump (at + 1 + n)
at_place (pending.JumpNo n) at = instruction.JumpNo (at + 1 + n)
at_place (pending.Back n) at = instruction.Jump (at - n)
at_place (pending.BackNo n) at = instruction.JumpNo (at - n)
at_place (pending.Next x v n) at = instruction.Next x v (at + 1 + n)

abbrev pub line_of : PendingLine → Line
line_of l at = record { line = l.line; what = at_place l.what at }

abbrev pub code_of : List PendingLine → Code
code_of [] = []
code_of (l ∷ ls) = line_of l ∷ code_of ls

-- what the line with so many behind it does is now this
abbrev pub IsChanged : ℕ → Pending → List PendingLine → List PendingLine → Type 0
IsChanged at what old new = (front : List PendingLine) (l : PendingLine) (behind : List PendingLine) → old ≡ front ++ l ∷ behind → length behind ≡ at
    → new ≡ front ++ record { line = l.line; what = what } ∷ behind

-- an operator's code is its left side, what stands between, its right side, and what stands behind
abbrev pub between_code : Op → ℕ → Site → Code
between_code op.Or n t = jump_no t 2 ∷ on t (instruction.Push (Truth true)) ∷ jump t n ∷ []
between_code op.And n t = jump_no t (n + 1) ∷ []
between_code op.Equal n t = []
between_code op.NotEqual n t = []
between_code op.Less n t = []
between_code op.Greater n t = []
between_code op.LessOrEqual n t = []
between_code op.GreaterOrEqual n t = []
between_code op.Plus n t = []
between_code op.Minus n t = []
between_code op.Times n t = []
between_code op.Power n t = []

abbrev pub behind_code : Op → Option Kind → Site → Code
behind_code op.Or k t = []
behind_code op.And k t = jump t 1 ∷ on t (instruction.Push (Truth false)) ∷ []
behind_code op.Equal k t = on t (by_kind k instruction.Eq instruction.EqTruth) ∷ []
behind_code op.NotEqual k t = on t (by_kind k instruction.Ne instruction.NeTruth) ∷ []
behind_code op.Less k t = on t instruction.Lt ∷ []
behind_code op.Greater k t = on t instruction.Gt ∷ []
behind_code op.LessOrEqual k t = on t instruction.Le ∷ []
behind_code op.GreaterOrEqual k t = on t instruction.Ge ∷ []
behind_code op.Plus k t = on t instruction.Add ∷ []
behind_code op.Minus k t = on t instruction.Sub ∷ []
behind_code op.Times k t = on t instruction.Mul ∷ []
behind_code op.Power k t = on t instruction.Pow ∷ []
