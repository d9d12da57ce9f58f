-- What the faults of an algorithm depend on, what the form of an expression tells, and how many margins there are.
use Rattle.std.specs.Prelude.{◌≡◌, ℕ, List, Option, Some}
use Rattle.std.specs.List.{AllByRecursion}
use Rattle.kumir_tree.specs.declared.kind.Kind.{Kind}
use Rattle.kumir_tree.specs.declared.unit.Fault.{Fault}
use Rattle.kumir_tree.specs.Tree.{Tree}
use Rattle.kumir_tree.specs.Unit.{Algorithm}
use Rattle.margins.specs.declared.margin.Mark.{Mark}
use Rattle.kumir_tree.specs.Part.{Head}
use Rattle.kumir_names.specs.Callees.{Callee}
use Rattle.type_check.specs.Kinds.{Among, kind_of, form_kind}
use Rattle.type_check.specs.Checked.{asked, unit_faults}
use Rattle.type_check.specs.Margin.{IsMarginOf}

-- where two look-ups answer alike for each name that an algorithm asks for, they give it the same faults
abbrev pub AsksForAll : Type 0
AsksForAll = (a : Algorithm) (find other : List ℕ → Option (Callee Head)) → AllByRecursion (λ x. find x ≡ other x) (asked a) → unit_faults find a ≡ unit_faults other a

-- where an expression has a kind, its form tells it
abbrev pub FormTellsKind : Type 0
FormTellsKind = (s : Among) (e : Tree) (k : Kind) → kind_of s e ≡ Some k → form_kind s e ≡ Some k

-- each list of faults has a margin
abbrev pub EachHasMargin : Type 0
EachHasMargin = (faults : List Fault) → (marks : List Mark) × IsMarginOf faults marks

-- two margins of the same faults are equal
abbrev pub HasOneMargin : Type 0
HasOneMargin = (faults : List Fault) (a b : List Mark) → IsMarginOf faults a → IsMarginOf faults b → a ≡ b
