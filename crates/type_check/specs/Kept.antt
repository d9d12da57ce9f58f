-- Faults in the order of their lines and codes, and the first of each line.
use Rattle.std.specs.Prelude.{ℕ, nat_lt, Bool, if◌then◌else◌, List, [], ◌∷◌, ◌++◌}
use Rattle.std.specs.List.{list_all}
use Rattle.std.specs.declared.cmp.Ordering.{Ordering}
use Rattle.std.specs.Ordering.{nat_cmp, ordering_then}
use Rattle.kumir_tree.specs.declared.unit.Fault.{Fault}
use Rattle.margins.specs.declared.margin.Mark.{Mark}

abbrev pub pair_of : Fault → ℕ × ℕ
pair_of f = (f.line, f.code)

-- by the lines, and on one line by the codes
abbrev pub pair_order : ℕ × ℕ → ℕ × ℕ → Ordering
pair_order p q = ordering_then (nat_cmp p.0 q.0) (nat_cmp p.1 q.1)

abbrev pub mark_at : ℕ × ℕ → Mark
mark_at q = record { line = q.0; code = q.1 }

abbrev pub all_before : List Mark → ℕ → Bool
all_before marks line = list_all (λ m. nat_lt m.line line) marks

-- the marks, and those of pairs that stand behind each mark
abbrev pub kept : List Mark → List (ℕ × ℕ) → List Mark
kept marks [] = marks
kept marks (q ∷ more) = kept (if all_before marks q.0 then marks ++ mark_at q ∷ [] else marks) more
