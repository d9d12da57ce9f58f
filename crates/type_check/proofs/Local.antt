-- Local names and the map that holds them.
use Rattle.std.proofs.Common.{◌≡◌, ℕ, nat_eq, true, false, cond, List, [], ◌∷◌, ◌++◌, Some, is_some, refl, sym, ap, ◌∙◌}
use Rattle.std.specs.Map.{lookup}
use Rattle.std.specs.Cmp.Lexicographic.{pointwise}
use Rattle.indexmap.specs.IndexMap.{insert_entry}
use Rattle.kumir_names.specs.declared.variable.Variable.{Variable}
use Rattle.kumir_names.specs.Variables.{Names}
use Rattle.type_check.specs.Checked.{is_local, with_local}

put_behind : (x : List ℕ) (v : Variable) (es : Names) → is_some (lookup (pointwise nat_eq x) es) ≡ false → insert_entry (pointwise nat_eq) es x v ≡ es ++ (x, v) ∷ []
put_behind x v [] e = refl
put_behind x v (y ∷ es) e =
    elim (pointwise nat_eq x y.0) as (λ b. is_some (cond b (Some y.1) (lookup (pointwise nat_eq x) es)) ≡ false → cond b ((y.0, v) ∷ es) (y ∷ insert_entry (pointwise nat_eq) es x v) ≡ y ∷ (es ++ (x, v) ∷ [])) [
      | true ↦ λ found. cc
      | false ↦ λ none. ap (λ l. y ∷ l) (put_behind x v es none)
    ] e

pub new_name : (x : List ℕ) (v : Variable) (es fs : Names) → fs ≡ insert_entry (pointwise nat_eq) es x v → is_local es x ≡ false → fs ≡ with_local es (x, v)
new_name x v es fs put none = put ∙ put_behind x v es none ∙ sym (ap (λ b. cond b es (es ++ (x, v) ∷ [])) none)
