-- The map of headers by name and the list of heads answer alike.
use Rattle.std.proofs.Common.{◌≡◌, ℕ, nat_eq, true, false, cond, List, [], ◌∷◌, ◌++◌, Option, Some, None, map, option_map, is_some, refl, sym, ap, subst, ◌∙◌}
use Rattle.std.specs.Borrow.{Bor}
use Rattle.std.specs.List.{AllByRecursion}
use Rattle.std.specs.Map.{lookup}
use Rattle.std.specs.Option.{option_copied}
use Rattle.std.specs.Cmp.Lexicographic.{pointwise}
use Rattle.indexmap.specs.IndexMap.{insert_entry}
use Rattle.kumir_tree.specs.Part.{Head}
use Rattle.kumir_tree.specs.Parts.{head_of, some_head}
use Rattle.kumir_tree.specs.declared.header.Header.{Header}
use Rattle.type_rules.specs.declared.callee.Callee.{Callee}
use Rattle.performer_kit.specs.Commands.{robot_command_named, pen_shape_named}
use Rattle.kumir_names.specs.BuiltIns.{built_in_named}
use Rattle.kumir_names.specs.Callees as names
use Rattle.kumir_names.specs.Callees.{is_named, or_else, if_known}
use Rattle.type_rules.specs.Callees.{head_named, callee, Callees}
use Rattle.type_rules.specs.Headers.{first_headers, values_in, some_head_behind, some_called}

-- each header stands under its name
abbrev pub AreNamed : List (List ℕ × Header) → Type 0
AreNamed es = AllByRecursion (λ e. e.1.name ≡ Some e.0) es

abbrev pub HasNoName : Option Header → Type 0
HasNoName first = AllByRecursion (λ h. h.name ≡ None) (first_headers first)

-- one more entry in front, on both sides
one_more : (name key : List ℕ) (own : Option (List ℕ)) (h : Header) (l : Option Header) (r : Option Head) → own ≡ Some key → some_head l ≡ r → some_head (cond (pointwise nat_eq name key) (Some h) l) ≡ cond (is_named name own) (Some (head_of h)) r
one_more name key own h l r its_name e = rw its_name (elim (pointwise nat_eq name key) as (λ b. some_head (cond b (Some h) l) ≡ cond b (Some (head_of h)) r) [ true ↦ refl | false ↦ e ])

pub named_lookup : (name : List ℕ) (es : List (List ℕ × Header)) → AreNamed es → some_head (lookup (pointwise nat_eq name) es) ≡ head_named name (map head_of (values_in es))
named_lookup name [] named = refl
named_lookup name (e ∷ es) named = one_more name e.0 e.1.name e.1 (lookup (pointwise nat_eq name) es) (head_named name (map head_of (values_in es))) named.0 (named_lookup name es named.1)

-- a header without name is not found
pub past_first : (name : List ℕ) (first : Option Header) (more : List Header) → HasNoName first → head_named name (map head_of (first_headers first ++ more)) ≡ head_named name (map head_of more)
past_first name None more none = refl
past_first name (Some h) more none = unnamed h.name none.0
  where
    unnamed : (own : Option (List ℕ)) → own ≡ None → cond (is_named name own) (Some (head_of h)) (head_named name (map head_of more)) ≡ head_named name (map head_of more)
    unnamed None e = refl
    unnamed (Some x) e = cc

behind_copied : (r : Option (Bor Header)) → some_head_behind r ≡ some_head (option_copied r)
behind_copied None = refl
behind_copied (Some h) = refl

pub algorithm_found : (r : Option (Bor Header)) (name : List ℕ) (first : Option Header) (es : List (List ℕ × Header)) → HasNoName first → AreNamed es
    → option_copied r ≡ lookup (pointwise nat_eq name) es → some_head_behind r ≡ head_named name (map head_of (first_headers first ++ values_in es))
algorithm_found r name first es none named e = behind_copied r ∙ ap some_head e ∙ named_lookup name es named ∙ sym (past_first name first (values_in es) none)

-- a name that is not found is a new key
no_head : (l : Option Header) → some_head l ≡ None → l ≡ None
no_head None e = refl
no_head (Some h) e = cc

is_new_key : (name : List ℕ) (first : Option Header) (es : List (List ℕ × Header)) → HasNoName first → AreNamed es
    → head_named name (map head_of (first_headers first ++ values_in es)) ≡ None → lookup (pointwise nat_eq name) es ≡ None
is_new_key name first es none named e = no_head _ (named_lookup name es named ∙ sym (past_first name first (values_in es) none) ∙ e)

-- so it is put behind the others
put_behind : (name : List ℕ) (h : Header) (es : List (List ℕ × Header)) → lookup (pointwise nat_eq name) es ≡ None → insert_entry (pointwise nat_eq) es name h ≡ es ++ (name, h) ∷ []
put_behind name h [] e = refl
put_behind name h (x ∷ es) e =
    elim (pointwise nat_eq name x.0) as (λ b. cond b (Some x.1) (lookup (pointwise nat_eq name) es) ≡ None → cond b ((x.0, h) ∷ es) (x ∷ insert_entry (pointwise nat_eq) es name h) ≡ x ∷ (es ++ (name, h) ∷ [])) [
      | true ↦ λ found. cc
      | false ↦ λ none. ap (λ l. x ∷ l) (put_behind name h es none)
    ] e

named_more : (es : List (List ℕ × Header)) (name : List ℕ) (h : Header) → AreNamed es → h.name ≡ Some name → AreNamed (es ++ (name, h) ∷ [])
named_more [] name h named e = (e, _)
named_more (x ∷ es) name h named e = (named.0, named_more es name h named.1 e)

values_more : (first : List Header) (es : List (List ℕ × Header)) (name : List ℕ) (h : Header) → first ++ values_in (es ++ (name, h) ∷ []) ≡ (first ++ values_in es) ++ h ∷ []
values_more (x ∷ first) es name h = ap (λ l. x ∷ l) (values_more first es name h)
values_more [] [] name h = refl
values_more [] (e ∷ es) name h = ap (λ l. e.1 ∷ l) (values_more [] es name h)

module _ (first : Option Header) (es fs : List (List ℕ × Header)) (name : List ℕ) (h : Header) (put : fs ≡ insert_entry (pointwise nat_eq) es name h) (none : HasNoName first) (named : AreNamed es)
    (is_new : head_named name (map head_of (first_headers first ++ values_in es)) ≡ None) where
  stands_behind : fs ≡ es ++ (name, h) ∷ []
  stands_behind = put ∙ put_behind name h es (is_new_key name first es none named is_new)

  pub still_named : h.name ≡ Some name → AreNamed fs
  still_named e = subst AreNamed (sym stands_behind) (named_more es name h named e)

  pub one_header_more : first_headers first ++ values_in fs ≡ (first_headers first ++ values_in es) ++ h ∷ []
  one_header_more = ap (λ l. first_headers first ++ values_in l) stands_behind ∙ values_more (first_headers first) es name h

-- where there is no first answer and no second, there is no second
no_second : {T : Type 0} (first second : Option T) → or_else first second ≡ None → second ≡ None
no_second None second e = e
no_second (Some t) second e = cc

not_mapped : {A B : Type 0} (f : A → B) (a : Option A) → option_map f a ≡ None → a ≡ None
not_mapped f None e = refl
not_mapped f (Some a) e = cc

-- what stands for nothing is no algorithm
no_callee : (c : Callees) (name : List ℕ) → callee c name ≡ None → head_named name c.heads ≡ None
unfolding names.callee
no_callee c name e =
    not_mapped names.Called (head_named name c.heads)
    (no_second (option_map names.PenCall (if_known c.performers.pen (pen_shape_named name))) _
    (no_second (option_map names.RobotCall (if_known c.performers.robot (robot_command_named name))) _
    (no_second (option_map names.BuiltInCall (built_in_named name)) _ e)))

pub not_found : (r : Option Callee) (c : Callees) (name : List ℕ) → some_called r ≡ callee c name → is_some r ≡ false → head_named name c.heads ≡ None
not_found None c name e f = no_callee c name (sym e)
not_found (Some r) c name e f = cc
