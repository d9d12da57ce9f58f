-- What the kind of an expression says of its parts, and of the shapes of slots.
use Rattle.std.proofs.Common.{◌≡◌, ℕ, Bool, true, false, cond, not, ◌&&◌, List, length, Option, Some, None, is_some, refl, sym, ap, ◌∙◌, nat_eq}
use Rattle.std.specs.Prelude.{if◌then◌else◌}
use Rattle.kumir_tree.specs.declared.kind.Kind.{Kind}
use Rattle.kumir_tree.specs.declared.kind.Kind.TheVariants as kind
use Rattle.kumir_tree.specs.Kinds.{same_kind}
use Rattle.kumir_tree.specs.Part.{Head}
use Rattle.kumir_names.specs.declared.variable.Variable.{Variable}
use Rattle.kumir_names.specs.Variables.{is_table}
use Rattle.kumir_names.specs.Callees.{Callee}
use Rattle.stack_code.specs.declared.unit.Shape.{Shape}
use Rattle.stack_code.specs.declared.unit.Shape.TheVariants.{Scalar, Table}
use Rattle.type_check.specs.Kinds.{Argument, is_kind, are_same, kind_where, are_both, where_gives, all_whole, are_numbers, table_fits, name_kind, element_kind, as_table}
use Rattle.kumir_compiler.proofs.TypedValues.{both, equal_numbers}
use Rattle.kumir_compiler.proofs.CodePieces.{some_is}

-- ---- kinds

pub kind_where_is : (b : Bool) (k j : Kind) → kind_where b k ≡ Some j → (b ≡ true) × (k ≡ j)
kind_where_is true k j e = (refl, some_is k j e)
kind_where_is false k j e = absurd (let wrong : ⊥ = cc in wrong)

pub gives_is : (b : Bool) (o : Option Kind) (k : Kind) → where_gives b o ≡ Some k → (b ≡ true) × (o ≡ Some k)
gives_is true o k e = (refl, e)
gives_is false o k e = absurd (let wrong : ⊥ = cc in wrong)

same_is : (j k : Kind) → same_kind j k ≡ true → k ≡ j
same_is kind.Whole kind.Whole e = refl
same_is kind.Whole kind.Truth e = absurd (let wrong : ⊥ = cc in wrong)
same_is kind.Truth kind.Whole e = absurd (let wrong : ⊥ = cc in wrong)
same_is kind.Truth kind.Truth e = refl

pub is_kind_is : (k : Kind) (o : Option Kind) → is_kind k o ≡ true → o ≡ Some k
is_kind_is k None e = absurd (let wrong : ⊥ = cc in wrong)
is_kind_is k (Some j) e = ap Some (same_is k j e)

pub are_same_is : (a b : Option Kind) → are_same a b ≡ true → (k : Kind) × (a ≡ Some k) × (b ≡ Some k)
are_same_is None b e = absurd (let wrong : ⊥ = cc in wrong)
are_same_is (Some k) b e = (k, refl, is_kind_is k b e)

pub two_are : (k j m : Kind) (a b : Option Kind) → kind_where (are_both k a b) j ≡ Some m → (a ≡ Some k) × (b ≡ Some k) × (j ≡ m)
two_are k j m a b e =
    let w = kind_where_is (is_kind k a && is_kind k b) j m e in
    let v = both (is_kind k a) (is_kind k b) w.0 in
    (is_kind_is k a v.0, is_kind_is k b v.1, w.1)

pub is_some_kind : (o : Option Kind) → is_some o ≡ true → (k : Kind) × (o ≡ Some k)
is_some_kind None e = absurd (let wrong : ⊥ = cc in wrong)
is_some_kind (Some k) e = (k, refl)

-- ---- shapes

-- the shape of a variable's slot
abbrev pub shape_of : Variable → Shape
shape_of v = if is_table v then Table v.kind v.bounds else Scalar v.kind

pub scalar_is : (v : Variable) (k : Kind) → kind_where (not (is_table v)) v.kind ≡ Some k → shape_of v ≡ Scalar k
scalar_is v k e = go (is_table v) (kind_where_is (not (is_table v)) v.kind k e)
  where
    go : (b : Bool) → (not b ≡ true) × (v.kind ≡ k) → cond b (Table v.kind v.bounds) (Scalar v.kind) ≡ Scalar k
    go true w = absurd (let f = w.0 in let wrong : ⊥ = cc in wrong)
    go false w = ap Scalar w.1

table_is : (v : Variable) → is_table v ≡ true → shape_of v ≡ Table v.kind v.bounds
table_is v e = ap (λ b. cond b (Table v.kind v.bounds) (Scalar v.kind)) e

pub element_is : (o : Option Variable) (args : List Argument) (k : Kind) → element_kind o args ≡ Some k → (v : Variable) × (o ≡ Some v) × (shape_of v ≡ Table k (length args)) × (all_whole args ≡ true)
element_is None args k e = absurd (let wrong : ⊥ = cc in wrong)
element_is (Some v) args k e =
    let w = kind_where_is (is_table v && are_numbers v.bounds args) v.kind k e in
    let x = both (is_table v) (are_numbers v.bounds args) w.0 in
    let y = both (nat_eq (length args) v.bounds) (all_whole args) x.1 in
    let n = equal_numbers (length args) v.bounds y.0 in
    (v, refl, table_is v x.0 ∙ ap (λ j. Table j v.bounds) w.1 ∙ ap (Table k) (sym n), y.1)

pub is_some_is : (o : Option Variable) → is_some o ≡ true → (v : Variable) × (o ≡ Some v)
is_some_is None e = absurd (let wrong : ⊥ = cc in wrong)
is_some_is (Some v) e = (v, refl)

pub name_is : (o : Option Variable) (found : Option (Callee Head)) (v : Variable) (k : Kind) → o ≡ Some v → name_kind o found ≡ Some k → shape_of v ≡ Scalar k
name_is o found v k e f = scalar_is v k (ap (λ p. name_kind p found) (sym e) ∙ f)

pub table_of : (o : Option Variable) (k : Kind) (n : ℕ) → table_fits k n (as_table o) ≡ true → (v : Variable) × (o ≡ Some v) × (shape_of v ≡ Table k n)
table_of None k n e = absurd (let wrong : ⊥ = cc in wrong)
table_of (Some v) k n e = go (is_table v) refl e
  where
    go : (b : Bool) → is_table v ≡ b → table_fits k n (cond b (Some v) None) ≡ true → (w : Variable) × (Some v ≡ Some w) × (shape_of w ≡ Table k n)
    go true f g =
        let x = both (same_kind k v.kind) (nat_eq v.bounds n) g in
        (v, refl, table_is v f ∙ ap (λ j. Table j v.bounds) (same_is k v.kind x.0) ∙ ap (Table k) (equal_numbers v.bounds n x.1))
    go false f g = absurd (let wrong : ⊥ = cc in wrong)
