-- An expression that has a kind, and a call that fits, is one that has code.
use Rattle.std.proofs.Common.{◌≡◌, ℕ, nat_eq, Bool, true, false, ◌&&◌, List, [], ◌∷◌, length, Option, Some, None, is_some, not, refl, sym, subst, ◌∙◌, arith}
use Rattle.kumir_tree.specs.declared.kind.Kind.{Kind}
use Rattle.kumir_tree.specs.declared.kind.Kind.TheVariants as kind
use Rattle.kumir_tree.specs.declared.kind.Mode.{Mode}
use Rattle.kumir_tree.specs.declared.kind.Mode.TheVariants.{Arg, Res, ArgRes}
use Rattle.kumir_tree.specs.declared.kind.Op.{Op}
use Rattle.kumir_tree.specs.declared.kind.Op.TheVariants as op
use Rattle.kumir_tree.specs.Tree.{Tree, Number, Truth, Answer, Named, Element, Call, Plus, Minus, Not, Binary, Trees, no_trees, ◌then◌, count}
use Rattle.kumir_tree.specs.Part.{Limits, Formal, Head}
use Rattle.performer_kit.specs.Commands.{is_test, pen_arity}
use Rattle.kumir_names.specs.declared.built_in.BuiltIn.{BuiltIn}
use Rattle.kumir_names.specs.declared.built_in.BuiltIn.TheVariants.{Div, Mod, Iabs, Imin, Imax}
use Rattle.kumir_names.specs.BuiltIns.{built_in_arity}
use Rattle.kumir_names.specs.declared.variable.Variable.{Variable}
use Rattle.kumir_names.specs.Variables.{variable, is_table}
use Rattle.kumir_names.specs.Callees.{Callee, Called, BuiltInCall, RobotCall, PenCall}
use Rattle.kumir_meaning.specs.Program.{Placed, callee_in}
use Rattle.kumir_meaning.specs.Expressions.{name_of}
use Rattle.type_check.specs.Kinds as kinds
use Rattle.type_check.specs.Kinds.{Among, Argument, is_kind, kind_where, where_gives, binary_kind, all_whole, argument_fits_at, arguments_fit, are_numbers, answer_kind, command_fits, name_kind, element_kind, call_kind, is_place, whole_table, kind_of, arguments}
use Rattle.type_check.specs.Parts.{call_fits}
use Rattle.kumir_compiler.specs.Code.{Site, in_checks}
use Rattle.kumir_compiler.specs.Compilable.{IsThere, IsMissing, IsLocal, IsValueCall, IsName, IsArgument, IsValue, AreValues, AreArguments, IsPlace, IsInvoked}

-- ---- small facts

pub both : (a b : Bool) → (a && b) ≡ true → (a ≡ true) × (b ≡ true)
both true b e = (refl, e)
both false b e = absurd (let wrong : ⊥ = cc in wrong)

pub is_there : {T : Type 0} (o : Option T) → is_some o ≡ true → IsThere o
is_there None e = absurd (let wrong : ⊥ = cc in wrong)
is_there (Some x) e = tt

pub kind_there : (k : Kind) (o : Option Kind) → is_kind k o ≡ true → IsThere o
kind_there k None e = absurd (let wrong : ⊥ = cc in wrong)
kind_there k (Some j) e = tt

holds_where : (b : Bool) (k : Kind) → IsThere (kind_where b k) → b ≡ true
holds_where true k h = refl
holds_where false k h = absurd h

gives_where : (b : Bool) (o : Option Kind) → IsThere (where_gives b o) → (b ≡ true) × IsThere o
gives_where true o h = (refl, h)
gives_where false o h = absurd h

pub same_there : (a b : Option Kind) → kinds.are_same a b ≡ true → IsThere a × IsThere b
same_there None b e = absurd (let wrong : ⊥ = cc in wrong)
same_there (Some k) b e = (tt, kind_there k b e)

two_there : (k j : Kind) (a b : Option Kind) → IsThere (kind_where (kinds.are_both k a b) j) → IsThere a × IsThere b
two_there k j a b h = let e = both (is_kind k a) (is_kind k b) (holds_where (is_kind k a && is_kind k b) j h) in (kind_there k a e.0, kind_there k b e.1)

operands_there : (o : Op) (a b : Option Kind) → IsThere (binary_kind o a b) → IsThere a × IsThere b
operands_there op.Or a b h = two_there kind.Truth kind.Truth a b h
operands_there op.And a b h = two_there kind.Truth kind.Truth a b h
operands_there op.Equal a b h = same_there a b (holds_where (kinds.are_same a b) kind.Truth h)
operands_there op.NotEqual a b h = same_there a b (holds_where (kinds.are_same a b) kind.Truth h)
operands_there op.Less a b h = two_there kind.Whole kind.Truth a b h
operands_there op.Greater a b h = two_there kind.Whole kind.Truth a b h
operands_there op.LessOrEqual a b h = two_there kind.Whole kind.Truth a b h
operands_there op.GreaterOrEqual a b h = two_there kind.Whole kind.Truth a b h
operands_there op.Plus a b h = two_there kind.Whole kind.Whole a b h
operands_there op.Minus a b h = two_there kind.Whole kind.Whole a b h
operands_there op.Times a b h = two_there kind.Whole kind.Whole a b h
operands_there op.Power a b h = two_there kind.Whole kind.Whole a b h

pub equal_numbers : (a b : ℕ) → nat_eq a b ≡ true → a ≡ b
equal_numbers a b e = grind (arith, e)

-- ---- calls

value_call : (c : Option (Callee Placed)) (args : List Argument) (A : Placed → Type 0) (B : BuiltIn → Type 0) → IsThere (answer_kind (in_checks c) args)
    → ((a : Placed) → arguments_fit a.algorithm.head.params args ≡ true → A a) → ((b : BuiltIn) → are_numbers (built_in_arity b) args ≡ true → B b) → IsValueCall c A B
value_call None args A B h f g = absurd h
value_call (Some (Called a)) args A B h f g = let e = gives_where (arguments_fit a.algorithm.head.params args) a.algorithm.head.gives h in (e.1, f a e.0)
value_call (Some (BuiltInCall b)) args A B h f g = g b (holds_where (are_numbers (built_in_arity b) args) kind.Whole h)
value_call (Some (RobotCall c)) args A B h f g = (both (is_test c) (are_numbers 0 args) (holds_where (is_test c && are_numbers 0 args) kind.Truth h)).0
value_call (Some (PenCall c)) args A B h f g = absurd h

no_arguments : (b : BuiltIn) → are_numbers (built_in_arity b) [] ≡ true → ⊥
no_arguments Div e = cc
no_arguments Mod e = cc
no_arguments Iabs e = cc
no_arguments Imin e = cc
no_arguments Imax e = cc

missing : (o : Option Kind) (b : Bool) → (not (is_some o) && b) ≡ true → IsMissing o × (b ≡ true)
missing None b e = (tt, e)
missing (Some k) b e = absurd (let wrong : ⊥ = cc in wrong)

pub no_test : (t : Bool) (b : Bool) → (not t && b) ≡ true → t ≡ false
no_test true b e = absurd (let wrong : ⊥ = cc in wrong)
no_test false b e = refl

one_argument : (mode : Mode) (k : Kind) (bounds : Option Limits) (a : Argument) (T V P : Type 0) → argument_fits_at mode k bounds a ≡ true
    → (IsThere a.table → T) → (IsThere a.value → V) → (a.place ≡ true → IsThere a.value → P) → IsArgument bounds mode T V P
one_argument mode k (Some limits) a T V P e f g h = f (table_there a.table e)
  where
    table_there : (o : Option Variable) → kinds.table_fits k (length limits) o ≡ true → IsThere o
    table_there None e1 = absurd (let wrong : ⊥ = cc in wrong)
    table_there (Some v) e1 = tt
one_argument Arg k None a T V P e f g h = g (kind_there k a.value e)
one_argument Res k None a T V P e f g h = let w = both a.place (is_kind k a.value) e in h w.0 (kind_there k a.value w.1)
one_argument ArgRes k None a T V P e f g h = let w = both a.place (is_kind k a.value) e in h w.0 (kind_there k a.value w.1)

pub element_there : (o : Option Variable) (args : List Argument) → IsThere (element_kind o args) → IsThere o × (all_whole args ≡ true)
element_there None args h = absurd h
element_there (Some v) args h = (tt, (both (nat_eq (length args) v.bounds) (all_whole args) (both (is_table v) (are_numbers v.bounds args) (holds_where (is_table v && are_numbers v.bounds args) v.kind h)).1).1)

call_there : (o : Option Variable) (found : Option (Callee Head)) (args : List Argument) → IsThere (call_kind o found args) → IsThere (answer_kind found args)
call_there None found args h = h
call_there (Some v) found args h = absurd h

table_variable : (o : Option Variable) → IsThere (kinds.as_table o) → IsThere o
table_variable None h = absurd h
table_variable (Some v) h = tt

module _ (s : Among) (t : Site) (locals : t.locals ≡ s.names) (gives : t.gives ≡ s.gives) (calls : (x : List ℕ) → s.find x ≡ in_checks (callee_in t.program x)) where
  pub local_there : (x : List ℕ) → IsThere (variable s.names x) → IsLocal t x
  local_there x h = subst (λ l. IsThere (variable l x)) (sym locals) h

  pub answer_there : IsThere s.gives → IsThere t.gives
  answer_there h = subst IsThere (sym gives) h

  called_there : (x : List ℕ) (args : List Argument) → IsThere (answer_kind (s.find x) args) → IsThere (answer_kind (in_checks (callee_in t.program x)) args)
  called_there x args h = subst (λ c. IsThere (answer_kind c args)) (calls x) h

  name_there : (o : Option Variable) (x : List ℕ) → IsThere (name_kind o (s.find x)) → IsName o x t
  name_there None x h = value_call (callee_in t.program x) [] (λ a. Unit {0}) (λ b. ⊥) (called_there x [] h) (λ a e. tt) no_arguments
  name_there (Some v) x h = tt

  as_many : (es : Trees) → length (arguments s es) ≡ count es
  as_many no_trees = refl
  as_many (e then es) = let later = as_many es in omega (arith, later)

  numbers_ok : (es : Trees) (n : ℕ) → (all_whole (arguments s es) ≡ true → AreValues es t) → are_numbers n (arguments s es) ≡ true → (count es ≡ n) × AreValues es t
  numbers_ok es n f e = let w = both (nat_eq (length (arguments s es)) n) (all_whole (arguments s es)) e in (sym (as_many es) ∙ equal_numbers (length (arguments s es)) n w.0, f w.1)

  mutual
    pub value_ok : (e : Tree) → IsThere (kind_of s e) → IsValue e t
    value_ok (Number z) h = tt
    value_ok (Truth b) h = tt
    value_ok Answer h = answer_there h
    value_ok (Named x) h = subst (λ l. IsName (variable l x) x t) (sym locals) (name_there (variable s.names x) x h)
    value_ok (Element x es) h = let w = element_there (variable s.names x) (arguments s es) h in (local_there x w.0, values_ok es w.1)
    value_ok (Call f es) h =
        value_call (callee_in t.program f) (arguments s es) (λ a. AreArguments es a.algorithm.head.params t) (λ b. (count es ≡ built_in_arity b) × AreValues es t)
        (called_there f (arguments s es) (call_there (variable s.names f) (s.find f) (arguments s es) h))
        (λ a e. arguments_ok es a.algorithm.head.params e) (λ b e. numbers_ok es (built_in_arity b) (λ all. values_ok es all) e)
    value_ok (Plus a) h = value_ok a (kind_there kind.Whole (kind_of s a) (holds_where (is_kind kind.Whole (kind_of s a)) kind.Whole h))
    value_ok (Minus a) h = value_ok a (kind_there kind.Whole (kind_of s a) (holds_where (is_kind kind.Whole (kind_of s a)) kind.Whole h))
    value_ok (Not a) h = value_ok a (kind_there kind.Truth (kind_of s a) (holds_where (is_kind kind.Truth (kind_of s a)) kind.Truth h))
    value_ok (Binary o a b) h = let w = operands_there o (kind_of s a) (kind_of s b) h in (value_ok a w.0, value_ok b w.1)

    pub values_ok : (es : Trees) → all_whole (arguments s es) ≡ true → AreValues es t
    values_ok no_trees e = tt
    values_ok (x then es) e = let w = both (is_kind kind.Whole (kind_of s x)) (all_whole (arguments s es)) e in (value_ok x (kind_there kind.Whole (kind_of s x) w.0), values_ok es w.1)

    arguments_ok : (es : Trees) (params : List Formal) → arguments_fit params (arguments s es) ≡ true → AreArguments es params t
    arguments_ok no_trees params e = tt
    arguments_ok (x then es) [] e = tt
    arguments_ok (x then es) (p ∷ params) e =
        let w = both (kinds.argument_fits p (record { value = kind_of s x; place = is_place s.names x; table = whole_table s.names x })) (arguments_fit params (arguments s es)) e in (
          one_argument p.mode p.kind p.bounds (record { value = kind_of s x; place = is_place s.names x; table = whole_table s.names x }) (IsLocal t (name_of x)) (IsValue x t) (IsPlace x t) w.0
              (λ h. table_ok x h) (λ h. value_ok x h) (λ r h. place_ok x r h),
          arguments_ok es params w.1,
        )

    place_ok : (e : Tree) → is_place s.names e ≡ true → IsThere (kind_of s e) → IsPlace e t
    place_ok (Number z) r h = absurd (let wrong : ⊥ = cc in wrong)
    place_ok (Truth b) r h = absurd (let wrong : ⊥ = cc in wrong)
    place_ok Answer r h = absurd (let wrong : ⊥ = cc in wrong)
    place_ok (Named x) r h = local_there x (is_there (variable s.names x) r)
    place_ok (Element x es) r h = let w = element_there (variable s.names x) (arguments s es) h in (local_there x w.0, values_ok es w.1)
    place_ok (Call f es) r h = absurd (let wrong : ⊥ = cc in wrong)
    place_ok (Plus a) r h = absurd (let wrong : ⊥ = cc in wrong)
    place_ok (Minus a) r h = absurd (let wrong : ⊥ = cc in wrong)
    place_ok (Not a) r h = absurd (let wrong : ⊥ = cc in wrong)
    place_ok (Binary o a b) r h = absurd (let wrong : ⊥ = cc in wrong)

    table_ok : (e : Tree) → IsThere (whole_table s.names e) → IsLocal t (name_of e)
    table_ok (Number z) h = absurd h
    table_ok (Truth b) h = absurd h
    table_ok Answer h = absurd h
    table_ok (Named x) h = local_there x (table_variable (variable s.names x) h)
    table_ok (Element x es) h = absurd h
    table_ok (Call f es) h = absurd h
    table_ok (Plus a) h = absurd h
    table_ok (Minus a) h = absurd h
    table_ok (Not a) h = absurd h
    table_ok (Binary o a b) h = absurd h

  invoked : (c : Option (Callee Placed)) (es : Trees) → command_fits (in_checks c) (arguments s es) ≡ true → IsInvoked c es t
  invoked None es e = absurd (let wrong : ⊥ = cc in wrong)
  invoked (Some (Called a)) es e = let w = missing a.algorithm.head.gives (arguments_fit a.algorithm.head.params (arguments s es)) e in (w.0, arguments_ok es a.algorithm.head.params w.1)
  invoked (Some (BuiltInCall b)) es e = absurd (let wrong : ⊥ = cc in wrong)
  invoked (Some (RobotCall c)) es e = no_test (is_test c) (are_numbers 0 (arguments s es)) e
  invoked (Some (PenCall c)) es e = numbers_ok es (pen_arity c) (λ all. values_ok es all) e

  command_there : (o : Option Variable) (f : List ℕ) (es : Trees) → call_fits o (s.find f) (arguments s es) ≡ true → IsInvoked (callee_in t.program f) es t
  command_there None f es e = invoked (callee_in t.program f) es (subst (λ c. command_fits c (arguments s es) ≡ true) (calls f) e)
  command_there (Some v) f es e = absurd (let wrong : ⊥ = cc in wrong)

  pub invoked_ok : (f : List ℕ) (es : Trees) → call_fits (variable s.names f) (s.find f) (arguments s es) ≡ true → IsInvoked (callee_in t.program f) es t
  invoked_ok f es e = command_there (variable s.names f) f es e
