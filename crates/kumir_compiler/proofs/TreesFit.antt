-- The code of an expression with a kind leaves a value of that kind.
use Rattle.std.proofs.Common.{◌≡◌, ℕ, ◌+◌, ◌≤◌, true, false, cond, ◌&&◌, List, [], ◌∷◌, ◌++◌, length, map, Option, Some, None, is_some, refl, sym, ap, ◌∙◌, subst, arith, nat_eq}
use Rattle.std.specs.Prelude.{slice_get}
use Rattle.std.specs.List.{list_all}
use Rattle.kumir_tree.specs.declared.kind.Kind.{Kind}
use Rattle.kumir_tree.specs.declared.kind.Kind.TheVariants as kind
use Rattle.kumir_tree.specs.declared.kind.Mode.{Mode}
use Rattle.kumir_tree.specs.declared.kind.Mode.TheVariants.{Arg, Res, ArgRes}
use Rattle.kumir_tree.specs.declared.kind.Op.{Op}
use Rattle.kumir_tree.specs.declared.kind.Op.TheVariants as op
use Rattle.kumir_tree.specs.Tree.{Tree, Number, Truth, Answer, Named, Element, Call, Plus, Minus, Not, Binary, Trees, no_trees, ◌then◌, count}
use Rattle.kumir_tree.specs.Part.{Limits, Formal, Head}
use Rattle.performer_kit.specs.declared.commands.RobotCommand.{RobotCommand}
use Rattle.performer_kit.specs.Commands.{is_test}
use Rattle.kumir_values.specs.declared.value.Value.TheVariants as value
use Rattle.kumir_names.specs.declared.built_in.BuiltIn.{BuiltIn}
use Rattle.kumir_names.specs.declared.built_in.BuiltIn.TheVariants.{Div, Mod, Iabs, Imin, Imax}
use Rattle.kumir_names.specs.BuiltIns.{built_in_arity}
use Rattle.kumir_names.specs.declared.variable.Variable.{Variable}
use Rattle.kumir_names.specs.Variables.{variable}
use Rattle.kumir_names.specs.Callees.{Callee, Called, BuiltInCall, RobotCall, PenCall}
use Rattle.kumir_meaning.specs.Program.{Placed, callee_in}
use Rattle.kumir_meaning.specs.Store.{TheAnswer, Local}
use Rattle.kumir_meaning.specs.Expressions.{name_of}
use Rattle.stack_code.specs.declared.instruction.CommandShape.{CommandShape}
use Rattle.stack_code.specs.declared.instruction.CommandShape.TheVariants as command
use Rattle.stack_code.specs.declared.instruction.Instruction.{Instruction}
use Rattle.stack_code.specs.declared.instruction.Instruction.TheVariants as instruction
use Rattle.stack_code.specs.declared.unit.Shape.TheVariants.{Scalar, Table}
use Rattle.stack_code.specs.declared.unit.ParamSlot.{ParamSlot}
use Rattle.stack_code.specs.declared.unit.CodeUnit.{CodeUnit}
use Rattle.stack_code.specs.Instructions.{takes_value, unit_at, unit_or}
use Rattle.stack_code.specs.Operands.{Kinds, pop_some, then_pop, push_some, value_kind, pop_values, push_answer}
use Rattle.stack_code.specs.Validity.{is_scalar_of, is_table_of, is_hidden, is_place_of, place_fits, places_fit, call_fits}
use Rattle.type_check.specs.Kinds as kinds
use Rattle.type_check.specs.Kinds.{Among, Argument, is_kind, kind_where, binary_kind, all_whole, table_fits, argument_fits, argument_fits_at, arguments_fit, are_numbers, answer_kind, name_kind, named_kind, variable_kind, called_kind, element_kind, call_kind, is_place, whole_table, kind_of, form_kind, arguments}
use Rattle.type_check.specs.Parts.{bounds_fit}
use Rattle.type_check.proofs.FormKind.{form_tells}
use Rattle.kumir_compiler.specs.Code.{Code, Site, in_checks, on, slot, hidden, among, number_of_unit, operator_code, by_kind, built_in_code, keep_code, kept_at, tree_place, call_place, call_places, read_code, argument_code, enter_code, call_code, named_code, tree_code, trees_code, arguments_code, place_code, limits_code, formal_shape, keeps}
use Rattle.kumir_compiler.proofs.TypedValues.{both, equal_numbers}
use Rattle.kumir_compiler.proofs.CodeAt.{IsCodeAt, parts}
use Rattle.kumir_compiler.proofs.CodePieces as pieces
use Rattle.kumir_compiler.proofs.CodePieces.{IsPlain, Goes, joined, plain, either, as_well}
use Rattle.kumir_compiler.proofs.LinesFit.{many, many_more, twice, twice_more, same_itself, pop_it, equal_itself, AreHidden, AllHidden, load, elem, probe, keep, kept, kept_length, load_all}
use Rattle.kumir_compiler.proofs.ShapesByKinds.{kind_where_is, gives_is, is_kind_is, are_same_is, two_are, shape_of, scalar_is, element_is, is_some_is, name_is, table_of}

-- ---- what is called

-- the slots of parameters are there and have their shapes
abbrev pub Passes : CodeUnit → List Formal → List ParamSlot → Type 0
Passes v [] [] = Unit {0}
Passes v [] (q ∷ qs) = ⊥
Passes v (p ∷ ps) [] = ⊥
Passes v (p ∷ ps) (q ∷ qs) = (q.mode ≡ p.mode) × (slice_get v.slots q.slot ≡ Some (formal_shape p.kind p.bounds)) × Passes v ps qs

abbrev pub GivesBack : CodeUnit → Option Kind → Option ℕ → Type 0
GivesBack v None None = Unit {0}
GivesBack v None (Some x) = ⊥
GivesBack v (Some k) None = ⊥
GivesBack v (Some k) (Some x) = slice_get v.slots x ≡ Some (Scalar k)

-- the unit of an algorithm, as its calls need it
pub record IsCallee (units : List CodeUnit) (n : ℕ) (a : Placed) : Type 0 where
  pub unit : CodeUnit
  pub there : slice_get units n ≡ Some unit
  pub params : Passes unit a.algorithm.head.params unit.params
  pub gives : GivesBack unit a.algorithm.head.gives unit.gives

-- the kinds behind the values of a parameter, and of all
abbrev passed : Option Limits → Mode → Kind → Kinds → Kinds
passed (Some limits) mode k ks = ks
passed None Arg k ks = k ∷ ks
passed None Res k ks = ks
passed None ArgRes k ks = k ∷ ks

abbrev all_passed : List Formal → Kinds → Kinds
all_passed [] ks = ks
all_passed (p ∷ params) ks = all_passed params (passed p.bounds p.mode p.kind ks)

abbrev pub with_kind : Option Kind → Kinds → Kinds
with_kind None ks = ks
with_kind (Some k) ks = k ∷ ks

answered : (v : CodeUnit) (gives : Option Kind) (x : Option ℕ) (ks : Kinds) → GivesBack v gives x → push_answer v x (Some ks) ≡ Some (with_kind gives ks)
answered v None None ks g = refl
answered v None (Some x) ks g = absurd g
answered v (Some k) None ks g = absurd g
answered v (Some k) (Some x) ks g = ap (λ o. push_some (value_kind o) (Some ks)) g

-- ---- where a tree stands
pub record Around (units : List CodeUnit) (u : CodeUnit) (s : Among) (t : Site) : Type 0 where
  pub locals : t.locals ≡ s.names
  pub gives : t.gives ≡ s.gives
  pub shapes : (x : List ℕ) (v : Variable) → variable s.names x ≡ Some v → slice_get u.slots (slot t (Local x)) ≡ Some (shape_of v)
  pub answer : (k : Kind) → s.gives ≡ Some k → slice_get u.slots (slot t TheAnswer) ≡ Some (Scalar k)
  pub hides : AreHidden units u t
  pub calls : (x : List ℕ) → s.find x ≡ in_checks (callee_in t.program x)
  pub callees : (f : List ℕ) (a : Placed) → callee_in t.program f ≡ Some (Called a) → IsCallee units (number_of_unit t.program.algorithms f) a

module _ (units : List CodeUnit) (u : CodeUnit) (s : Among) (t : Site) (around : Around units u s t) where
  as_many : (es : Trees) → length (arguments s es) ≡ count es
  as_many no_trees = refl
  as_many (e then es) = let later = as_many es in omega (arith, later)

  -- ---- the kind by which the code chooses between numbers and truth values
  same_form : (e : Tree) → form_kind (among t) e ≡ form_kind s e
  same_form (Number z) = refl
  same_form (Truth b) = refl
  same_form Answer = around.gives
  same_form (Named x) = ap (λ l. named_kind (variable l x) (in_checks (callee_in t.program x))) around.locals ∙ ap (named_kind (variable s.names x)) (sym (around.calls x))
  same_form (Element x es) = ap (λ l. variable_kind (variable l x)) around.locals
  same_form (Call f es) = ap called_kind (sym (around.calls f))
  same_form (Plus a) = refl
  same_form (Minus a) = refl
  same_form (Not a) = refl
  same_form (Binary o a b) = refl

  form_is : (e : Tree) (k : Kind) → kind_of s e ≡ Some k → form_kind (among t) e ≡ Some k
  form_is e k h = same_form e ∙ form_tells s e k h

  call_kind_is : (o : Option Variable) (found : Option (Callee Head)) (args : List Argument) (k : Kind) → call_kind o found args ≡ Some k → answer_kind found args ≡ Some k
  call_kind_is None found args k e = e
  call_kind_is (Some v) found args k e = absurd (let wrong : ⊥ = cc in wrong)

  -- ---- operators
  of_two_code : (i : Instruction) (a b : Code) (j k m : Kind) (ks : Kinds) → Goes units u a ks (j ∷ ks) → Goes units u b (j ∷ ks) (k ∷ j ∷ ks) → Goes units u (on t i ∷ []) (k ∷ j ∷ ks) (m ∷ ks) → Goes units u (a ++ (b ++ (on t i ∷ []))) ks (m ∷ ks)
  of_two_code i a b j k m ks f g h = joined units u a (b ++ (on t i ∷ [])) ks (j ∷ ks) (m ∷ ks) f (joined units u b (on t i ∷ []) (j ∷ ks) (k ∷ j ∷ ks) (m ∷ ks) g h)

  equality : (k : Kind) (ks : Kinds) → Goes units u (on t (by_kind (Some k) instruction.Eq instruction.EqTruth) ∷ []) (k ∷ k ∷ ks) (kind.Truth ∷ ks)
  equality kind.Whole ks = plain units u t instruction.Eq _ _ (record { goes_on = refl; no_target = refl; no_call = refl }) refl refl
  equality kind.Truth ks = plain units u t instruction.EqTruth _ _ (record { goes_on = refl; no_target = refl; no_call = refl }) refl refl

  difference : (k : Kind) (ks : Kinds) → Goes units u (on t (by_kind (Some k) instruction.Ne instruction.NeTruth) ∷ []) (k ∷ k ∷ ks) (kind.Truth ∷ ks)
  difference kind.Whole ks = plain units u t instruction.Ne _ _ (record { goes_on = refl; no_target = refl; no_call = refl }) refl refl
  difference kind.Truth ks = plain units u t instruction.NeTruth _ _ (record { goes_on = refl; no_target = refl; no_call = refl }) refl refl

  abbrev Leaves : Code → Option Kind → Type 0
  Leaves c o = (k : Kind) → o ≡ Some k → (ks : Kinds) → Goes units u c ks (k ∷ ks)

  whole_two : (i : Instruction) (a b : Code) (x y : Option Kind) (j : Kind) → Leaves a x → Leaves b y → ((ks : Kinds) → Goes units u (on t i ∷ []) (kind.Whole ∷ kind.Whole ∷ ks) (j ∷ ks)) → Leaves (a ++ (b ++ (on t i ∷ []))) (kind_where (kinds.are_both kind.Whole x y) j)
  whole_two i a b x y j f g h k e ks =
      let w = two_are kind.Whole j k x y e in
      subst (λ m. Goes units u (a ++ (b ++ (on t i ∷ []))) ks (m ∷ ks)) w.2 (of_two_code i a b kind.Whole kind.Whole j ks (f kind.Whole w.0 ks) (g kind.Whole w.1 (kind.Whole ∷ ks)) (h ks))

  operator_goes : (o : Op) (a b : Code) (x y z : Option Kind) → ((k : Kind) → x ≡ Some k → z ≡ Some k) → Leaves a x → Leaves b y → Leaves (operator_code o z a b t) (binary_kind o x y)
  operator_goes op.Or a b x y z is f g = λ k e ks.
      let w = two_are kind.Truth kind.Truth k x y e in
      subst (λ m. Goes units u (operator_code op.Or z a b t) ks (m ∷ ks)) w.2 (either units u a b t ks (f kind.Truth w.0 ks) (g kind.Truth w.1 ks))
  operator_goes op.And a b x y z is f g = λ k e ks.
      let w = two_are kind.Truth kind.Truth k x y e in
      subst (λ m. Goes units u (operator_code op.And z a b t) ks (m ∷ ks)) w.2 (as_well units u a b t ks (f kind.Truth w.0 ks) (g kind.Truth w.1 ks))
  operator_goes op.Equal a b x y z is f g = λ k e ks.
      let w = kind_where_is (kinds.are_same x y) kind.Truth k e in
      let v = are_same_is x y w.0 in
      subst (λ m. Goes units u (operator_code op.Equal z a b t) ks (m ∷ ks)) w.1
      (subst (λ p. Goes units u (operator_code op.Equal p a b t) ks (kind.Truth ∷ ks)) (sym (is v.0 v.1))
      (of_two_code (by_kind (Some v.0) instruction.Eq instruction.EqTruth) a b v.0 v.0 kind.Truth ks (f v.0 v.1 ks) (g v.0 v.2 (v.0 ∷ ks)) (equality v.0 ks)))
  operator_goes op.NotEqual a b x y z is f g = λ k e ks.
      let w = kind_where_is (kinds.are_same x y) kind.Truth k e in
      let v = are_same_is x y w.0 in
      subst (λ m. Goes units u (operator_code op.NotEqual z a b t) ks (m ∷ ks)) w.1
      (subst (λ p. Goes units u (operator_code op.NotEqual p a b t) ks (kind.Truth ∷ ks)) (sym (is v.0 v.1))
      (of_two_code (by_kind (Some v.0) instruction.Ne instruction.NeTruth) a b v.0 v.0 kind.Truth ks (f v.0 v.1 ks) (g v.0 v.2 (v.0 ∷ ks)) (difference v.0 ks)))
  operator_goes op.Less a b x y z is f g = whole_two instruction.Lt a b x y kind.Truth f g (λ ks. plain units u t instruction.Lt _ _ (record { goes_on = refl; no_target = refl; no_call = refl }) refl refl)
  operator_goes op.Greater a b x y z is f g = whole_two instruction.Gt a b x y kind.Truth f g (λ ks. plain units u t instruction.Gt _ _ (record { goes_on = refl; no_target = refl; no_call = refl }) refl refl)
  operator_goes op.LessOrEqual a b x y z is f g = whole_two instruction.Le a b x y kind.Truth f g (λ ks. plain units u t instruction.Le _ _ (record { goes_on = refl; no_target = refl; no_call = refl }) refl refl)
  operator_goes op.GreaterOrEqual a b x y z is f g = whole_two instruction.Ge a b x y kind.Truth f g (λ ks. plain units u t instruction.Ge _ _ (record { goes_on = refl; no_target = refl; no_call = refl }) refl refl)
  operator_goes op.Plus a b x y z is f g = whole_two instruction.Add a b x y kind.Whole f g (λ ks. plain units u t instruction.Add _ _ (record { goes_on = refl; no_target = refl; no_call = refl }) refl refl)
  operator_goes op.Minus a b x y z is f g = whole_two instruction.Sub a b x y kind.Whole f g (λ ks. plain units u t instruction.Sub _ _ (record { goes_on = refl; no_target = refl; no_call = refl }) refl refl)
  operator_goes op.Times a b x y z is f g = whole_two instruction.Mul a b x y kind.Whole f g (λ ks. plain units u t instruction.Mul _ _ (record { goes_on = refl; no_target = refl; no_call = refl }) refl refl)
  operator_goes op.Power a b x y z is f g = whole_two instruction.Pow a b x y kind.Whole f g (λ ks. plain units u t instruction.Pow _ _ (record { goes_on = refl; no_target = refl; no_call = refl }) refl refl)

  on_kind : (c : Code) (ks : Kinds) (j k : Kind) → Some j ≡ Some k → Goes units u c ks (j ∷ ks) → Goes units u c ks (k ∷ ks)
  on_kind c ks j k e f = subst (λ m. Goes units u c ks (m ∷ ks)) (pieces.some_is j k e) f

  -- ---- places
  local_scalar : (x : List ℕ) (k : Kind) → is_some (variable s.names x) ≡ true → name_kind (variable s.names x) (s.find x) ≡ Some k → slice_get u.slots (slot t (Local x)) ≡ Some (Scalar k)
  local_scalar x k is h = let w = is_some_is (variable s.names x) is in around.shapes x w.0 w.1 ∙ ap Some (name_is (variable s.names x) (s.find x) w.0 k w.1 h)

  pub local_table : (x : List ℕ) (es : Trees) (k : Kind) → element_kind (variable s.names x) (arguments s es) ≡ Some k → slice_get u.slots (slot t (Local x)) ≡ Some (Table k (count es))
  local_table x es k h =
      let w = element_is (variable s.names x) (arguments s es) k h in
      around.shapes x w.0 w.1 ∙ ap Some (w.2 ∙ ap (Table k) (as_many es))

  behind_variables : (d : ℕ) → length t.variables ≤ hidden t d
  behind_variables d = omega arith

  kept_of : (x : List ℕ) (es : Trees) (d at end : ℕ) → IsCodeAt u.body at (place_code (Element x es) t d) end → AllHidden units u t (kept_at (count es) (hidden t d) [])
  kept_of x es d at end h =
      let w = parts u.body at (trees_code es t d) _ end h in
      kept units u t around.hides (count es) (hidden t d) [] (w.0 + 1) end (behind_variables d) w.2.1 tt

  all_hidden : (hs : List ℕ) → AllHidden units u t hs → list_all (λ h. is_hidden (slice_get u.slots h)) hs ≡ true
  all_hidden [] all = refl
  all_hidden (h ∷ hs) all = ap (λ b. b && list_all (λ g. is_hidden (slice_get u.slots g)) hs) (ap is_hidden all.0) ∙ all_hidden hs all.1

  tree_place_ok : (k : Kind) (e : Tree) (d at end : ℕ) → is_place s.names e ≡ true → kind_of s e ≡ Some k → IsCodeAt u.body at (place_code e t d) end → is_place_of k u.slots (tree_place e t d) ≡ true
  tree_place_ok k (Number z) d at end r h st = absurd (let wrong : ⊥ = cc in wrong)
  tree_place_ok k (Truth b) d at end r h st = absurd (let wrong : ⊥ = cc in wrong)
  tree_place_ok k Answer d at end r h st = absurd (let wrong : ⊥ = cc in wrong)
  tree_place_ok k (Named x) d at end r h st = ap (is_scalar_of k) (local_scalar x k r h) ∙ same_itself k
  tree_place_ok k (Element x es) d at end r h st =
      let hs : List ℕ = kept_at (count es) (hidden t d) [] in
      let n : length hs ≡ count es = kept_length (count es) (hidden t d) [] ∙ (let z : count es + 0 ≡ count es = omega arith in z) in
      ap (λ o. is_table_of k (length hs) o && list_all (λ g. is_hidden (slice_get u.slots g)) hs) (local_table x es k h)
      ∙ ap (λ b. b && nat_eq (length hs) (count es) && list_all (λ g. is_hidden (slice_get u.slots g)) hs) (same_itself k)
      ∙ ap (λ m. nat_eq m (count es) && list_all (λ g. is_hidden (slice_get u.slots g)) hs) n
      ∙ ap (λ b. b && list_all (λ g. is_hidden (slice_get u.slots g)) hs) (equal_itself (count es))
      ∙ all_hidden hs (kept_of x es d at end st)
  tree_place_ok k (Call f es) d at end r h st = absurd (let wrong : ⊥ = cc in wrong)
  tree_place_ok k (Plus a) d at end r h st = absurd (let wrong : ⊥ = cc in wrong)
  tree_place_ok k (Minus a) d at end r h st = absurd (let wrong : ⊥ = cc in wrong)
  tree_place_ok k (Not a) d at end r h st = absurd (let wrong : ⊥ = cc in wrong)
  tree_place_ok k (Binary o a b) d at end r h st = absurd (let wrong : ⊥ = cc in wrong)

  -- the value at a place
  read_goes : (k : Kind) (e : Tree) (d at end : ℕ) → is_place s.names e ≡ true → kind_of s e ≡ Some k → IsCodeAt u.body at (place_code e t d) end → (ks : Kinds) → Goes units u (read_code e t d) ks (k ∷ ks)
  read_goes k (Number z) d at end r h st ks = absurd (let wrong : ⊥ = cc in wrong)
  read_goes k (Truth b) d at end r h st ks = absurd (let wrong : ⊥ = cc in wrong)
  read_goes k Answer d at end r h st ks = absurd (let wrong : ⊥ = cc in wrong)
  read_goes k (Named x) d at end r h st ks = load units u t (slot t (Local x)) k ks (local_scalar x k r h)
  read_goes k (Element x es) d at end r h st ks =
      let hs : List ℕ = kept_at (count es) (hidden t d) [] in
      let n : length hs ≡ count es = kept_length (count es) (hidden t d) [] ∙ (let z : count es + 0 ≡ count es = omega arith in z) in
      joined units u (map (λ y. on t (instruction.Load y)) hs) (on t (instruction.Elem (slot t (Local x)) (count es)) ∷ []) ks (many (count es) ks) (k ∷ ks)
      (subst (λ m. Goes units u (map (λ y. on t (instruction.Load y)) hs) ks (many m ks)) n (load_all units u t hs ks (kept_of x es d at end st)))
      (elem units u t (slot t (Local x)) (count es) k ks (local_table x es k h))
  read_goes k (Call f es) d at end r h st ks = absurd (let wrong : ⊥ = cc in wrong)
  read_goes k (Plus a) d at end r h st ks = absurd (let wrong : ⊥ = cc in wrong)
  read_goes k (Minus a) d at end r h st ks = absurd (let wrong : ⊥ = cc in wrong)
  read_goes k (Not a) d at end r h st ks = absurd (let wrong : ⊥ = cc in wrong)
  read_goes k (Binary o a b) d at end r h st ks = absurd (let wrong : ⊥ = cc in wrong)

  -- the table that is passed
  table_ok : (k : Kind) (n : ℕ) (e : Tree) → table_fits k n (whole_table s.names e) ≡ true → is_table_of k n (slice_get u.slots (slot t (Local (name_of e)))) ≡ true
  table_ok k n (Number z) h = absurd (let wrong : ⊥ = cc in wrong)
  table_ok k n (Truth b) h = absurd (let wrong : ⊥ = cc in wrong)
  table_ok k n Answer h = absurd (let wrong : ⊥ = cc in wrong)
  table_ok k n (Named x) h =
      let w = table_of (variable s.names x) k n h in
      ap (is_table_of k n) (around.shapes x w.0 w.1 ∙ ap Some w.2) ∙ ap (λ b. b && nat_eq n n) (same_itself k) ∙ equal_itself n
  table_ok k n (Element x es) h = absurd (let wrong : ⊥ = cc in wrong)
  table_ok k n (Call f es) h = absurd (let wrong : ⊥ = cc in wrong)
  table_ok k n (Plus a) h = absurd (let wrong : ⊥ = cc in wrong)
  table_ok k n (Minus a) h = absurd (let wrong : ⊥ = cc in wrong)
  table_ok k n (Not a) h = absurd (let wrong : ⊥ = cc in wrong)
  table_ok k n (Binary o a b) h = absurd (let wrong : ⊥ = cc in wrong)

  abbrev argument_of : Tree → Argument
  argument_of e = record { value = kind_of s e; place = is_place s.names e; table = whole_table s.names e }

  abbrev code_at : Option Limits → Mode → Tree → ℕ → Code
  code_at bounds mode e d = argument_code bounds mode (tree_code e t d) (place_code e t d) (read_code e t d)

  place_at : (mode : Mode) (k : Kind) (bounds : Option Limits) (e : Tree) (d at end : ℕ) → argument_fits_at mode k bounds (argument_of e) ≡ true → IsCodeAt u.body at (code_at bounds mode e d) end → place_fits mode (Some (formal_shape k bounds)) u.slots (call_place bounds mode e t d) ≡ true
  place_at mode k (Some limits) e d at end fits st = table_ok k (length limits) e fits
  place_at Arg k None e d at end fits st = refl
  place_at Res k None e d at end fits st = let w = both (is_place s.names e) (is_kind k (kind_of s e)) fits in tree_place_ok k e d at end w.0 (is_kind_is k (kind_of s e) w.1) st
  place_at ArgRes k None e d at end fits st =
      let w = both (is_place s.names e) (is_kind k (kind_of s e)) fits in
      let v = parts u.body at (place_code e t d) (read_code e t d) end st in
      tree_place_ok k e d at v.0 w.0 (is_kind_is k (kind_of s e) w.1) v.1

  places_ok : (v : CodeUnit) (es : Trees) (params : List Formal) (qs : List ParamSlot) (d at end : ℕ) → Passes v params qs → arguments_fit params (arguments s es) ≡ true → IsCodeAt u.body at (arguments_code es params t d) end → places_fit v.slots qs u.slots (call_places es params t d) ≡ true
  places_ok v no_trees [] [] d at end pass fits st = refl
  places_ok v no_trees [] (q ∷ qs) d at end pass fits st = absurd pass
  places_ok v no_trees (p ∷ params) qs d at end pass fits st = absurd (let wrong : ⊥ = cc in wrong)
  places_ok v (e then es) [] qs d at end pass fits st = absurd (let wrong : ⊥ = cc in wrong)
  places_ok v (e then es) (p ∷ params) [] d at end pass fits st = absurd pass
  places_ok v (e then es) (p ∷ params) (q ∷ qs) d at end pass fits st =
      let w = both (argument_fits p (argument_of e)) (arguments_fit params (arguments s es)) fits in
      let x = parts u.body at (code_at p.bounds p.mode e d) _ end st in
      let places = call_places es params t (d + keeps p.bounds p.mode e) in
      ap (λ m. place_fits m (slice_get v.slots q.slot) u.slots (call_place p.bounds p.mode e t d) && places_fit v.slots qs u.slots places) pass.0
      ∙ ap (λ o. place_fits p.mode o u.slots (call_place p.bounds p.mode e t d) && places_fit v.slots qs u.slots places) pass.1
      ∙ ap (λ b. b && places_fit v.slots qs u.slots places) (place_at p.mode p.kind p.bounds e d at x.0 w.0 x.1)
      ∙ places_ok v es params qs (d + keeps p.bounds p.mode e) x.0 end pass.2 w.1 x.2

  -- ---- the values of a call
  takes_res : (e : Tree) (d : ℕ) → takes_value Res (tree_place e t d) ≡ false
  takes_res (Number z) d = refl
  takes_res (Truth b) d = refl
  takes_res Answer d = refl
  takes_res (Named x) d = refl
  takes_res (Element x es) d = refl
  takes_res (Call f es) d = refl
  takes_res (Plus a) d = refl
  takes_res (Minus a) d = refl
  takes_res (Not a) d = refl
  takes_res (Binary o a b) d = refl

  takes_both : (e : Tree) (d : ℕ) → takes_value ArgRes (tree_place e t d) ≡ true
  takes_both (Number z) d = refl
  takes_both (Truth b) d = refl
  takes_both Answer d = refl
  takes_both (Named x) d = refl
  takes_both (Element x es) d = refl
  takes_both (Call f es) d = refl
  takes_both (Plus a) d = refl
  takes_both (Minus a) d = refl
  takes_both (Not a) d = refl
  takes_both (Binary o a b) d = refl

  one_popped : (mode : Mode) (k : Kind) (bounds : Option Limits) (e : Tree) (d : ℕ) (ks : Kinds)
      → cond (takes_value mode (call_place bounds mode e t d)) (pop_some (value_kind (Some (formal_shape k bounds))) (passed bounds mode k ks)) (Some (passed bounds mode k ks)) ≡ Some ks
  one_popped mode k (Some limits) e d ks = refl
  one_popped Arg k None e d ks = pop_it k ks
  one_popped Res k None e d ks = ap (λ b. cond b (pop_some (Some k) ks) (Some ks)) (takes_res e d)
  one_popped ArgRes k None e d ks = ap (λ b. cond b (pop_some (Some k) (k ∷ ks)) (Some (k ∷ ks))) (takes_both e d) ∙ pop_it k ks

  values_popped : (v : CodeUnit) (es : Trees) (params : List Formal) (qs : List ParamSlot) (d : ℕ) (ks : Kinds) → Passes v params qs → arguments_fit params (arguments s es) ≡ true → pop_values v qs (call_places es params t d) (all_passed params ks) ≡ Some ks
  values_popped v no_trees [] [] d ks pass fits = refl
  values_popped v no_trees [] (q ∷ qs) d ks pass fits = absurd pass
  values_popped v no_trees (p ∷ params) qs d ks pass fits = absurd (let wrong : ⊥ = cc in wrong)
  values_popped v (e then es) [] qs d ks pass fits = absurd (let wrong : ⊥ = cc in wrong)
  values_popped v (e then es) (p ∷ params) [] d ks pass fits = absurd pass
  values_popped v (e then es) (p ∷ params) (q ∷ qs) d ks pass fits =
      let w = both (argument_fits p (argument_of e)) (arguments_fit params (arguments s es)) fits in
      let now = passed p.bounds p.mode p.kind ks in
      ap (λ o. then_pop o (λ left. cond (takes_value q.mode (call_place p.bounds p.mode e t d)) (pop_some (value_kind (slice_get v.slots q.slot)) left) (Some left)))
      (values_popped v es params qs (d + keeps p.bounds p.mode e) now pass.2 w.1)
      ∙ ap (λ m. cond (takes_value m (call_place p.bounds p.mode e t d)) (pop_some (value_kind (slice_get v.slots q.slot)) now) (Some now)) pass.0
      ∙ ap (λ o. cond (takes_value p.mode (call_place p.bounds p.mode e t d)) (pop_some (value_kind o) now) (Some now)) pass.1
      ∙ one_popped p.mode p.kind p.bounds e d ks

  -- ---- calls
  pub entered : (f : List ℕ) (a : Placed) (es : Trees) (d : ℕ) (ks : Kinds) → callee_in t.program f ≡ Some (Called a) → arguments_fit a.algorithm.head.params (arguments s es) ≡ true → Goes units u (arguments_code es a.algorithm.head.params t d) ks (all_passed a.algorithm.head.params ks)
      → Goes units u (arguments_code es a.algorithm.head.params t d ++ enter_code f (call_places es a.algorithm.head.params t d) t) ks (with_kind a.algorithm.head.gives ks)
  entered f a es d ks e fits go =
      let params = a.algorithm.head.params in
      let n = number_of_unit t.program.algorithms f in
      let places = call_places es params t d in
      let c = around.callees f a e in
      let is : unit_at units n ≡ c.unit = ap unit_or c.there in
      pieces.joined_after units u (arguments_code es params t d) (enter_code f places t) ks (all_passed params ks) (with_kind a.algorithm.head.gives ks) go
      (λ at m st. pieces.call units u t n places (all_passed params ks) (with_kind a.algorithm.head.gives ks)
      (ap (λ w. push_answer w w.gives (pop_values w w.params places (all_passed params ks))) is
      ∙ ap (push_answer c.unit c.unit.gives) (values_popped c.unit es params c.unit.params d ks c.params fits)
      ∙ answered c.unit a.algorithm.head.gives c.unit.gives ks c.gives)
      (ap (λ o. call_fits o u.slots places) c.there ∙ places_ok c.unit es params c.unit.params d at m c.params fits st))

  ask_plain : (c : CommandShape) → IsPlain (instruction.Ask c)
  ask_plain c = record { goes_on = refl; no_target = refl; no_call = refl }

  ask_test : (c : RobotCommand) (ks : Kinds) → is_test c ≡ true → Goes units u (on t instruction.Step ∷ on t (instruction.Ask (command.Robot c)) ∷ []) ks (kind.Truth ∷ ks)
  ask_test c ks e =
      joined units u (on t instruction.Step ∷ []) (on t (instruction.Ask (command.Robot c)) ∷ []) ks ks (kind.Truth ∷ ks) (pieces.step units u t ks)
      (plain units u t (instruction.Ask (command.Robot c)) ks (kind.Truth ∷ ks) (ask_plain (command.Robot c)) (ap (λ b. cond b (Some (kind.Truth ∷ ks)) (Some ks)) e) refl)

  built_goes : (b : BuiltIn) (n : ℕ) (ks : Kinds) → n ≡ built_in_arity b → Goes units u (on t (built_in_code b) ∷ []) (many n ks) (kind.Whole ∷ ks)
  built_goes Div n ks e = subst (λ m. Goes units u (on t instruction.Div ∷ []) (many m ks) (kind.Whole ∷ ks)) (sym e) (plain units u t instruction.Div _ _ (record { goes_on = refl; no_target = refl; no_call = refl }) refl refl)
  built_goes Mod n ks e = subst (λ m. Goes units u (on t instruction.Mod ∷ []) (many m ks) (kind.Whole ∷ ks)) (sym e) (plain units u t instruction.Mod _ _ (record { goes_on = refl; no_target = refl; no_call = refl }) refl refl)
  built_goes Iabs n ks e = subst (λ m. Goes units u (on t instruction.Abs ∷ []) (many m ks) (kind.Whole ∷ ks)) (sym e) (plain units u t instruction.Abs _ _ (record { goes_on = refl; no_target = refl; no_call = refl }) refl refl)
  built_goes Imin n ks e = subst (λ m. Goes units u (on t instruction.Min ∷ []) (many m ks) (kind.Whole ∷ ks)) (sym e) (plain units u t instruction.Min _ _ (record { goes_on = refl; no_target = refl; no_call = refl }) refl refl)
  built_goes Imax n ks e = subst (λ m. Goes units u (on t instruction.Max ∷ []) (many m ks) (kind.Whole ∷ ks)) (sym e) (plain units u t instruction.Max _ _ (record { goes_on = refl; no_target = refl; no_call = refl }) refl refl)

  pub numbers_are : (es : Trees) (n : ℕ) → are_numbers n (arguments s es) ≡ true → (count es ≡ n) × (all_whole (arguments s es) ≡ true)
  numbers_are es n e = let w = both (nat_eq (length (arguments s es)) n) (all_whole (arguments s es)) e in (sym (as_many es) ∙ equal_numbers (length (arguments s es)) n w.0, w.1)

  call_goes : (c : Option (Callee Placed)) (f : List ℕ) (es : Trees) (d : ℕ) (k : Kind) (ks : Kinds) → callee_in t.program f ≡ c → answer_kind (in_checks c) (arguments s es) ≡ Some k
      → ((params : List Formal) → arguments_fit params (arguments s es) ≡ true → Goes units u (arguments_code es params t d) ks (all_passed params ks))
      → (all_whole (arguments s es) ≡ true → Goes units u (trees_code es t d) ks (many (count es) ks))
      → Goes units u (call_code c (λ a. arguments_code es a.algorithm.head.params t d ++ enter_code f (call_places es a.algorithm.head.params t d) t) (trees_code es t d) t) ks (k ∷ ks)
  call_goes None f es d k ks is e go values = absurd (let wrong : ⊥ = cc in wrong)
  call_goes (Some (Called a)) f es d k ks is e go values =
      let w = gives_is (arguments_fit a.algorithm.head.params (arguments s es)) a.algorithm.head.gives k e in
      subst (λ o. Goes units u (arguments_code es a.algorithm.head.params t d ++ enter_code f (call_places es a.algorithm.head.params t d) t) ks (with_kind o ks)) w.1
      (entered f a es d ks is w.0 (go a.algorithm.head.params w.0))
  call_goes (Some (BuiltInCall b)) f es d k ks is e go values =
      let w = kind_where_is (are_numbers (built_in_arity b) (arguments s es)) kind.Whole k e in
      let v = numbers_are es (built_in_arity b) w.0 in
      subst (λ m. Goes units u (trees_code es t d ++ (on t (built_in_code b) ∷ [])) ks (m ∷ ks)) w.1
      (joined units u (trees_code es t d) (on t (built_in_code b) ∷ []) ks (many (count es) ks) (kind.Whole ∷ ks) (values v.1) (built_goes b (count es) ks v.0))
  call_goes (Some (RobotCall c)) f es d k ks is e go values =
      let w = kind_where_is (is_test c && are_numbers 0 (arguments s es)) kind.Truth k e in
      subst (λ m. Goes units u (on t instruction.Step ∷ on t (instruction.Ask (command.Robot c)) ∷ []) ks (m ∷ ks)) w.1
      (ask_test c ks (both (is_test c) (are_numbers 0 (arguments s es)) w.0).0)
  call_goes (Some (PenCall c)) f es d k ks is e go values = absurd (let wrong : ⊥ = cc in wrong)

  answer_is : (x : List ℕ) (es : Trees) (k : Kind) → answer_kind (s.find x) (arguments s es) ≡ Some k → answer_kind (in_checks (callee_in t.program x)) (arguments s es) ≡ Some k
  answer_is x es k h = subst (λ c. answer_kind c (arguments s es) ≡ Some k) (around.calls x) h

  named_goes : (o : Option Variable) (x : List ℕ) (k : Kind) (ks : Kinds) → variable s.names x ≡ o → name_kind o (s.find x) ≡ Some k → Goes units u (named_code o x t) ks (k ∷ ks)
  named_goes None x k ks is e =
      call_goes (callee_in t.program x) x no_trees 0 k ks refl (answer_is x no_trees k e)
      (λ params fits. no_arguments params ks fits) (λ all. pieces.nothing units u ks)
    where
      no_arguments : (params : List Formal) (ks : Kinds) → arguments_fit params [] ≡ true → Goes units u [] ks (all_passed params ks)
      no_arguments [] ks fits = pieces.nothing units u ks
      no_arguments (p ∷ params) ks fits = absurd (let wrong : ⊥ = cc in wrong)
  named_goes (Some v) x k ks is e = load units u t (slot t (Local x)) k ks (around.shapes x v is ∙ ap Some (scalar_is v k e))

  argument_goes : (mode : Mode) (k : Kind) (bounds : Option Limits) (e : Tree) (d : ℕ) (ks : Kinds) → argument_fits_at mode k bounds (argument_of e) ≡ true
      → (kind_of s e ≡ Some k → Goes units u (tree_code e t d) ks (k ∷ ks))
      → (is_place s.names e ≡ true → kind_of s e ≡ Some k → Goes units u (place_code e t d) ks ks)
      → Goes units u (code_at bounds mode e d) ks (passed bounds mode k ks)
  argument_goes mode k (Some limits) e d ks fits value at_place = pieces.nothing units u ks
  argument_goes Arg k None e d ks fits value at_place = value (is_kind_is k (kind_of s e) fits)
  argument_goes Res k None e d ks fits value at_place = let w = both (is_place s.names e) (is_kind k (kind_of s e)) fits in at_place w.0 (is_kind_is k (kind_of s e) w.1)
  argument_goes ArgRes k None e d ks fits value at_place =
      let w = both (is_place s.names e) (is_kind k (kind_of s e)) fits in
      let h = is_kind_is k (kind_of s e) w.1 in
      pieces.joined_after units u (place_code e t d) (read_code e t d) ks ks (k ∷ ks) (at_place w.0 h) (λ at m st. read_goes k e d at m w.0 h st ks)

  signed : (a : Tree) (j m k : Kind) → kind_where (is_kind j (kind_of s a)) m ≡ Some k → (kind_of s a ≡ Some j) × (m ≡ k)
  signed a j m k h = let w = kind_where_is (is_kind j (kind_of s a)) m k h in (is_kind_is j (kind_of s a) w.0, w.1)

  mutual
    pub tree_goes : (e : Tree) (d : ℕ) (k : Kind) → kind_of s e ≡ Some k → (ks : Kinds) → Goes units u (tree_code e t d) ks (k ∷ ks)
    tree_goes (Number z) d k h ks = on_kind (on t (instruction.Push (value.Whole z)) ∷ []) ks kind.Whole k h (plain units u t (instruction.Push (value.Whole z)) _ _ (record { goes_on = refl; no_target = refl; no_call = refl }) refl refl)
    tree_goes (Truth b) d k h ks = on_kind (on t (instruction.Push (value.Truth b)) ∷ []) ks kind.Truth k h (plain units u t (instruction.Push (value.Truth b)) _ _ (record { goes_on = refl; no_target = refl; no_call = refl }) refl refl)
    tree_goes Answer d k h ks = load units u t (slot t TheAnswer) k ks (around.answer k h)
    tree_goes (Named x) d k h ks = subst (λ l. Goes units u (named_code (variable l x) x t) ks (k ∷ ks)) (sym around.locals) (named_goes (variable s.names x) x k ks refl h)
    tree_goes (Element x es) d k h ks =
        joined units u (trees_code es t d) (on t (instruction.Elem (slot t (Local x)) (count es)) ∷ []) ks (many (count es) ks) (k ∷ ks)
        (trees_go es d (element_is (variable s.names x) (arguments s es) k h).3 ks) (elem units u t (slot t (Local x)) (count es) k ks (local_table x es k h))
    tree_goes (Call f es) d k h ks =
        call_goes (callee_in t.program f) f es d k ks refl (answer_is f es k (call_kind_is (variable s.names f) (s.find f) (arguments s es) k h))
        (λ params fits. arguments_go es params d fits ks) (λ all. trees_go es d all ks)
    tree_goes (Plus a) d k h ks = let w = signed a kind.Whole kind.Whole k h in subst (λ m. Goes units u (tree_code a t d) ks (m ∷ ks)) w.1 (tree_goes a d kind.Whole w.0 ks)
    tree_goes (Minus a) d k h ks =
        let w = signed a kind.Whole kind.Whole k h in
        subst (λ m. Goes units u (tree_code a t d ++ (on t instruction.Neg ∷ [])) ks (m ∷ ks)) w.1
        (joined units u (tree_code a t d) (on t instruction.Neg ∷ []) ks (kind.Whole ∷ ks) (kind.Whole ∷ ks) (tree_goes a d kind.Whole w.0 ks)
        (plain units u t instruction.Neg _ _ (record { goes_on = refl; no_target = refl; no_call = refl }) refl refl))
    tree_goes (Not a) d k h ks =
        let w = signed a kind.Truth kind.Truth k h in
        subst (λ m. Goes units u (tree_code a t d ++ (on t instruction.Not ∷ [])) ks (m ∷ ks)) w.1
        (joined units u (tree_code a t d) (on t instruction.Not ∷ []) ks (kind.Truth ∷ ks) (kind.Truth ∷ ks) (tree_goes a d kind.Truth w.0 ks)
        (plain units u t instruction.Not _ _ (record { goes_on = refl; no_target = refl; no_call = refl }) refl refl))
    tree_goes (Binary o a b) d k h ks =
        operator_goes o (tree_code a t d) (tree_code b t d) (kind_of s a) (kind_of s b) (form_kind (among t) a) (λ j is. form_is a j is) (λ j is ks1. tree_goes a d j is ks1) (λ j is ks1. tree_goes b d j is ks1) k h ks

    pub trees_go : (es : Trees) (d : ℕ) → all_whole (arguments s es) ≡ true → (ks : Kinds) → Goes units u (trees_code es t d) ks (many (count es) ks)
    trees_go no_trees d h ks = pieces.nothing units u ks
    trees_go (e then es) d h ks =
        let w = both (is_kind kind.Whole (kind_of s e)) (all_whole (arguments s es)) h in
        subst (λ l. Goes units u (tree_code e t d ++ trees_code es t d) ks l) (many_more (count es) ks)
        (joined units u (tree_code e t d) (trees_code es t d) ks (kind.Whole ∷ ks) (many (count es) (kind.Whole ∷ ks)) (tree_goes e d kind.Whole (is_kind_is kind.Whole (kind_of s e) w.0) ks) (trees_go es d w.1 (kind.Whole ∷ ks)))

    pub arguments_go : (es : Trees) (params : List Formal) (d : ℕ) → arguments_fit params (arguments s es) ≡ true → (ks : Kinds) → Goes units u (arguments_code es params t d) ks (all_passed params ks)
    arguments_go no_trees [] d h ks = pieces.nothing units u ks
    arguments_go no_trees (p ∷ params) d h ks = absurd (let wrong : ⊥ = cc in wrong)
    arguments_go (e then es) [] d h ks = absurd (let wrong : ⊥ = cc in wrong)
    arguments_go (e then es) (p ∷ params) d h ks =
        let w = both (argument_fits p (argument_of e)) (arguments_fit params (arguments s es)) h in
        joined units u (code_at p.bounds p.mode e d) (arguments_code es params t (d + keeps p.bounds p.mode e)) ks (passed p.bounds p.mode p.kind ks) (all_passed params (passed p.bounds p.mode p.kind ks))
        (argument_goes p.mode p.kind p.bounds e d ks w.0 (λ is. tree_goes e d p.kind is ks) (λ r is. place_goes e d p.kind r is ks))
        (arguments_go es params (d + keeps p.bounds p.mode e) w.1 (passed p.bounds p.mode p.kind ks))

    place_goes : (e : Tree) (d : ℕ) (k : Kind) → is_place s.names e ≡ true → kind_of s e ≡ Some k → (ks : Kinds) → Goes units u (place_code e t d) ks ks
    place_goes (Number z) d k r h ks = absurd (let wrong : ⊥ = cc in wrong)
    place_goes (Truth b) d k r h ks = absurd (let wrong : ⊥ = cc in wrong)
    place_goes Answer d k r h ks = absurd (let wrong : ⊥ = cc in wrong)
    place_goes (Named x) d k r h ks = pieces.nothing units u ks
    place_goes (Element x es) d k r h ks =
        joined units u (trees_code es t d) _ ks (many (count es) ks) ks (trees_go es d (element_is (variable s.names x) (arguments s es) k h).3 ks)
        (joined units u (on t (instruction.Probe (slot t (Local x)) (count es)) ∷ []) (keep_code (count es) (hidden t d) t) (many (count es) ks) (many (count es) ks) ks
        (probe units u t (slot t (Local x)) (count es) k ks (local_table x es k h)) (keep units u t around.hides (count es) (hidden t d) ks (behind_variables d)))
    place_goes (Call f es) d k r h ks = absurd (let wrong : ⊥ = cc in wrong)
    place_goes (Plus a) d k r h ks = absurd (let wrong : ⊥ = cc in wrong)
    place_goes (Minus a) d k r h ks = absurd (let wrong : ⊥ = cc in wrong)
    place_goes (Not a) d k r h ks = absurd (let wrong : ⊥ = cc in wrong)
    place_goes (Binary o a b) d k r h ks = absurd (let wrong : ⊥ = cc in wrong)

  pub limits_go : (limits : Limits) (d : ℕ) → bounds_fit s limits ≡ true → (ks : Kinds) → Goes units u (limits_code limits t d) ks (twice (length limits) ks)
  limits_go [] d h ks = pieces.nothing units u ks
  limits_go (limit ∷ limits) d h ks =
      let w = both (is_kind kind.Whole (kind_of s limit.0)) (is_kind kind.Whole (kind_of s limit.1) && bounds_fit s limits) h in
      let v = both (is_kind kind.Whole (kind_of s limit.1)) (bounds_fit s limits) w.1 in
      subst (λ l. Goes units u (tree_code limit.0 t d ++ (tree_code limit.1 t d ++ limits_code limits t d)) ks l) (twice_more (length limits) ks)
      (joined units u (tree_code limit.0 t d) (tree_code limit.1 t d ++ limits_code limits t d) ks (kind.Whole ∷ ks) (twice (length limits) (kind.Whole ∷ kind.Whole ∷ ks)) (tree_goes limit.0 d kind.Whole (is_kind_is kind.Whole (kind_of s limit.0) w.0) ks)
      (joined units u (tree_code limit.1 t d) (limits_code limits t d) (kind.Whole ∷ ks) (kind.Whole ∷ kind.Whole ∷ ks) (twice (length limits) (kind.Whole ∷ kind.Whole ∷ ks)) (tree_goes limit.1 d kind.Whole (is_kind_is kind.Whole (kind_of s limit.1) v.0) (kind.Whole ∷ ks)) (limits_go limits d v.1 (kind.Whole ∷ kind.Whole ∷ ks))))
