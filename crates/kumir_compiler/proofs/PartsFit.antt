-- The code of the parts of statements, from kinds of operands to kinds of operands.
use Rattle.std.proofs.Common.{◌≡◌, ℕ, ◌≤◌, Bool, true, false, cond, not, ◌&&◌, List, [], ◌∷◌, ◌++◌, length, map, Option, Some, None, is_some, refl, sym, ap, ◌∙◌, subst, arith}
use Rattle.std.specs.Prelude.{slice_get, option_map}
use Rattle.std.specs.List.{AllByRecursion}
use Rattle.kumir_tree.specs.declared.kind.Kind.{Kind}
use Rattle.kumir_tree.specs.declared.kind.Kind.TheVariants as kind
use Rattle.kumir_tree.specs.Tree.{Tree, Trees, count}
use Rattle.kumir_tree.specs.Part.{Limits, Place, ToAnswer, ToScalar, ToElement, Shown, ShowValue, ShowText, ShowLine, Declares, Scalars, Tables, Head}
use Rattle.kumir_tree.specs.Sound.{IsInputTarget}
use Rattle.performer_kit.specs.declared.commands.RobotCommand.{RobotCommand}
use Rattle.performer_kit.specs.declared.commands.PenShape.{PenShape}
use Rattle.performer_kit.specs.Commands.{is_test, pen_arity}
use Rattle.kumir_names.specs.declared.variable.Variable.{Variable}
use Rattle.kumir_names.specs.Variables.{Names, variable, is_table, scalar, table, declares}
use Rattle.kumir_names.specs.Callees.{Callee, Called, BuiltInCall, RobotCall, PenCall}
use Rattle.kumir_meaning.specs.Program.{Placed, callee_in, local_kind}
use Rattle.kumir_meaning.specs.Store.{TheAnswer, Local}
use Rattle.stack_code.specs.declared.instruction.CommandShape.TheVariants as command
use Rattle.stack_code.specs.declared.instruction.Instruction.TheVariants as instruction
use Rattle.stack_code.specs.declared.unit.Shape.TheVariants.{Scalar, Table}
use Rattle.stack_code.specs.declared.unit.CodeUnit.{CodeUnit}
use Rattle.stack_code.specs.Operands.{Kinds, pop_numbers}
use Rattle.stack_code.specs.Validity.{is_hidden, is_scalar_of}
use Rattle.type_check.specs.Kinds.{Among, Argument, is_kind, arguments_fit, are_numbers, command_fits, element_kind, kind_of, arguments}
use Rattle.type_check.specs.Parts as checked
use Rattle.type_check.specs.Parts.{tables_fit, declares_fit, bounds_fit, scalar_kind, places_fit, shown_fits, all_shown_fit, some_whole, call_fits}
use Rattle.kumir_compiler.specs.Code as site
use Rattle.kumir_compiler.specs.Code.{Code, Line, Site, in_checks, on, slot, hidden, tree_code, trees_code, limits_code, arguments_code, enter_code, call_places, aim_code, store_code, claim_code, tables_code, declares_code, invoke_code, kind_or_whole, inputs_code, outputs_code, stride_code, turns_code, by_kind}
use Rattle.kumir_compiler.proofs.TypedValues.{both, no_test}
use Rattle.kumir_compiler.proofs.CodePieces as pieces
use Rattle.kumir_compiler.proofs.CodePieces.{IsPlain, Goes, Acts, joined, plain, more}
use Rattle.kumir_compiler.proofs.LinesFit.{many, twice, popped, store, put_elem, make, clear, stored}
use Rattle.kumir_compiler.proofs.ShapesByKinds.{kind_where_is, is_kind_is, element_is, scalar_is, shape_of, is_some_kind}
use Rattle.kumir_compiler.proofs.TreesFit.{with_kind, Around, entered, numbers_are, tree_goes, trees_go, arguments_go, limits_go, local_table}

abbrev aimed : Place → Kinds → Kinds
aimed ToAnswer ks = ks
aimed (ToScalar x) ks = ks
aimed (ToElement x es) ks = many (count es) ks

scalar_kind_is : (o : Option Variable) (k : Kind) → scalar_kind o ≡ Some k → (v : Variable) × (o ≡ Some v) × (shape_of v ≡ Scalar k)
scalar_kind_is None k e = absurd (let wrong : ⊥ = cc in wrong)
scalar_kind_is (Some v) k e = (v, refl, scalar_is v k e)

-- the slots of these have their shapes
abbrev pub Shaped : CodeUnit → Site → Names → Type 0
Shaped u t [] = Unit {0}
Shaped u t (v ∷ vs) = (slice_get u.slots (slot t (Local v.0)) ≡ Some (shape_of v.1)) × Shaped u t vs

-- tables have bounds
abbrev pub HaveBounds : Declares → Type 0
HaveBounds (Scalars k xs) = Unit {0}
HaveBounds (Tables k xs) = AllByRecursion (λ x. is_table (table k x).1 ≡ true) xs

module _ (units : List CodeUnit) (u : CodeUnit) (s : Among) (t : Site) (around : Around units u s t) where
  local_number : (x : List ℕ) (k : Kind) → scalar_kind (variable s.names x) ≡ Some k → slice_get u.slots (slot t (Local x)) ≡ Some (Scalar k)
  local_number x k h = let w = scalar_kind_is (variable s.names x) k h in around.shapes x w.0 w.1 ∙ ap Some w.2

  aim_goes : (x : Place) (d : ℕ) (k : Kind) → checked.place_kind s x ≡ Some k → (ks : Kinds) → Goes units u (aim_code x t d) ks (aimed x ks)
  aim_goes ToAnswer d k h ks = pieces.nothing units u ks
  aim_goes (ToScalar x) d k h ks = pieces.nothing units u ks
  aim_goes (ToElement x es) d k h ks = trees_go units u s t around es d (element_is (variable s.names x) (arguments s es) k h).3 ks

  store_goes : (x : Place) (k : Kind) → checked.place_kind s x ≡ Some k → (ks : Kinds) → Goes units u (store_code x t ∷ []) (k ∷ aimed x ks) ks
  store_goes ToAnswer k h ks = store units u t (slot t TheAnswer) k ks (around.answer k h)
  store_goes (ToScalar x) k h ks = store units u t (slot t (Local x)) k ks (local_number x k h)
  store_goes (ToElement x es) k h ks = put_elem units u t (slot t (Local x)) (count es) k ks (local_table units u s t around x es k h)

  pub assign_goes : (x : Place) (e : Tree) (d : ℕ) (k : Kind) → checked.place_kind s x ≡ Some k → kind_of s e ≡ Some k → (ks : Kinds) → Goes units u (aim_code x t d ++ (tree_code e t d ++ (store_code x t ∷ []))) ks ks
  assign_goes x e d k h g ks =
      joined units u (aim_code x t d) (tree_code e t d ++ (store_code x t ∷ [])) ks (aimed x ks) ks (aim_goes x d k h ks)
      (joined units u (tree_code e t d) (store_code x t ∷ []) (aimed x ks) (k ∷ aimed x ks) ks (tree_goes units u s t around e d k g (aimed x ks)) (store_goes x k h ks))

  pub claim_goes : (e : Tree) (d : ℕ) → is_kind kind.Truth (kind_of s e) ≡ true → (ks : Kinds) → Goes units u (claim_code e t d) ks ks
  claim_goes e d h ks =
      joined units u (tree_code e t d) (on t instruction.Assert ∷ []) ks (kind.Truth ∷ ks) ks (tree_goes units u s t around e d kind.Truth (is_kind_is kind.Truth (kind_of s e) h) ks)
      (plain units u t instruction.Assert _ _ (record { goes_on = refl; no_target = refl; no_call = refl }) refl refl)

  same_kind_there : (x : List ℕ) (o : Option Variable) (k : Kind) → variable s.names x ≡ o → option_map (λ v. v.kind) o ≡ Some k → local_kind t.locals x ≡ Some k
  same_kind_there x o k e f = ap (λ l. local_kind l x) around.locals ∙ ap (option_map (λ v. v.kind)) e ∙ f

  scalar_there : (o : Option Variable) (k : Kind) → scalar_kind o ≡ Some k → option_map (λ v. v.kind) o ≡ Some k
  scalar_there None k e = absurd (let wrong : ⊥ = cc in wrong)
  scalar_there (Some v) k e = ap Some (kind_where_is (not (is_table v)) v.kind k e).1

  element_kind_there : (o : Option Variable) (args : List Argument) (k : Kind) → element_kind o args ≡ Some k → option_map (λ v. v.kind) o ≡ Some k
  element_kind_there None args k e = absurd (let wrong : ⊥ = cc in wrong)
  element_kind_there (Some v) args k e = ap Some (kind_where_is (is_table v && are_numbers v.bounds args) v.kind k e).1

  input_kind : (x : Place) (k : Kind) → IsInputTarget x → checked.place_kind s x ≡ Some k → site.place_kind x t ≡ Some k
  input_kind ToAnswer k reads h = absurd reads
  input_kind (ToScalar x) k reads h = same_kind_there x (variable s.names x) k refl (scalar_there (variable s.names x) k h)
  input_kind (ToElement x es) k reads h = same_kind_there x (variable s.names x) k refl (element_kind_there (variable s.names x) (arguments s es) k h)

  pub inputs_go : (xs : List Place) (d : ℕ) → AllByRecursion IsInputTarget xs → places_fit s xs ≡ true → (ks : Kinds) → Goes units u (inputs_code xs t d) ks ks
  inputs_go [] d reads h ks = pieces.nothing units u ks
  inputs_go (x ∷ xs) d reads h ks =
      let w = both (is_some (checked.place_kind s x)) (places_fit s xs) h in
      let v = is_some_kind (checked.place_kind s x) w.0 in
      joined units u (aim_code x t d) _ ks (aimed x ks) ks (aim_goes x d v.0 v.1 ks)
      (more units u t (instruction.Input (kind_or_whole (site.place_kind x t))) (store_code x t ∷ inputs_code xs t d) (aimed x ks) (v.0 ∷ aimed x ks) ks (record { goes_on = refl; no_target = refl; no_call = refl })
      (ap (λ o. Some (kind_or_whole o ∷ aimed x ks)) (input_kind x v.0 reads.0 v.1)) refl
      (joined units u (store_code x t ∷ []) (inputs_code xs t d) (v.0 ∷ aimed x ks) ks ks (store_goes x v.0 v.1 ks) (inputs_go xs d reads.1 w.1 ks)))

  pub outputs_go : (xs : List Shown) (d : ℕ) → all_shown_fit s xs ≡ true → (ks : Kinds) → Goes units u (outputs_code xs t d) ks ks
  outputs_go [] d h ks = pieces.nothing units u ks
  outputs_go (ShowValue e ∷ xs) d h ks =
      let w = both (is_some (kind_of s e)) (all_shown_fit s xs) h in
      let v = is_some_kind (kind_of s e) w.0 in
      joined units u (tree_code e t d) _ ks (v.0 ∷ ks) ks (tree_goes units u s t around e d v.0 v.1 ks)
      (more units u t instruction.Out (outputs_code xs t d) (v.0 ∷ ks) ks ks (record { goes_on = refl; no_target = refl; no_call = refl }) refl refl (outputs_go xs d w.1 ks))
  outputs_go (ShowText text ∷ xs) d h ks = more units u t (instruction.OutText text) (outputs_code xs t d) ks ks ks (record { goes_on = refl; no_target = refl; no_call = refl }) refl refl (outputs_go xs d h ks)
  outputs_go (ShowLine ∷ xs) d h ks = more units u t instruction.OutLine (outputs_code xs t d) ks ks ks (record { goes_on = refl; no_target = refl; no_call = refl }) refl refl (outputs_go xs d h ks)

  -- ---- declarations

  scalars_go : (k : Kind) (xs : List (List ℕ)) → Shaped u t (map (scalar k) xs) → (ks : Kinds) → Goes units u (map (λ x. on t (instruction.Clear (slot t (Local x)))) xs) ks ks
  scalars_go k [] shaped ks = pieces.nothing units u ks
  scalars_go k (x ∷ xs) shaped ks =
      joined units u (on t (instruction.Clear (slot t (Local x))) ∷ []) (map (λ y. on t (instruction.Clear (slot t (Local y)))) xs) ks ks ks (clear units u t (slot t (Local x)) k ks shaped.0) (scalars_go k xs shaped.1 ks)

  tables_go : (k : Kind) (xs : List (List ℕ × Limits)) (d : ℕ) → AllByRecursion (λ x. is_table (table k x).1 ≡ true) xs → Shaped u t (map (table k) xs) → tables_fit s xs ≡ true → (ks : Kinds) → Goes units u (tables_code k xs t d) ks ks
  tables_go k [] d are shaped h ks = pieces.nothing units u ks
  tables_go k (x ∷ xs) d are shaped h ks =
      let w = both (bounds_fit s x.1) (tables_fit s xs) h in
      let is : slice_get u.slots (slot t (Local x.0)) ≡ Some (Table k (length x.1)) = shaped.0 ∙ ap (λ b. Some (cond b (Table k (length x.1)) (Scalar k))) are.0 in
      joined units u (limits_code x.1 t d) _ ks (twice (length x.1) ks) ks (limits_go units u s t around x.1 d w.0 ks)
      (joined units u (on t (instruction.Make (slot t (Local x.0)) k (length x.1)) ∷ []) (tables_code k xs t d) (twice (length x.1) ks) ks ks (make units u t (slot t (Local x.0)) (length x.1) k ks is) (tables_go k xs d are.1 shaped.1 w.1 ks))

  pub declares_go : (x : Declares) (d : ℕ) → HaveBounds x → Shaped u t (declares x) → declares_fit s x ≡ true → (ks : Kinds) → Goes units u (declares_code x t d) ks ks
  declares_go (Scalars k xs) d are shaped h ks = scalars_go k xs shaped ks
  declares_go (Tables k xs) d are shaped h ks = tables_go k xs d are shaped h ks

  -- ---- calls as statements
  ask_command : (c : RobotCommand) (ks : Kinds) → is_test c ≡ false → Goes units u (on t instruction.Step ∷ on t (instruction.Ask (command.Robot c)) ∷ []) ks ks
  ask_command c ks e =
      joined units u (on t instruction.Step ∷ []) (on t (instruction.Ask (command.Robot c)) ∷ []) ks ks ks (pieces.step units u t ks)
      (plain units u t (instruction.Ask (command.Robot c)) ks ks (record { goes_on = refl; no_target = refl; no_call = refl }) (ap (λ b. cond b (Some (kind.Truth ∷ ks)) (Some ks)) e) refl)

  ask_pen : (c : PenShape) (n : ℕ) (ks : Kinds) → n ≡ pen_arity c → Goes units u (on t instruction.Step ∷ on t (instruction.Ask (command.Pen c)) ∷ []) (many n ks) ks
  ask_pen c n ks e =
      joined units u (on t instruction.Step ∷ []) (on t (instruction.Ask (command.Pen c)) ∷ []) (many n ks) (many n ks) ks (pieces.step units u t (many n ks))
      (plain units u t (instruction.Ask (command.Pen c)) (many n ks) ks (record { goes_on = refl; no_target = refl; no_call = refl }) (ap (λ m. pop_numbers m (many n ks)) (sym e) ∙ popped n ks) refl)

  no_gives : (o : Option Kind) (b : Bool) → (not (is_some o) && b) ≡ true → (o ≡ None) × (b ≡ true)
  no_gives None b e = (refl, e)
  no_gives (Some k) b e = absurd (let wrong : ⊥ = cc in wrong)

  invoked : (c : Option (Callee Placed)) (f : List ℕ) (es : Trees) (d : ℕ) (ks : Kinds) → callee_in t.program f ≡ c → command_fits (in_checks c) (arguments s es) ≡ true → Goes units u (invoke_code c f es t d) ks ks
  invoked None f es d ks is e = absurd (let wrong : ⊥ = cc in wrong)
  invoked (Some (Called a)) f es d ks is e =
      let w = no_gives a.algorithm.head.gives (arguments_fit a.algorithm.head.params (arguments s es)) e in
      subst (λ o. Goes units u (arguments_code es a.algorithm.head.params t d ++ enter_code f (call_places es a.algorithm.head.params t d) t) ks (with_kind o ks)) w.0
      (entered units u s t around f a es d ks is w.1 (arguments_go units u s t around es a.algorithm.head.params d w.1 ks))
  invoked (Some (BuiltInCall b)) f es d ks is e = absurd (let wrong : ⊥ = cc in wrong)
  invoked (Some (RobotCall c)) f es d ks is e = ask_command c ks (no_test (is_test c) (are_numbers 0 (arguments s es)) e)
  invoked (Some (PenCall c)) f es d ks is e =
      let w = numbers_are units u s t around es (pen_arity c) e in
      joined units u (trees_code es t d) (on t instruction.Step ∷ on t (instruction.Ask (command.Pen c)) ∷ []) ks (many (count es) ks) ks (trees_go units u s t around es d w.1 ks) (ask_pen c (count es) ks w.0)

  no_local : (o : Option Variable) (found : Option (Callee Head)) (args : List Argument) → call_fits o found args ≡ true → command_fits found args ≡ true
  no_local None found args e = e
  no_local (Some v) found args e = absurd (let wrong : ⊥ = cc in wrong)

  pub invoke_goes : (f : List ℕ) (es : Trees) (d : ℕ) → call_fits (variable s.names f) (s.find f) (arguments s es) ≡ true → (ks : Kinds) → Goes units u (invoke_code (callee_in t.program f) f es t d) ks ks
  invoke_goes f es d h ks =
      invoked (callee_in t.program f) f es d ks refl
      (subst (λ c. command_fits c (arguments s es) ≡ true) (around.calls f) (no_local (variable s.names f) (s.find f) (arguments s es) h))

  -- ---- loops with a count
  with_line : (l : Line) (c : Code) (ks out : Kinds) → ((at : ℕ) → slice_get u.body at ≡ Some (l at) → Goes units u (l ∷ c) ks out) → Goes units u (l ∷ c) ks out
  with_line l c ks out f at end h = f at h.0 at end h

  behind_slots : (d : ℕ) → length t.variables ≤ hidden t d
  behind_slots d = omega arith

  pub times_goes : (e : Tree) (body : Code) (d : ℕ) → is_kind kind.Whole (kind_of s e) ≡ true → Acts units u body 1 [] [] → Goes units u (tree_code e t d ++ (on t (instruction.Times (hidden t d)) ∷ turns_code (hidden t d) None body t)) [] []
  times_goes e body d h acts =
      joined units u (tree_code e t d) _ [] (kind.Whole ∷ []) [] (tree_goes units u s t around e d kind.Whole (is_kind_is kind.Whole (kind_of s e) h) [])
      (with_line (on t (instruction.Times (hidden t d))) (turns_code (hidden t d) None body t) (kind.Whole ∷ []) []
      (λ at there.
      let is = stored units u t around.hides at (hidden t d) (on t (instruction.Times (hidden t d)) at) (behind_slots d) there refl in
      more units u t (instruction.Times (hidden t d)) (turns_code (hidden t d) None body t) (kind.Whole ∷ []) [] [] (record { goes_on = refl; no_target = refl; no_call = refl }) refl (ap is_hidden is)
      (pieces.turns_act units u (hidden t d) None body t (ap (λ o. is_hidden o && true) is) acts)))

  stride_goes : (o : Option Tree) (d : ℕ) → some_whole s o ≡ true → (ks : Kinds) → Goes units u (stride_code o t d) ks (kind.Whole ∷ ks)
  stride_goes None d h ks = plain units u t _ _ _ (record { goes_on = refl; no_target = refl; no_call = refl }) refl refl
  stride_goes (Some e) d h ks = tree_goes units u s t around e d kind.Whole (is_kind_is kind.Whole (kind_of s e) h) ks

  pub count_goes : (x : List ℕ) (from to : Tree) (by : Option Tree) (body : Code) (d : ℕ) → scalar_kind (variable s.names x) ≡ Some kind.Whole → is_kind kind.Whole (kind_of s from) ≡ true → is_kind kind.Whole (kind_of s to) ≡ true → some_whole s by ≡ true → Acts units u body 1 [] []
      → Goes units u (tree_code from t d ++ (tree_code to t d ++ (stride_code by t d ++ (on t (instruction.Turns (hidden t d)) ∷ turns_code (hidden t d) (Some (slot t (Local x))) body t)))) [] []
  count_goes x from to by body d h f g i acts =
      joined units u (tree_code from t d) _ [] (kind.Whole ∷ []) [] (tree_goes units u s t around from d kind.Whole (is_kind_is kind.Whole (kind_of s from) f) [])
      (joined units u (tree_code to t d) _ (kind.Whole ∷ []) (kind.Whole ∷ kind.Whole ∷ []) [] (tree_goes units u s t around to d kind.Whole (is_kind_is kind.Whole (kind_of s to) g) (kind.Whole ∷ []))
      (joined units u (stride_code by t d) _ (kind.Whole ∷ kind.Whole ∷ []) (kind.Whole ∷ kind.Whole ∷ kind.Whole ∷ []) [] (stride_goes by d i (kind.Whole ∷ kind.Whole ∷ []))
      (with_line (on t (instruction.Turns (hidden t d))) (turns_code (hidden t d) (Some (slot t (Local x))) body t) (kind.Whole ∷ kind.Whole ∷ kind.Whole ∷ []) []
      (λ at there.
      let is = stored units u t around.hides at (hidden t d) (on t (instruction.Turns (hidden t d)) at) (behind_slots d) there refl in
      more units u t (instruction.Turns (hidden t d)) (turns_code (hidden t d) (Some (slot t (Local x))) body t) (kind.Whole ∷ kind.Whole ∷ kind.Whole ∷ []) [] [] (record { goes_on = refl; no_target = refl; no_call = refl }) refl (ap is_hidden is)
      (pieces.turns_act units u (hidden t d) (Some (slot t (Local x))) body t (ap (λ o. is_hidden o && is_scalar_of kind.Whole (slice_get u.slots (slot t (Local x)))) is ∙ ap (is_scalar_of kind.Whole) (local_number x kind.Whole h)) acts)))))
