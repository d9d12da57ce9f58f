-- The unit of an algorithm without a fault is valid.
use Rattle.std.proofs.Common.{◌≡◌, ℕ, zero, suc, ◌+◌, ◌-◌, ◌<◌, ◌≤◌, Bool, true, false, cond, ◌&&◌, List, [], ◌∷◌, ◌++◌, length, map, replicate, Option, Some, None, refl, sym, ap, ◌∙◌, subst, arith, nat_lt, nat_eq, append_assoc, length-append}
use Rattle.std.specs.Prelude.{slice_get, bytes_eq}
use Rattle.std.specs.List.{AllByRecursion, list_all}
use Rattle.std.specs.Cmp.Lexicographic.{pointwise}
use Rattle.std.proofs.lemmas.List.{append-nil}
use Rattle.std.proofs.lemmas.Option.{slice_get_within, slice_get-get_or}
use Rattle.std.proofs.lemmas.Bool.Decides.{nat_tests}
use Rattle.std.proofs.lemmas.Cmp.{nat_list_eq_equiv}
use Rattle.kumir_tree.specs.declared.kind.Kind.{Kind}
use Rattle.kumir_tree.specs.Tree.{Tree}
use Rattle.kumir_tree.specs.Part.{Limits, Declares, Scalars, Tables, Formal, Head}
use Rattle.kumir_tree.specs.Program as tree
use Rattle.kumir_tree.specs.Program.{Stands, Declare, Assign, Invoke, Times, While, Count, Forever, Until, Choose, Select, Assert, Input, Output, Leave, Quit, Block, done, ◌next◌, Arms, no_arms, arm}
use Rattle.kumir_tree.specs.Sound.{SomeBounds, ActHolds, BlockHolds, ArmsHold, HasDimensions}
use Rattle.kumir_names.specs.declared.variable.Variable.{Variable}
use Rattle.kumir_names.specs.Variables.{Names, variable, is_table, dimensions, parameter, parameters, scalar, table, declares}
use Rattle.kumir_names.specs.Callees.{Callee, Called}
use Rattle.kumir_meaning.specs.Program.{Placed, Program, callee_in, act_names, block_names, arm_names}
use Rattle.kumir_meaning.specs.Store.{CellName, TheAnswer, Local}
use Rattle.stack_code.specs.declared.instruction.Instruction.TheVariants as instruction
use Rattle.stack_code.specs.declared.instruction.CodeLine.{CodeLine}
use Rattle.stack_code.specs.declared.unit.Shape.{Shape}
use Rattle.stack_code.specs.declared.unit.Shape.TheVariants.{Scalar, Table, Hidden}
use Rattle.stack_code.specs.declared.unit.CodeUnit.{CodeUnit}
use Rattle.stack_code.specs.Operands.{Kinds}
use Rattle.stack_code.specs.Validity.{OnLine, IsUnit, is_param, is_answer, is_scalar}
use Rattle.type_check.specs.Kinds.{Among}
use Rattle.type_check.specs.Parts.{Pieces, Parameters, Condition, claim_pieces, block_pieces, some_bounds_fit, formals_fit}
use Rattle.type_check.specs.Checked.{declared_again, behind, faults_from, unit_faults}
use Rattle.kumir_compiler.specs.Code.{Code, Site, in_checks, on, on_line, slot, position, number_of_unit, placed, header_site, variables_of, answer_of, answer_slot, param_slots, formal_shape, answer_shape, declared_shapes, act_shapes, block_shapes, arm_shapes, shapes_of, all_written_below, limits_code, bounds_code, fits_code, some_claim_code, block_code, algorithm_code, unit_code}
use Rattle.kumir_compiler.proofs.TypedValues.{both}
use Rattle.kumir_compiler.proofs.FaultlessPrograms.{none_again, one_piece}
use Rattle.kumir_compiler.proofs.CodeAt.{parts, code_from_start}
use Rattle.kumir_compiler.proofs.KindsAtPlaces.{kinds_at, none_at_first, deep, none_behind}
use Rattle.kumir_compiler.proofs.CodePieces as pieces
use Rattle.kumir_compiler.proofs.CodePieces.{Known, AreFine, IsFine, Lands, IsExit, Goes, joined, one_fine, both_fine, fine, lands}
use Rattle.kumir_compiler.proofs.LinesFit.{twice, fit}
use Rattle.kumir_compiler.proofs.ShapesByKinds.{shape_of}
use Rattle.kumir_compiler.proofs.TreesFit.{Passes, GivesBack, IsCallee, Around, limits_go}
use Rattle.kumir_compiler.proofs.PartsFit.{Shaped, claim_goes}
use Rattle.kumir_compiler.proofs.StatementsFit.{Here, block_go, shaped, around}

-- ---- shapes of variables

abbrev shapes_in : Names → List Shape
shapes_in names = map (λ v. shape_of v.1) names

shapes_both : (a b : Names) → shapes_in (a ++ b) ≡ shapes_in a ++ shapes_in b
shapes_both [] b = refl
shapes_both (v ∷ a) b = ap (λ l. shape_of v.1 ∷ l) (shapes_both a b)

bounded_table : (k : Kind) (n : ℕ) → 1 ≤ n → cond (nat_lt 0 n) (Table k n) (Scalar k) ≡ Table k n
bounded_table k n le = ap (λ b. cond b (Table k n) (Scalar k)) (let e : nat_lt 0 n ≡ true = grind (arith, nat_tests, le) in e)

scalar_shapes : (k : Kind) (xs : List (List ℕ)) → shapes_in (map (scalar k) xs) ≡ map (λ x. Scalar k) xs
scalar_shapes k [] = refl
scalar_shapes k (x ∷ xs) = ap (λ l. Scalar k ∷ l) (scalar_shapes k xs)

table_shapes : (k : Kind) (xs : List (List ℕ × Limits)) → AllByRecursion (λ x. HasDimensions x.1) xs → shapes_in (map (table k) xs) ≡ map (λ x. Table k (length x.1)) xs
table_shapes k [] all = refl
table_shapes k (x ∷ xs) all = ap (λ s. s ∷ shapes_in (map (table k) xs)) (bounded_table k (length x.1) all.0.0) ∙ ap (λ l. Table k (length x.1) ∷ l) (table_shapes k xs all.1)

module _ (L : ℕ → Type 0) where
  declared_shaped : (d : Declares) → ActHolds L HasDimensions (Declare d) → shapes_in (declares d) ≡ declared_shapes d
  declared_shaped (Scalars k xs) holds = scalar_shapes k xs
  declared_shaped (Tables k xs) holds = table_shapes k xs holds

  mutual
    act_shaped : (a : tree.Act) → ActHolds L HasDimensions a → shapes_in (act_names a) ≡ act_shapes a
    act_shaped (Declare d) h = declared_shaped d h
    act_shaped (Assign t e) h = refl
    act_shaped (Invoke x es) h = refl
    act_shaped (Times e b) h = block_shaped b h
    act_shaped (While e b) h = block_shaped b h
    act_shaped (Count x from to by b) h = block_shaped b h
    act_shaped (Forever b) h = block_shaped b h
    act_shaped (Until b line e) h = block_shaped b h.0
    act_shaped (Choose e a b) h = shapes_both (block_names a) (block_names b) ∙ ap (λ l. l ++ shapes_in (block_names b)) (block_shaped a h.0) ∙ ap (λ l. block_shapes a ++ l) (block_shaped b h.1)
    act_shaped (Select arms b) h = shapes_both (arm_names arms) (block_names b) ∙ ap (λ l. l ++ shapes_in (block_names b)) (arms_shaped arms h.0) ∙ ap (λ l. arm_shapes arms ++ l) (block_shaped b h.1)
    act_shaped (Assert e) h = refl
    act_shaped (Input ts) h = refl
    act_shaped (Output xs) h = refl
    act_shaped Leave h = refl
    act_shaped Quit h = refl

    block_shaped : (b : Block) → BlockHolds L HasDimensions b → shapes_in (block_names b) ≡ block_shapes b
    block_shaped done h = refl
    block_shaped (Stands line a next b) h = shapes_both (act_names a) (block_names b) ∙ ap (λ l. l ++ shapes_in (block_names b)) (act_shaped a h.0.1) ∙ ap (λ l. act_shapes a ++ l) (block_shaped b h.1)

    arms_shaped : (arms : Arms) → ArmsHold L HasDimensions arms → shapes_in (arm_names arms) ≡ arm_shapes arms
    arms_shaped no_arms h = refl
    arms_shaped (arm line e b more) h = shapes_both (block_names b) (arm_names more) ∙ ap (λ l. l ++ shapes_in (arm_names more)) (block_shaped b h.1) ∙ ap (λ l. block_shapes b ++ l) (arms_shaped more h.2)

formal_shaped : (k : Kind) (bounds : Option Limits) → SomeBounds HasDimensions bounds → shape_of (record { kind = k; bounds = dimensions bounds }) ≡ formal_shape k bounds
formal_shaped k None h = refl
formal_shaped k (Some limits) h = bounded_table k (length limits) h.0

params_shaped : (params : List Formal) → AllByRecursion (λ q. SomeBounds HasDimensions q.bounds) params → shapes_in (parameters params) ≡ map (λ q. formal_shape q.kind q.bounds) params
params_shaped [] h = refl
params_shaped (q ∷ params) h = ap (λ s. s ∷ shapes_in (parameters params)) (formal_shaped q.kind q.bounds h.0) ∙ ap (λ l. formal_shape q.kind q.bounds ∷ l) (params_shaped params h.1)

-- ---- where a variable stands

abbrev stored : Names → List CellName
stored names = map (λ l. Local l.0) names

position_in : (names : Names) (rest : List Shape) (x : List ℕ) (v : Variable) → variable names x ≡ Some v → slice_get (shapes_in names ++ rest) (position (stored names) (Local x)) ≡ Some (shape_of v)
position_in [] rest x v e = absurd (let wrong : ⊥ = cc in wrong)
position_in (n ∷ names) rest x v e = go (bytes_eq n.0 x) (pointwise nat_eq x n.0) (nat_list_eq_equiv.symm n.0 x) (position_in names rest x v) e
  where
    go : (b c : Bool) → b ≡ c → (variable names x ≡ Some v → slice_get (shapes_in names ++ rest) (position (stored names) (Local x)) ≡ Some (shape_of v)) → cond c (Some n.1) (variable names x) ≡ Some v
        → slice_get (shape_of n.1 ∷ (shapes_in names ++ rest)) (cond b 0 (suc (position (stored names) (Local x)))) ≡ Some (shape_of v)
    go true true f later g = ap (λ w. Some (shape_of w)) (pieces.some_is n.1 v g)
    go false false f later g = later g
    go true false f later g = absurd (let wrong : ⊥ = cc in wrong)
    go false true f later g = absurd (let wrong : ⊥ = cc in wrong)

with_answer : (gives : Option Kind) (names : List CellName) (slots : List Shape) (x : List ℕ) (s : Shape) → slice_get slots (position names (Local x)) ≡ Some s → slice_get (answer_shape gives ++ slots) (position (answer_of gives ++ names) (Local x)) ≡ Some s
with_answer None names slots x s e = e
with_answer (Some k) names slots x s e = e

answer_first : (gives : Option Kind) (k : Kind) (names : List CellName) (slots : List Shape) → gives ≡ Some k → slice_get (answer_shape gives ++ slots) (position (answer_of gives ++ names) TheAnswer) ≡ Some (Scalar k)
answer_first None k names slots e = absurd (let wrong : ⊥ = cc in wrong)
answer_first (Some j) k names slots e = ap (λ i. Some (Scalar i)) (pieces.some_is j k e)

behind_list : {X : Type 0} (xs ys : List X) (n : ℕ) → slice_get (xs ++ ys) (n + length xs) ≡ slice_get ys n
behind_list [] ys n = ap (slice_get ys) (let e : n + 0 ≡ n = omega arith in e)
behind_list (x ∷ xs) ys n = ap (slice_get (x ∷ (xs ++ ys))) (let e : n + suc (length xs) ≡ suc (n + length xs) = omega arith in e) ∙ behind_list xs ys n

replicated : {X : Type 0} (x : X) (m n : ℕ) → n < m → slice_get (replicate m x) n ≡ Some x
replicated x zero n lt = absurd (omega (arith, lt))
replicated x (suc m) zero lt = refl
replicated x (suc m) (suc n) lt = replicated x m n (let le : n < m = omega (arith, lt) in le)

hidden_behind : (front : List Shape) (most h : ℕ) → length front ≤ h → h < most → slice_get (front ++ replicate (most - length front) Hidden) h ≡ Some Hidden
hidden_behind front most h le lt =
    let e : h ≡ (h - length front) + length front = omega (arith, le) in
    ap (slice_get (front ++ replicate (most - length front) Hidden)) e ∙ behind_list front (replicate (most - length front) Hidden) (h - length front)
    ∙ replicated Hidden (most - length front) (h - length front) (omega (arith, le, lt))

placed_length : (at : ℕ) (code : Code) → length (placed at code) ≡ length code
placed_length at [] = refl
placed_length at (l ∷ ls) = ap suc (placed_length (at + 1) ls)

stored_length : (names : Names) → length (stored names) ≡ length (shapes_in names)
stored_length [] = refl
stored_length (v ∷ names) = ap suc (stored_length names)

-- ---- an algorithm without a fault
pub record IsFaultless (find : List ℕ → Option (Callee Head)) (a : Placed) : Type 0 where
  pub params : AllByRecursion (λ q. SomeBounds HasDimensions q.bounds) a.algorithm.head.params
  pub body : BlockHolds (λ line. a.first + line ≤ 4294967295) HasDimensions a.algorithm.body
  pub faults : unit_faults find a.algorithm ≡ []

abbrev all_names : Placed → Names
all_names a = parameters a.algorithm.head.params ++ block_names a.algorithm.body

abbrev front_of : Placed → List Shape
front_of a = answer_shape a.algorithm.head.gives ++ shapes_in (all_names a)

answers_long : (gives : Option Kind) → length (answer_of gives) ≡ length (answer_shape gives)
answers_long None = refl
answers_long (Some k) = refl

as_long : (a : Placed) → length (variables_of a) ≡ length (front_of a)
as_long a =
    let f = length-append (answer_of a.algorithm.head.gives) (stored (all_names a)) in
    let g = length-append (answer_shape a.algorithm.head.gives) (shapes_in (all_names a)) in
    let h = answers_long a.algorithm.head.gives in
    let i = stored_length (all_names a) in
    omega (arith, f, g, h, i)

module _ (find : List ℕ → Option (Callee Head)) (a : Placed) (ok : IsFaultless find a) where
  shapes_are : shapes_in (all_names a) ≡ map (λ q. formal_shape q.kind q.bounds) a.algorithm.head.params ++ block_shapes a.algorithm.body
  shapes_are =
      shapes_both (parameters a.algorithm.head.params) (block_names a.algorithm.body) ∙ ap (λ l. l ++ shapes_in (block_names a.algorithm.body)) (params_shaped a.algorithm.head.params ok.params)
      ∙ ap (λ l. map (λ q. formal_shape q.kind q.bounds) a.algorithm.head.params ++ l) (block_shaped (λ line. a.first + line ≤ 4294967295) a.algorithm.body ok.body)

  slots_are : (body : List CodeLine) → shapes_of a body ≡ front_of a ++ replicate (all_written_below body - length (front_of a)) Hidden
  slots_are body =
      let formals = map (λ q. formal_shape q.kind q.bounds) a.algorithm.head.params in
      let blocks = block_shapes a.algorithm.body in
      let hid : ℕ → List Shape = λ n. replicate (all_written_below body - n) Hidden in
      ap (λ n. answer_shape a.algorithm.head.gives ++ (formals ++ (blocks ++ hid n))) (as_long a)
      ∙ ap (λ l. answer_shape a.algorithm.head.gives ++ l) (sym (append_assoc formals blocks (hid (length (front_of a)))))
      ∙ ap (λ l. answer_shape a.algorithm.head.gives ++ (l ++ hid (length (front_of a)))) (sym shapes_are)
      ∙ sym (append_assoc (answer_shape a.algorithm.head.gives) (shapes_in (all_names a)) (hid (length (front_of a))))

  shapes_at : (body : List CodeLine) (x : List ℕ) (v : Variable) → variable (all_names a) x ≡ Some v → slice_get (shapes_of a body) (position (variables_of a) (Local x)) ≡ Some (shape_of v)
  shapes_at body x v e =
      let hid = replicate (all_written_below body - length (front_of a)) Hidden in
      ap (λ l. slice_get l (position (variables_of a) (Local x))) (slots_are body ∙ append_assoc (answer_shape a.algorithm.head.gives) (shapes_in (all_names a)) hid)
      ∙ with_answer a.algorithm.head.gives (stored (all_names a)) (shapes_in (all_names a) ++ hid) x (shape_of v) (position_in (all_names a) hid x v e)

  answer_at : (body : List CodeLine) (k : Kind) → a.algorithm.head.gives ≡ Some k → slice_get (shapes_of a body) (position (variables_of a) TheAnswer) ≡ Some (Scalar k)
  answer_at body k e = answer_first a.algorithm.head.gives k _ _ e

  hidden_at : (body : List CodeLine) (h : ℕ) → length (variables_of a) ≤ h → h < all_written_below body → slice_get (shapes_of a body) h ≡ Some Hidden
  hidden_at body h le lt =
      ap (λ l. slice_get l h) (slots_are body) ∙ hidden_behind (front_of a) (all_written_below body) h (subst (λ n. n ≤ h) (as_long a) le) lt

-- ---- the parameters of a callee
passes_all : (v : CodeUnit) (t : Site) (params : List Formal) → AllByRecursion (λ q. SomeBounds HasDimensions q.bounds) params → Shaped v t (parameters params) → Passes v params (param_slots params t)
passes_all v t [] h shaped = tt
passes_all v t (q ∷ params) h shaped = (refl, shaped.0 ∙ ap Some (formal_shaped q.kind q.bounds h.0), passes_all v t params h.1 shaped.1)

are_params : (v : CodeUnit) (t : Site) (params : List Formal) → Shaped v t (parameters params) → list_all (λ q. is_param (slice_get v.slots q.slot)) (param_slots params t) ≡ true
are_params v t [] shaped = refl
are_params v t (q ∷ params) shaped =
    ap (λ o. is_param o && list_all (λ r. is_param (slice_get v.slots r.slot)) (param_slots params t)) shaped.0
    ∙ ap (λ b. b && list_all (λ r. is_param (slice_get v.slots r.slot)) (param_slots params t)) (either (is_table (parameter q).1))
    ∙ are_params v t params shaped.1
  where
    either : (b : Bool) → is_param (Some (cond b (Table q.kind (dimensions q.bounds)) (Scalar q.kind))) ≡ true
    either true = refl
    either false = refl

module _ (p : Program) (find : List ℕ → Option (Callee Head)) (a : Placed) (ok : IsFaultless find a) where
  abbrev U : CodeUnit
  U = unit_code p a

  abbrev T : Site
  T = header_site p a

  gives_back : (o : Option Kind) → a.algorithm.head.gives ≡ o → GivesBack U o (answer_slot o T)
  gives_back None e = tt
  gives_back (Some k) e = answer_at find a ok U.body k e

  pub is_callee : (units : List CodeUnit) (n : ℕ) → Shaped U T (parameters a.algorithm.head.params) → slice_get units n ≡ Some U → IsCallee units n a
  is_callee units n shaped there = record {
    unit = U;
    there = there;
    params = passes_all U T a.algorithm.head.params ok.params shaped;
    gives = gives_back a.algorithm.head.gives refl;
  }

  module _ (calls : (x : List ℕ) → find x ≡ in_checks (callee_in p x)) where
    abbrev Inner : Names
    Inner = behind [] (Parameters a.algorithm.head.params)

    header : (declared_again [] (parameters a.algorithm.head.params) ≡ false) × (formals_fit (record { find = find; gives = a.algorithm.head.gives; names = Inner }) a.algorithm.head.params ≡ true)
        × (faults_from find a.algorithm.head.gives Inner (claim_pieces a.algorithm.given ++ (claim_pieces a.algorithm.wanted ++ block_pieces a.algorithm.body)) ≡ [])
    header = one_piece (λ line. a.first + line ≤ 4294967295) HasDimensions p a.algorithm.head.gives find calls [] a.algorithm.head.line (Parameters a.algorithm.head.params) (claim_pieces a.algorithm.given ++ (claim_pieces a.algorithm.wanted ++ block_pieces a.algorithm.body)) ok.faults

    inner_is : Inner ≡ parameters a.algorithm.head.params
    inner_is = none_again [] (parameters a.algorithm.head.params) header.0

    pub params_at : Shaped U T (parameters a.algorithm.head.params)
    params_at = shaped U T (all_names a) (shapes_at find a ok U.body) [] (parameters a.algorithm.head.params) (block_names a.algorithm.body) refl header.0

    module _ (units : List CodeUnit) (callees : (f : List ℕ) (b : Placed) → callee_in p f ≡ Some (Called b) → IsCallee units (number_of_unit p.algorithms f) b) where
      abbrev AmongAll : Names → Among
      AmongAll names = record { find = find; gives = a.algorithm.head.gives; names = names }

      abbrev HereAt : Site → Names → Type 0
      HereAt t names = Here units U p a.algorithm.head.gives find calls callees (variables_of a) (all_names a) (shapes_at find a ok U.body) (answer_at find a ok U.body) (hidden_at find a ok U.body) (λ line. a.first + line ≤ 4294967295) t names

      at_header : HereAt T Inner
      at_header = record { program = refl; kind = refl; slots = refl; locals = sym inner_is }

      on_row : (line : ℕ) → HereAt (on_line T line) Inner
      on_row line = record { program = refl; kind = refl; slots = refl; locals = at_header.locals }

      inner_full : Inner ++ block_names a.algorithm.body ≡ all_names a
      inner_full = ap (λ l. l ++ block_names a.algorithm.body) inner_is

      around_at : (t : Site) → HereAt t Inner → Around units U (AmongAll Inner) t
      around_at t h = around units U p a.algorithm.head.gives find calls callees (variables_of a) (all_names a) (shapes_at find a ok U.body) (answer_at find a ok U.body) (hidden_at find a ok U.body) (λ line. a.first + line ≤ 4294967295) t Inner (block_names a.algorithm.body) inner_full h

      -- ---- formal bounds
      bounds_go : (k : Kind) (name : List ℕ) (bounds : Option Limits) → SomeBounds HasDimensions bounds → slice_get U.slots (slot T (Local name)) ≡ Some (shape_of (record { kind = k; bounds = dimensions bounds })) → some_bounds_fit (AmongAll Inner) bounds ≡ true → Goes units U (bounds_code bounds name T) [] []
      bounds_go k name None h is e = pieces.nothing units U []
      bounds_go k name (Some limits) h is e =
          joined units U (limits_code limits T 0) (on T (instruction.Fit (slot T (Local name)) (length limits)) ∷ []) [] (twice (length limits) []) [] (limits_go units U (AmongAll Inner) T (around_at T at_header) limits 0 e [])
          (fit units U T (slot T (Local name)) (length limits) k [] (is ∙ ap Some (bounded_table k (length limits) h.0)))

      fits_go : (params : List Formal) → AllByRecursion (λ q. SomeBounds HasDimensions q.bounds) params → Shaped U T (parameters params) → formals_fit (AmongAll Inner) params ≡ true → Goes units U (fits_code params T) [] []
      fits_go [] h sh e = pieces.nothing units U []
      fits_go (q ∷ params) h sh e =
          let w = both (some_bounds_fit (AmongAll Inner) q.bounds) (formals_fit (AmongAll Inner) params) e in
          joined units U (bounds_code q.bounds q.name T) (fits_code params T) [] [] [] (bounds_go q.kind q.name q.bounds h.0 sh.0 w.0) (fits_go params h.1 sh.1 w.1)

      -- ---- `дано` and `надо`
      claim_go : (c : Option (ℕ × Tree)) (more : Pieces) → faults_from find a.algorithm.head.gives Inner (claim_pieces c ++ more) ≡ [] → Goes units U (some_claim_code c T) [] [] × (faults_from find a.algorithm.head.gives Inner more ≡ [])
      claim_go None more f = (pieces.nothing units U [], f)
      claim_go (Some c) more f =
          let w = one_piece (λ line. a.first + line ≤ 4294967295) HasDimensions p a.algorithm.head.gives find calls Inner c.0 (Condition c.1) more f in
          (claim_goes units U (AmongAll Inner) (on_line T c.0) (around_at (on_line T c.0) (on_row c.0)) c.1 0 w.1 [], w.2)

      -- ---- the whole body
      abbrev Whole : Code
      Whole = algorithm_code a T

      -- the place of the return, whose line is the last one, and all lines are valid
      abbrev IsWhole : Type 0
      IsWhole = (last : ℕ) × (slice_get U.body last ≡ Some (on (on_line T a.algorithm.close) instruction.Return last)) × (last + 1 ≡ length U.body) × AreFine units U 0 (length U.body)

      whole : IsWhole
      whole =
          let end = length Whole in
          let w1 = parts U.body 0 (fits_code a.algorithm.head.params T) _ end (code_from_start Whole) in
          let w2 = parts U.body w1.0 (some_claim_code a.algorithm.given T) _ end w1.2 in
          let w3 = parts U.body w2.0 (block_code a.algorithm.body T 0 0) _ end w2.2 in
          let w4 = parts U.body w3.0 (some_claim_code a.algorithm.wanted T) _ end w3.2 in
          let c1 = claim_go a.algorithm.given (claim_pieces a.algorithm.wanted ++ block_pieces a.algorithm.body) header.2 in
          let c2 = claim_go a.algorithm.wanted (block_pieces a.algorithm.body) c1.1 in
          let full : Inner ++ (block_names a.algorithm.body ++ []) ≡ all_names a = ap (λ l. Inner ++ l) (append-nil (block_names a.algorithm.body)) ∙ inner_full in
          let b = block_go units U p a.algorithm.head.gives find calls callees (variables_of a) (all_names a) (shapes_at find a ok U.body) (answer_at find a ok U.body) (hidden_at find a ok U.body) (λ line. a.first + line ≤ 4294967295)
          a.algorithm.body T Inner [] [] 0 0 at_header full ok.body (subst (λ ps. faults_from find a.algorithm.head.gives Inner ps ≡ []) (sym (append-nil (block_pieces a.algorithm.body))) c2.1) in
          let x1 = fits_go a.algorithm.head.params ok.params params_at header.1 0 w1.0 w1.1 (none_at_first units U) in
          let x2 = c1.0 w1.0 w2.0 w2.1 x1.0 in
          let x3 = b.0 w2.0 w3.0 w3.1 x2.0 in
          let x4 = c2.0 w3.0 w4.0 w4.1 x3.0 in
          let last : CodeLine = on (on_line T a.algorithm.close) instruction.Return w4.0 in
          let long : end ≡ length U.body = sym (placed_length 0 Whole) in
          let ends : w4.0 + 1 ≡ length U.body = w4.2.1 ∙ long in
          let at_last = lands units U w4.0 last w4.2.0 refl in
          let y4 = x4.1 at_last in
          let stays : w3.0 ≡ w3.0 + 0 = omega arith in
          let y3 = x3.1 y4.0 (subst (IsExit units U) stays (record { lands = y4.0; known = x3.0 })) in
          let y2 = x2.1 y3.0 in
          let y1 = x1.1 y2.0 in (
            w4.0,
            w4.2.0,
            ends,
            subst (AreFine units U 0) ends
                (both_fine units U 0 w1.0 (w4.0 + 1) y1.1
                (both_fine units U w1.0 w2.0 (w4.0 + 1) y2.1
                (both_fine units U w2.0 w3.0 (w4.0 + 1) y3.1
                (both_fine units U w3.0 w4.0 (w4.0 + 1) y4.1
                (one_fine units U w4.0 last w4.2.0 (fine units U w4.0 last [] [] x4.0 refl refl tt tt refl refl)))))),
          )

      -- ---- the unit
      is_answer_there : (o : Option Kind) → a.algorithm.head.gives ≡ o → is_answer U.slots (answer_slot o T) ≡ true
      is_answer_there None e = refl
      is_answer_there (Some k) e = ap is_scalar (answer_at find a ok U.body k e)

      on_place : IsWhole → (pc : ℕ) (found : Kinds) → kinds_at units U pc ≡ Some found → OnLine units U (kinds_at units U) pc found (slice_get U.body pc)
      on_place w pc found e = go (nat_lt pc (length U.body)) refl
        where
          found_line : (l : CodeLine) → slice_get U.body pc ≡ Some l → pc < length U.body → OnLine units U (kinds_at units U) pc found (slice_get U.body pc)
          found_line l there lt =
              let shallow = deep units U pc found e in
              subst (OnLine units U (kinds_at units U) pc found) (sym there) (omega (arith, shallow, lt), (w.3 pc l (omega arith) lt there).leads found e)

          go : (b : Bool) → nat_lt pc (length U.body) ≡ b → OnLine units U (kinds_at units U) pc found (slice_get U.body pc)
          go true is =
              let lt : pc < length U.body = grind (arith, nat_tests, is) in
              found_line _ (slice_get-get_or U.body pc (on (on_line T a.algorithm.close) instruction.Return w.0) lt) lt
          go false is =
              let le : length U.body ≤ pc = grind (arith, nat_tests, is) in
              let gone = none_behind units U w.0 (on (on_line T a.algorithm.close) instruction.Return w.0) w.1 refl w.2 pc le in
              absurd (let wrong : ⊥ = cc in wrong)

      pub is_unit : IsUnit units U
      is_unit = record {
        params = are_params U T a.algorithm.head.params params_at;
        answer = is_answer_there a.algorithm.head.gives refl;
        not_empty = let ends = whole.2 in omega (arith, ends);
        lines = λ pc l there. (whole.3 pc l (omega arith) (slice_get_within U.body pc l there) there).fits;
        kinds = kinds_at units U;
        operands = record { begins = none_at_first units U; goes_on = on_place whole };
      }
