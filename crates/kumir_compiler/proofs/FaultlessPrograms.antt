-- The program of units without a fault can be compiled.
use Rattle.std.proofs.Common.{◌≡◌, ℕ, ◌+◌, ◌≤◌, Bool, true, false, ◌&&◌, ◌||◌, cond, List, [], ◌∷◌, ◌++◌, map, Option, Some, None, is_some, refl, sym, ap, subst, ◌∙◌, append_assoc}
use Rattle.std.proofs.lemmas.List.{append-nil}
use Rattle.std.specs.Prelude.{option_map}
use Rattle.std.specs.List.{AllByRecursion}
use Rattle.kumir_tree.specs.declared.kind.Kind.{Kind}
use Rattle.kumir_tree.specs.declared.kind.Kind.TheVariants as kind
use Rattle.kumir_tree.specs.Tree.{Tree}
use Rattle.kumir_tree.specs.Part.{Limits, Place, ToAnswer, ToScalar, ToElement, Shown, ShowValue, ShowText, ShowLine, Declares, Scalars, Tables, Formal, Head}
use Rattle.kumir_tree.specs.Program as tree
use Rattle.kumir_tree.specs.Program.{Stands, Declare, Assign, Invoke, Times, While, Count, Forever, Until, Choose, Select, Assert, Input, Output, Leave, Quit, Block, done, ◌next◌, Arms, no_arms, arm}
use Rattle.kumir_tree.specs.Unit.{Algorithm, Ending, Grown, Prelude, Faulty, Known}
use Rattle.kumir_tree.specs.Sound.{IsInputTarget, ActHolds, BlockHolds, ArmsHold, EndingHolds, HasDimensions, IsSound, IsUnitRead, IsPlaced, EndsUnit}
use Rattle.kumir_names.specs.declared.variable.Variable.{Variable}
use Rattle.kumir_names.specs.Variables.{Names, variable, parameter, declares}
use Rattle.kumir_names.specs.Callees.{Callee}
use Rattle.kumir_meaning.specs.Program.{Placed, Program, grown, program_of, callee_in, act_names, stmt_names, block_names, arm_names}
use Rattle.type_rules.specs.Callees as rules
use Rattle.type_rules.specs.Callees.{Callees}
use Rattle.type_rules.specs.Counted.{no_heads, with_head, head_fault, without_fault, counted_with, fault_on, fault_at, all_counted, all_faults, headers_in, header_faults}
use Rattle.type_check.specs.Kinds.{Among, is_kind, kind_of, arguments}
use Rattle.type_check.specs.Parts as checked
use Rattle.type_check.specs.Parts.{Part, Parameters, Condition, Repeating, Counting, Declaring, Assigning, Calling, Reading, Printing, Pieces, pieces, claim_pieces, act_pieces, block_pieces, arms_pieces, declared_by, bounds_fit, some_bounds_fit, formals_fit, tables_fit, declares_fit, scalar_kind, places_fit, shown_fits, all_shown_fit, some_whole, fits}
use Rattle.type_check.specs.Checked.{is_local, with_local, with_locals, declared_again, behind, at_piece, fault_code, part_fault, faults_from, unit_faults}
use Rattle.type_check.specs.Margin.{on_line, own_faults, placed_faults, all_placed_faults, program_faults}
use Rattle.kumir_compiler.specs.Code as site
use Rattle.kumir_compiler.specs.Code.{Site, in_checks, header_site}
use Rattle.kumir_compiler.specs.Compilable.{IsThere, IsLocal, IsValue, AreLimits, IsTarget, AreTables, IsDeclared, TakeInputs, AreShown, IsStride, CanAct, CanRun, CanChoose, IsSomeClaim, AreBounds, AreFormals, IsCompilableAlgorithm, AreCompilable, IsCompilable}
use Rattle.kumir_compiler.proofs.SameCallees.{head_of, callees_in, same_callee}
use Rattle.kumir_compiler.proofs.TypedValues.{both, is_there, kind_there, same_there, element_there, local_there, answer_there, value_ok, values_ok, invoked_ok}

-- ---- no faults

pub both_empty : {X : Type 0} (xs ys : List X) → xs ++ ys ≡ [] → (xs ≡ []) × (ys ≡ [])
both_empty [] ys e = (refl, e)
both_empty (x ∷ xs) ys e = absurd (let wrong : ⊥ = cc in wrong)

map_empty : {X Y : Type 0} (f : X → Y) (xs : List X) → map f xs ≡ [] → xs ≡ []
map_empty f [] e = refl
map_empty f (x ∷ xs) e = absurd (let wrong : ⊥ = cc in wrong)

no_fault_on : (line : ℕ) (o : Option ℕ) → fault_on line o ≡ [] → o ≡ None
no_fault_on line None e = refl
no_fault_on line (Some code) e = absurd (let wrong : ⊥ = cc in wrong)

no_fault_code : (again known right : Bool) → fault_code again known right ≡ None → (again ≡ false) × (right ≡ true)
no_fault_code true known right e = absurd (let wrong : ⊥ = cc in wrong)
no_fault_code false false right e = absurd (let wrong : ⊥ = cc in wrong)
no_fault_code false true false e = absurd (let wrong : ⊥ = cc in wrong)
no_fault_code false true true e = (refl, refl)

pub neither : (a b : Bool) → (a || b) ≡ false → (a ≡ false) × (b ≡ false)
neither true b e = absurd (let wrong : ⊥ = cc in wrong)
neither false b e = (refl, e)

-- ---- local names

pub none_again : (names vs : Names) → declared_again names vs ≡ false → with_locals names vs ≡ names ++ vs
none_again names [] e = sym (append-nil names)
none_again names (v ∷ vs) e =
    let w = neither (is_local names v.0) (declared_again (with_local names v) vs) e in
    none_again (with_local names v) vs w.1 ∙ ap (λ b. cond b names (names ++ v ∷ []) ++ vs) w.0 ∙ append_assoc names (v ∷ []) vs

kind_of_variable : (o : Option Variable) → IsThere o → IsThere (option_map (λ v. v.kind) o)
kind_of_variable None h = absurd h
kind_of_variable (Some v) h = tt

scalar_there : (o : Option Variable) → IsThere (scalar_kind o) → IsThere o
scalar_there None h = absurd h
scalar_there (Some v) h = tt

module _ (L : ℕ → Type 0) (B : Limits → Type 0) (p : Program) (gives : Option Kind) (find : List ℕ → Option (Callee Head)) (calls : (x : List ℕ) → find x ≡ in_checks (callee_in p x)) where
  abbrev among : Names → Among
  among names = record { find = find; gives = gives; names = names }

  abbrev At : Site → Names → Type 0
  At t names = (t.program ≡ p) × (t.gives ≡ gives) × (t.locals ≡ names)

  -- ---- parts of statements

  module _ (t : Site) (names : Names) (at : At t names) where
    calls_at : (x : List ℕ) → find x ≡ in_checks (callee_in t.program x)
    calls_at x = subst (λ q. find x ≡ in_checks (callee_in q x)) (sym at.0) (calls x)

    value_at : (e : Tree) → IsThere (kind_of (among names) e) → IsValue e t
    value_at e h = value_ok (among names) t at.2 at.1 calls_at e h

    kind_at : (k : Kind) (e : Tree) → is_kind k (kind_of (among names) e) ≡ true → IsValue e t
    kind_at k e h = value_at e (kind_there k (kind_of (among names) e) h)

    local_at : (x : List ℕ) → IsThere (variable names x) → IsLocal t x
    local_at x h = local_there (among names) t at.2 at.1 calls_at x h

    limits_at : (limits : Limits) → bounds_fit (among names) limits ≡ true → AreLimits limits t
    limits_at [] e = tt
    limits_at (limit ∷ limits) e =
        let w = both (is_kind kind.Whole (kind_of (among names) limit.0)) (is_kind kind.Whole (kind_of (among names) limit.1) && bounds_fit (among names) limits) e in
        let v = both (is_kind kind.Whole (kind_of (among names) limit.1)) (bounds_fit (among names) limits) w.1 in
        (kind_at kind.Whole limit.0 w.0, kind_at kind.Whole limit.1 v.0, limits_at limits v.1)

    bounds_at : (bounds : Option Limits) → some_bounds_fit (among names) bounds ≡ true → AreBounds bounds t
    bounds_at None e = tt
    bounds_at (Some limits) e = limits_at limits e

    formals_at : (params : List Formal) → formals_fit (among names) params ≡ true → AreFormals params t
    formals_at [] e = tt
    formals_at (q ∷ params) e =
        let w = both (some_bounds_fit (among names) q.bounds) (formals_fit (among names) params) e in
        (bounds_at q.bounds w.0, formals_at params w.1)

    tables_at : (xs : List (List ℕ × Limits)) → tables_fit (among names) xs ≡ true → AreTables xs t
    tables_at [] e = tt
    tables_at (x ∷ xs) e =
        let w = both (bounds_fit (among names) x.1) (tables_fit (among names) xs) e in
        (limits_at x.1 w.0, tables_at xs w.1)

    declared_at : (d : Declares) → declares_fit (among names) d ≡ true → IsDeclared d t
    declared_at (Scalars k xs) e = tt
    declared_at (Tables k xs) e = tables_at xs e

    target_at : (x : Place) → IsThere (checked.place_kind (among names) x) → IsTarget x t
    target_at ToAnswer h = answer_there (among names) t at.2 at.1 calls_at h
    target_at (ToScalar x) h = local_at x (scalar_there (variable names x) h)
    target_at (ToElement x es) h =
        let w = element_there (variable names x) (arguments (among names) es) h in
        (local_at x w.0, values_ok (among names) t at.2 at.1 calls_at es w.1)

    variable_at : (x : Place) → IsInputTarget x → IsTarget x t → IsThere (site.place_kind x t)
    variable_at ToAnswer reads h = absurd reads
    variable_at (ToScalar x) reads h = kind_of_variable (variable t.locals x) h
    variable_at (ToElement x es) reads h = kind_of_variable (variable t.locals x) h.0

    inputs_at : (xs : List Place) → AllByRecursion IsInputTarget xs → places_fit (among names) xs ≡ true → TakeInputs xs t
    inputs_at [] holds e = tt
    inputs_at (x ∷ xs) holds e =
        let w = both (is_some (checked.place_kind (among names) x)) (places_fit (among names) xs) e in
        let target = target_at x (is_there (checked.place_kind (among names) x) w.0) in
        (target, variable_at x holds.0 target, inputs_at xs holds.1 w.1)

    shown_at : (xs : List Shown) → all_shown_fit (among names) xs ≡ true → AreShown xs t
    shown_at [] e = tt
    shown_at (ShowValue x ∷ xs) e =
        let w = both (is_some (kind_of (among names) x)) (all_shown_fit (among names) xs) e in
        (value_at x (is_there (kind_of (among names) x) w.0), shown_at xs w.1)
    shown_at (ShowText text ∷ xs) e = shown_at xs e
    shown_at (ShowLine ∷ xs) e = shown_at xs e

    stride_at : (o : Option Tree) → some_whole (among names) o ≡ true → IsStride o t
    stride_at None e = tt
    stride_at (Some x) e = kind_at kind.Whole x e

  -- ---- pieces

  -- a piece without a fault, and those behind it
  pub one_piece : (names : Names) (line : ℕ) (part : Part) (more : Pieces) → faults_from find gives names ((line, part) ∷ more) ≡ []
      → (declared_again names (declared_by part) ≡ false) × (fits (among (at_piece names part)) part ≡ true) × (faults_from find gives (behind names part) more ≡ [])
  one_piece names line part more e =
      let w = both_empty (fault_on line (part_fault find gives names part)) (faults_from find gives (behind names part) more) e in
      let v = no_fault_code _ _ _ (no_fault_on line (part_fault find gives names part) w.0) in
      (v.0, v.1, w.1)

  -- the local names go on by these, and the pieces that follow have no fault
  abbrev Goes : Names → Names → Pieces → Type 0
  Goes before here more = (new : Names) × (before ++ here ≡ new) × (faults_from find gives new more ≡ [])

  further : (ls a b : Names) (more : Pieces) → Goes (ls ++ a) b more → Goes ls (a ++ b) more
  further ls a b more g = (g.0, sym (append_assoc ls a b) ∙ g.1, g.2)

  no_more : (ls : Names) (names : Names) (more : Pieces) → ls ≡ names → faults_from find gives names more ≡ [] → Goes ls [] more
  no_more ls names more e f = (names, append-nil ls ∙ e, f)

  pub split : (names : Names) (a b c : Pieces) → faults_from find gives names (a ++ b ++ c) ≡ [] → faults_from find gives names (a ++ (b ++ c)) ≡ []
  split names a b c e = subst (λ ps. faults_from find gives names ps ≡ []) (append_assoc a b c) e

  declared : (t : Site) (names : Names) (d : Declares) → At t names → declared_again names (declares d) ≡ false → t.locals ++ declares d ≡ with_locals names (declares d)
  declared t names d at e = ap (λ l. l ++ declares d) at.2 ∙ sym (none_again names (declares d) e)

  -- ---- statements

  mutual
    act_ok : (a : tree.Act) (line : ℕ) (t : Site) (names : Names) (more : Pieces) → At t names → ActHolds L B a → faults_from find gives names (act_pieces line a ++ more) ≡ [] → CanAct a t × Goes t.locals (act_names a) more
    act_ok (Declare d) line t names more at holds f =
        let w = one_piece names line (Declaring d) more f in
        (declared_at t names at d w.1, (behind names (Declaring d), declared t names d at w.0, w.2))
    act_ok (Assign x e) line t names more at holds f =
        let w = one_piece names line (Assigning x e) more f in
        let v = same_there (checked.place_kind (among names) x) (kind_of (among names) e) w.1 in
        ((target_at t names at x v.0, value_at t names at e v.1), no_more t.locals names more at.2 w.2)
    act_ok (Invoke x es) line t names more at holds f =
        let w = one_piece names line (Calling x es) more f in
        (invoked_ok (among names) t at.2 at.1 (calls_at t names at) x es w.1, no_more t.locals names more at.2 w.2)
    act_ok (Times e b) line t names more at holds f =
        let w = one_piece names line (Repeating e) (block_pieces b ++ more) f in
        let r = block_ok b t names more at holds w.2 in
        ((kind_at t names at kind.Whole e w.1, r.0), r.1)
    act_ok (While e b) line t names more at holds f =
        let w = one_piece names line (Condition e) (block_pieces b ++ more) f in
        let r = block_ok b t names more at holds w.2 in
        ((kind_at t names at kind.Truth e w.1, r.0), r.1)
    act_ok (Count x from to stride b) line t names more at holds f =
        let w = one_piece names line (Counting x from to stride) (block_pieces b ++ more) f in
        let v = both (is_kind kind.Whole (scalar_kind (variable names x))) (is_kind kind.Whole (kind_of (among names) from) && (is_kind kind.Whole (kind_of (among names) to) && some_whole (among names) stride)) w.1 in
        let u = both (is_kind kind.Whole (kind_of (among names) from)) (is_kind kind.Whole (kind_of (among names) to) && some_whole (among names) stride) v.1 in
        let z = both (is_kind kind.Whole (kind_of (among names) to)) (some_whole (among names) stride) u.1 in
        let r = block_ok b t names more at holds w.2 in (
          (
            local_at t names at x (scalar_there (variable names x) (kind_there kind.Whole (scalar_kind (variable names x)) v.0)),
            kind_at t names at kind.Whole from u.0,
            kind_at t names at kind.Whole to z.0,
            stride_at t names at stride z.1,
            r.0,
          ),
          r.1,
        )
    act_ok (Forever b) line t names more at holds f = block_ok b t names more at holds f
    act_ok (Until b close e) line t names more at holds f =
        let r = block_ok b t names ((close, Condition e) ∷ more) at holds.0 (split names (block_pieces b) ((close, Condition e) ∷ []) more f) in
        let w = one_piece r.1.0 close (Condition e) more r.1.2 in
        ((r.0, kind_at (site.on_line (site.behind t (block_names b)) close) r.1.0 (at.0, at.1, r.1.1) kind.Truth e w.1), (r.1.0, r.1.1, w.2))
    act_ok (Choose e a b) line t names more at holds f =
        let w = one_piece names line (Condition e) ((block_pieces a ++ block_pieces b) ++ more) f in
        let r = block_ok a t names (block_pieces b ++ more) at holds.0 (split names (block_pieces a) (block_pieces b) more w.2) in
        let q = block_ok b (site.behind t (block_names a)) r.1.0 more (at.0, at.1, r.1.1) holds.1 r.1.2 in
        ((kind_at t names at kind.Truth e w.1, r.0, q.0), further t.locals (block_names a) (block_names b) more q.1)
    act_ok (Select arms b) line t names more at holds f =
        let r = arms_ok arms t names (block_pieces b ++ more) b at holds.0 (split names (arms_pieces arms) (block_pieces b) more f)
        (λ s new there g. (block_ok b s new more there holds.1 g).0) in
        let q = block_ok b (site.behind t (arm_names arms)) r.1.0 more (at.0, at.1, r.1.1) holds.1 r.1.2 in
        (r.0, further t.locals (arm_names arms) (block_names b) more q.1)
    act_ok (Assert e) line t names more at holds f =
        let w = one_piece names line (Condition e) more f in
        (kind_at t names at kind.Truth e w.1, no_more t.locals names more at.2 w.2)
    act_ok (Input xs) line t names more at holds f =
        let w = one_piece names line (Reading xs) more f in
        (inputs_at t names at xs holds w.1, no_more t.locals names more at.2 w.2)
    act_ok (Output xs) line t names more at holds f =
        let w = one_piece names line (Printing xs) more f in
        (shown_at t names at xs w.1, no_more t.locals names more at.2 w.2)
    act_ok Leave line t names more at holds f = (tt, no_more t.locals names more at.2 f)
    act_ok Quit line t names more at holds f = (tt, no_more t.locals names more at.2 f)

    block_ok : (b : Block) (t : Site) (names : Names) (more : Pieces) → At t names → BlockHolds L B b → faults_from find gives names (block_pieces b ++ more) ≡ [] → CanRun b t × Goes t.locals (block_names b) more
    block_ok done t names more at holds f = (tt, no_more t.locals names more at.2 f)
    block_ok (Stands line a next b) t names more at holds f =
        let r = act_ok a line (site.on_line t line) names (block_pieces b ++ more) at holds.0.1 (split names (act_pieces line a) (block_pieces b) more f) in
        let q = block_ok b (site.behind t (stmt_names (Stands line a))) r.1.0 more (at.0, at.1, r.1.1) holds.1 r.1.2 in
        ((r.0, q.0), further t.locals (act_names a) (block_names b) more q.1)

    arms_ok : (arms : Arms) (t : Site) (names : Names) (more : Pieces) (rest : Block) → At t names → ArmsHold L B arms → faults_from find gives names (arms_pieces arms ++ more) ≡ []
        → ((s : Site) (new : Names) → At s new → faults_from find gives new more ≡ [] → CanRun rest s) → CanChoose arms t (λ s. CanRun rest s) × Goes t.locals (arm_names arms) more
    arms_ok no_arms t names more rest at holds f go = (go t names at f, no_more t.locals names more at.2 f)
    arms_ok (arm line e b arms) t names more rest at holds f go =
        let w = one_piece names line (Condition e) ((block_pieces b ++ arms_pieces arms) ++ more) f in
        let r = block_ok b t names (arms_pieces arms ++ more) at holds.1 (split names (block_pieces b) (arms_pieces arms) more w.2) in
        let q = arms_ok arms (site.behind t (block_names b)) r.1.0 more rest (at.0, at.1, r.1.1) holds.2 r.1.2 go in
        ((kind_at (site.on_line t line) names at kind.Truth e w.1, r.0, q.0), further t.locals (block_names b) (arm_names arms) more q.1)

  claim_ok : (c : Option (ℕ × Tree)) (t : Site) (names : Names) (more : Pieces) → At t names → faults_from find gives names (claim_pieces c ++ more) ≡ [] → IsSomeClaim c t × (faults_from find gives names more ≡ [])
  claim_ok None t names more at f = (tt, f)
  claim_ok (Some c) t names more at f =
      let w = one_piece names c.0 (Condition c.1) more f in
      (kind_at (site.on_line t c.0) names at kind.Truth c.1 w.1, w.2)

-- ---- algorithms

algorithm_ok : (p : Program) (find : List ℕ → Option (Callee Head)) → ((x : List ℕ) → find x ≡ in_checks (callee_in p x)) → (L : ℕ → Type 0) (B : Limits → Type 0) (a : Placed) → BlockHolds L B a.algorithm.body → unit_faults find a.algorithm ≡ [] → IsCompilableAlgorithm p a
algorithm_ok p find calls L B a holds f =
    let gives = a.algorithm.head.gives in
    let params = a.algorithm.head.params in
    let body = block_pieces a.algorithm.body in
    let t = header_site p a in
    let names = behind [] (Parameters params) in
    let w = one_piece L B p gives find calls [] a.algorithm.head.line (Parameters params) (claim_pieces a.algorithm.given ++ (claim_pieces a.algorithm.wanted ++ body)) f in
    let at : (t.program ≡ p) × (t.gives ≡ gives) × (t.locals ≡ names) = (refl, refl, sym (none_again [] (map parameter params) w.0)) in
    let first = claim_ok L B p gives find calls a.algorithm.given t names (claim_pieces a.algorithm.wanted ++ body) at w.2 in
    let second = claim_ok L B p gives find calls a.algorithm.wanted t names body at first.1 in
    record {
      params = formals_at L B p gives find calls t names at params w.1;
      given = first.0;
      wanted = second.0;
      body = (block_ok L B p gives find calls a.algorithm.body t names [] at holds (subst (λ ps. faults_from find gives names ps ≡ []) (sym (append-nil body)) second.1)).0;
    }

-- ---- units

abbrev pub on_lines : ℕ × Known → ℕ → Type 0
on_lines u line = u.0 + line ≤ 4294967295

-- a unit whose algorithm was read
abbrev pub IsGrown : ℕ × Known → Type 0
IsGrown u = (a : Algorithm) × (u.1.ending ≡ Grown a) × (u.1.head ≡ Some a.head) × BlockHolds (on_lines u) HasDimensions a.body

module _ (find : List ℕ → Option (Callee Head)) where
  grown_ending : (L : ℕ → Type 0) (B : Limits → Type 0) (head : Option Head) (e : Ending) → EndsUnit head e → EndingHolds L B e → own_faults find e ≡ []
      → (a : Algorithm) × (e ≡ Grown a) × (head ≡ Some a.head) × BlockHolds L B a.body
  grown_ending L B head (Grown a) ends holds f = (a, refl, ends, holds.3)
  grown_ending L B head Prelude ends holds f = absurd ends
  grown_ending L B head (Faulty faults) ends holds f = absurd (ends f)

  pub own : (u : ℕ × Known) (units : List (ℕ × Known)) → all_placed_faults find (u ∷ units) ≡ [] → (own_faults find u.1.ending ≡ []) × (all_placed_faults find units ≡ [])
  own u units f =
      let w = both_empty (placed_faults find u) (all_placed_faults find units) f in
      let v = both_empty (map (on_line u.0) (own_faults find u.1.ending)) (map (on_line u.0) u.1.unknown) w.0 in
      (map_empty (on_line u.0) (own_faults find u.1.ending) v.0, w.1)

  pub all_grown : (units : List (ℕ × Known)) → AllByRecursion (λ u. IsUnitRead u.1 × IsPlaced u) units → all_placed_faults find units ≡ [] → AllByRecursion IsGrown units
  all_grown [] sound f = _
  all_grown (u ∷ units) sound f = let w = own u units f in (grown_ending (on_lines u) HasDimensions u.1.head u.1.ending sound.0.0.0 sound.0.1.1.2 w.0, all_grown units sound.1 w.1)

abbrev pub placed_at : ℕ → Algorithm → Placed
placed_at first a = record { first = first; algorithm = a }

pub grown_is : (u : ℕ × Known) (units : List (ℕ × Known)) (a : Algorithm) → u.1.ending ≡ Grown a → grown (u ∷ units) ≡ placed_at u.0 a ∷ grown units
grown_is u units a e = rw e refl

all_compilable : (p : Program) (find : List ℕ → Option (Callee Head)) → ((x : List ℕ) → find x ≡ in_checks (callee_in p x)) → (units : List (ℕ × Known)) → AllByRecursion IsGrown units → all_placed_faults find units ≡ [] → AreCompilable p (grown units)
all_compilable p find calls [] all f = tt
all_compilable p find calls (u ∷ units) all f =
    let a = all.0.0 in
    let w = own find u units f in
    subst (AreCompilable p) (sym (grown_is u units a all.0.1))
    (algorithm_ok p find calls (on_lines u) HasDimensions (placed_at u.0 a) all.0.3 (subst (λ e. own_faults find e ≡ []) all.0.1 w.0), all_compilable p find calls units all.1 w.1)

-- ---- headers

counted : (c : Callees) (h : Head) (o : Option ℕ) → o ≡ None → without_fault c h o ≡ with_head c h
counted c h None e = refl
counted c h (Some code) e = absurd (let wrong : ⊥ = cc in wrong)

-- the header of a unit that was read counts, where it has no fault
one_counted : (first : ℕ) (c : Callees) (head : Option Head) (h : Head) → head ≡ Some h → fault_at first c head ≡ [] → counted_with c head ≡ with_head c h
one_counted first c None h e f = absurd (let wrong : ⊥ = cc in wrong)
one_counted first c (Some g) h e f =
    let same : g ≡ h = cc in
    subst (λ z. counted_with c (Some g) ≡ with_head c z) same (counted c g (head_fault c g) (no_fault_on (first + g.line) (head_fault c g) f))

abbrev with_heads : Callees → List Head → Callees
with_heads c heads = record { performers = c.performers; heads = c.heads ++ heads }

pub all_count : (c : Callees) (units : List (ℕ × Known)) → AllByRecursion IsGrown units → all_faults c units ≡ [] → all_counted c units ≡ with_heads c (map head_of (grown units))
all_count c [] all f = ap (λ l. record { performers = c.performers; heads = l }) (sym (append-nil c.heads))
all_count c (u ∷ units) all f =
    let a = all.0.0 in
    let w = both_empty (fault_at u.0 c u.1.head) (all_faults (counted_with c u.1.head) units) f in
    let one = one_counted u.0 c u.1.head a.head all.0.2 w.0 in
    let rest = all_count (with_head c a.head) units all.1 (subst (λ d. all_faults d units ≡ []) one w.1) in
    ap (λ d. all_counted d units) one ∙ rest
    ∙ ap (λ l. record { performers = c.performers; heads = l }) (append_assoc c.heads (a.head ∷ []) (map head_of (grown units)))
    ∙ ap (λ l. with_heads c (map head_of l)) (sym (grown_is u units a all.0.1))

pub none_counted : (c : Callees) (head : Option Head) → head ≡ None → counted_with c head ≡ c
none_counted c None e = refl
none_counted c (Some h) e = absurd (let wrong : ⊥ = cc in wrong)

-- ---- programs

pub compilable : (units : List (ℕ × Known)) → IsSound units → program_faults units ≡ [] → IsCompilable (program_of units)
compilable [] sound f = tt
compilable (prelude ∷ units) sound f =
    let p = program_of (prelude ∷ units) in
    let start = no_heads prelude.1.performers in
    let find = rules.callee (headers_in (prelude ∷ units)) in
    let w = both_empty (all_placed_faults find (prelude ∷ units)) (header_faults (prelude ∷ units)) f in
    let placed = own find prelude units w.0 in
    let headers = both_empty (fault_at prelude.0 start prelude.1.head) (all_faults (counted_with start prelude.1.head) units) w.1 in
    let first = none_counted start prelude.1.head sound.0.0 in
    let all = all_grown find units sound.2 placed.1 in
    let found : headers_in (prelude ∷ units) ≡ callees_in p =
    ap (λ d. all_counted d units) first ∙ all_count start units all (subst (λ d. all_faults d units ≡ []) first headers.1) in
    all_compilable p find (λ x. subst (λ c. rules.callee c x ≡ in_checks (callee_in p x)) (sym found) (same_callee p x)) units all placed.1
