-- The code of statements without a fault is valid, and leaves no operands.
use Rattle.std.proofs.Common.{◌≡◌, ℕ, ◌+◌, ◌<◌, ◌≤◌, Bool, true, false, cond, ◌&&◌, List, [], ◌∷◌, ◌++◌, length, Option, Some, None, is_some, refl, sym, ap, ◌∙◌, subst, arith, nat_eq, append_assoc}
use Rattle.std.proofs.lemmas.List.{append-nil}
use Rattle.std.specs.Prelude.{slice_get}
use Rattle.std.specs.List.{AllByRecursion}
use Rattle.std.specs.Cmp.Lexicographic.{pointwise}
use Rattle.std.proofs.lemmas.Bool.Decides.{nat_tests}
use Rattle.std.proofs.lemmas.Cmp.{nat_list_eq_equiv}
use Rattle.kumir_tree.specs.declared.kind.Kind.{Kind}
use Rattle.kumir_tree.specs.declared.kind.Kind.TheVariants as kind
use Rattle.kumir_tree.specs.Tree.{Tree}
use Rattle.kumir_tree.specs.Part.{Limits, Declares, Scalars, Tables, Head}
use Rattle.kumir_tree.specs.Program as tree
use Rattle.kumir_tree.specs.Program.{Stmt, Stands, Declare, Assign, Invoke, Times, While, Count, Forever, Until, Choose, Select, Assert, Input, Output, Leave, Quit, Block, done, ◌next◌, Arms, no_arms, arm}
use Rattle.kumir_tree.specs.Sound.{ActHolds, BlockHolds, ArmsHold, HasDimensions}
use Rattle.kumir_names.specs.declared.variable.Variable.{Variable}
use Rattle.kumir_names.specs.Variables.{Names, variable, is_table, table, declares}
use Rattle.kumir_names.specs.Callees.{Callee, Called}
use Rattle.kumir_meaning.specs.Program.{Placed, Program, callee_in, act_names, block_names, arm_names}
use Rattle.kumir_meaning.specs.Store.{CellName, TheAnswer, Local}
use Rattle.stack_code.specs.declared.instruction.Instruction.TheVariants as instruction
use Rattle.stack_code.specs.declared.unit.Shape.TheVariants.{Scalar, Hidden}
use Rattle.stack_code.specs.declared.unit.CodeUnit.{CodeUnit}
use Rattle.type_check.specs.Kinds.{Among, is_kind, kind_of}
use Rattle.type_check.specs.Parts as checked
use Rattle.type_check.specs.Parts.{Part, Condition, Repeating, Counting, Declaring, Assigning, Calling, Reading, Printing, Pieces, act_pieces, block_pieces, arms_pieces, declared_by, some_whole, scalar_kind}
use Rattle.type_check.specs.Checked.{is_local, with_local, with_locals, declared_again, behind, at_piece, faults_from}
use Rattle.kumir_compiler.specs.Code as site
use Rattle.kumir_compiler.specs.Code.{Code, Site, in_checks, position, number_of_unit, hidden, all_written_below, tree_code, act_code, block_code, arms_code, stmt_code, choice_code, jump, on}
use Rattle.kumir_compiler.proofs.TypedValues.{both}
use Rattle.kumir_compiler.proofs.FaultlessPrograms.{neither, none_again, one_piece, split}
use Rattle.kumir_compiler.proofs.CodePieces as pieces
use Rattle.kumir_compiler.proofs.CodePieces.{Goes, Acts, acts, acts_joined, choice}
use Rattle.kumir_compiler.proofs.ShapesByKinds.{shape_of, is_kind_is, are_same_is}
use Rattle.kumir_compiler.proofs.TreesFit.{IsCallee, Around, tree_goes}
use Rattle.kumir_compiler.proofs.PartsFit.{Shaped, HaveBounds, assign_goes, claim_goes, inputs_go, outputs_go, declares_go, invoke_goes, times_goes, count_goes}

-- ---- variables among others

found_before : (names later : Names) (x : List ℕ) (v : Variable) → variable names x ≡ Some v → variable (names ++ later) x ≡ Some v
found_before [] later x v e = absurd (let wrong : ⊥ = cc in wrong)
found_before (n ∷ names) later x v e = go (pointwise nat_eq x n.0) (found_before names later x v) e
  where
    go : (b : Bool) → (variable names x ≡ Some v → variable (names ++ later) x ≡ Some v) → cond b (Some n.1) (variable names x) ≡ Some v → cond b (Some n.1) (variable (names ++ later) x) ≡ Some v
    go true before f = f
    go false before f = before f

not_there : (o : Option Variable) → is_some o ≡ false → o ≡ None
not_there None e = refl
not_there (Some v) e = absurd (let wrong : ⊥ = cc in wrong)

-- a name that is not among these is found behind them
found_behind : (names : Names) (x : List ℕ) (v : Variable) (later : Names) → variable names x ≡ None → variable (names ++ (x, v) ∷ later) x ≡ Some v
found_behind [] x v later e = ap (λ b. cond b (Some v) (variable later x)) (nat_list_eq_equiv.refl x)
found_behind (n ∷ names) x v later e = go (pointwise nat_eq x n.0) (found_behind names x v later) e
  where
    go : (b : Bool) → (variable names x ≡ None → variable (names ++ (x, v) ∷ later) x ≡ Some v) → cond b (Some n.1) (variable names x) ≡ None → cond b (Some n.1) (variable (names ++ (x, v) ∷ later) x) ≡ Some v
    go true before f = absurd (let wrong : ⊥ = cc in wrong)
    go false before f = before f

-- what is declared here for the first time has its shape
pub shaped : (u : CodeUnit) (t : Site) (full : Names) → ((x : List ℕ) (v : Variable) → variable full x ≡ Some v → slice_get u.slots (position t.variables (Local x)) ≡ Some (shape_of v))
    → (names vs later : Names) → names ++ (vs ++ later) ≡ full → declared_again names vs ≡ false → Shaped u t vs
shaped u t full shapes names [] later is again = tt
shaped u t full shapes names (v ∷ vs) later is again =
    let w = neither (is_local names v.0) (declared_again (with_local names v) vs) again in
    let with_it : with_local names v ≡ names ++ v ∷ [] = ap (λ b. cond b names (names ++ v ∷ [])) w.0 in (
      shapes v.0 v.1 (subst (λ ns. variable ns v.0 ≡ Some v.1) is (found_behind names v.0 v.1 (vs ++ later) (not_there (variable names v.0) w.0))),
      shaped u t full shapes (names ++ v ∷ []) vs later (append_assoc names (v ∷ []) (vs ++ later) ∙ is) (subst (λ ns. declared_again ns vs ≡ false) with_it w.1),
    )

-- ---- statements
tables_bounded : (k : Kind) (xs : List (List ℕ × Limits)) → AllByRecursion (λ x. HasDimensions x.1) xs → AllByRecursion (λ x. is_table (table k x).1 ≡ true) xs
tables_bounded k [] all = tt
tables_bounded k (x ∷ xs) all = (let le : 1 ≤ length x.1 = all.0.0 in grind (arith, nat_tests, le), tables_bounded k xs all.1)

module _ (units : List CodeUnit) (u : CodeUnit) (p : Program) (gives : Option Kind) (find : List ℕ → Option (Callee Head)) (calls : (x : List ℕ) → find x ≡ in_checks (callee_in p x))
    (callees : (f : List ℕ) (a : Placed) → callee_in p f ≡ Some (Called a) → IsCallee units (number_of_unit p.algorithms f) a)
    (vars : List CellName) (full : Names)
    (shapes : (x : List ℕ) (v : Variable) → variable full x ≡ Some v → slice_get u.slots (position vars (Local x)) ≡ Some (shape_of v))
    (answer : (k : Kind) → gives ≡ Some k → slice_get u.slots (position vars TheAnswer) ≡ Some (Scalar k))
    (hides : (h : ℕ) → length vars ≤ h → h < all_written_below u.body → slice_get u.slots h ≡ Some Hidden)
    (L : ℕ → Type 0) where
  abbrev among : Names → Among
  among names = record { find = find; gives = gives; names = names }

  -- a site of the unit, at which these names are local
  pub record Here (t : Site) (names : Names) : Type 0 where
    pub program : t.program ≡ p
    pub kind : t.gives ≡ gives
    pub slots : t.variables ≡ vars
    pub locals : t.locals ≡ names

  here_on : (t : Site) (names : Names) (line : ℕ) → Here t names → Here (site.on_line t line) names
  here_on t names line h = record { program = h.program; kind = h.kind; slots = h.slots; locals = h.locals }

  here_behind : (t : Site) (names new : Names) (ls : Names) → t.locals ++ ls ≡ new → Here t names → Here (site.behind t ls) new
  here_behind t names new ls e h = record { program = h.program; kind = h.kind; slots = h.slots; locals = e }

  pub around : (t : Site) (names later : Names) → names ++ later ≡ full → Here t names → Around units u (among names) t
  around t names later is h = record {
    locals = h.locals;
    gives = h.kind;
    shapes = λ x v e. ap (λ l. slice_get u.slots (position l (Local x))) h.slots ∙ shapes x v (subst (λ ns. variable ns x ≡ Some v) is (found_before names later x v e));
    answer = λ k e. ap (λ l. slice_get u.slots (position l TheAnswer)) h.slots ∙ answer k e;
    hides = λ i le lt. hides i (subst (λ l. length l ≤ i) h.slots le) lt;
    calls = λ x. subst (λ q. find x ≡ in_checks (callee_in q x)) (sym h.program) (calls x);
    callees = λ f a e. subst (λ q. IsCallee units (number_of_unit q.algorithms f) a) (sym h.program) (callees f a (subst (λ q. callee_in q f ≡ Some (Called a)) h.program e));
  }

  -- the local names go on by these, and the pieces that follow have no fault
  abbrev GoesOn : Names → Names → Names → Pieces → Type 0
  GoesOn before here later more = (new : Names) × (before ++ here ≡ new) × (new ++ later ≡ full) × (faults_from find gives new more ≡ [])

  further : (ls a b : Names) (later : Names) (more : Pieces) → GoesOn (ls ++ a) b later more → GoesOn ls (a ++ b) later more
  further ls a b later more g = (g.0, sym (append_assoc ls a b) ∙ g.1, g.2, g.3)

  no_more : (ls : Names) (names later : Names) (more : Pieces) → ls ≡ names → names ++ later ≡ full → faults_from find gives names more ≡ [] → GoesOn ls [] later more
  no_more ls names later more e is f = (names, append-nil ls ∙ e, is, f)

  prefix : (names a b later : Names) → names ++ ((a ++ b) ++ later) ≡ full → names ++ (a ++ (b ++ later)) ≡ full
  prefix names a b later is = ap (λ l. names ++ l) (sym (append_assoc a b later)) ∙ is

  declared : (t : Site) (names : Names) (d : Declares) (later : Names) (more : Pieces) → Here t names → names ++ (declares d ++ later) ≡ full → declared_again names (declares d) ≡ false → faults_from find gives (with_locals names (declares d)) more ≡ []
      → GoesOn t.locals (declares d) later more
  declared t names d later more h is again f =
      let same = none_again names (declares d) again in (
        names ++ declares d,
        ap (λ l. l ++ declares d) h.locals,
        append_assoc names (declares d) later ∙ is,
        subst (λ ns. faults_from find gives ns more ≡ []) same f,
      )

  bounded : (d : Declares) → ActHolds L HasDimensions (Declare d) → HaveBounds d
  bounded (Scalars k xs) holds = tt
  bounded (Tables k xs) holds = tables_bounded k xs holds

  piece : (names : Names) (line : ℕ) (part : Part) (more : Pieces) → faults_from find gives names ((line, part) ∷ more) ≡ []
      → (declared_again names (declared_by part) ≡ false) × (checked.fits (among (at_piece names part)) part ≡ true) × (faults_from find gives (behind names part) more ≡ [])
  piece names line part more f = one_piece L HasDimensions p gives find calls names line part more f

  cut : (names : Names) (a b c : Pieces) → faults_from find gives names (a ++ b ++ c) ≡ [] → faults_from find gives names (a ++ (b ++ c)) ≡ []
  cut names a b c e = split L HasDimensions p gives find calls names a b c e

  condition : (t : Site) (names later : Names) (e : Tree) (d : ℕ) → names ++ later ≡ full → Here t names → is_kind kind.Truth (kind_of (among names) e) ≡ true → Goes units u (tree_code e t d) [] (kind.Truth ∷ [])
  condition t names later e d is at h = tree_goes units u (among names) t (around t names later is at) e d kind.Truth (is_kind_is kind.Truth (kind_of (among names) e) h) []

  -- a condition, and one of two ways
  chosen : (t : Site) (after : ℕ) (test a b : Code) → Goes units u test [] (kind.Truth ∷ []) → Acts units u a (length b + 1 + after) [] [] → Acts units u b after [] [] → Acts units u (test ++ choice_code a b t) after [] []
  chosen t after test a b f g h = acts_joined units u test (choice_code a b t) after [] (kind.Truth ∷ []) [] (acts units u test (length (choice_code a b t) + after) [] (kind.Truth ∷ []) f) (choice units u a b t after [] [] refl g h)

  stepped : (t : Site) (c : Code) (after : ℕ) → Acts units u c after [] [] → Acts units u (on t instruction.Step ∷ c) after [] []
  stepped t c after f = acts_joined units u (on t instruction.Step ∷ []) c after [] [] [] (acts units u (on t instruction.Step ∷ []) (length c + after) [] [] (pieces.step units u t [])) f

  mutual
    act_go : (a : tree.Act) (line : ℕ) (t : Site) (names later : Names) (more : Pieces) (d after : ℕ) → Here t names → names ++ (act_names a ++ later) ≡ full → ActHolds L HasDimensions a → faults_from find gives names (act_pieces line a ++ more) ≡ []
        → Acts units u (act_code a t d after) after [] [] × GoesOn t.locals (act_names a) later more
    act_go (Declare x) line t names later more d after at is holds f =
        let w = piece names line (Declaring x) more f in (
          acts units u (act_code (Declare x) t d after) after [] [] (declares_go units u (among names) t (around t names (declares x ++ later) is at) x d (bounded x holds) (shaped u t full (λ y v e. ap (λ l. slice_get u.slots (position l (Local y))) at.slots ∙ shapes y v e) names (declares x) later is w.0) w.1 []),
          declared t names x later more at is w.0 w.2,
        )
    act_go (Assign x e) line t names later more d after at is holds f =
        let w = piece names line (Assigning x e) more f in
        let v = are_same_is (checked.place_kind (among names) x) (kind_of (among names) e) w.1 in (
          acts units u (act_code (Assign x e) t d after) after [] [] (assign_goes units u (among names) t (around t names later is at) x e d v.0 v.1 v.2 []),
          no_more t.locals names later more at.locals is w.2,
        )
    act_go (Invoke x es) line t names later more d after at is holds f =
        let w = piece names line (Calling x es) more f in (
          acts units u (act_code (Invoke x es) t d after) after [] [] (invoke_goes units u (among names) t (around t names later is at) x es d w.1 []),
          no_more t.locals names later more at.locals is w.2,
        )
    act_go (Times e b) line t names later more d after at is holds f =
        let w = piece names line (Repeating e) (block_pieces b ++ more) f in
        let r = block_go b t names later more (d + 1) 1 at is holds w.2 in (
          acts units u (act_code (Times e b) t d after) after [] [] (times_goes units u (among names) t (around t names (block_names b ++ later) is at) e (block_code b t (d + 1) 1) d w.1 r.0),
          r.1,
        )
    act_go (While e b) line t names later more d after at is holds f =
        let w = piece names line (Condition e) (block_pieces b ++ more) f in
        let r = block_go b t names later more d 1 at is holds w.2 in (
          acts units u (act_code (While e b) t d after) after [] [] (pieces.while_acts units u (tree_code e t d) (block_code b t d 1) t (condition t names (block_names b ++ later) e d is at w.1) r.0),
          r.1,
        )
    act_go (Count x from to by b) line t names later more d after at is holds f =
        let w = piece names line (Counting x from to by) (block_pieces b ++ more) f in
        let s = among names in
        let v = both (is_kind kind.Whole (scalar_kind (variable names x))) (is_kind kind.Whole (kind_of s from) && (is_kind kind.Whole (kind_of s to) && some_whole s by)) w.1 in
        let y = both (is_kind kind.Whole (kind_of s from)) (is_kind kind.Whole (kind_of s to) && some_whole s by) v.1 in
        let z = both (is_kind kind.Whole (kind_of s to)) (some_whole s by) y.1 in
        let r = block_go b t names later more (d + 1) 1 at is holds w.2 in (
          acts units u (act_code (Count x from to by b) t d after) after [] [] (count_goes units u s t (around t names (block_names b ++ later) is at) x from to by (block_code b t (d + 1) 1) d (is_kind_is kind.Whole (scalar_kind (variable names x)) v.0) y.0 z.0 z.1 r.0),
          r.1,
        )
    act_go (Forever b) line t names later more d after at is holds f =
        let r = block_go b t names later more d 1 at is holds f in
        (acts units u (act_code (Forever b) t d after) after [] [] (pieces.forever_acts units u (block_code b t d 1) t r.0), r.1)
    act_go (Until b close e) line t names later more d after at is holds f =
        let s = site.on_line (site.behind t (block_names b)) close in
        let r = block_go b t names later ((close, Condition e) ∷ more) d (length (tree_code e s d) + 2) at is holds.0 (cut names (block_pieces b) ((close, Condition e) ∷ []) more f) in
        let w = piece r.1.0 close (Condition e) more r.1.3 in (
          acts units u (act_code (Until b close e) t d after) after [] []
              (pieces.until_acts units u (block_code b t d (length (tree_code e s d) + 2)) (tree_code e s d) t s r.0 (condition s r.1.0 later e d r.1.2 (here_on (site.behind t (block_names b)) r.1.0 close (here_behind t names r.1.0 (block_names b) r.1.1 at)) w.1)),
          (r.1.0, r.1.1, r.1.2, w.2),
        )
    act_go (Choose e a b) line t names later more d after at is holds f =
        let w = piece names line (Condition e) ((block_pieces a ++ block_pieces b) ++ more) f in
        let t1 = site.behind t (block_names a) in
        let c = block_code b t1 d after in
        let is1 = prefix names (block_names a) (block_names b) later is in
        let r = block_go a t names (block_names b ++ later) (block_pieces b ++ more) d (length c + 1 + after) at is1 holds.0 (cut names (block_pieces a) (block_pieces b) more w.2) in
        let q = block_go b t1 r.1.0 later more d after (here_behind t names r.1.0 (block_names a) r.1.1 at) r.1.2 holds.1 r.1.3 in (
          chosen t after (tree_code e t d) (block_code a t d (length c + 1 + after)) c (condition t names (block_names a ++ (block_names b ++ later)) e d is1 at w.1) r.0 q.0,
          further t.locals (block_names a) (block_names b) later more q.1,
        )
    act_go (Select arms b) line t names later more d after at is holds f =
        let is1 = prefix names (arm_names arms) (block_names b) later is in
        let r = arms_go arms t names (block_names b ++ later) (block_pieces b ++ more) b d after at is1 holds.0 (cut names (arms_pieces arms) (block_pieces b) more f)
        (λ s new there same g. (block_go b s new later more d after there same holds.1 g).0) in
        let q = block_go b (site.behind t (arm_names arms)) r.1.0 later more d after (here_behind t names r.1.0 (arm_names arms) r.1.1 at) r.1.2 holds.1 r.1.3 in
        (r.0, further t.locals (arm_names arms) (block_names b) later more q.1)
    act_go (Assert e) line t names later more d after at is holds f =
        let w = piece names line (Condition e) more f in
        (acts units u (act_code (Assert e) t d after) after [] [] (claim_goes units u (among names) t (around t names later is at) e d w.1 []), no_more t.locals names later more at.locals is w.2)
    act_go (Input xs) line t names later more d after at is holds f =
        let w = piece names line (Reading xs) more f in
        (acts units u (act_code (Input xs) t d after) after [] [] (inputs_go units u (among names) t (around t names later is at) xs d holds w.1 []), no_more t.locals names later more at.locals is w.2)
    act_go (Output xs) line t names later more d after at is holds f =
        let w = piece names line (Printing xs) more f in
        (acts units u (act_code (Output xs) t d after) after [] [] (outputs_go units u (among names) t (around t names later is at) xs d w.1 []), no_more t.locals names later more at.locals is w.2)
    act_go Leave line t names later more d after at is holds f = (pieces.leave_acts units u t after, no_more t.locals names later more at.locals is f)
    act_go Quit line t names later more d after at is holds f = (acts units u (act_code Quit t d after) after [] [] (pieces.quit_goes units u t []), no_more t.locals names later more at.locals is f)

    pub block_go : (b : Block) (t : Site) (names later : Names) (more : Pieces) (d after : ℕ) → Here t names → names ++ (block_names b ++ later) ≡ full → BlockHolds L HasDimensions b → faults_from find gives names (block_pieces b ++ more) ≡ []
        → Acts units u (block_code b t d after) after [] [] × GoesOn t.locals (block_names b) later more
    block_go done t names later more d after at is holds f = (acts units u [] after [] [] (pieces.nothing units u []), no_more t.locals names later more at.locals is f)
    block_go (Stands line a next b) t names later more d after at is holds f =
        let is1 = prefix names (act_names a) (block_names b) later is in
        let t1 = site.behind t (act_names a) in
        let c = block_code b t1 d after in
        let r = act_go a line (site.on_line t line) names (block_names b ++ later) (block_pieces b ++ more) d (length c + after) (here_on t names line at) is1 holds.0.1 (cut names (act_pieces line a) (block_pieces b) more f) in
        let q = block_go b t1 r.1.0 later more d after (here_behind t names r.1.0 (act_names a) r.1.1 at) r.1.2 holds.1 r.1.3 in (
          acts_joined units u (stmt_code (Stands line a) t d (length c + after)) c after [] [] []
              (stepped (site.on_line t line) (act_code a (site.on_line t line) d (length c + after)) (length c + after) r.0) q.0,
          further t.locals (act_names a) (block_names b) later more q.1,
        )

    arms_go : (arms : Arms) (t : Site) (names later : Names) (more : Pieces) (rest : Block) (d after : ℕ) → Here t names → names ++ (arm_names arms ++ later) ≡ full → ArmsHold L HasDimensions arms → faults_from find gives names (arms_pieces arms ++ more) ≡ []
        → ((s : Site) (new : Names) → Here s new → new ++ later ≡ full → faults_from find gives new more ≡ [] → Acts units u (block_code rest s d after) after [] [])
        → Acts units u (arms_code arms t d after (λ s. block_code rest s d after)) after [] [] × GoesOn t.locals (arm_names arms) later more
    arms_go no_arms t names later more rest d after at is holds f go = (go t names at is f, no_more t.locals names later more at.locals is f)
    arms_go (arm line e b arms) t names later more rest d after at is holds f go =
        let w = piece names line (Condition e) ((block_pieces b ++ arms_pieces arms) ++ more) f in
        let t1 = site.behind t (block_names b) in
        let c = arms_code arms t1 d after (λ s. block_code rest s d after) in
        let is1 = prefix names (block_names b) (arm_names arms) later is in
        let r = block_go b t names (arm_names arms ++ later) (arms_pieces arms ++ more) d (length c + 1 + after) at is1 holds.1 (cut names (block_pieces b) (arms_pieces arms) more w.2) in
        let q = arms_go arms t1 r.1.0 later more rest d after (here_behind t names r.1.0 (block_names b) r.1.1 at) r.1.2 holds.2 r.1.3 go in (
          chosen (site.on_line t line) after (tree_code e (site.on_line t line) d) (block_code b t d (length c + 1 + after)) c
              (condition (site.on_line t line) names (block_names b ++ (arm_names arms ++ later)) e d is1 (here_on t names line at) w.1) r.0 q.0,
          further t.locals (block_names b) (arm_names arms) later more q.1,
        )
