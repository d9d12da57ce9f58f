-- What is read of a unit is sound: its lines are lines of the unit, its tables have one dimension or two.
use Rattle.std.proofs.Common.{◌≡◌, ℕ, Bool, List, [], ◌∷◌, ◌++◌, Option, Some, None, sym, subst, refl}
use Rattle.std.specs.Bool.{⊤}
use Rattle.std.specs.List.{AllByRecursion}
use Rattle.kumir_tree.specs.declared.kind.Kind.{Kind}
use Rattle.kumir_tree.specs.declared.kind.Mode.{Mode}
use Rattle.kumir_tree.specs.declared.token.Token.{Token}
use Rattle.kumir_tree.specs.Tree.{Tree}
use Rattle.kumir_tree.specs.Part.{Limits, Place, Formal}
use Rattle.kumir_tree.specs.Piece as form
use Rattle.kumir_tree.specs.Piece.{Piece}
use Rattle.kumir_tree.specs.Program.{Stmt, Act, Block}
use Rattle.kumir_tree.specs.Blocks.{Arm, block_listed, arms_listed}
use Rattle.kumir_tree.specs.Sound.{IsInputTarget, HasDimensions, SomeBounds, DeclaresHold, ActHolds, StmtHolds, BlockHolds, ArmsHold, ClaimHolds, AlgorithmHolds}
use Rattle.kumir_tree.specs.Unit.{Algorithm}
use Rattle.expr_forms.specs.Forms.{IsForm, header, tables, input, IsTarget, scalar_target, element_target, IsBounds, bounds, IsTable, table_name, Perhaps, missing, there, IsParam, param, IsParams, last_param, next_param, IsSignature, no_brackets, no_params, params}
use Rattle.expr_forms.specs.Lists.{Listed, last, next}
use Rattle.unit_grammar.specs.Grammar as g
use Rattle.unit_grammar.specs.Grammar.{Placed, statement_of, loop_of, IsSeq, none, statement, block, IsBlock, loop, until, choose, choose_otherwise, select, select_otherwise, IsCases, first_case, next_case, IsGiven, IsWanted, IsUnit, unit}
use Rattle.unit_grammar.proofs.Blocks.{none_is}

-- ---- forms

abbrev pub FormHolds : Piece → Type 0
FormHolds (form.Declare d) = DeclaresHold HasDimensions d
FormHolds (form.Input ts) = AllByRecursion IsInputTarget ts
FormHolds (form.Header h) = AllByRecursion (λ p. SomeBounds HasDimensions p.bounds) h.params × (h.line ≡ 0)
FormHolds other = ⊤

bounds_hold : {ts : List Token} {bs : Limits} → IsBounds ts bs → HasDimensions bs
bounds_hold (bounds l d) = d

some_bounds_hold : {ts : List Token} {bs : Option Limits} → Perhaps IsBounds ts bs → SomeBounds HasDimensions bs
some_bounds_hold missing = tt
some_bounds_hold (there b) = bounds_hold b

param_holds : {m : Mode} {k : Option (Kind × Bool)} {ts : List Token} {p : Formal} → IsParam m k ts p → SomeBounds HasDimensions p.bounds
param_holds (param m k b e) = some_bounds_hold b

params_hold : {m : Mode} {k : Option (Kind × Bool)} {ts : List Token} {ps : List Formal} → IsParams m k ts ps → AllByRecursion (λ (p : Formal). SomeBounds HasDimensions p.bounds) ps
params_hold (last_param p) = (param_holds p, tt)
params_hold (next_param p ps) = (param_holds p, params_hold ps)

signature_holds : {ts : List Token} {ps : List Formal} → IsSignature ts ps → AllByRecursion (λ (p : Formal). SomeBounds HasDimensions p.bounds) ps
signature_holds no_brackets = tt
signature_holds no_params = tt
signature_holds (params ps) = params_hold ps

table_holds : {ts : List Token} {t : List ℕ × Limits} → IsTable ts t → HasDimensions t.1
table_holds (table_name b) = bounds_hold b

tables_hold : {ts : List Token} {xs : List (List ℕ × Limits)} → Listed IsTable ts xs → AllByRecursion (λ (t : List ℕ × Limits). HasDimensions t.1) xs
tables_hold (last t) = (table_holds t, tt)
tables_hold (next t ts) = (table_holds t, tables_hold ts)

target_holds : {ts : List Token} {p : Place} → IsTarget ts p → IsInputTarget p
target_holds scalar_target = tt
target_holds (element_target xs) = tt

targets_hold : {ts : List Token} {ps : List Place} → Listed IsTarget ts ps → AllByRecursion IsInputTarget ps
targets_hold (last p) = (target_holds p, tt)
targets_hold (next p ps) = (target_holds p, targets_hold ps)

pub form_holds : {ts : List Token} {f : Piece} → IsForm ts f → FormHolds f
form_holds (header g n s) = (signature_holds s, refl)
form_holds (tables k l) = tables_hold l
form_holds (input l) = targets_hold l
form_holds other = tt

-- ---- statements

module _ (L : ℕ → Type 0) where
  abbrev pub PlacedHolds : Placed → Type 0
  PlacedHolds f = L f.0 × FormHolds f.1

  abbrev pub AllHold : List Placed → Type 0
  AllHold fs = AllByRecursion PlacedHolds fs

  pub parts : (fs gs : List Placed) → AllHold (fs ++ gs) → AllHold fs × AllHold gs
  parts [] gs a = (tt, a)
  parts (f ∷ fs) gs a = let k = parts fs gs a.1 in ((a.0, k.0), k.1)

  act_is : {a b : Act} → Some a ≡ Some b → ActHolds L HasDimensions a → ActHolds L HasDimensions b
  act_is h k = subst (ActHolds L HasDimensions) (let e = h in cc) k

  act_holds : (f : Piece) (act : Act) → statement_of f ≡ Some act → FormHolds f → ActHolds L HasDimensions act
  act_holds (form.Declare d) act e h = act_is e h
  act_holds (form.Assign t x) act e h = act_is e tt
  act_holds (form.Invoke x es) act e h = act_is e tt
  act_holds (form.Assert x) act e h = act_is e tt
  act_holds (form.Input ts) act e h = act_is e h
  act_holds (form.Output xs) act e h = act_is e tt
  act_holds form.Leave act e h = act_is e tt
  act_holds form.Quit act e h = act_is e tt
  act_holds f act e h = none_is e

  abbrev over : Block → Option (Block → Act) → Type 0
  over b None = ⊤
  over b (Some act) = ActHolds L HasDimensions (act b)

  loop_holds : (f : Piece) (act : Block → Act) (b : Block) → loop_of f ≡ Some act → BlockHolds L HasDimensions b → ActHolds L HasDimensions (act b)
  loop_holds (form.Times x) act b e h = subst (over b) e h
  loop_holds (form.While x) act b e h = subst (over b) e h
  loop_holds (form.Count x from to by) act b e h = subst (over b) e h
  loop_holds form.Forever act b e h = subst (over b) e h
  loop_holds f act b e h = none_is e

  arms_more : (arms : List Arm) (line : ℕ) (e : Tree) (b : Block) → ArmsHold L HasDimensions (arms_listed arms) → L line → BlockHolds L HasDimensions b → ArmsHold L HasDimensions (arms_listed (arms ++ (line, e, b) ∷ []))
  arms_more [] line e b h l k = (l, k, tt)
  arms_more (a ∷ arms) line e b h l k = (h.0, h.1, arms_more arms line e b h.2 l k)

  mutual
    seq_holds : {fs : List Placed} {ss : List Stmt} → IsSeq fs ss → AllHold fs → BlockHolds L HasDimensions (block_listed ss)
    seq_holds none = λ a. tt
    seq_holds (statement line f {fs} {act} {ss} e s) = λ a. ((a.0.0, act_holds f act e a.0.1), seq_holds s a.1)
    seq_holds (block {bs} {fs} {s} {ss} b c) = λ a. let k = parts bs fs a in (block_holds b k.0, seq_holds c k.1)

    block_holds : {bs : List Placed} {s : Stmt} → IsBlock bs s → AllHold bs → StmtHolds L HasDimensions s
    block_holds (loop line end f {act} {fs} {ss} e s) = λ a. let k = parts fs ((end, form.Close) ∷ []) a.1 in (a.0.0, loop_holds f act (block_listed ss) e (seq_holds s k.0))
    block_holds (until line end e {fs} {ss} s) = λ a. let k = parts fs ((end, form.CloseWhen e) ∷ []) a.1 in (a.0.0, (seq_holds s k.0, k.1.0.0))
    block_holds (choose line m n e {fs} {ss} s) = λ a. let k = parts fs ((n, form.ChoiceEnd) ∷ []) a.1.1 in (a.0.0, (seq_holds s k.0, tt))
    block_holds (choose_otherwise line m n o e {fs} {gs} {ss} {us} s t) = λ a.
        let k = parts fs ((n, form.Otherwise) ∷ (gs ++ (o, form.ChoiceEnd) ∷ [])) a.1.1 in
        let j = parts gs ((o, form.ChoiceEnd) ∷ []) k.1.1 in
        (a.0.0, (seq_holds s k.0, seq_holds t j.0))
    block_holds (select line n {fs} {arms} c) = λ a. let k = parts fs ((n, form.ChoiceEnd) ∷ []) a.1 in (a.0.0, (cases_hold c k.0, tt))
    block_holds (select_otherwise line n o {fs} {gs} {arms} {us} c t) = λ a.
        let k = parts fs ((n, form.Otherwise) ∷ (gs ++ (o, form.ChoiceEnd) ∷ [])) a.1 in
        let j = parts gs ((o, form.ChoiceEnd) ∷ []) k.1.1 in
        (a.0.0, (cases_hold c k.0, seq_holds t j.0))

    cases_hold : {fs : List Placed} {arms : List Arm} → IsCases fs arms → AllHold fs → ArmsHold L HasDimensions (arms_listed arms)
    cases_hold (first_case line e {fs} {ss} s) = λ a. (a.0.0, seq_holds s a.1, tt)
    cases_hold (next_case line e {fs} {gs} {ss} {arms} c s) = λ a.
        let k = parts gs ((line, form.When e) ∷ fs) a in
        arms_more arms line e (block_listed ss) (cases_hold c k.0) k.1.0.0 (seq_holds s k.1.1)

  given_holds : {fs : List Placed} {x : Option (ℕ × Tree)} → IsGiven fs x → AllHold fs → ClaimHolds L x
  given_holds g.no_given = λ a. tt
  given_holds (g.bare_given line) = λ a. tt
  given_holds (g.given line e) = λ a. a.0.0

  wanted_holds : {fs : List Placed} {x : Option (ℕ × Tree)} → IsWanted fs x → AllHold fs → ClaimHolds L x
  wanted_holds g.no_wanted = λ a. tt
  wanted_holds (g.bare_wanted line) = λ a. tt
  wanted_holds (g.wanted line e) = λ a. a.0.0

  pub unit_holds : L 0 → {fs : List Placed} {a : Algorithm} → IsUnit fs a → AllHold fs → AlgorithmHolds L HasDimensions a
  unit_holds zero_holds (unit line begin end h {gs} {ws} {fs} {ss} p q s) = λ a.
      let k = parts gs (ws ++ (begin, form.Begin) ∷ (fs ++ (end, form.Finish) ∷ [])) a.1 in
      let j = parts ws ((begin, form.Begin) ∷ (fs ++ (end, form.Finish) ∷ [])) k.1 in
      let i = parts fs ((end, form.Finish) ∷ []) j.1.1 in
      ((subst L (sym a.0.1.1) zero_holds, a.0.1.0), given_holds p k.0, wanted_holds q j.0, seq_holds s i.0, i.1.0.0)
