-- The faults of an algorithm stand on its lines.
use Rattle.std.proofs.Common.{◌≡◌, ℕ, List, [], ◌∷◌, ◌++◌, Option, Some, None, sym, subst}
use Rattle.std.specs.List.{AllByRecursion}
use Rattle.kumir_tree.specs.declared.kind.Kind.{Kind}
use Rattle.kumir_tree.specs.declared.unit.Fault.{Fault}
use Rattle.kumir_tree.specs.Tree.{Tree}
use Rattle.kumir_tree.specs.Part.{Limits, Head}
use Rattle.kumir_tree.specs.Program.{Stmt, Act, Stands, Declare, Assign, Invoke, Times, While, Count, Forever, Until, Choose, Select, Assert, Input, Output, Leave, Quit, Block, done, ◌next◌, Arms, no_arms, arm}
use Rattle.kumir_tree.specs.Unit.{Algorithm}
use Rattle.kumir_tree.specs.Sound.{ActHolds, StmtHolds, BlockHolds, ArmsHold, ClaimHolds, AlgorithmHolds, FaultsHold}
use Rattle.kumir_names.specs.Callees.{Callee}
use Rattle.type_rules.specs.Counted.{fault_on}
use Rattle.kumir_names.specs.Variables.{Names}
use Rattle.type_check.specs.Parts.{Pieces, pieces, claim_pieces, act_pieces, stmt_pieces, block_pieces, arms_pieces}
use Rattle.type_check.specs.Checked.{behind, part_fault, faults_from, unit_faults}

join : {X : Type 0} (P : X → Type 0) (xs ys : List X) → AllByRecursion P xs → AllByRecursion P ys → AllByRecursion P (xs ++ ys)
join P [] ys all more = more
join P (x ∷ xs) ys all more = (all.0, join P xs ys all.1 more)

module _ (L : ℕ → Type 0) (B : Limits → Type 0) where
  abbrev Stand : Pieces → Type 0
  Stand ps = AllByRecursion (λ p. L p.0) ps

  mutual
    act_stands : (line : ℕ) (a : Act) → L line → ActHolds L B a → Stand (act_pieces line a)
    act_stands line (Declare d) own all = (own, _)
    act_stands line (Assign p e) own all = (own, _)
    act_stands line (Invoke x es) own all = (own, _)
    act_stands line (Times e b) own all = (own, block_stands b all)
    act_stands line (While e b) own all = (own, block_stands b all)
    act_stands line (Count x from to step b) own all = (own, block_stands b all)
    act_stands line (Forever b) own all = block_stands b all
    act_stands line (Until b close e) own all = join (λ p. L p.0) (block_pieces b) _ (block_stands b all.0) (all.1, _)
    act_stands line (Choose e a b) own all = (own, join (λ p. L p.0) (block_pieces a) (block_pieces b) (block_stands a all.0) (block_stands b all.1))
    act_stands line (Select arms b) own all = join (λ p. L p.0) (arms_pieces arms) (block_pieces b) (arms_stand arms all.0) (block_stands b all.1)
    act_stands line (Assert e) own all = (own, _)
    act_stands line (Input ps) own all = (own, _)
    act_stands line (Output xs) own all = (own, _)
    act_stands line Leave own all = _
    act_stands line Quit own all = _

    stmt_stands : (s : Stmt) → StmtHolds L B s → Stand (stmt_pieces s)
    stmt_stands (Stands line a) all = act_stands line a all.0 all.1

    block_stands : (b : Block) → BlockHolds L B b → Stand (block_pieces b)
    block_stands done all = _
    block_stands (s next b) all = join (λ p. L p.0) (stmt_pieces s) (block_pieces b) (stmt_stands s all.0) (block_stands b all.1)

    arms_stand : (arms : Arms) → ArmsHold L B arms → Stand (arms_pieces arms)
    arms_stand no_arms all = _
    arms_stand (arm line c b more) all = (all.0, join (λ p. L p.0) (block_pieces b) (arms_pieces more) (block_stands b all.1) (arms_stand more all.2))

  claim_stands : (c : Option (ℕ × Tree)) → ClaimHolds L c → Stand (claim_pieces c)
  claim_stands None all = _
  claim_stands (Some c) all = (all, _)

  pieces_stand : (a : Algorithm) → AlgorithmHolds L B a → Stand (pieces a)
  pieces_stand a all = (all.0.0, join (λ p. L p.0) (claim_pieces a.given) (claim_pieces a.wanted ++ block_pieces a.body) (claim_stands a.given all.1) (join (λ p. L p.0) (claim_pieces a.wanted) (block_pieces a.body) (claim_stands a.wanted all.2) (block_stands a.body all.3)))

  module _ (find : List ℕ → Option (Callee Head)) (gives : Option Kind) where
    fault_stands : (line : ℕ) (code : Option ℕ) → L line → FaultsHold L (fault_on line code)
    fault_stands line None own = _
    fault_stands line (Some code) own = (own, _)

    all_stand : (names : Names) (ps : Pieces) → Stand ps → FaultsHold L (faults_from find gives names ps)
    all_stand names [] all = _
    all_stand names (p ∷ ps) all = join (λ f. L f.line) (fault_on p.0 (part_fault find gives names p.1)) (faults_from find gives (behind names p.1) ps) (fault_stands p.0 (part_fault find gives names p.1) all.0) (all_stand (behind names p.1) ps all.1)

  pub faults_stand : (find : List ℕ → Option (Callee Head)) (a : Algorithm) (faults : List Fault) → faults ≡ unit_faults find a → AlgorithmHolds L B a → FaultsHold L faults
  faults_stand find a faults e all = subst (FaultsHold L) (sym e) (all_stand find a.head.gives [] (pieces a) (pieces_stand a all))
