-- Units that are sound at their places.
use Rattle.std.proofs.Common.{ℕ, ◌+◌, ◌<◌, ◌≤◌, Bool, true, false, List, [], ◌∷◌, length, Option, Some, None, arith}
use Rattle.std.specs.List.{AllByRecursion}
use Rattle.kumir_tree.specs.declared.unit.Fault.{Fault}
use Rattle.kumir_tree.specs.Tree.{Tree}
use Rattle.kumir_tree.specs.Part.{Limits, Head}
use Rattle.kumir_tree.specs.Program.{Stmt, Act, Stands, Declare, Assign, Invoke, Times, While, Count, Forever, Until, Choose, Select, Assert, Input, Output, Leave, Quit, Block, done, ◌next◌, Arms, no_arms, arm}
use Rattle.kumir_tree.specs.Unit.{Known, Ending, Grown, Prelude, Faulty}
use Rattle.kumir_tree.specs.Sound.{ActHolds, StmtHolds, BlockHolds, ArmsHold, ClaimHolds, FaultsHold, EndingHolds, SomeHead, HeadHolds, KnownHolds, HasDimensions, IsUnitRead, IsPlaced, IsSound}
use Rattle.line_pieces.specs.declared.spans.LineSpan.{LineSpan}
use Rattle.line_pieces.specs.Spans.{AreSpans}
use Rattle.incr_analysis.specs.Full.{Along}
use Rattle.incr_analysis.specs.Answers.{IsSoundAt}

module _ (L M : ℕ → Type 0) (B : Limits → Type 0) (up : (n : ℕ) → L n → M n) where
  mutual
    act_up : (a : Act) → ActHolds L B a → ActHolds M B a
    act_up (Declare d) h = h
    act_up (Assign t e) h = h
    act_up (Invoke x es) h = h
    act_up (Times e b) h = block_up b h
    act_up (While e b) h = block_up b h
    act_up (Count x from to step b) h = block_up b h
    act_up (Forever b) h = block_up b h
    act_up (Until b line e) h = (block_up b h.0, up line h.1)
    act_up (Choose e a b) h = (block_up a h.0, block_up b h.1)
    act_up (Select arms b) h = (arms_up arms h.0, block_up b h.1)
    act_up (Assert e) h = h
    act_up (Input ts) h = h
    act_up (Output xs) h = h
    act_up Leave h = h
    act_up Quit h = h

    stmt_up : (s : Stmt) → StmtHolds L B s → StmtHolds M B s
    stmt_up (Stands line a) h = (up line h.0, act_up a h.1)

    block_up : (b : Block) → BlockHolds L B b → BlockHolds M B b
    block_up done h = h
    block_up (s next b) h = (stmt_up s h.0, block_up b h.1)

    arms_up : (arms : Arms) → ArmsHold L B arms → ArmsHold M B arms
    arms_up no_arms h = h
    arms_up (arm line c b more) h = (up line h.0, block_up b h.1, arms_up more h.2)

  claim_up : (c : Option (ℕ × Tree)) → ClaimHolds L c → ClaimHolds M c
  claim_up None h = h
  claim_up (Some c) h = up c.0 h

  faults_up : (faults : List Fault) → FaultsHold L faults → FaultsHold M faults
  faults_up [] h = h
  faults_up (f ∷ faults) h = (up f.line h.0, faults_up faults h.1)

  head_up : (h : Head) → HeadHolds L B h → HeadHolds M B h
  head_up h holds = (up h.line holds.0, holds.1)

  some_head_up : (h : Option Head) → SomeHead L B h → SomeHead M B h
  some_head_up None h = h
  some_head_up (Some head) h = head_up head h

  ending_up : (e : Ending) → EndingHolds L B e → EndingHolds M B e
  ending_up (Grown a) h = (head_up a.head h.0, claim_up a.given h.1, claim_up a.wanted h.2, block_up a.body h.3, up a.close h.4)
  ending_up Prelude h = h
  ending_up (Faulty faults) h = faults_up faults h

  known_up : (k : Known) → KnownHolds L B k → KnownHolds M B k
  known_up k h = (some_head_up k.head h.0, faults_up k.unknown h.1, ending_up k.ending h.2)

placed : (lines : ℕ) (prelude : Bool) (span : LineSpan) (u : ℕ × Known) → lines < 4294967295 → IsSoundAt lines prelude span u → KnownHolds (λ line. line < span.count) HasDimensions u.1 → IsPlaced u
placed lines prelude span u few at holds =
    (omega (arith, at.place, at.from_one), known_up (λ line. line < span.count) (λ line. u.0 + line ≤ 4294967295) HasDimensions (λ n lt. omega (arith, lt, at.place, at.within, few)) u.1 holds)

units_sound : (lines : ℕ) (spans : List LineSpan) (units : List (ℕ × Known)) → lines < 4294967295 → Along (IsSoundAt lines) false spans units → AllByRecursion (λ u. IsUnitRead u.1 × IsPlaced u) units
units_sound lines [] [] few a = tt
units_sound lines [] (u ∷ units) few a = absurd a
units_sound lines (s ∷ spans) [] few a = absurd a
units_sound lines (s ∷ spans) (u ∷ units) few a = ((a.0.sound.0, placed lines false s u few a.0 a.0.sound.1), units_sound lines spans units few a.1)

pub all_sound : (lines : ℕ) (s : LineSpan) (spans : List LineSpan) (units : List (ℕ × Known)) → lines < 4294967295 → Along (IsSoundAt lines) true (s ∷ spans) units → IsSound units
all_sound lines s spans [] few a = absurd a
all_sound lines s spans (u ∷ units) few a = (a.0.sound.0, placed lines true s u few a.0 a.0.sound.1, units_sound lines spans units few a.1)

pub spans_sound : (text : List (List ℕ)) (spans : List LineSpan) (units : List (ℕ × Known)) → length text < 4294967295 → AreSpans text spans → Along (IsSoundAt (length text)) true spans units → IsSound units
spans_sound text [] units few spans a = absurd spans
spans_sound text (s ∷ spans) units few all a = all_sound (length text) s spans units few a
