-- Which units are sound: what the readers of units give, and what the checkers of units take.
use Rattle.std.specs.Prelude.{◌≡◌, ◌≢◌, ℕ, ◌+◌, ◌≤◌, false, List, [], ◌∷◌, length, Option, Some, None, ⊤}
use Rattle.std.specs.List.{AllByRecursion}
use Rattle.km_base.specs.declared.performers.Performers.{Performers}
use Rattle.kumir_tree.specs.declared.unit.Fault.{Fault}
use Rattle.kumir_tree.specs.Tree.{Tree}
use Rattle.kumir_tree.specs.Part.{Limits, Place, ToAnswer, ToScalar, ToElement, Declares, Scalars, Tables, Head}
use Rattle.kumir_tree.specs.Program.{Stmt, Act, Stands, Declare, Assign, Invoke, Times, While, Count, Forever, Until, Choose, Select, Assert, Input, Output, Leave, Quit, Block, done, ◌next◌, Arms, no_arms, arm}
use Rattle.kumir_tree.specs.Unit.{Algorithm, Ending, Grown, Prelude, Faulty, Known}

-- ---- what holds of each line, of all bounds and of all inputs of a unit

abbrev pub SomeBounds : (Limits → Type 0) → Option Limits → Type 0
SomeBounds B None = ⊤
SomeBounds B (Some bounds) = B bounds

abbrev pub DeclaresHold : (Limits → Type 0) → Declares → Type 0
DeclaresHold B (Scalars k xs) = ⊤
DeclaresHold B (Tables k ts) = AllByRecursion (λ t. B t.1) ts

abbrev pub HeadHolds : (ℕ → Type 0) → (Limits → Type 0) → Head → Type 0
HeadHolds L B h = L h.line × AllByRecursion (λ p. SomeBounds B p.bounds) h.params

-- `ввод` takes names and elements
abbrev pub IsInputTarget : Place → Type 0
IsInputTarget ToAnswer = ⊥
IsInputTarget (ToScalar x) = ⊤
IsInputTarget (ToElement x es) = ⊤

abbrev mutual
  pub ActHolds : (ℕ → Type 0) → (Limits → Type 0) → Act → Type 0
  ActHolds L B (Declare d) = DeclaresHold B d
  ActHolds L B (Assign t e) = ⊤
  ActHolds L B (Invoke x es) = ⊤
  ActHolds L B (Times e b) = BlockHolds L B b
  ActHolds L B (While e b) = BlockHolds L B b
  ActHolds L B (Count x from to step b) = BlockHolds L B b
  ActHolds L B (Forever b) = BlockHolds L B b
  ActHolds L B (Until b line e) = BlockHolds L B b × L line
  ActHolds L B (Choose e a b) = BlockHolds L B a × BlockHolds L B b
  ActHolds L B (Select arms b) = ArmsHold L B arms × BlockHolds L B b
  ActHolds L B (Assert e) = ⊤
  ActHolds L B (Input ts) = AllByRecursion IsInputTarget ts
  ActHolds L B (Output xs) = ⊤
  ActHolds L B Leave = ⊤
  ActHolds L B Quit = ⊤

  pub StmtHolds : (ℕ → Type 0) → (Limits → Type 0) → Stmt → Type 0
  StmtHolds L B (Stands line a) = L line × ActHolds L B a

  pub BlockHolds : (ℕ → Type 0) → (Limits → Type 0) → Block → Type 0
  BlockHolds L B done = ⊤
  BlockHolds L B (s next b) = StmtHolds L B s × BlockHolds L B b

  pub ArmsHold : (ℕ → Type 0) → (Limits → Type 0) → Arms → Type 0
  ArmsHold L B no_arms = ⊤
  ArmsHold L B (arm line c b more) = L line × BlockHolds L B b × ArmsHold L B more

abbrev pub ClaimHolds : (ℕ → Type 0) → Option (ℕ × Tree) → Type 0
ClaimHolds L None = ⊤
ClaimHolds L (Some c) = L c.0

abbrev pub AlgorithmHolds : (ℕ → Type 0) → (Limits → Type 0) → Algorithm → Type 0
AlgorithmHolds L B a = HeadHolds L B a.head × ClaimHolds L a.given × ClaimHolds L a.wanted × BlockHolds L B a.body × L a.close

abbrev pub FaultsHold : (ℕ → Type 0) → List Fault → Type 0
FaultsHold L faults = AllByRecursion (λ f. L f.line) faults

abbrev pub EndingHolds : (ℕ → Type 0) → (Limits → Type 0) → Ending → Type 0
EndingHolds L B (Grown a) = AlgorithmHolds L B a
EndingHolds L B Prelude = ⊤
EndingHolds L B (Faulty faults) = FaultsHold L faults

abbrev pub SomeHead : (ℕ → Type 0) → (Limits → Type 0) → Option Head → Type 0
SomeHead L B None = ⊤
SomeHead L B (Some h) = HeadHolds L B h

abbrev pub KnownHolds : (ℕ → Type 0) → (Limits → Type 0) → Known → Type 0
KnownHolds L B k = SomeHead L B k.head × FaultsHold L k.unknown × EndingHolds L B k.ending

-- ---- sound units

-- one dimension or two
abbrev pub HasDimensions : Limits → Type 0
HasDimensions bounds = (1 ≤ length bounds) × (length bounds ≤ 2)

abbrev pub no_performers : Performers
no_performers = record { robot = false; pen = false }

-- how the reading of a prelude ends: without a tree
abbrev pub EndsPrelude : Ending → Type 0
EndsPrelude (Grown a) = ⊥
EndsPrelude Prelude = ⊤
EndsPrelude (Faulty faults) = faults ≢ []

-- how the reading of a unit ends: with the tree of its header, or with faults
abbrev pub EndsUnit : Option Head → Ending → Type 0
EndsUnit head (Grown a) = head ≡ Some a.head
EndsUnit head Prelude = ⊥
EndsUnit head (Faulty faults) = faults ≢ []

abbrev pub IsPreludeRead : Known → Type 0
IsPreludeRead k = (k.head ≡ None) × EndsPrelude k.ending

abbrev pub IsUnitRead : Known → Type 0
IsUnitRead k = EndsUnit k.head k.ending × (k.performers ≡ no_performers) × (k.unknown ≡ [])

-- a unit stands at a line of the text, and so do all lines in it
abbrev pub IsPlaced : ℕ × Known → Type 0
IsPlaced u = (1 ≤ u.0) × KnownHolds (λ line. u.0 + line ≤ 4294967295) HasDimensions u.1

-- the prelude and then the units, each as its reader gives it
abbrev pub IsSound : List (ℕ × Known) → Type 0
IsSound [] = ⊥
IsSound (prelude ∷ units) = IsPreludeRead prelude.1 × IsPlaced prelude × AllByRecursion (λ u. IsUnitRead u.1 × IsPlaced u) units
