-- What is called, as the emitter has it, and how many hidden slots arguments keep.
use Rattle.std.specs.Prelude.{◌≡◌, ℕ, ◌+◌, List, [], ◌∷◌, map, Option, Some, None}
use Rattle.kumir_tree.specs.declared.kind.Kind.{Kind}
use Rattle.kumir_tree.specs.Tree.{Trees, no_trees, ◌then◌}
use Rattle.kumir_tree.specs.Part.{Formal}
use Rattle.kumir_tree.specs.Parts.{formal_of}
use Rattle.kumir_names.specs.Callees.{BuiltInCall, Called, PenCall, RobotCall, algorithm_named}
use Rattle.kumir_meaning.specs.Program.{Placed, Program, callee_in, own_name}
use Rattle.kumir_compiler.specs.AlgorithmsSeen.{seen}
use Rattle.kumir_compiler.specs.ArgumentCode.{keeps}
use Rattle.kumir_compiler.specs.ExpressionCode.{number_of_unit}
use Rattle.kumir_compiler.specs.declared.algorithms.Numbered.{Numbered}
use Rattle.kumir_compiler.specs.declared.algorithms.Target.{Target}
use Rattle.kumir_compiler.specs.declared.algorithms.Target.TheVariants as target

-- the first algorithm with that name, with the number of its unit
pub record IsNumbered (p : Program) (f : List ℕ) (a : Numbered) : Type 0 where
  pub found : algorithm_named own_name f p.algorithms ≡ Some (seen a.algorithm)
  pub same_number : a.number ≡ number_of_unit p.algorithms f

abbrev pub IsAlgorithm : Program → List ℕ → Option Numbered → Type 0
IsAlgorithm p f None = algorithm_named own_name f p.algorithms ≡ None
IsAlgorithm p f (Some a) = IsNumbered p f a

-- the kind of an algorithm
abbrev pub some_gives : Option Placed → Option Kind
some_gives None = None
some_gives (Some a) = a.algorithm.head.gives

-- the algorithm that is called, with its parameters and the number of its unit
pub record IsCalledIn (p : Program) (f : List ℕ) (number : ℕ) (params : List Formal) : Type 0 where
  pub algorithm : Placed
  pub called : callee_in p f ≡ Some (Called algorithm)
  pub same_params : params ≡ algorithm.algorithm.head.params
  pub same_number : number ≡ number_of_unit p.algorithms f

-- what is called in a program by that name
abbrev pub IsTargetIn : Program → List ℕ → Option Target → Type 0
IsTargetIn p f None = callee_in p f ≡ None
IsTargetIn p f (Some (target.Unit number params)) = IsCalledIn p f number (map formal_of params.now)
IsTargetIn p f (Some (target.BuiltIn b)) = callee_in p f ≡ Some (BuiltInCall b)
IsTargetIn p f (Some (target.Robot c)) = callee_in p f ≡ Some (RobotCall c)
IsTargetIn p f (Some (target.Pen c)) = callee_in p f ≡ Some (PenCall c)

-- how many hidden slots arguments keep
abbrev pub keeps_in : Trees → List Formal → ℕ
keeps_in no_trees params = 0
keeps_in (e then es) [] = 0
keeps_in (e then es) (p ∷ params) = keeps p.bounds p.mode e + keeps_in es params
