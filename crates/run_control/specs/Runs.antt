-- The runs of a session.
use Rattle.std.specs.Prelude.{ℕ, Bool, true, false, ⊤, Result, Ok, Err}
use Rattle.run_control.specs.declared.Stage.{Stage}
use Rattle.run_control.specs.declared.Stage.TheVariants.{NoRun, Pinned, Active}
use Rattle.run_control.specs.declared.BeginRefusal.{BeginRefusal}
use Rattle.run_control.specs.declared.BeginRefusal.TheVariants.{Faults, NoMain}

-- how many runs were pinned, and where the newest of them stands; those before it are over
pub record RunsSoFar : Type 0 where
  pub count : ℕ
  pub stage : Stage

-- a run is pinned or active
abbrev pub IsOpen : Stage → Type 0
IsOpen NoRun = ⊥
IsOpen (Pinned version) = ⊤
IsOpen (Active version) = ⊤

-- a run is pinned
abbrev pub IsPinned : Stage → Type 0
IsPinned NoRun = ⊥
IsPinned (Pinned version) = ⊤
IsPinned (Active version) = ⊥

-- the pinned run, when it goes on
abbrev pub activated : Stage → Stage
activated NoRun = NoRun
activated (Pinned version) = Active version
activated (Active version) = Active version

-- the answer to the begin of a run: whether its version is free of faults is asked first, then whether there is a main algorithm
abbrev pub begin_answer : Bool → Bool → ℕ → Result ℕ BeginRefusal
begin_answer false has_main run = Err Faults
begin_answer true false run = Err NoMain
begin_answer true true run = Ok run
