-- Where a piece of code stands, as the definition has it.
use Rattle.std.specs.Prelude.{◌≡◌, ◌≤◌, ℕ, List, ◌++◌, length, map, take, Option}
use Rattle.kumir_names.specs.Variables.{Names}
use Rattle.kumir_tree.specs.Part.{Formal}
use Rattle.kumir_meaning.specs.Store.{Local}
use Rattle.kumir_compiler.specs.Sites as code
use Rattle.kumir_compiler.specs.UnitCode.{answer_of}
use Rattle.kumir_compiler.specs.AlgorithmsSeen.{program_seen}
use Rattle.kumir_compiler.specs.CallsSeen.{IsCalledIn, IsTargetIn}
use Rattle.kumir_compiler.specs.declared.algorithms.Target.{Target}
use Rattle.kumir_compiler.specs.declared.site.Site.{Site}

abbrev pub site_of : Site → code.Site
site_of s = record {
  program = program_seen s.program.now;
  variables = answer_of s.gives ++ map (λ l. Local l.0) s.names.now;
  gives = s.gives;
  first = s.first;
  line = s.line;
  locals = take s.locals s.names.now;
}

-- the same site with so many names that are local
abbrev pub with_locals : Site → ℕ → code.Site
with_locals s n = site_of (record s { locals = n })

-- the names that are local there end with these
pub record EndsWith (s : Site) (names : Names) : Type 0 where
  pub front : Names
  pub ends : take s.locals s.names.now ≡ front ++ names
  pub within : s.locals ≤ length s.names.now

-- the algorithm that is called, with its parameters and the number of its unit
abbrev pub IsCalled : code.Site → List ℕ → ℕ → List Formal → Type 0
IsCalled t f number params = IsCalledIn t.program f number params

-- what is called there by that name
abbrev pub IsTarget : code.Site → List ℕ → Option Target → Type 0
IsTarget t f found = IsTargetIn t.program f found
