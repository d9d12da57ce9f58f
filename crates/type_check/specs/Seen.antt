-- The code's pieces as plain data, and what was found in the pieces so far.
use Rattle.std.specs.Prelude.{ℕ, List, [], ◌++◌, fold, Option}
use Rattle.kumir_tree.specs.declared.kind.Kind.{Kind}
use Rattle.kumir_tree.specs.Seen.{tree, trees, some_tree}
use Rattle.kumir_tree.specs.Parts.{declares_of, place_of, places_of, all_shown}
use Rattle.kumir_tree.specs.Part.{Head}
use Rattle.kumir_names.specs.Callees.{Callee}
use Rattle.type_rules.specs.Callees.{callee}
use Rattle.type_rules.specs.Headers.{callees_of}
use Rattle.type_rules.specs.Counted.{fault_on}
use Rattle.type_check.specs.declared.parts.Part as rust
use Rattle.type_check.specs.declared.parts.Part.TheVariants as r
use Rattle.type_check.specs.declared.found.Found.{Found}
use Rattle.type_check.specs.declared.found.Rules.{Rules}
use Rattle.type_check.specs.Parts.{Part, Condition, Repeating, Counting, Declaring, Assigning, Calling, Reading, Printing, used_by}
use Rattle.type_check.specs.Checked.{behind, at_piece, noted, not_local, part_fault}

abbrev pub part_of : rust.Part → Part
part_of (r.Condition e) = Condition (tree e.now)
part_of (r.Repeating e) = Repeating (tree e.now)
part_of (r.Counting x from to step) = Counting x.now (tree from.now) (tree to.now) (some_tree step.now)
part_of (r.Declaring d) = Declaring (declares_of d.now)
part_of (r.Assigning p e) = Assigning (place_of p.now) (tree e.now)
part_of (r.Calling f es) = Calling f.now (trees es.now)
part_of (r.Reading ps) = Reading (places_of ps.now)
part_of (r.Printing xs) = Printing (all_shown xs.now)

-- what was found, with one more piece
unfoldable pub with_piece : (List ℕ → Option (Callee Head)) → Option Kind → Found → ℕ × Part → Found
with_piece find gives f p = record {
  locals = behind f.locals p.1;
  asked = fold noted f.asked (not_local (at_piece f.locals p.1) (used_by p.1));
  faults = f.faults ++ fault_on p.0 (part_fault find gives f.locals p.1);
}

abbrev pub nothing_found : Found
nothing_found = record { locals = []; asked = []; faults = [] }

abbrev pub checking : Rules → Found → ℕ × Part → Found
checking rules = with_piece (callee (callees_of rules.headers.now)) rules.gives
