use Rattle.std.proofs.Common.{◌≡◌, ◌&&◌, drop, fold}
use Rattle.std.specs.List.{list_all}
use Rattle.type_check.specs.Kinds.{is_known}
use Rattle.type_check.specs.Checked.{noted, not_local}
use Rattle.type_check.specs.Scopes.{among}
use Rattle.type_check.proofs.check.note_names.Given as goal

abbrev pub invariant-loop-name : goal.invariant-loop-name
invariant-loop-name l = record {
  asked : fold noted l.asked (not_local (among l.scope).names (drop l.name-index l.names)) ≡ fold noted l.fn.asked (not_local (among l.scope).names l.names);
  known : (l.known && list_all (is_known (among l.scope)) (drop l.name-index l.names)) ≡ list_all (is_known (among l.scope)) l.names;
}
