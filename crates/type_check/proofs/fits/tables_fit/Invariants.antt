use Rattle.std.proofs.Common.{◌≡◌, ◌&&◌, drop, map}
use Rattle.kumir_tree.specs.Parts.{table_of}
use Rattle.type_check.specs.Parts as p
use Rattle.type_check.specs.Scopes.{among}
use Rattle.type_check.proofs.fits.tables_fit.Given as goal

abbrev pub invariant-loop-table : goal.invariant-loop-table
invariant-loop-table l = (l.fit && p.tables_fit (among l.scope) (map table_of (drop l.table-index l.tables))) ≡ p.tables_fit (among l.scope) (map table_of l.tables)
