use Rattle.std.proofs.Common.{◌≡◌, ◌++◌, drop, map}
use Rattle.kumir_tree.specs.Parts.{table_of}
use Rattle.type_check.specs.Parts.{tables_names}
use Rattle.type_check.proofs.uses.add_tables.Given as goal

abbrev pub invariant-loop-table : goal.invariant-loop-table
invariant-loop-table l = l.out ++ tables_names (map table_of (drop l.table-index l.tables)) ≡ l.fn.out ++ tables_names (map table_of l.tables)
