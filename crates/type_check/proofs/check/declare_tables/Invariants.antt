use Rattle.std.proofs.Common.{◌≡◌, ◌||◌, drop, map}
use Rattle.kumir_tree.specs.Parts.{table_of}
use Rattle.kumir_names.specs.Variables.{table}
use Rattle.type_check.specs.Checked.{with_locals, declared_again}
use Rattle.type_check.proofs.check.declare_tables.Given as goal

abbrev pub invariant-loop-table : goal.invariant-loop-table
invariant-loop-table l = record {
  added : with_locals l.locals (map (table l.kind) (map table_of (drop l.table-index l.tables))) ≡ with_locals l.fn.locals (map (table l.kind) (map table_of l.tables));
  again : (l.again || declared_again l.locals (map (table l.kind) (map table_of (drop l.table-index l.tables)))) ≡ declared_again l.fn.locals (map (table l.kind) (map table_of l.tables));
}
