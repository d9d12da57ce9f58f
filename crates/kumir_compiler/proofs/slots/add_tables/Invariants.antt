use Rattle.std.proofs.Common.{◌≡◌, ◌++◌, drop, length, map}
use Rattle.kumir_tree.specs.Parts.{table_of}
use Rattle.kumir_names.specs.Variables.{table}
use Rattle.stack_code.specs.declared.unit.Shape.TheVariants.{Table}
use Rattle.kumir_compiler.proofs.slots.add_tables.Given as goal

abbrev pub invariant-loop-table : goal.invariant-loop-table
invariant-loop-table l =
    (l.slots.names ++ map (table l.kind) (map table_of (drop l.table-index l.tables)) ≡ l.fn.slots.names ++ map (table l.kind) (map table_of l.tables))
    × (l.slots.shapes ++ map (λ x. Table l.kind (length x.1)) (map table_of (drop l.table-index l.tables)) ≡ l.fn.slots.shapes ++ map (λ x. Table l.kind (length x.1)) (map table_of l.tables))
