-- The code of a program, as a function of its trees; the codes of its parts are named here too. docs/LANGUAGE.md, "The code of a program".
use Rattle.std.specs.Prelude.{List, map}
use Rattle.kumir_meaning.specs.Program.{Program}
use Rattle.stack_code.specs.declared.unit.CodeUnit.{CodeUnit}
pub use Rattle.kumir_compiler.specs.Sites.{Line, Code, placed, Site, in_checks, among, on_line, behind, position, slot, hidden, on, jump, jump_no, jump_back, jump_no_back, next_turn}
pub use Rattle.kumir_compiler.specs.ArgumentCode.{keep_code, kept_at, tree_keeps, keeps, tree_place, call_place, call_places, read_code, argument_code}
pub use Rattle.kumir_compiler.specs.ExpressionCode.{by_kind, operator_code, built_in_code, number_of_unit, enter_code, call_code, named_code, tree_code, trees_code, arguments_code, place_code, limits_code}
pub use Rattle.kumir_compiler.specs.LoopCode.{while_code, turns_code, forever_code, until_code, choice_code}
pub use Rattle.kumir_compiler.specs.StatementCode.{aim_code, store_code, claim_code, tables_code, declares_code, invoke_code, place_kind, kind_or_whole, inputs_code, outputs_code, stride_code, act_code, stmt_code, block_code, arms_code}
pub use Rattle.kumir_compiler.specs.UnitCode.{some_claim_code, bounds_code, fits_code, answer_of, variables_of, header_site, return_code, algorithm_code, param_slots, answer_slot, declared_shapes, act_shapes, block_shapes, arm_shapes, formal_shape, answer_shape, written_below, all_written_below, shapes_of, unit_of, unit_code, without_params, entry_among, entry_of}

-- the units of a program, in the order of its algorithms
unfoldable pub code_of : Program → List CodeUnit
code_of p = map (λ a. unit_code p a) p.algorithms
