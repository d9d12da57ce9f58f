-- The runs, by computation.
use Rattle.std.proofs.Common.{refl}
use Rattle.performer_kit.specs.Commands.{robot_command_named, pen_shape_named, robot_name, pen_name}
use Rattle.kumir_names.specs.BuiltIns.{built_in_name, built_in_named}
use Rattle.kumir_names.specs.Callees.{callee}
use Rattle.kumir_values.specs.Arithmetic.{power_of}
use Rattle.kumir_meaning.specs.Algorithms.{run, run_within}
use Rattle.kumir_meaning.specs.ValuesRun.{ValuesRun}
use Rattle.kumir_meaning.specs.StepsRun.{StatesRun, StepsRun}
use Rattle.kumir_meaning.specs.OrderRun.{OrderRun}
use Rattle.kumir_meaning.specs.NamesRun.{NamesRun}
use Rattle.kumir_meaning.specs.LoopsRun.{LoopsRun}
use Rattle.kumir_meaning.specs.CallsRun.{CallsRun}

pub values_run : ValuesRun
unfolding run run_within callee built_in_named built_in_name power_of robot_command_named pen_shape_named robot_name pen_name
values_run = record { lowest_number = refl; below_the_lowest = refl; passes_the_range = refl; product = refl; euclid = refl; no_divisor = refl; quotient_out_of_range = refl; zero_to_zero = refl; power = refl; negative_exponent = refl; one_to_a_negative_exponent = refl; lesser = refl; greater = refl; absolute = refl; prints = refl }

pub states_run : StatesRun
unfolding run run_within callee built_in_named built_in_name power_of robot_command_named pen_shape_named robot_name pen_name
states_run = record { to_the_wall = refl; awaits = refl; draws = refl; one_awaits = refl; asserts = refl; holds = refl; quits = refl }

pub steps_run : StepsRun
unfolding run run_within callee built_in_named built_in_name power_of robot_command_named pen_shape_named robot_name pen_name
steps_run = record { one_for_each = refl; a_declaration_too = refl; last_test = refl; test_takes_its_step = refl; before_it_is_evaluated = refl; spins = refl; each_turn = refl; at_the_end_of_a_turn = refl; no_step_for_the_end = refl; at_the_end_of_each_turn = refl; after_its_arguments = refl; call_takes_its_step = refl; call_takes_one = refl; after_its_numbers = refl; command_takes_two = refl; test_takes_one = refl; none_for_claims = refl; none_for_conditions = refl }

pub order_run : OrderRun
unfolding run run_within callee built_in_named built_in_name power_of robot_command_named pen_shape_named robot_name pen_name
order_run = record { operands = refl; between_operands = refl; from_left_to_right = refl; leaves_out = refl; takes_the_right_side = refl; stored = refl; index_at_the_store = refl; index_below = refl; not_made_at_the_store = refl; index_of_a_reading = refl; no_element_value = refl; index_of_a_place = refl; index_of_a_read_place = refl; inputs = refl; no_first_input = refl; no_input = refl; input_before_the_store = refl; other_kind = refl; item_by_item = refl }

pub names_run : NamesRun
unfolding run run_within callee built_in_named built_in_name power_of robot_command_named pen_shape_named robot_name pen_name
names_run = record { hidden = refl; hidden_whatever_the_blocks = refl; values_taken_away = refl; both_made = refl; no_room_for_the_second = refl; no_room_for_the_first = refl; bounds_of_the_second = refl; six_elements = refl; room_for_five = refl; one_of_each = refl; bounds_first = refl; no_bounds = refl; made_anew = refl; no_room = refl; made_without_values = refl }

pub loops_run : LoopsRun
unfolding run run_within callee built_in_named built_in_name power_of robot_command_named pen_shape_named robot_name pen_name
loops_run = record { counted_before = refl; two_turns = refl; no_turn_of_none = refl; no_turn_below_none = refl; no_turn_of_while = refl; evaluated_once = refl; without_step = refl; step_zero = refl; step_up = refl; step_down = refl; no_turn_upwards = refl; no_turn_downwards = refl; to_the_end = refl; one_step_less = refl; down_to_the_end = refl; over_the_end = refl; last_number = refl; number_of_each_turn = refl; innermost = refl; leaves_the_algorithm = refl }

pub calls_run : CallsRun
unfolding run run_within callee built_in_named built_in_name power_of robot_command_named pen_shape_named robot_name pen_name
calls_run = record { fixed_places = refl; arg_scalar = refl; arg_table = refl; res_scalar = refl; res_scalar_begins = refl; res_scalar_without_value = refl; res_table = refl; res_table_begins = refl; res_table_without_value = refl; argres_scalar = refl; argres_table = refl; depth = refl; depth_after_its_step = refl; usual_depth = refl; depth_before_the_tables = refl; unset_first = refl; elements_of_the_first = refl; unset_of_the_second = refl; elements_of_the_second = refl; elements_of_a_result = refl; room_for_the_copy = refl; bounds_after_all_tables = refl; other_bounds = refl; bounds_of_a_result = refl; call_within_bounds = refl; steps_within_bounds = refl; fault_within_bounds = refl; given = refl; not_given = refl; bounds_before_given = refl; not_given_to_the_main_one = refl; wanted = refl; not_wanted = refl; wanted_first = refl; no_value = refl; no_value_of_the_main_one = refl; value_of_the_main_one = refl; elements_again = refl; elements_while_it_runs = refl; factorial = refl }
