use Rattle.algo_parser.proofs.OneReading.{some_read, one_read}
use Rattle.algo_parser.proofs.laws.one_reading.Goals as goal

pub returns-clause-some : goal.returns-clause-some
returns-clause-some c = some_read (record {
  some_cutting = c.one_cutting.ensures.some;
  one_cutting = c.one_cutting.ensures.only;
  some_pieces = c.one_list_of_pieces.ensures.some;
  one_pieces = c.one_list_of_pieces.ensures.only;
  one_form = c.one_form.ensures;
  form_or_none = c.form_or_none.ensures.form;
  deep_or_shallow = c.form_or_none.ensures.depth;
  some_ending = c.one_ending.ensures.some;
  one_ending = c.one_ending.ensures.only;
})

pub returns-clause-only : goal.returns-clause-only
returns-clause-only c = one_read (record {
  some_cutting = c.one_cutting.ensures.some;
  one_cutting = c.one_cutting.ensures.only;
  some_pieces = c.one_list_of_pieces.ensures.some;
  one_pieces = c.one_list_of_pieces.ensures.only;
  one_form = c.one_form.ensures;
  form_or_none = c.form_or_none.ensures.form;
  deep_or_shallow = c.form_or_none.ensures.depth;
  some_ending = c.one_ending.ensures.some;
  one_ending = c.one_ending.ensures.only;
})
