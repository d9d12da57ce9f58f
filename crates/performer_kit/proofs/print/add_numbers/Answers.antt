use Rattle.std.proofs.Common.{rules}
use Rattle.performer_kit.proofs.Printing.{encodes-printed_two}
use Rattle.performer_kit.proofs.print.add_numbers.Goals as goal

pub returns : goal.returns
returns c = rw (encodes-printed_two c.args.first c.args.second (search rules) (search rules)) (search rules)
