use Rattle.stack_code.proofs.Units.{decides_valid, decides_invalid}
use Rattle.stack_code.proofs.code.valid.Goals as goal

pub returns-then-not-branch : goal.returns-then-not-branch
returns-then-not-branch c =
    record { exactly = decides_invalid c.args.units.now c.as_slice.result.now c.args.entry c.in_ok-are_units.field-0 c.as_slice.ensures c.in_ok-are_units.ensures.1 c.if-not-branch.true }

pub returns : goal.returns
returns c = record {
  exactly = decides_valid c.args.units.now c.as_slice.result.now c.as_slice-2.result.now c.args.entry c.is_entry.result c.as_slice.ensures c.as_slice-2.ensures (c.in_ok-are_units.ensures.0 c.if-not-branch.false) c.is_entry.ensures;
}
