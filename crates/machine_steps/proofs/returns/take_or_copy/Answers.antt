use Rattle.std.proofs.Common.{◌∙◌, ap}
use Rattle.kumir_meaning.specs.Store.{Empty}
use Rattle.stack_code.specs.CodeState.{Plain}
use Rattle.machine_steps.specs.States.{slots_of}
use Rattle.machine_steps.proofs.WrittenSlots.{elsewhere}
use Rattle.machine_steps.proofs.returns.take_or_copy.Goals as goal

pub returns-else-is_needed-clause-others : goal.returns-else-is_needed-clause-others
returns-else-is_needed-clause-others c = λ y other. ap (λ s. s y) c.take.ensures.slots ∙ elsewhere (slots_of c.args.callee.now) c.args.slot y (Plain Empty) other
