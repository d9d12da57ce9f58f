use Rattle.std.proofs.Common.{◌≤◌, subst}
use Rattle.machine_steps.specs.States.{slots_of}
use Rattle.machine_steps.proofs.PassedParams.{received_end}
use Rattle.machine_steps.proofs.calls.receive_all.Goals as goal

pub returns-clause-received : goal.returns-clause-received
returns-clause-received c =
    received_end 1000000 c.args.params.now c.args.places.now c.loop-at.at c.loop-at.left.now (slots_of c.args.slots.now) c.loop-at.begun tt _
    (subst (λ n. n ≤ c.loop-at.at) c.min-at-end.ensures c.loop-at-test.false) c.loop-at.invariant.received
