use Rattle.std.proofs.Common.{rules, arith}
use Rattle.mail_link.proofs.Moves.{drains, both_learn}
use Rattle.mail_link.proofs.Draining.{draining_first, draining_below, draining_done, draining_room}
use Rattle.mail_link.proofs.ends.drained.Goals as goal

pub len_as-most-requires-clause-rule : goal.len_as-most-requires-clause-rule
len_as-most-requires-clause-rule g c = both_learn _ _ c.requires.roles.0 c.requires.roles.1

pub loop-init : goal.loop-init
loop-init g c = (search rules, draining_first _ _ (search rules) c.requires.roles.0 c.requires.roles.1)

pub pop_as-requires-clause-rule : goal.pop_as-requires-clause-rule
pop_as-requires-clause-rule g c = (drains _ _ c.loop.invariant.1.sends c.loop.invariant.1.takes, both_learn _ _ c.loop.invariant.1.sends c.loop.invariant.1.takes)

pub prove-unreachable-requires : goal.prove-unreachable-requires
prove-unreachable-requires g c =
    let below = draining_below _ _ _ _ _ _ c.loop.invariant.1 c.len_as-most.ensures.rule.1 c.in-Some-pop_as.ensures.rule.2 in
    let over = c.if-prove.true in
    omega arith

pub returns-in-None-pop_as-clause-delivered : goal.returns-in-None-pop_as-clause-delivered
returns-in-None-pop_as-clause-delivered g c = draining_done _ _ _ c.loop.invariant.1 c.in-None-pop_as.ensures.rule.1

pub returns-in-None-pop_as-clause-room : goal.returns-in-None-pop_as-clause-room
returns-in-None-pop_as-clause-room g c = draining_room _ _ _ _ _ c.loop.invariant.1 c.in-None-pop_as.ensures.rule.1 c.len_as-most.ensures.rule.1 c.len_as-most.ensures.rule.0
