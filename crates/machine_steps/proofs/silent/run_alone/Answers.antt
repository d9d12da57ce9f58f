use Rattle.std.proofs.Common.{◌≡◌, subst, arith}
use Rattle.machine_steps.specs.Quick.{ComesBy}
use Rattle.machine_steps.proofs.LocalRuns.{goes_behind}
use Rattle.machine_steps.proofs.silent.run_alone.Goals as goal

pub returns-clause-goes : goal.returns-clause-goes
returns-clause-goes c =
    let few = c.go_quickly.ensures.few in
    let none : c.go_quickly.result ≡ 0 = omega (arith, few) in
    goes_behind c.run_each.result c.args.unit.now c.args.running.now c.go_quickly.new.running c.run_each.new.running c.go_quickly.ensures.unit
    (λ units e. subst (λ k. ComesBy units k c.args.running.now c.go_quickly.new.running) none (c.go_quickly.ensures.comes units e)) c.run_each.ensures.goes
