use Rattle.plain_run.specs.Runs.{ports}
use Rattle.plain_run.proofs.ScriptRuns.{done_run}
use Rattle.plain_run.proofs.script.run_plain.Goals as goal

pub returns-in-Ok : goal.returns-in-Ok
returns-in-Ok g c =
    let h = c.in-Ok.ensures.carried in
    record { run = done_run c.args.budget (ports (g.I.Source.state c.args.input.now) (g.I.Source.state c.carry_script.new.input) (g.O.Sink.state c.args.output.now) (g.O.Sink.state c.carry_script.new.output)) h.0 h.1 h.2 c.in-Ok.ensures.end c.in-Ok.ensures.cause h.3 }
