use Rattle.std.proofs.Common.{ap, ◌∙◌}
use Rattle.std.proofs.lemmas.Result.{on_ok_weaker}
use Rattle.type_check.specs.Margin.{program_faults}
use Rattle.type_check.specs.Placed.{units_in}
use Rattle.incr_analysis.specs.Full.{has_main}
use Rattle.plain_run.proofs.RunsBegin.{puts_told}
use Rattle.plain_run.proofs.run.put_active.Goals as goal

pub put_trace-requires-clause-runnable : goal.put_trace-requires-clause-runnable
put_trace-requires-clause-runnable g c =
    let same = c.in_ok-program.ensures.same in
    record {
      sound = c.in_ok-program.ensures.sound;
      faultless = ap program_faults same ∙ c.requires.faultless;
      main = ap has_main same ∙ c.requires.main;
    }

pub returns-clause-whole : goal.returns-clause-whole
returns-clause-whole g c =
    on_ok_weaker c.put_trace.result
    (λ put. puts_told c.args.budget c.args.run c.args.inputs c.args.field.now (units_in c.args.analysed.now.units) (units_in c.in_ok-program.program) (g.O.Sink.state c.args.output.now) (g.O.Sink.state c.put_trace.new.output) c.in_ok-program.ensures.same c.requires.faultless c.requires.main put) c.put_trace.ensures.whole
