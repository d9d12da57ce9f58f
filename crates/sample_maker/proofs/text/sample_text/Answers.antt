use Rattle.sample_maker.proofs.EndsOfSamples.{bare_run}
use Rattle.sample_maker.proofs.text.sample_text.Goals as goal

pub returns-in-Err : goal.returns-in-Err
returns-in-Err g c = record { run = bare_run c.args.number (g.O.Sink.state c.args.output.now) (c.one_summary.ensures.some c.args.number) }
