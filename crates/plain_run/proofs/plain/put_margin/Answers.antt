use Rattle.std.proofs.lemmas.Result.{on_ok_weaker}
use Rattle.plain_run.proofs.Carried.{puts_margin}
use Rattle.plain_run.proofs.plain.put_margin.Goals as goal

pub returns-clause-whole : goal.returns-clause-whole
returns-clause-whole g c = on_ok_weaker c.put_entry.result (λ put. puts_margin c.args.session.now.versions c.in_ok-margin.margin (g.O.Sink.state c.args.output.now) (g.O.Sink.state c.put_entry.new.output) c.in_ok-margin.ensures.margin put) c.put_entry.ensures.whole
