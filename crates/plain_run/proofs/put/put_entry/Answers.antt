use Rattle.std.proofs.Common.{◌∙◌}
use Rattle.std.proofs.lemmas.Result.{on_ok_weaker}
use Rattle.plain_run.proofs.Carried.{put_one}
use Rattle.plain_run.proofs.put.put_entry.Goals as goal

pub returns-clause-whole : goal.returns-clause-whole
returns-clause-whole g c =
    on_ok_weaker c.put_text.result (λ put. put_one c.args.entry c.deref.result.now (g.O.Sink.state c.args.output.now) (g.O.Sink.state c.put_text.new.output) (c.deref.ensures ∙ c.in_ok-text.ensures.printed) c.in_ok-text.ensures.shown put) c.put_text.ensures.whole
