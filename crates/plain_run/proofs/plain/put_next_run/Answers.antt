use Rattle.std.proofs.Common.{◌∙◌, ap}
use Rattle.std.proofs.lemmas.Result.{on_ok_weaker}
use Rattle.run_control.specs.Runs.{RunsSoFar}
use Rattle.plain_run.specs.Kept.{Kept}
use Rattle.plain_run.specs.Sessions.{kept_in}
use Rattle.plain_run.proofs.Carried.{on_ok_both, puts_run}
use Rattle.plain_run.proofs.plain.put_next_run.Goals as goal

pub returns-clause-whole : goal.returns-clause-whole
returns-clause-whole g c =
    let kept = kept_in c.args.session.now in
    let begins = ap (λ (r : RunsSoFar). r.count) c.in-Ok.ensures.pinned in
    on_ok_weaker c.put_run.result
    (λ p. puts_run kept _ c.args.session.now.analysed.text c.args.inputs c.in-Ok.run' c.newest-version.result c.pin.new.self.count (g.O.Sink.state c.args.output.now) (g.O.Sink.state c.put_entry.new.output) (g.O.Sink.state c.put_run.new.output) c.in-Ok.ensures.number begins c.newest-version.ensures
    (ap {B = Kept} (λ n. record kept { runs = n }) (ap (λ (r : RunsSoFar). r.count) p.1 ∙ begins)) c.requires.session.analysed c.in_ok-put_entry.ensures.whole p.0)
    (on_ok_both _ _ c.put_run.result c.put_run.ensures.whole c.put_run.ensures.over)
