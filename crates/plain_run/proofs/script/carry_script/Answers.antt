use Rattle.std.proofs.Common.{ap}
use Rattle.std.proofs.lemmas.Result.{on_ok_weaker}
use Rattle.plain_run.specs.Sessions.{kept_in}
use Rattle.plain_run.proofs.Carried.{on_ok_here}
use Rattle.plain_run.proofs.ScriptRuns.{plain_put, runs_within}
use Rattle.plain_run.proofs.script.carry_script.Goals as goal

pub carry_pieces-requires-clause-none : goal.carry_pieces-requires-clause-none
carry_pieces-requires-clause-none g c = ap (λ kept. kept.runs) c.in_ok-session.ensures.kept

pub carry_last-requires-clause-few : goal.carry_last-requires-clause-few
carry_last-requires-clause-few g c =
    let h = c.in_ok-reader.ensures.carried in
    runs_within _ h.0 (kept_in c.in_ok-session.session) (kept_in c.carry_pieces.new.session) h.2 (ap (λ kept. kept.runs) c.in_ok-session.ensures.kept) h.3

pub returns-clause-carried : goal.returns-clause-carried
returns-clause-carried g c =
    let h = c.in_ok-reader.ensures.carried in
    let last = on_ok_here c.carry_last.result _ c.in_ok-carry_last.was (c.carry_last.ensures.whole h.0 h.1) in
    on_ok_weaker c.put_entry.result (λ bye. (h.0, h.2, h.3.taken, plain_put c.args.budget h.0 h.3.more (kept_in c.in_ok-session.session) (kept_in c.carry_pieces.new.session) (kept_in c.carry_last.new.session) (g.O.Sink.state c.args.output.now) (g.O.Sink.state c.put_margin.new.output) (g.O.Sink.state c.carry_pieces.new.output) (g.O.Sink.state c.carry_last.new.output) (g.O.Sink.state c.put_entry.new.output) c.in_ok-session.ensures.kept c.in_ok-put_margin.ensures.whole h.3.are_more h.3.put last bye)) c.put_entry.ensures.whole
