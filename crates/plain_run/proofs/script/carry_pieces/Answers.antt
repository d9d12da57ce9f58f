use Rattle.std.proofs.Common.{ℕ, ◌++◌, [], length-append, refl, sym, ap, subst, ◌∙◌, arith}
use Rattle.std.specs.Prelude.{Err}
use Rattle.std.proofs.lemmas.Result.{err_from_is_err_and}
use Rattle.km_base.specs.Limits.{script_bytes}
use Rattle.plain_run.specs.Runs.{ports}
use Rattle.plain_run.specs.Sessions.{kept_in}
use Rattle.plain_run.specs.Carried.{StopsFor}
use Rattle.plain_run.proofs.Carried.{if_ok_here}
use Rattle.plain_run.proofs.ScriptRuns.{carried_none, carried_more, more_carried, more_few, stops_behind, up_to_behind}
use Rattle.plain_run.proofs.script.carry_pieces.Goals as goal

pub loop-reader-init : goal.loop-reader-init
loop-reader-init g c = record {
  fed = [];
  read = c.new-reader.ensures;
  left = refl;
  carried = carried_none (g.I.Source.state c.args.input.now) (g.O.Sink.state c.args.output.now) (kept_in c.args.session.now);
  session = c.requires.session;
  few = omega (arith, c.requires.none);
  source = refl;
  sink = refl;
}

pub loop-reader-preserved : goal.loop-reader-preserved
loop-reader-preserved g c =
    let i = c.loop-reader.invariant in
    let here = if_ok_here _ c.carry_piece.result c.in_ok-count.count c.in_ok-count.was (c.carry_piece.ensures.carried i.fed i.read) in
    record {
      fed = i.fed ++ here.0;
      read = here.2;
      left = omega (arith, length-append i.fed here.0, here.1, i.left, c.in_ok-count.ensures.within);
      carried = carried_more (g.I.Source.state c.args.input.now) (g.I.Source.state c.loop-reader.input) (g.I.Source.state c.carry_piece.new.input) (g.O.Sink.state c.args.output.now) (g.O.Sink.state c.loop-reader.output) (g.O.Sink.state c.carry_piece.new.output) i.fed here.0 (kept_in c.args.session.now) (kept_in c.loop-reader.session) (kept_in c.carry_piece.new.session) i.carried here.3;
      session = c.in_ok-count.ensures.session;
      few = more_few (ports (g.I.Source.state c.loop-reader.input) (g.I.Source.state c.carry_piece.new.input) (g.O.Sink.state c.loop-reader.output) (g.O.Sink.state c.carry_piece.new.output)) i.fed here.0 (kept_in c.loop-reader.session) (kept_in c.carry_piece.new.session) i.few here.3;
      source = c.in_ok-count.ensures.cause.0 ∙ i.source;
      sink = c.in_ok-count.ensures.cause.1 ∙ i.sink;
    }

pub returns-then-count-eq0-clause-carried : goal.returns-then-count-eq0-clause-carried
returns-then-count-eq0-clause-carried g c =
    let i = c.loop-reader.invariant in
    let here = if_ok_here _ c.carry_piece.result c.in_ok-count.count c.in_ok-count.was (c.carry_piece.ensures.carried i.fed i.read) in
    let more = more_carried (g.I.Source.state c.args.input.now) (g.I.Source.state c.loop-reader.input) (g.I.Source.state c.carry_piece.new.input) (g.O.Sink.state c.args.output.now) (g.O.Sink.state c.loop-reader.output) (g.O.Sink.state c.carry_piece.new.output) i.fed (kept_in c.args.session.now) (kept_in c.loop-reader.session) (kept_in c.carry_piece.new.session) c.carry_piece.new.reader c.in_ok-count.count c.loop-reader.room script_bytes i.left c.in_ok-count.ensures.within i.carried here in
    (more.0, more.1, omega (arith, more.2, i.left, c.in_ok-count.ensures.within), more.3)

pub returns-in_err-count-clause-cause : goal.returns-in_err-count-clause-cause
returns-in_err-count-clause-cause g c =
    let i = c.loop-reader.invariant in
    let p = err_from_is_err_and c.from_residual.result c.from_residual.ensures.1 in
    subst (λ r. StopsFor script_bytes (ports (g.I.Source.state c.args.input.now) (g.I.Source.state c.carry_piece.new.input) (g.O.Sink.state c.args.output.now) (g.O.Sink.state c.carry_piece.new.output)) r) (sym (p.1 ∙ ap Err p.2)) (stops_behind ℕ ℕ script_bytes c.loop-reader.room i.fed (g.I.Source.state c.args.input.now) (g.I.Source.state c.loop-reader.input) (g.I.Source.state c.carry_piece.new.input) (g.O.Sink.state c.args.output.now) (g.O.Sink.state c.loop-reader.output) (g.O.Sink.state c.carry_piece.new.output) _ i.left i.carried.taken i.source i.sink c.in_err-count.ensures.cause)

pub returns-in_err-count-clause-taken : goal.returns-in_err-count-clause-taken
returns-in_err-count-clause-taken g c =
    let i = c.loop-reader.invariant in
    up_to_behind script_bytes c.loop-reader.room (g.I.Source.state c.args.input.now) (g.I.Source.state c.loop-reader.input) (g.I.Source.state c.carry_piece.new.input) i.fed i.left i.carried.taken c.in_err-count.ensures.taken
