use Rattle.std.proofs.Common.{◌≡◌, true, true≢false, sym, ap, ◌∙◌}
use Rattle.std.specs.Prelude.{Err}
use Rattle.std.proofs.lemmas.Result.{on_ok_weaker}
use Rattle.type_check.specs.Margin.{program_faults}
use Rattle.type_check.specs.Placed.{units_in}
use Rattle.incr_analysis.specs.Full.{has_main}
use Rattle.plain_run.proofs.RunsBegin.{begins_faultless, puts_faults, puts_main, puts_of_text}
use Rattle.plain_run.proofs.run.put_run.Goals as goal
use Rattle.plain_run.proofs.run.put_run.Goals.{then-fault_free, else-fault_free}

pub put_active-requires-clause-faultless : goal.put_active-requires-clause-faultless
put_active-requires-clause-faultless g c =
    begins_faultless c.is_empty-fault_free.result c.if-fault_free.has_main _ _ (program_faults (units_in c.args.analysed.now.units)) c.marks.result.now c.margin.result.now (sym c.begin.ensures.answer ∙ c.in-Ok.is) c.marks.ensures.shown c.is_empty-fault_free.ensures c.margin.ensures.analysis.marked

pub returns-in-Err-Faults-clause-whole : goal.returns-in-Err-Faults-clause-whole
returns-in-Err-Faults-clause-whole g c =
    on_ok_weaker c.put_entry.result
    (λ p. puts_of_text c.args.budget c.args.runs.now.count c.args.inputs c.args.field.now c.args.analysed.now.text (units_in c.args.analysed.now.units) (g.O.Sink.state c.args.output.now) (g.O.Sink.state c.put_entry.new.output) c.margin.ensures.analysis.are_units (puts_faults c.is_empty-fault_free.result c.if-fault_free.has_main _ c.args.budget c.args.runs.now.count c.count-run.result c.args.inputs c.args.field.now (units_in c.args.analysed.now.units) c.marks.result.now c.margin.result.now (g.O.Sink.state c.args.output.now) (g.O.Sink.state c.put_entry.new.output)
    (sym c.begin.ensures.answer ∙ c.in-Err-Faults.is ∙ ap Err c.in-Err-Faults.field-0-is) c.marks.ensures.shown c.is_empty-fault_free.ensures c.margin.ensures.analysis.marked c.count-run.ensures p)) c.put_entry.ensures.whole

pub returns-clause-whole : goal.returns-clause-whole
returns-clause-whole g c =
    let tells : c.is_empty-fault_free.result ≡ true → c.if-fault_free.has_main ≡ has_main (units_in c.args.analysed.now.units) = λ free.
    elim c.if-fault_free.branch [
      | then-fault_free w ↦ w.has_main-is ∙ w.has_main-has_main.ensures.main
      | else-fault_free w ↦ absurd (true≢false (sym free ∙ w.if-fault_free.false))
    ] in
    on_ok_weaker c.put_entry-in-Err-NoMain.result
    (λ p. puts_of_text c.args.budget c.args.runs.now.count c.args.inputs c.args.field.now c.args.analysed.now.text (units_in c.args.analysed.now.units) (g.O.Sink.state c.args.output.now) (g.O.Sink.state c.put_entry-in-Err-NoMain.new.output) c.margin.ensures.analysis.are_units (puts_main c.is_empty-fault_free.result c.if-fault_free.has_main _ c.args.budget c.args.runs.now.count c.count-run.result c.args.inputs c.args.field.now (units_in c.args.analysed.now.units) c.marks.result.now c.margin.result.now (g.O.Sink.state c.args.output.now) (g.O.Sink.state c.put_entry-in-Err-NoMain.new.output)
    (sym c.begin.ensures.answer ∙ c.in-Err-NoMain.is ∙ ap Err c.in-Err-NoMain.field-0-is) tells c.marks.ensures.shown c.is_empty-fault_free.ensures c.margin.ensures.analysis.marked c.count-run.ensures p)) c.put_entry-in-Err-NoMain.ensures.whole
