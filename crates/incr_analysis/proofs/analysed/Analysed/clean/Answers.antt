use Rattle.std.proofs.Common.{sym, ◌∙◌, ap, subst}
use Rattle.std.specs.Result.{IfErr}
use Rattle.std.proofs.lemmas.Result.{on_ok_weaker, IfOk-weaker, IfErr-weaker}
use Rattle.kumir_tree.specs.Sound.{IsSound}
use Rattle.kumir_tree.specs.Units.{units_of}
use Rattle.type_check.specs.Margin.{program_faults}
use Rattle.type_check.specs.Refused.{IsRefusalOf}
use Rattle.type_check.specs.Placed.{units_in}
use Rattle.incr_analysis.specs.Full.{AreUnits}
use Rattle.incr_analysis.specs.Answers.{IsRefusedWith}
use Rattle.incr_analysis.proofs.Shown.{without_marks, refused_with}
use Rattle.incr_analysis.proofs.analysed.Analysed.clean.Goals as goal

pub returns-clause-without_fault : goal.returns-clause-without_fault
returns-clause-without_fault c = on_ok_weaker c.clean_of.result (λ e. sym (ap (λ a. a.margin) c.self.view_is) ∙ without_marks _ _ c.self.inside.margin c.self.invariant.1 e) c.clean_of.ensures.without_fault

pub returns-clause-refused : goal.returns-clause-refused
returns-clause-refused c = subst (λ m. IfErr c.clean_of.result (λ r. IsRefusedWith m r)) (ap (λ a. a.margin) c.self.view_is) (IfErr-weaker c.clean_of.result (λ r. IsRefusalOf (program_faults (units_of c.self.inside.units)) r) (λ r. IsRefusedWith c.self.inside.margin r) (λ r h. refused_with _ _ c.self.inside.margin r c.self.invariant.1 h) c.clean_of.ensures.refused)

pub returns-clause-of_text : goal.returns-clause-of_text
returns-clause-of_text c = IfOk-weaker c.clean_of.result _ _ (λ clean e. subst (λ lines. AreUnits lines (units_in clean)) (ap (λ a. a.text) c.self.view_is) (subst (AreUnits _) (sym e) c.self.invariant.1.are_units)) c.clean_of.ensures.same

pub returns-clause-sound : goal.returns-clause-sound
returns-clause-sound c = IfOk-weaker c.clean_of.result _ _ (λ clean e. subst IsSound (sym e) c.self.invariant.0) c.clean_of.ensures.same
