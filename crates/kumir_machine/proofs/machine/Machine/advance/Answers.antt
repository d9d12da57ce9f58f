use Rattle.std.proofs.Common.{◌∙◌, ap}
use Rattle.std.specs.Arc.{arc_value}
use Rattle.kumir_machine.specs.Phases.{course_of}
use Rattle.kumir_machine.proofs.NewMachine.{all_valid}
use Rattle.kumir_machine.proofs.OneCall.{Called, Promised, called, machine_new, promised}
use Rattle.kumir_machine.proofs.machine.Machine.advance.Goals as goal

pub move_on-answer-requires-clause-valid : goal.move_on-answer-requires-clause-valid
move_on-answer-requires-clause-valid c = all_valid c.as_slice.result.now c.deref.result.now.units c.deref.result.now.entry (c.as_slice.ensures ∙ c.units.ensures.answer) c.units.ensures.valid

call : (c : goal.After-note) → Called (course_of (arc_value c.self.inside.code) c.self.inside.budget c.self.inside.run c.self.inside.replies c.self.inside.answers) c.args.most_steps c.move_on-answer.result c.move_on-answer.new.run
call c =
    let m = c.self.inside in
    called (arc_value m.code) c.as_slice.result.now m.budget c.args.most_steps m.run c.move_on-answer.new.run m.replies m.answers c.move_on-answer.result
    (c.as_slice.ensures ∙ c.units.ensures.answer ∙ ap (λ x. x.units) c.deref.ensures) c.self.invariant c.move_on-answer.ensures.moves

pub invariant_of-self : goal.invariant_of-self
invariant_of-self c =
    let m = c.self.inside in
    machine_new (arc_value m.code) m.budget c.args.most_steps m.run c.move_on-answer.new.run m.replies m.answers c.note.new.self c.move_on-answer.result (call c) c.move_on-answer.ensures.inputs c.note.ensures

all : (c : goal.After-note) → Promised c.args.self.now c.args.most_steps c.move_on-answer.result (course_of (arc_value c.self.inside.code) c.self.inside.budget c.move_on-answer.new.run c.self.inside.replies c.note.new.self)
all c =
    let m = c.self.inside in
    promised (arc_value m.code) m.budget c.args.most_steps m.run c.move_on-answer.new.run m.replies m.answers c.note.new.self c.move_on-answer.result (call c) c.move_on-answer.ensures.inputs c.note.ensures c.args.self.now c.self.view_is

pub returns-clause-advanced : goal.returns-clause-advanced
returns-clause-advanced c = (all c).advanced

pub returns-clause-stays : goal.returns-clause-stays
returns-clause-stays c = (all c).stays

pub returns-clause-next : goal.returns-clause-next
returns-clause-next c = (all c).next

pub returns-clause-exact : goal.returns-clause-exact
returns-clause-exact c = (all c).exact

pub returns-clause-lawful : goal.returns-clause-lawful
returns-clause-lawful c = (all c).lawful

pub returns-clause-rise : goal.returns-clause-rise
returns-clause-rise c = (all c).rise

pub returns-clause-few : goal.returns-clause-few
returns-clause-few c = (all c).few

pub returns-clause-paused : goal.returns-clause-paused
returns-clause-paused c = (all c).paused
