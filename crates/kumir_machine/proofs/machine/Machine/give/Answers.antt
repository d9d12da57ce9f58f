use Rattle.std.specs.Arc.{arc_value}
use Rattle.kumir_machine.specs.declared.active.Phase.TheVariants as phase
use Rattle.kumir_machine.proofs.OneCall.{robot_replied, pen_replied, machine_lawful}
use Rattle.kumir_machine.proofs.machine.Machine.give.Goals as goal

pub returns-in-OwesRobot-clause-lawful : goal.returns-in-OwesRobot-clause-lawful
returns-in-OwesRobot-clause-lawful c =
    let m = c.self.inside in
    machine_lawful (arc_value m.code) m.budget (record m.run { phase = phase.Replied c.in-OwesRobot.question c.args.reply }) c.note.new.self m.answers
    (robot_replied (arc_value m.code) m.budget m.run m.replies c.note.new.self m.answers c.in-OwesRobot.question c.args.reply c.self.invariant c.in-OwesRobot.is c.note.ensures)

pub returns-in-OwesPen-clause-lawful : goal.returns-in-OwesPen-clause-lawful
returns-in-OwesPen-clause-lawful c =
    let m = c.self.inside in
    machine_lawful (arc_value m.code) m.budget (record m.run { phase = phase.Ready }) m.replies m.answers
    (pen_replied (arc_value m.code) m.budget m.run m.replies m.answers c.in-OwesPen.field-0 c.self.invariant c.in-OwesPen.is)
