use Rattle.std.proofs.Common.{◌∙◌, sym, subst, ap, arith}
use Rattle.std.proofs.lemmas.Result.{on_ok_weaker}
use Rattle.type_check.specs.Placed.{units_in}
use Rattle.transcript.specs.Print.{IsPrintable}
use Rattle.plain_run.specs.RunEntries.{ready_on}
use Rattle.plain_run.specs.Performing.{performers_in}
use Rattle.plain_run.proofs.Replies.{report_prints}
use Rattle.plain_run.proofs.Courses.{job_of, at_first, put_output, output_less, put_command, command_less, asked_few, reply_owed, paused, paused_less, put_end}
use Rattle.plain_run.proofs.run.put_trace.Goals as goal

pub loop-text-init : goal.loop-text-init
loop-text-init g c = at_first (job_of (units_in c.args.program.now) c.args.inputs c.args.field.now c.args.budget c.args.run) (performers_in c.new-performing.result) c.in_ok-machine.machine (g.O.Sink.state c.args.output.now) c.in_ok-machine.ensures (c.new-performing.ensures ∙ ap ready_on c.in_ok-copy.ensures)

pub loop-text-preserved-in_ok-put_entry-in-Out : goal.loop-text-preserved-in_ok-put_entry-in-Out
loop-text-preserved-in_ok-put_entry-in-Out g c =
    put_output (job_of (units_in c.args.program.now) c.args.inputs c.args.field.now c.args.budget c.args.run) (g.O.Sink.state c.args.output.now) (g.O.Sink.state c.loop-text.output) (g.O.Sink.state c.put_entry.new.output) (performers_in c.loop-text.performing) c.loop-text.machine c.advance.new.self c.advance.new.self.steps c.advance.result c.in-Out.text c.in-Out.is c.advance.ensures.advanced c.advance.ensures.lawful c.loop-text.invariant c.in_ok-put_entry-in-Out.ensures.whole c.in_ok-put_entry-in-Out.ensures.cause

pub loop-text-smaller-in_ok-put_entry-in-Out : goal.loop-text-smaller-in_ok-put_entry-in-Out
loop-text-smaller-in_ok-put_entry-in-Out g c =
    output_less (job_of (units_in c.args.program.now) c.args.inputs c.args.field.now c.args.budget c.args.run) (g.O.Sink.state c.args.output.now) (g.O.Sink.state c.put_entry.new.output) (performers_in c.loop-text.performing) c.loop-text.machine c.advance.new.self c.advance.new.self.steps c.advance.result c.in-Out.text c.in-Out.is c.advance.ensures.advanced c.advance.ensures.rise
    (put_output (job_of (units_in c.args.program.now) c.args.inputs c.args.field.now c.args.budget c.args.run) (g.O.Sink.state c.args.output.now) (g.O.Sink.state c.loop-text.output) (g.O.Sink.state c.put_entry.new.output) (performers_in c.loop-text.performing) c.loop-text.machine c.advance.new.self c.advance.new.self.steps c.advance.result c.in-Out.text c.in-Out.is c.advance.ensures.advanced c.advance.ensures.lawful c.loop-text.invariant c.in_ok-put_entry-in-Out.ensures.whole c.in_ok-put_entry-in-Out.ensures.cause)

pub carry_out-reply-requires-clause-steps : goal.carry_out-reply-requires-clause-steps
carry_out-reply-requires-clause-steps g c = omega (arith, asked_few (job_of (units_in c.args.program.now) c.args.inputs c.args.field.now c.args.budget c.args.run) (g.O.Sink.state c.args.output.now) (g.O.Sink.state c.loop-text.output) (performers_in c.loop-text.performing) c.loop-text.machine c.loop-text.invariant, c.requires.allowed)

pub carry_out-reply-requires-clause-moves : goal.carry_out-reply-requires-clause-moves
carry_out-reply-requires-clause-moves g c = omega (arith, asked_few (job_of (units_in c.args.program.now) c.args.inputs c.args.field.now c.args.budget c.args.run) (g.O.Sink.state c.args.output.now) (g.O.Sink.state c.loop-text.output) (performers_in c.loop-text.performing) c.loop-text.machine c.loop-text.invariant, c.requires.allowed)

pub give-requires : goal.give-requires
give-requires g c = record { owed = reply_owed (performers_in c.loop-text.performing) c.loop-text.machine c.advance.new.self c.advance.new.self.steps c.advance.result c.in-Command.command c.carry_out-reply.result.0 c.in-Command.is c.advance.ensures.advanced c.carry_out-reply.ensures.reply }

pub put_entry-requires-in-Command : goal.put_entry-requires-in-Command
put_entry-requires-in-Command g c = subst IsPrintable (sym c.carry_out-reply.ensures.report) (report_prints c.args.run (performers_in c.loop-text.performing) c.in-Command.command)

pub loop-text-preserved-in_ok-put_entry-in-Command : goal.loop-text-preserved-in_ok-put_entry-in-Command
loop-text-preserved-in_ok-put_entry-in-Command g c =
    put_command (job_of (units_in c.args.program.now) c.args.inputs c.args.field.now c.args.budget c.args.run) (g.O.Sink.state c.args.output.now) (g.O.Sink.state c.loop-text.output) (g.O.Sink.state c.put_entry-in-Command.new.output) (performers_in c.loop-text.performing) (performers_in c.carry_out-reply.new.self) c.loop-text.machine c.advance.new.self c.give.new.self c.advance.new.self.steps c.advance.result c.in-Command.command c.carry_out-reply.result.0 c.carry_out-reply.result.1 c.in-Command.is c.advance.ensures.advanced c.give.ensures.replied c.give.ensures.lawful c.carry_out-reply.ensures.performers c.carry_out-reply.ensures.reply c.carry_out-reply.ensures.report c.loop-text.invariant c.in_ok-put_entry-in-Command.ensures.whole c.in_ok-put_entry-in-Command.ensures.cause

pub loop-text-smaller-in_ok-put_entry-in-Command : goal.loop-text-smaller-in_ok-put_entry-in-Command
loop-text-smaller-in_ok-put_entry-in-Command g c =
    command_less (job_of (units_in c.args.program.now) c.args.inputs c.args.field.now c.args.budget c.args.run) (g.O.Sink.state c.args.output.now) (g.O.Sink.state c.put_entry-in-Command.new.output) (performers_in c.carry_out-reply.new.self) c.loop-text.machine c.advance.new.self c.give.new.self c.advance.new.self.steps c.advance.result c.in-Command.command c.carry_out-reply.result.0 c.in-Command.is c.advance.ensures.advanced c.give.ensures.replied c.advance.ensures.rise
    (put_command (job_of (units_in c.args.program.now) c.args.inputs c.args.field.now c.args.budget c.args.run) (g.O.Sink.state c.args.output.now) (g.O.Sink.state c.loop-text.output) (g.O.Sink.state c.put_entry-in-Command.new.output) (performers_in c.loop-text.performing) (performers_in c.carry_out-reply.new.self) c.loop-text.machine c.advance.new.self c.give.new.self c.advance.new.self.steps c.advance.result c.in-Command.command c.carry_out-reply.result.0 c.carry_out-reply.result.1 c.in-Command.is c.advance.ensures.advanced c.give.ensures.replied c.give.ensures.lawful c.carry_out-reply.ensures.performers c.carry_out-reply.ensures.reply c.carry_out-reply.ensures.report c.loop-text.invariant c.in_ok-put_entry-in-Command.ensures.whole c.in_ok-put_entry-in-Command.ensures.cause)

pub loop-text-preserved : goal.loop-text-preserved
loop-text-preserved g c =
    paused (job_of (units_in c.args.program.now) c.args.inputs c.args.field.now c.args.budget c.args.run) (g.O.Sink.state c.args.output.now) (g.O.Sink.state c.loop-text.output) (performers_in c.loop-text.performing) c.loop-text.machine c.advance.new.self c.advance.new.self.steps c.advance.result c.in-Paused.is c.advance.ensures.advanced c.advance.ensures.lawful c.loop-text.invariant

pub loop-text-smaller : goal.loop-text-smaller
loop-text-smaller g c =
    paused_less (job_of (units_in c.args.program.now) c.args.inputs c.args.field.now c.args.budget c.args.run) (g.O.Sink.state c.args.output.now) (g.O.Sink.state c.loop-text.output) (performers_in c.loop-text.performing) c.loop-text.machine c.advance.new.self c.advance.new.self.steps 1000000 c.advance.result c.in-Paused.is c.advance.ensures.advanced (c.advance.ensures.paused c.in-Paused.is).0 (omega arith)
    (paused (job_of (units_in c.args.program.now) c.args.inputs c.args.field.now c.args.budget c.args.run) (g.O.Sink.state c.args.output.now) (g.O.Sink.state c.loop-text.output) (performers_in c.loop-text.performing) c.loop-text.machine c.advance.new.self c.advance.new.self.steps c.advance.result c.in-Paused.is c.advance.ensures.advanced c.advance.ensures.lawful c.loop-text.invariant)

pub returns-in-Ended-clause-whole : goal.returns-in-Ended-clause-whole
returns-in-Ended-clause-whole g c =
    on_ok_weaker c.put_entry-in-Ended.result
    (λ p. put_end (job_of (units_in c.args.program.now) c.args.inputs c.args.field.now c.args.budget c.args.run) (g.O.Sink.state c.args.output.now) (g.O.Sink.state c.loop-text.output) (g.O.Sink.state c.put_entry-in-Ended.new.output) (performers_in c.loop-text.performing) c.loop-text.machine c.advance.new.self c.advance.new.self.steps c.advance.result c.in-Ended.end c.in-Ended.is c.advance.ensures.advanced c.advance.ensures.lawful c.loop-text.invariant p) c.put_entry-in-Ended.ensures.whole
