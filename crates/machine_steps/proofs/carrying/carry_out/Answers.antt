use Rattle.std.proofs.Common.{List, IfOk, sym, subst}
use Rattle.kumir_meaning.specs.Runs.{usual}
use Rattle.stack_code.specs.Instructions.{event_of}
use Rattle.stack_code.specs.declared.unit.CodeUnit.{CodeUnit}
use Rattle.machine_steps.specs.States.{state_of}
use Rattle.machine_steps.specs.Acting.{Carries}
use Rattle.machine_steps.proofs.carrying.carry_out.Goals as goal

pub returns-in-Out-clause-acts : goal.returns-in-Out-clause-acts
returns-in-Out-clause-acts c =
    subst (λ w. IfOk c.print_top.result (λ acted. (units : List CodeUnit) → Carries (λ frames. event_of usual units w c.args.line (state_of c.args.running.now frames)) acted c.print_top.new.running))
    (sym c.in-Out.is) c.print_top.ensures.acts

pub returns-in-OutText-clause-acts : goal.returns-in-OutText-clause-acts
returns-in-OutText-clause-acts c =
    subst (λ w. IfOk c.print_text.result (λ acted. (units : List CodeUnit) → Carries (λ frames. event_of usual units w c.args.line (state_of c.args.running.now frames)) acted c.print_text.new.running))
    (sym c.in-OutText.is) c.print_text.ensures.acts

pub returns-in-OutLine-clause-acts : goal.returns-in-OutLine-clause-acts
returns-in-OutLine-clause-acts c =
    subst (λ w. IfOk c.print_line_feed.result (λ acted. (units : List CodeUnit) → Carries (λ frames. event_of usual units w c.args.line (state_of c.args.running.now frames)) acted c.print_line_feed.new.running))
    (sym c.in-OutLine.is) c.print_line_feed.ensures.acts

pub returns-in-Ask-clause-acts : goal.returns-in-Ask-clause-acts
returns-in-Ask-clause-acts c =
    subst (λ w. IfOk c.ask.result (λ acted. (units : List CodeUnit) → Carries (λ frames. event_of usual units w c.args.line (state_of c.args.running.now frames)) acted c.ask.new.running))
    (sym c.in-Ask.is) c.ask.ensures.acts
