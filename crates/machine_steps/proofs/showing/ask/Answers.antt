use Rattle.std.proofs.Common.{List, IfOk, sym, subst}
use Rattle.kumir_meaning.specs.Runs.{usual}
use Rattle.stack_code.specs.Instructions.{event_of}
use Rattle.stack_code.specs.declared.unit.CodeUnit.{CodeUnit}
use Rattle.stack_code.specs.declared.instruction.Instruction.TheVariants as code
use Rattle.machine_steps.specs.States.{state_of}
use Rattle.machine_steps.specs.Acting.{Carries}
use Rattle.machine_steps.proofs.showing.ask.Goals as goal

pub returns-clause-acts : goal.returns-clause-acts
returns-clause-acts c =
    subst (λ w. IfOk c.tell.result (λ acted. (units : List CodeUnit) → Carries (λ frames. event_of usual units (code.Ask w) c.args.line (state_of c.args.running.now frames)) acted c.tell.new.running))
    (sym c.in-Pen.is) c.tell.ensures.acts
