use Rattle.std.proofs.Common.{◌∙◌, None, Some, sym, ap}
use Rattle.machine_steps.specs.Replying.{with_reply_value}
use Rattle.machine_steps.specs.Stages.{full_state_of}
use Rattle.machine_steps.proofs.RepliesAnswered.{test_answered, command_done, wall_met, answered_stage}
use Rattle.machine_steps.proofs.replies.take_reply.Goals as goal

pub returns-then-is_test-clause-answers : goal.returns-then-is_test-clause-answers
returns-then-is_test-clause-answers c =
    let s = c.args.stage.now in
    test_answered c.args.units.now s (record s { running = c.go_behind.new.running }) c.args.question c.args.reply c.requires.asks (sym c.is_test.ensures ∙ c.if-is_test.true)
    (ap (λ r. record s { running = r }) (c.in_ok-go_behind.ensures ∙ ap (λ v. with_reply_value s.running (Some v)) c.value_of.ensures))

pub returns-then-is_test-clause-stage : goal.returns-then-is_test-clause-stage
returns-then-is_test-clause-stage c =
    let s = c.args.stage.now in
    answered_stage c.args.units.now s (record s { running = c.go_behind.new.running }) c.args.question (Some c.value_of.result) c.requires.valid c.requires.stage c.requires.asks (ap (λ r. record s { running = r }) c.in_ok-go_behind.ensures)

pub returns-then-met_wall-clause-answers : goal.returns-then-met_wall-clause-answers
returns-then-met_wall-clause-answers c =
    wall_met c.args.units.now c.args.stage.now c.args.question c.args.reply (full_state_of c.args.units.now c.args.stage.now) c.requires.asks
    (sym c.is_test.ensures ∙ c.if-is_test.false) (sym c.met_wall.ensures ∙ c.if-met_wall.true)

pub returns-clause-answers : goal.returns-clause-answers
returns-clause-answers c =
    let s = c.args.stage.now in
    command_done c.args.units.now s (record s { running = c.go_behind-2.new.running }) c.args.question c.args.reply c.requires.asks (sym c.is_test.ensures ∙ c.if-is_test.false) (sym c.met_wall.ensures ∙ c.if-met_wall.false)
    (ap (λ r. record s { running = r }) c.in_ok-go_behind-2.ensures)

pub returns-clause-stage : goal.returns-clause-stage
returns-clause-stage c =
    let s = c.args.stage.now in
    answered_stage c.args.units.now s (record s { running = c.go_behind-2.new.running }) c.args.question None c.requires.valid c.requires.stage c.requires.asks (ap (λ r. record s { running = r }) c.in_ok-go_behind-2.ensures)
