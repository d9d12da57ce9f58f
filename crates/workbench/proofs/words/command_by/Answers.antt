use Rattle.std.proofs.Common.{◌∙◌, Some, None}
use Rattle.std.proofs.lemmas.Result.{IfOk-weaker}
use Rattle.workbench.proofs.Subcommands.{met_is, plain_is, sample_is}
use Rattle.workbench.proofs.words.command_by.Goals as goal

pub returns-in-Some-get_str : goal.returns-in-Some-get_str
returns-in-Some-get_str c =
    let matches = c.args.matches.now in
    let arguments = c.in-Some.arguments.now in
    let met = met_is matches arguments c.in-Some.name.now c.in-Some.ensures.name c.in-Some.ensures.rows in
    let number = Some c.in-Some-get_str.number.now in
    IfOk-weaker c.plain_within.result _ _
    (λ command e. e ∙ plain_is matches arguments c.in-Some.name.now number met c.in-plain.is c.in-Some-get_str.ensures)
    c.plain_within.ensures

pub returns-in-None : goal.returns-in-None
returns-in-None c =
    let matches = c.args.matches.now in
    let arguments = c.in-Some.arguments.now in
    let met = met_is matches arguments c.in-Some.name.now c.in-Some.ensures.name c.in-Some.ensures.rows in
    plain_is matches arguments c.in-Some.name.now None met c.in-plain.is c.in-None.ensures

pub returns-in-Some-get_str-2 : goal.returns-in-Some-get_str-2
returns-in-Some-get_str-2 c =
    let matches = c.args.matches.now in
    let arguments = c.in-Some.arguments.now in
    let met = met_is matches arguments c.in-Some.name.now c.in-Some.ensures.name c.in-Some.ensures.rows in
    let number = Some c.in-Some-get_str-2.number.now in
    IfOk-weaker c.sample_of.result _ _
    (λ command e. e ∙ sample_is matches arguments c.in-Some.name.now number met c.in-sample.is c.in-Some-get_str-2.ensures)
    c.sample_of.ensures

pub returns-in-None-get_str : goal.returns-in-None-get_str
returns-in-None-get_str c =
    let matches = c.args.matches.now in
    let arguments = c.in-Some.arguments.now in
    let met = met_is matches arguments c.in-Some.name.now c.in-Some.ensures.name c.in-Some.ensures.rows in
    sample_is matches arguments c.in-Some.name.now None met c.in-sample.is c.in-None-get_str.ensures
