use Rattle.expr_forms.specs.Tokens.{tokens_of}
use Rattle.expr_forms.proofs.Answered.{shallow, form_is, understood, not_understood}
use Rattle.expr_forms.proofs.piece.read_piece.Goals as goal

pub returns-clause-form : goal.returns-clause-form
returns-clause-form c = form_is (tokens_of c.args.tokens.now) c.whole_form.result (record { form = c.whole_form.ensures.form; none = c.whole_form.ensures.none; not_deep = c.whole_form.ensures.not_deep })

pub returns-clause-understood : goal.returns-clause-understood
returns-clause-understood c =
    let ts = tokens_of c.args.tokens.now in
    understood ts (shallow ts c.is_deep.result c.is_deep.ensures c.if-is_deep.false) c.whole_form.result (record { form = c.whole_form.ensures.form; none = c.whole_form.ensures.none; not_deep = c.whole_form.ensures.not_deep })

pub returns-clause-not_understood : goal.returns-clause-not_understood
returns-clause-not_understood c =
    let ts = tokens_of c.args.tokens.now in
    not_understood ts (shallow ts c.is_deep.result c.is_deep.ensures c.if-is_deep.false) c.whole_form.result (record { form = c.whole_form.ensures.form; none = c.whole_form.ensures.none; not_deep = c.whole_form.ensures.not_deep })
