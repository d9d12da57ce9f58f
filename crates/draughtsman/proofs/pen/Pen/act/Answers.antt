use Rattle.std.proofs.Common.{◌≡◌, ◌↔◌, IsNone, sym, subst, rules}
use Rattle.draughtsman.specs.Pen.{state_of, drawn_by, DrawsNothing}
use Rattle.draughtsman.proofs.Replies.{drawn_by-none}
use Rattle.draughtsman.proofs.pen.Pen.act.Goals as goal

pub returns-clause-none : goal.returns-clause-none
returns-clause-none c =
    let drawn : c.segment_to-drawn.result ≡ drawn_by (state_of c.args.self.now) c.args.command = search rules in
    subst (λ r. IsNone r ↔ DrawsNothing (state_of c.args.self.now) c.args.command) (sym drawn) (drawn_by-none _ _)
