use Rattle.std.proofs.Common.{Some, ap, ⊎_elim, refl}
use Rattle.sample_maker.proofs.Told.{all_put}
use Rattle.sample_maker.proofs.carried.transcript_of.Goals as goal

pub returns-in-Fine : goal.returns-in-Fine
returns-in-Fine c =
    let put = (c.run_plain.ensures.run.done c.in-Fine.is c.args.script.items (ap Some c.new-input.ensures)).1 in
    (put.0, put.1, put.2.shown, all_put c.new-output.result c.run_plain.new.output _ c.new-output.ensures put.2.put)

pub unreachable-requires : goal.unreachable-requires
unreachable-requires c =
    ⊎_elim c.in_default.not-Fine c.in_default.not-Memory (c.run_plain.ensures.run.complete c.args.script.items (ap Some c.new-input.ensures) c.requires (refl, refl))
