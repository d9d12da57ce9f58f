use Rattle.std.proofs.Common.{◌≤◌, ◌++◌, min, length, arith, sym, ap, ◌∙◌}
use Rattle.std.proofs.lemmas.List.{append-nil}
use Rattle.kumir_compiler.specs.SitesSeen.{site_of}
use Rattle.kumir_compiler.proofs.ArgumentsInFront.{no_places_past}
use Rattle.kumir_compiler.proofs.calls.places_of.Goals as goal

pub returns : goal.returns
returns c =
    let le : min (length c.args.params.now) (length c.args.all.now) ≤ c.loop-at.at = omega (arith, c.loop-at-test.false, c.min-at-end.ensures) in
    sym (append-nil c.loop-at.places) ∙ ap (λ l. c.loop-at.places ++ l) (sym (no_places_past c.args.params.now c.args.all.now c.loop-at.at (site_of c.args.site.now) c.loop-at.kept le)) ∙ c.loop-at.invariant
