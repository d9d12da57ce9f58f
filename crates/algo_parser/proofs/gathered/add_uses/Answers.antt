use Rattle.std.proofs.Common.{◌++◌, ◌∙◌, ap, map, sym}
use Rattle.std.specs.List.{flat_map}
use Rattle.algo_parser.specs.Units.{use_in, uses_on, performers_of, unknown_of}
use Rattle.algo_parser.specs.Hearing.{heard_of, joined}
use Rattle.algo_parser.proofs.Gathers.{not_some}
use Rattle.algo_parser.proofs.gathered.add_uses.Goals as goal

pub returns-clause-performers : goal.returns-clause-performers
returns-clause-performers c =
    c.in_ok-add_uses_on.ensures.performers ∙ (ap (λ l. joined c.args.performers.now (performers_of (flat_map (use_in c.args.line) (map heard_of l)))) c.as_slice.ensures.value
    ∙ ap (λ f. joined c.args.performers.now (performers_of (uses_on c.args.line f (map heard_of c.args.said.now.pieces.items)))) (sym (not_some c.args.said.now.fault (sym c.is_some.ensures ∙ c.if-is_some.false))))

pub returns-clause-unknown : goal.returns-clause-unknown
returns-clause-unknown c =
    c.in_ok-add_uses_on.ensures.unknown ∙ (ap (λ l. c.args.unknown.now ++ unknown_of (flat_map (use_in c.args.line) (map heard_of l))) c.as_slice.ensures.value
    ∙ ap (λ f. c.args.unknown.now ++ unknown_of (uses_on c.args.line f (map heard_of c.args.said.now.pieces.items))) (sym (not_some c.args.said.now.fault (sym c.is_some.ensures ∙ c.if-is_some.false))))
