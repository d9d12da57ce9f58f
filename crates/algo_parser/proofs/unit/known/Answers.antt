use Rattle.std.proofs.Common.{map, refl}
use Rattle.algo_parser.specs.Hearing.{said_of}
use Rattle.kumir_tree.specs.Parts.{some_head}
use Rattle.kumir_tree.specs.Sound.{no_performers}
use Rattle.kumir_tree.specs.Unit.{Known}
use Rattle.kumir_tree.specs.Units.{ending_of}
use Rattle.algo_parser.proofs.Makes.{forms_left, ends_so, makes_prelude, makes_unit}
use Rattle.algo_parser.proofs.unit.known.Goals as goal

pub outcome-requires : goal.outcome-requires
outcome-requires c = forms_left c.args.gathered (map said_of c.args.gathered.said) c.args.prelude c.requires.gathered c.requires.some

pub returns-then-prelude : goal.returns-then-prelude
returns-then-prelude c =
    let e = c.in_ok-outcome.ensures in
    makes_prelude c.args.prelude c.args.gathered (map said_of c.args.gathered.said) _ c.if-prelude.true c.requires.gathered (ends_so c.args.prelude c.args.gathered (map said_of c.args.gathered.said) _ c.requires.gathered e.lexical e.pieces e.structure) refl refl refl

pub returns : goal.returns
returns c =
    let e = c.in_ok-outcome.ensures in
    let read : Known = record { head = some_head c.args.gathered.header; performers = no_performers; unknown = c.new.result; ending = ending_of c.in_ok-outcome.outcome } in
    makes_unit c.args.prelude c.args.gathered (map said_of c.args.gathered.said) read c.if-prelude.false c.requires.gathered (ends_so c.args.prelude c.args.gathered (map said_of c.args.gathered.said) _ c.requires.gathered e.lexical e.pieces e.structure) refl refl c.new.ensures
