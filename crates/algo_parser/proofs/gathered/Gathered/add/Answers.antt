use Rattle.std.proofs.Common.{◌++◌, ◌∙◌, ap, map}
use Rattle.std.specs.List.{flat_map}
use Rattle.algo_parser.specs.Units.{piece_fault}
use Rattle.algo_parser.specs.Hearing.{heard_of}
use Rattle.algo_parser.proofs.Gathers.{gathered_more}
use Rattle.algo_parser.proofs.gathered.Gathered.add.Goals as goal

pub returns-clause-gathered : goal.returns-clause-gathered
returns-clause-gathered c = gathered_more c.args.line c.args.self.now _ c.args.said c.requires.number c.requires.gathered c.note.ensures c.in_ok-add_lexical.ensures
    (c.in_ok-add_piece_faults.ensures ∙ ap (λ l. c.args.self.now.pieces ++ flat_map (piece_fault c.args.line) (map heard_of l)) c.as_slice.ensures.value)
    c.in_ok-add_forms.ensures c.in_ok-add_header.ensures.first c.in_ok-add_header.ensures.later c.in_ok-add_uses.ensures.performers c.in_ok-add_uses.ensures.unknown
