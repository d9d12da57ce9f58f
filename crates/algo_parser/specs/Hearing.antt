-- What lines say, as plain data.
use Rattle.std.specs.Prelude.{◌≡◌, ◌||◌, List, map}
use Rattle.km_base.specs.declared.performers.Performers.{Performers}
use Rattle.kumir_tree.specs.Pieces.{piece_of}
use Rattle.kumir_tree.specs.Parts.{some_head}
use Rattle.unit_grammar.specs.Reading.{placed_of}
use Rattle.algo_parser.specs.Units as plain
use Rattle.algo_parser.specs.declared.gathered.Gathered.{Gathered}
use Rattle.algo_parser.specs.declared.heard.Heard.{Heard}
use Rattle.algo_parser.specs.declared.heard.Heard.TheVariants as h
use Rattle.algo_parser.specs.declared.heard.Said.{Said}

abbrev pub heard_of : Heard → plain.Heard
heard_of (h.Understood f) = plain.Understood (piece_of f)
heard_of h.NotUnderstood = plain.NotUnderstood
heard_of h.TooDeep = plain.TooDeep

abbrev pub said_of : Said → plain.Said
said_of s = record { fault = s.fault; pieces = map heard_of s.pieces.items }

-- ---- what was gathered from lines

-- all that is gathered is that of these lines
pub record IsGathered (g : Gathered) (said : List plain.Said) : Type 0 where
  pub lexical : g.lexical ≡ plain.lexical_faults 0 said
  pub pieces : g.pieces ≡ plain.piece_faults 0 said
  pub forms : map placed_of g.forms.items ≡ plain.forms_of 0 said
  pub header : some_head g.header ≡ plain.header_of said
  pub performers : g.performers ≡ plain.performers_of (plain.uses_of 0 said)
  pub unknown : g.unknown ≡ plain.unknown_of (plain.uses_of 0 said)

-- the performers of both
abbrev pub joined : Performers → Performers → Performers
joined p q = record { robot = p.robot || q.robot; pen = p.pen || q.pen }
