use Rattle.std.proofs.Common.{map}
use Rattle.algo_parser.specs.Hearing.{said_of}
use Rattle.algo_parser.proofs.FirstForms.{some_form}
use Rattle.algo_parser.proofs.SoundReads.{reads_sound}
use Rattle.algo_parser.proofs.unit.read_unit.Goals as goal

pub known-requires-clause-some : goal.known-requires-clause-some
known-requires-clause-some g c = λ p. some_form c.one_cutting.ensures.only c.args.lines.now (map said_of c.in_ok-gathered.gathered.said) (c.requires.begins p) c.in_ok-gathered.ensures.said

pub returns-clause-read : goal.returns-clause-read
returns-clause-read g c = record {
  said = map said_of c.in_ok-gathered.gathered.said;
  lines_say = c.in_ok-gathered.ensures.said;
  makes = c.in_ok-known.ensures;
}

pub returns-clause-sound : goal.returns-clause-sound
returns-clause-sound g c = reads_sound c.one_cutting.ensures.only c.args.lines.now c.args.prelude _ c.requires.begins (record {
  said = map said_of c.in_ok-gathered.gathered.said;
  lines_say = c.in_ok-gathered.ensures.said;
  makes = c.in_ok-known.ensures;
})
