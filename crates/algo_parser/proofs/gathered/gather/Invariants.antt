use Rattle.std.proofs.Common.{◌≡◌, take, map, length}
use Rattle.algo_parser.specs.Units.{SayAll}
use Rattle.algo_parser.specs.Hearing.{said_of, IsGathered}
use Rattle.algo_parser.proofs.gathered.gather.Given as goal

abbrev pub invariant-loop-at : goal.invariant-loop-at
invariant-loop-at l = record {
  number : l.at ≡ length l.gathered.said;
  said : SayAll (take l.at l.lines) (map said_of l.gathered.said);
  all : IsGathered l.gathered (map said_of l.gathered.said);
}
