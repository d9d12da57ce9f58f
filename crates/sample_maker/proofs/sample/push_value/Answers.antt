use Rattle.sample_maker.proofs.sample.push_value.Goals as goal

pub returns : goal.returns
unfolding lib.Utf8.encode
returns c = c.writeln.ensures.bytes
