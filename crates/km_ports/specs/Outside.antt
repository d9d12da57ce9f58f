-- What stands behind the ports of the outside.
use Rattle.std.specs.Prelude.{None}
use Rattle.km_ports.specs.Ports.{SourceState, SinkState}
use Rattle.km_ports.specs.declared.outside.StdSource.{StdSource}
use Rattle.km_ports.specs.declared.outside.StdSink.{StdSink}

-- the reader of a source
abbrev pub reader_of : {R : Type 0} → StdSource R → R
reader_of source = source.inner

-- what a source tells: not what is left
abbrev pub source_state : {R : Type 0} → StdSource R → SourceState
source_state source = record { left = None; faults = source.faults }

-- the writer of a sink
abbrev pub writer_of : {W : Type 0} → StdSink W → W
writer_of sink = sink.inner

-- what a sink tells: not what was written
abbrev pub sink_state : {W : Type 0} → StdSink W → SinkState
sink_state sink = record { written = None; faults = sink.faults }
