-- What the adapters stand over, and how often they failed.
use Rattle.std.specs.Prelude.{ℕ}
use Rattle.sds_outside.specs.declared.std_streams.StdSource.{StdSource}
use Rattle.sds_outside.specs.declared.std_streams.StdSink.{StdSink}

-- the reader of a source
abbrev pub reader_of : {R : Type 0} → StdSource R → R
reader_of s = s.inner

-- how often the source failed
abbrev pub reader_faults : {R : Type 0} → StdSource R → ℕ
reader_faults s = s.faults

-- the writer of a sink
abbrev pub writer_of : {W : Type 0} → StdSink W → W
writer_of s = s.inner

-- how often the sink failed
abbrev pub writer_faults : {W : Type 0} → StdSink W → ℕ
writer_faults s = s.faults
