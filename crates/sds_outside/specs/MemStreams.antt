-- What sources and sinks in memory tell, and which of their calls fail.
use Rattle.std.specs.Prelude.{ℕ, ◌-◌, Bool, ◌&&◌, ◌||◌, ◌==◌, not, List, Option, Some, drop, length}
use Rattle.sds_outside.specs.Causes.{next_number, is_listed}
use Rattle.sds_outside.specs.declared.mem_streams.MemSource.{MemSource}
use Rattle.sds_outside.specs.declared.mem_streams.MemSink.{MemSink}

-- the bytes that are left
abbrev pub source_left : MemSource → Option (List ℕ)
source_left s = Some (drop s.at s.bytes)

-- how often the source failed
abbrev pub source_faults : MemSource → ℕ
source_faults s = s.faults

-- the numbers of the source's calls that fail
abbrev pub source_fails : MemSource → List ℕ
source_fails s = s.calls.fails

-- how many calls of the source were made
abbrev pub source_calls : MemSource → ℕ
source_calls s = s.calls.made

-- the bytes taken
abbrev pub sink_taken : MemSink → Option (List ℕ)
sink_taken s = Some (s.bytes.items)

-- how many bytes the sink can take in all
abbrev pub sink_room : MemSink → ℕ
sink_room s = s.room

-- how many more bytes the sink can take
abbrev pub sink_space : MemSink → ℕ
sink_space s = s.room - length s.bytes.items

-- how often the sink failed
abbrev pub sink_faults : MemSink → ℕ
sink_faults s = s.faults

-- the numbers of the sink's calls that fail
abbrev pub sink_fails : MemSink → List ℕ
sink_fails s = s.calls.fails

-- how many calls of the sink were made
abbrev pub sink_calls : MemSink → ℕ
sink_calls s = s.calls.made

-- whether the next read fails: it is listed
abbrev pub read_fails : MemSource → Bool
read_fails s = is_listed (source_fails s) (next_number (source_calls s))

-- whether the next write of these bytes fails: it is listed, or there are bytes and no space
abbrev pub write_fails : MemSink → List ℕ → Bool
write_fails s bytes = is_listed (sink_fails s) (next_number (sink_calls s)) || (sink_space s == 0 && not (length bytes == 0))
