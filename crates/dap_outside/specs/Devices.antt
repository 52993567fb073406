-- What the devices in memory have left and hold, and where they fail.
use Rattle.std.specs.Prelude.{ℕ, List, drop, Bool}
use Rattle.dap_outside.specs.Plan.{fails_next}
use Rattle.dap_outside.specs.declared.source.MemSource.{MemSource}
use Rattle.dap_outside.specs.declared.sink.MemSink.{MemSink}

-- the bytes that reads give from here on
abbrev pub bytes_left : MemSource → List ℕ
bytes_left s = drop s.place s.bytes.items

-- how many reads were made
abbrev pub reads_made : MemSource → ℕ
reads_made s = s.plan.calls

-- the next read is one of those that fail
abbrev pub read_fails : MemSource → Bool
read_fails s = fails_next s.plan

-- the bytes that were taken
abbrev pub bytes_held : MemSink → List ℕ
bytes_held s = s.bytes.items

-- how many writes were made
abbrev pub writes_made : MemSink → ℕ
writes_made s = s.plan.calls

-- the next write is one of those that fail
abbrev pub write_fails : MemSink → Bool
write_fails s = fails_next s.plan
