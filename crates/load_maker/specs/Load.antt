-- The script of a load.
use Rattle.std.specs.Prelude.{ℕ, ◌+◌, ◌*◌, ◌%◌, List, [], ◌∷◌, ◌++◌, map, replicate, codes, None}
use Rattle.std.specs.Int.{to_be_bytes, w32, w64}
use Rattle.std.specs.List.{flat_map, range_with_len}
use Rattle.dap_bytes.specs.Spans.{one_bucket}
use Rattle.vdaf_api.specs.declared.kind.Kind.TheVariants.{Sum}
use Rattle.dap_script.specs.Spelling.{ended}
use Rattle.dap_script.specs.declared.line.Line.{Line}
use Rattle.dap_script.specs.declared.line.Line.TheVariants.{Task, Measure, Collect}

-- the name of its task
abbrev pub load_name : List ℕ
load_name = codes "load"

-- the task: a sum of numbers of 16 bits, whose buckets span 3,600 units of time, and which never expires
abbrev pub load_task : Line
load_task = Task load_name (Sum 16) 1 3600 None

-- the identifier of measurement i: i modulo 256 in a byte, then i in 15 bytes
abbrev pub identifier_of : ℕ → List ℕ
identifier_of i = i % 256 ∷ replicate 11 0 ++ to_be_bytes w32 i

-- its time, in one of two batches
abbrev pub time_of : ℕ → ℕ
time_of i = i % 7200

-- the number that it measures
abbrev pub value_of : ℕ → ℕ → ℕ
value_of seed i = (i * i + seed) % 65536

-- what its client draws from: the load's seed in 8 bytes, then i in 8
abbrev pub seed_of : ℕ → ℕ → List ℕ
seed_of seed i = to_be_bytes w64 seed ++ to_be_bytes w64 i

-- measurement i, from 0
abbrev pub measurement : ℕ → ℕ → Line
measurement seed i = Measure load_name (identifier_of i) (time_of i) (value_of seed i ∷ []) (seed_of seed i)

-- the collections of its two batches, of one bucket each
abbrev pub collections : List Line
collections = Collect load_name (one_bucket 0) ∷ Collect load_name (one_bucket 3600) ∷ []

-- the lines: the task, n measurements, and the collections
abbrev pub load_lines : ℕ → ℕ → List Line
load_lines n seed = load_task ∷ map (measurement seed) (range_with_len 0 n) ++ collections

-- the script: the lines, each with its end
abbrev pub load_text : ℕ → ℕ → List ℕ
load_text n seed = flat_map ended (load_lines n seed)
