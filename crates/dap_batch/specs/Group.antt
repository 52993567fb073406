-- Batches and lanes.
use Rattle.std.specs.Prelude.{ℕ, ◌*◌, ◌/◌, ◌%◌, List, slice_index}

-- the start of the time bucket in which a time lies
abbrev pub batch_start : ℕ → ℕ → ℕ
batch_start time precision = time / precision * precision

-- the lane of an identifier among so many lanes
abbrev pub lane_number : List ℕ → ℕ → ℕ
lane_number id lanes = slice_index id 0 % lanes
