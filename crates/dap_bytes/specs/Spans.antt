-- Batches as spans of buckets.
use Rattle.std.specs.Prelude.{ℕ, ◌+◌, ◌-◌, ◌*◌, ◌%◌, ◌≤◌, Bool, IsTrue, ◌&&◌, ◌||◌, nat_eq, nat_le, List, map}
use Rattle.std.specs.List.{list_any, range_with_len}
use Rattle.dap_bytes.specs.declared.limits.TheConstants.{LATEST_TIME, MOST_BUCKETS}
use Rattle.dap_bytes.specs.declared.span.Span.{Span}

-- the start of a span's i-th bucket, counted from 0
abbrev pub bucket_at : Span → ℕ → ℕ → ℕ
bucket_at span precision i = span.start + i * precision

-- the starts of its buckets, in order
abbrev pub buckets_of : Span → ℕ → List ℕ
buckets_of span precision = map (bucket_at span precision) (range_with_len 0 span.buckets)

-- whether one of its buckets begins there
abbrev pub holds_bucket : Span → ℕ → ℕ → Bool
holds_bucket span precision start = list_any (nat_eq start) (buckets_of span precision)

-- whether one start is a bucket of the other span
abbrev pub shares_bucket : Span → Span → ℕ → Bool
shares_bucket a b precision = holds_bucket a precision b.start || holds_bucket b precision a.start

-- 1 to 64 buckets
abbrev pub HasBuckets : Span → Type 0
HasBuckets span = (1 ≤ span.buckets) × (span.buckets ≤ MOST_BUCKETS)

-- whether it starts at a multiple of the precision, and its last bucket at a time
abbrev pub passes_start : Span → ℕ → Bool
passes_start span precision = nat_eq (span.start % precision) 0 && nat_le (bucket_at span precision (span.buckets - 1)) LATEST_TIME

-- a span of one bucket
abbrev pub one_bucket : ℕ → Span
one_bucket start = record { start = start; buckets = 1 }

-- some bucket is in both
abbrev pub ShareSome : Span → Span → ℕ → Type 0
ShareSome a b precision = (start : ℕ) × IsTrue (holds_bucket a precision start) × IsTrue (holds_bucket b precision start)
