-- The batches of all tasks.
use Rattle.std.specs.Prelude.{◌≢◌, ℕ, List, Bool, Option, None, unwrap_or, refl}
use Rattle.std.specs.Ordering.{nat_cmp, ordering_then}
use Rattle.std.specs.declared.cmp.Ordering.{Ordering}
use Rattle.std.specs.Cmp.Lexicographic.{slice_cmp}
use Rattle.std.specs.Coded.{Coded, code_by, coded×, coded_list, coded_option, coded_bool, coded_ℕ}
use Rattle.std.specs.FinMap as map
use Rattle.batch_shards.specs.declared.bucket.Bucket.{Bucket}
use Rattle.batch_shards.specs.Bucket.{nothing}

-- a task's name and the start of a batch
abbrev pub Batch : Type 0
Batch = List ℕ × ℕ

-- by name, and by start within a name
abbrev pub batch_order : Batch → Batch → Ordering
batch_order a b = ordering_then (slice_cmp nat_cmp a.0 b.0) (nat_cmp a.1 b.1)

-- what is kept of all batches
abbrev pub Kept : Type 0
Kept = map.FinMap batch_order Bucket

-- the batch has an entry
abbrev pub IsHeld : Kept → List ℕ → ℕ → Type 0
IsHeld kept name start = map.get kept (name, start) ≢ None

-- what is kept of a batch
abbrev pub bucket_of : Kept → List ℕ → ℕ → Bucket
bucket_of kept name start = unwrap_or (map.get kept (name, start)) nothing

-- all batches after one of them is changed
abbrev pub changed : Kept → List ℕ → ℕ → Bucket → Kept
changed kept name start bucket = map.insert kept (name, start) bucket

-- what is kept of a batch is stored as the tuple of its fields
abbrev pub bucket_code : Coded Bucket
bucket_code =
    code_by (ℕ × (ℕ × (List ℕ × (Option (List ℕ) × Bool)))) (coded× coded_ℕ (coded× coded_ℕ (coded× (coded_list coded_ℕ) (coded× (coded_option (coded_list coded_ℕ)) coded_bool))))
    (λ b. (b.reports, (b.rejected, (b.checksum, (b.sum, b.closed)))))
    (λ p. record { reports = p.0; rejected = p.1.0; checksum = p.1.1.0; sum = p.1.1.1.0; closed = p.1.1.1.1 }) (λ _. refl)

-- how all batches are stored
abbrev pub kept_code : Coded Kept
kept_code = map.code (coded× (coded_list coded_ℕ) coded_ℕ) bucket_code
