-- What is kept of one batch, and how it changes.
use Rattle.std.specs.Prelude.{◌≡◌, ℕ, ◌+◌, ◌-◌, ◌^◌, min, List, Bool, true, false, Option, Some, None, Result, Ok, Err}
use Rattle.sha2.specs.Sha256.{sha256}
use Rattle.dap_batch.specs.Checksum.{no_checksum, xor_bytes}
use Rattle.vdaf_api.specs.declared.space.Space.{Space}
use Rattle.vdaf_api.specs.Vectors.{IsOut, plus, zero_share}
use Rattle.batch_shards.specs.declared.bucket.Bucket.{Bucket}
use Rattle.batch_shards.specs.declared.bucket.BucketFault.{BucketFault}
use Rattle.batch_shards.specs.declared.bucket.BucketFault.TheVariants.{Closed, NoMemory}
use Rattle.batch_shards.specs.declared.count.Count.{Count}

-- the greatest number that is counted; a count stands still there
abbrev pub most : ℕ
most = 2 ^ 64 - 1

-- a count that rises by one
abbrev pub one_more : ℕ → ℕ
one_more n = min (n + 1) most

-- what is kept of a batch to which nothing was added
abbrev pub nothing : Bucket
nothing = record { reports = 0; rejected = 0; checksum = no_checksum; sum = None; closed = false }

-- a sum with one out share more
abbrev pub sum_with : Space → Option (List ℕ) → List ℕ → Option (List ℕ)
sum_with space None out = Some out
sum_with space (Some sum) out = Some (plus space sum out)

-- the sum as an out share, noughts where there is none yet
abbrev pub sum_or_zero : Space → Option (List ℕ) → List ℕ
sum_or_zero space None = zero_share space
sum_or_zero space (Some sum) = sum

-- there is a sum, and it is an out share
abbrev pub HasSum : Space → Option (List ℕ) → Type 0
HasSum space None = ⊥
HasSum space (Some sum) = IsOut space sum

-- the sum, where there is one, is an out share
abbrev pub IsSum : Space → Option (List ℕ) → Type 0
IsSum space None = Unit {0}
IsSum space (Some sum) = IsOut space sum

-- with one report more
abbrev pub with_report : Space → List ℕ → List ℕ → Bucket → Bucket
with_report space id out b = record {
  reports = one_more b.reports;
  rejected = b.rejected;
  checksum = xor_bytes b.checksum (sha256 id);
  sum = sum_with space b.sum out;
  closed = b.closed;
}

-- with room for a sum: the sum is noughts where there is none yet
abbrev pub with_room : Space → Bucket → Bucket
with_room space b = record { reports = b.reports; rejected = b.rejected; checksum = b.checksum; sum = Some (sum_or_zero space b.sum); closed = b.closed }

-- with one rejected report more
abbrev pub with_rejected : Bucket → Bucket
with_rejected b = record { reports = b.reports; rejected = one_more b.rejected; checksum = b.checksum; sum = b.sum; closed = b.closed }

-- closed, with all that it has
abbrev pub closed_for_good : Bucket → Bucket
closed_for_good b = record { reports = b.reports; rejected = b.rejected; checksum = b.checksum; sum = b.sum; closed = true }

-- the numbers that are told of it
abbrev pub count_of : Bucket → Count
count_of b = record { reports = b.reports; rejected = b.rejected; checksum = b.checksum; closed = b.closed }

-- all that is told of it: its numbers, and the sum as an out share
abbrev pub told_of : Space → Bucket → Count × List ℕ
told_of space b = (count_of b, sum_or_zero space b.sum)

-- a call went through an open batch, or was refused by a closed one; memory may run out for an open one alone
abbrev pub Opens : Result (Unit {0}) BucketFault → Bool → Type 0
Opens (Ok done) closed = closed ≡ false
Opens (Err Closed) closed = closed ≡ true
Opens (Err NoMemory) closed = closed ≡ false
