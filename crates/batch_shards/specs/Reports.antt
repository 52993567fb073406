-- A batch as the list of its reports.
use Rattle.std.specs.Prelude.{ℕ, min, List, [], ◌∷◌, map, length, Bool, Option, Some, None}
use Rattle.dap_batch.specs.Checksum.{checksum_of}
use Rattle.vdaf_api.specs.declared.space.Space.{Space}
use Rattle.vdaf_api.specs.Vectors.{IsOut}
use Rattle.vdaf_api.specs.Totals.{total}
use Rattle.batch_shards.specs.declared.bucket.Bucket.{Bucket}
use Rattle.batch_shards.specs.Bucket.{most}

-- an accepted report of a batch
pub record Report : Type 0 where
  pub id : List ℕ
  pub out : List ℕ

-- the identifiers of reports
abbrev pub ids : List Report → List (List ℕ)
ids reports = map (λ r. r.id) reports

-- the out shares of reports
abbrev pub outs : List Report → List (List ℕ)
outs reports = map (λ r. r.out) reports

-- each out share is one
abbrev pub AreOuts : Space → List Report → Type 0
AreOuts space [] = Unit {0}
AreOuts space (r ∷ rs) = IsOut space r.out × AreOuts space rs

-- the sum of out shares, none of no shares
abbrev pub sum_of : Space → List (List ℕ) → Option (List ℕ)
sum_of space [] = None
sum_of space (out ∷ outs) = Some (total space (out ∷ outs))

-- what is kept of a batch that has these reports and so many rejected ones, and that is closed or open
abbrev pub tally : Space → List Report → ℕ → Bool → Bucket
tally space reports rejected closed = record {
  reports = min (length reports) most;
  rejected = min rejected most;
  checksum = checksum_of (ids reports);
  sum = sum_of space (outs reports);
  closed = closed;
}
