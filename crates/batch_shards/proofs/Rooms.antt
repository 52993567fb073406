-- Room for a sum.
use Rattle.std.proofs.Common.{◌≡◌, ℕ, List, Bool, true, false, Option, Some, None, cond, Result, Ok, Err, OnOk, OnErr, sym, ap, ◌∙◌, refl, subst}
use Rattle.std.specs.Prelude.{unwrap_or}
use Rattle.std.specs.Ordering.{is_eq}
use Rattle.std.specs.declared.cmp.Ordering.{Ordering}
use Rattle.std.specs.declared.cmp.Ordering.TheVariants.{Less, Equal, Greater}
use Rattle.std.specs.FinMap as map
use Rattle.sha2.specs.Sha256.{sha256}
use Rattle.dap_batch.specs.Checksum.{xor_bytes}
use Rattle.vdaf_api.specs.declared.space.Space.{Space}
use Rattle.vdaf_api.specs.Vectors.{SpaceLaws, IsOut}
use Rattle.vdaf_api.specs.SumLaws.{plus-zero, plus-is_out, vector-zero}
use Rattle.batch_shards.specs.declared.bucket.Bucket.{Bucket}
use Rattle.batch_shards.specs.Bucket.{one_more, nothing, sum_or_zero, sum_with, told_of, with_report, with_room, HasSum, IsSum}
use Rattle.batch_shards.specs.Batches.{Batch, Kept, batch_order, bucket_of, changed, IsHeld}
use Rattle.batch_shards.proofs.Kept.{batch_order-total, batch_order-same, bucket_of-changed}

pub told_of-room : (s : Space) (b : Bucket) → told_of s (with_room s b) ≡ told_of s b
told_of-room s b = refl

pub with_report-room : {s : Space} → SpaceLaws s → (id out : List ℕ) (b : Bucket) → IsOut s out → with_report s id out (with_room s b) ≡ with_report s id out b
with_report-room {s} laws id out b is =
    let sum : sum_with s (Some (sum_or_zero s b.sum)) out ≡ sum_with s b.sum out = go b.sum in
    λ i. record { reports = one_more b.reports; rejected = b.rejected; checksum = xor_bytes b.checksum (sha256 id); sum = sum i; closed = b.closed }
  where
    go : (sum : Option (List ℕ)) → sum_with s (Some (sum_or_zero s sum)) out ≡ sum_with s sum out
    go None = ap Some (plus-zero laws out is.0 is.1)
    go (Some sum) = refl

-- where there is a sum, there is room for it
pub room-again : (s : Space) (b : Bucket) → HasSum s b.sum → with_room s b ≡ b
room-again s b has =
    let sum : Some (sum_or_zero s b.sum) ≡ b.sum = go b.sum has in
    λ i. record { reports = b.reports; rejected = b.rejected; checksum = b.checksum; sum = sum i; closed = b.closed }
  where
    go : (sum : Option (List ℕ)) → HasSum s sum → Some (sum_or_zero s sum) ≡ sum
    go None has = absurd has
    go (Some sum) has = refl

pub room-has : {s : Space} → SpaceLaws s → (sum : Option (List ℕ)) → IsSum s sum → HasSum s (Some (sum_or_zero s sum))
room-has laws None is = (_, vector-zero laws)
room-has laws (Some sum) is = is

pub report-has : {s : Space} → SpaceLaws s → (sum : Option (List ℕ)) (out : List ℕ) → IsOut s out → HasSum s sum → HasSum s (sum_with s sum out)
report-has laws None out is has = absurd has
report-has laws (Some sum) out is has = plus-is_out laws sum out has is

pub nothing-has : (s : Space) (b : Bucket) → b ≡ nothing → HasSum s b.sum → ⊥
nothing-has s b is has = subst (λ (x : Bucket). HasSum s x.sum) is has

pub has-held : (s : Space) (kept : Kept) (name : List ℕ) (start : ℕ) → HasSum s (bucket_of kept name start).sum → IsHeld kept name start
has-held s kept name start has none = nothing-has s (bucket_of kept name start) (ap (λ o. unwrap_or o nothing) none) has

-- a change of one batch that changes nothing of what is told of it changes nothing of what is told of any
pub told-changed : (s : Space) (kept : Kept) (name : List ℕ) (start : ℕ) (b : Bucket) → told_of s b ≡ told_of s (bucket_of kept name start)
    → (other : List ℕ) (later : ℕ) → told_of s (bucket_of (changed kept name start b) other later) ≡ told_of s (bucket_of kept other later)
told-changed s kept name start b same other later = go (batch_order (other, later) (name, start)) refl
  where
    got : (r : Ordering) → batch_order (other, later) (name, start) ≡ r
        → bucket_of (changed kept name start b) other later ≡ unwrap_or (cond (is_eq r) (Some b) (map.get kept (other, later))) nothing
    got r e =
        ap (λ o. unwrap_or o nothing) (map.get-insert batch_order-total kept (name, start) b (other, later)
        ∙ ap (λ (x : Ordering). cond (is_eq x) (Some b) (map.get kept (other, later))) e)

    go : (r : Ordering) → batch_order (other, later) (name, start) ≡ r → told_of s (bucket_of (changed kept name start b) other later) ≡ told_of s (bucket_of kept other later)
    go Less e = ap (told_of s) (got Less e)
    go Equal e =
        ap (told_of s) (got Equal e) ∙ same
        ∙ sym (ap (λ (q : Batch). told_of s (bucket_of kept q.0 q.1)) (batch_order-same (other, later) (name, start) e))
    go Greater e = ap (told_of s) (got Greater e)

-- what is told stays after a refusal, and after room was made
pub told-room : {E : Type 0} (s : Space) (r : Result (Unit {0}) E) (kept new : Kept) (name : List ℕ) (start : ℕ)
    → OnOk r (new ≡ changed kept name start (with_room s (bucket_of kept name start))) → OnErr r (new ≡ kept)
    → (other : List ℕ) (later : ℕ) → told_of s (bucket_of new other later) ≡ told_of s (bucket_of kept other later)
told-room s (Ok done) kept new name start ok err other later =
    ap (λ (m : Kept). told_of s (bucket_of m other later)) ok ∙ told-changed s kept name start (with_room s (bucket_of kept name start)) refl other later
told-room s (Err fault) kept new name start ok err other later = ap (λ (m : Kept). told_of s (bucket_of m other later)) err

-- where room was made there is a sum
pub made-room : {s : Space} → SpaceLaws s → (kept new : Kept) (name : List ℕ) (start : ℕ) → new ≡ changed kept name start (with_room s (bucket_of kept name start))
    → IsSum s (bucket_of kept name start).sum → HasSum s (bucket_of new name start).sum
made-room {s} laws kept new name start made is =
    subst (λ (b : Bucket). HasSum s b.sum)
    (sym (ap (λ (m : Kept). bucket_of m name start) made ∙ bucket_of-changed kept name start (with_room s (bucket_of kept name start)))) (room-has laws (bucket_of kept name start).sum is)
